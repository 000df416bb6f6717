-- Two buckets of sound tables share no pixel: they lie beside each other on their shelf, or their shelves above each other in their column,
-- or in two columns.
use Prim.Native.Nat.{ℕ, zero, suc, ◌+◌, ◌*◌, ◌≤◌, ◌<◌}
use mathlib.Core.Path.{◌≡◌, refl, sym, ap, ◌∙◌, subst}
use mathlib.Core.Logic.{◌≢◌, ◌⊎◌, inl, inr}
use mathlib.Core.List.{List, [], ◌∷◌}
use native.Mathlib.Decide.{ℕ_discrete, dec_lt}
use native.Mathlib.Omega.{arith}
use native.Mathlib.Nat.{mul-le-mul_right, add-mul, one-mul}
use Rattle.rules.specs.declared.Shelf.{Shelf}
use Rattle.rules.specs.Tables.{Atlas, bucket_at, shelf_at}
use Rattle.rules.specs.Chains.{In, chain_of}
use Rattle.rules.specs.Return.{top_of}
use Rattle.rules.specs.Sound.{column_of, Ordered, Steady}
use Rattle.laws.proofs.Chains.Count.{hit_other}
use Rattle.laws.proofs.Sound.Order.{ordered_in}
use Rattle.laws.proofs.Sound.Lies.{column_same, column_next, column_rises, Home, home_of, bucket_left, bucket_right}
use Rattle.laws.proofs.Return.Uncleaned.{shelf_of}

-- a bucket is there and referenced
pub record Used (g : Atlas) (k : ℕ) : Type 0 where
  pub below : k < g.head.bucket_count
  pub refs : 0 < (bucket_at g.buckets k).refs

-- and in the chain of the shelf that it names
pub home : {g : Atlas} → Steady g → (k : ℕ) → Used g k → Home g k
home st k u = home_of st k u.below (λ z. omega (arith, u.refs))

-- the pixel (x, y) lies in bucket k
pub record InBucket (g : Atlas) (k x y : ℕ) : Type 0 where
  pub right : (bucket_at g.buckets k).x ≤ x
  pub left : x < (bucket_at g.buckets k).x + (shelf_of k g).width
  pub below : (shelf_of k g).y ≤ y
  pub above : y < top_of (shelf_of k g)

-- ---- buckets of one shelf

chain_apart : (b : List ℕ) (width left right : ℕ) (xs : List ℕ) (k l : ℕ) → Ordered b width left right xs → In k xs → In l xs → k ≢ l
    → ((bucket_at b k).x + width ≤ (bucket_at b l).x) ⊎ ((bucket_at b l).x + width ≤ (bucket_at b k).x)
chain_apart b width left right [] k l o ck cl ne = absurd (omega arith)
chain_apart b width left right (a ∷ xs) k l o ck cl ne = elim (ℕ_discrete k a) [
  | yes e ↦ inr (rw e (ordered_in b width left (bucket_at b a).x xs l o.2 (omega (arith, hit_other l a (λ q. ne (e ∙ sym q))))).1)
  | no nk ↦ elim (ℕ_discrete l a) [
    | yes e ↦ inl (rw e (ordered_in b width left (bucket_at b a).x xs k o.2 (omega (arith, hit_other k a nk))).1)
    | no nl ↦ chain_apart b width left (bucket_at b a).x xs k l o.2 (omega (arith, hit_other k a nk)) (omega (arith, hit_other l a nl)) ne
  ]
]

-- ---- shelves

-- a later shelf is in a later column, or in the same and not above the earlier one's top
shelves_apart : {g : Atlas} → Steady g → (i j : ℕ) → i < j → j < g.head.shelf_count
    → (column_of g.shelves i < column_of g.shelves j) ⊎ (top_of (shelf_at g.shelves i) ≤ (shelf_at g.shelves j).y)
shelves_apart {g} st i zero l lj = absurd (omega arith)
shelves_apart {g} st i (suc j) l lj = elim (ℕ_discrete (shelf_at g.shelves (suc j)).y 0) [
  | yes z ↦ inl (omega (arith, column_next g.shelves j z, column_rises g.shelves i j (omega arith)))
  | no ne ↦
      let follows : (shelf_at g.shelves (suc j)).y ≡ top_of (shelf_at g.shelves j) =
      elim ((st.stacked (suc j) lj).follows j refl) [ inl z ↦ absurd (ne z) | inr e ↦ e ] in
      elim (ℕ_discrete i j) [
        | yes e ↦ inr (rw e (omega arith))
        | no n ↦ elim (shelves_apart st i j (omega arith) (omega arith)) [
          | inl c ↦ inl (omega (arith, column_same g.shelves j ne))
          | inr t ↦ inr (omega arith)
        ]
      ]
]

module _ {g : Atlas} (st : Steady g) where
  columns_apart : (i j k l : ℕ) → i < g.head.shelf_count → j < g.head.shelf_count → In k (chain_of g i) → In l (chain_of g j)
      → column_of g.shelves i < column_of g.shelves j → (bucket_at g.buckets k).x + (shelf_at g.shelves i).width ≤ (bucket_at g.buckets l).x
  columns_apart i j k l li lj ck cl c =
      let cw : ℕ = g.head.column_width in
      let ci : ℕ = column_of g.shelves i in
      let step : (ci + 1) * cw ≤ column_of g.shelves j * cw = mul-le-mul_right cw (omega arith) in
      omega (
        arith,
        step,
        add-mul ci 1 cw,
        one-mul cw,
        (st.stacked i li).x,
        (st.stacked j lj).x,
        bucket_right st i k li ck,
        bucket_left st j l lj cl,
      )

  -- bucket k of an earlier shelf and bucket l of a later one
  later_apart : (k l x y : ℕ) → Home g k → Home g l → (bucket_at g.buckets k).shelf < (bucket_at g.buckets l).shelf
      → InBucket g k x y → InBucket g l x y → ⊥
  later_apart k l x y hk hl lt p q =
      let i : ℕ = (bucket_at g.buckets k).shelf in
      let j : ℕ = (bucket_at g.buckets l).shelf in
      elim (shelves_apart st i j lt hl.there) [
        | inl c ↦ omega (arith, columns_apart i j k l hk.there hl.there hk.member hl.member c, p.left, q.right)
        | inr t ↦ omega (arith, p.above, q.below)
      ]

  pub homes_apart : (k l x y : ℕ) → Home g k → Home g l → k ≢ l → InBucket g k x y → InBucket g l x y → ⊥
  homes_apart k l x y hk hl ne p q =
      let i : ℕ = (bucket_at g.buckets k).shelf in
      let j : ℕ = (bucket_at g.buckets l).shelf in
      elim (ℕ_discrete i j) [
        | yes e ↦
            let cl : In l (chain_of g i) = subst (λ (z : ℕ). In l (chain_of g z)) (sym e) hl.member in
            let same : (shelf_at g.shelves j).width ≡ (shelf_at g.shelves i).width = ap (λ (z : ℕ). (shelf_at g.shelves z).width) (sym e) in
            let s : Shelf = shelf_at g.shelves i in
            elim (chain_apart g.buckets s.width s.x (s.x + g.head.column_width) (chain_of g i) k l
            (st.stocked i hk.there).ordered hk.member cl ne) [
              | inl o ↦ omega (arith, p.left, q.right)
              | inr o ↦ omega (arith, q.left, p.right)
            ]
        | no n ↦ elim (dec_lt i j) [
          | yes lt ↦ later_apart k l x y hk hl lt p q
          | no nl ↦ later_apart l k x y hl hk (omega arith) q p
        ]
      ]

  pub buckets_apart : (k l x y : ℕ) → Used g k → Used g l → k ≢ l → InBucket g k x y → InBucket g l x y → ⊥
  buckets_apart k l x y uk ul ne p q = homes_apart k l x y (home st k uk) (home st l ul) ne p q
