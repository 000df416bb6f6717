-- What the search means: what it finds is takeable, and where no shelf can be added it finds a bucket if one is takeable.
-- The test `can_add` is true exactly when `CanAdd` holds: `can_add_yes`, `can_add_all`.
use Rattle.std.specs.Prelude.{Option, Some, None}
use Prim.Native.Nat.{ℕ, zero, suc, ◌+◌, ◌-◌, ◌≤◌, ◌<◌}
use mathlib.Core.Bool.{Bool, true, false, ◌&&◌, ◌||◌, or-true}
use mathlib.Core.Path.{◌≡◌, refl, sym, ◌∙◌, subst}
use Rattle.std.proofs.lemmas.Option.{none-some}
use mathlib.Core.Logic.{◌⊎◌, inl, inr}
use mathlib.Core.List.{List, [], ◌∷◌}
use native.Mathlib.Decide.{ℕ_discrete}
use native.Mathlib.Omega.{arith}
use borrow.Author.Tests.{le-leb, ltb-true, ltb-false, leb-true, lt-ltb, le-ltb}
use lib.Dec.{eqb, leb, ltb}
use Rattle.rules.specs.declared.Best.{Best}
use Rattle.rules.specs.declared.Bucket.{Bucket}
use Rattle.rules.specs.declared.Pick.{Pick}
use Rattle.rules.specs.declared.Shelf.{Shelf}
use Rattle.rules.specs.Limits.{records_most, items_most, number_most}
use Rattle.rules.specs.Tables.{Atlas, bucket_at, shelf_at}
use Rattle.rules.specs.Chains.{In, chain_of, next, first}
use Rattle.rules.specs.NewShelf.{another_column}
use Rattle.rules.specs.Search.{can_add, skipped, takes, pick_in, best_of, least_waste, is_over, considered, searched, search, Takeable, CanAdd}
use Rattle.rules.specs.Sound.{Steady}
use Rattle.laws.proofs.Options.{some_one}
use Rattle.laws.proofs.Tests.Flags.{flag, and_l, and_r, and_not, or_l, or_cases}
use Rattle.laws.proofs.Chains.Count.{hit_same, hit_other}
use Rattle.laws.proofs.Chains.Links.{linked_below}

-- ---- can add

pub can_add_yes : (h : ℕ) (g : Atlas) → can_add h g.head ≡ true → CanAdd h g
unfolding can_add another_column
can_add_yes h g e = record {
  room = elim (or_cases (leb h g.head.room) (ltb (g.head.column + 1) g.head.columns)
      (and_l (leb h g.head.room || ltb (g.head.column + 1) g.head.columns) (ltb g.head.bucket_count records_most) e)) [
        | inl p ↦ inl (leb-true h g.head.room p)
        | inr p ↦ inr (ltb-true (g.head.column + 1) g.head.columns p)
      ];
  buckets = ltb-true g.head.bucket_count records_most
      (and_r (leb h g.head.room || ltb (g.head.column + 1) g.head.columns) (ltb g.head.bucket_count records_most) e);
}

pub can_add_all : (h : ℕ) (g : Atlas) → CanAdd h g → can_add h g.head ≡ true
unfolding can_add another_column
can_add_all h g c = elim c.room [
  | inl p ↦ simp (le-leb h g.head.room p, lt-ltb g.head.bucket_count records_most c.buckets)
  | inr p ↦ simp (lt-ltb (g.head.column + 1) g.head.columns p, or-true, lt-ltb g.head.bucket_count records_most c.buckets)
]

-- ---- one chain

-- what is said of a bucket, in numbers
pub takes_wide : (w : ℕ) (v : Bucket) → takes w v ≡ true → w ≤ v.free
unfolding takes
takes_wide w v e = leb-true w v.free (and_l (leb w v.free) (ltb v.items items_most) e)

pub takes_items : (w : ℕ) (v : Bucket) → takes w v ≡ true → v.items < items_most
unfolding takes
takes_items w v e = ltb-true v.items items_most (and_r (leb w v.free) (ltb v.items items_most) e)

pub takes_both : (w : ℕ) (v : Bucket) → w ≤ v.free → v.items < items_most → takes w v ≡ true
unfolding takes
takes_both w v p q = simp (le-leb w v.free p, lt-ltb v.items items_most q)

-- a bucket of the list that takes w; or none does where the waste is below the best
abbrev PickIs : List ℕ → ℕ → ℕ → ℕ → List ℕ → Pick → Type 0
PickIs b w waste best xs (Pick.Exact k) = In k xs × (takes w (bucket_at b k) ≡ true)
PickIs b w waste best xs (Pick.First k) = In k xs × (takes w (bucket_at b k) ≡ true)
PickIs b w waste best xs Pick.Nothing = (k : ℕ) → In k xs → takes w (bucket_at b k) ≡ true → best ≤ waste

module _ (b : List ℕ) (w waste best : ℕ) where
  pick_more : (k : ℕ) (ks : List ℕ) (p : Pick) → (takes w (bucket_at b k) ≡ true → best ≤ waste) → PickIs b w waste best ks p → PickIs b w waste best (k ∷ ks) p
  pick_more k ks (Pick.Exact j) h q = (omega (arith, q.0), q.1)
  pick_more k ks (Pick.First j) h q = (omega (arith, q.0), q.1)
  pick_more k ks Pick.Nothing h q = λ j a t. elim (ℕ_discrete j k) [
    | yes e ↦ h (subst (λ (i : ℕ). takes w (bucket_at b i) ≡ true) e t)
    | no ne ↦ q j (omega (arith, hit_other j k ne)) t
  ]

  pick_is : (xs : List ℕ) → PickIs b w waste best xs (pick_in b w waste best xs)
  unfolding pick_in
  pick_is [] = λ k a t. absurd (omega arith)
  pick_is (k ∷ ks) =
      let fit : Bool = takes w (bucket_at b k) && eqb waste 0 in
      elim (flag (takes w (bucket_at b k) && eqb waste 0 && eqb (bucket_at b k).free w)) [
        | inl e ↦ simp e ((omega (arith, hit_same k), and_l (takes w (bucket_at b k)) (eqb waste 0) (and_l fit (eqb (bucket_at b k).free w) e)))
        | inr e ↦ elim (flag (takes w (bucket_at b k) && ltb waste best)) [
          | inl f ↦ simp (e, f) ((omega (arith, hit_same k), and_l (takes w (bucket_at b k)) (ltb waste best) f))
          | inr f ↦ simp (e, f) (pick_more k ks (pick_in b w waste best ks)
              (λ t. ltb-false waste best (and_not (takes w (bucket_at b k)) (ltb waste best) f t)) (pick_is ks))
        ]
      ]

-- ---- one shelf

-- the best so far is a takeable bucket, and its waste is that shelf's
pub record Found (w h : ℕ) (g : Atlas) (best : Best) : Type 0 where
  pub takeable : Takeable w h g best.shelf best.bucket
  pub waste : best.waste ≡ (shelf_at g.shelves best.shelf).height - h

-- there is a best so far
abbrev pub IsFound : ℕ → ℕ → Atlas → Option Best → Type 0
IsFound w h g o = (best : Best) × (o ≡ Some best) × Found w h g best

pub skipped_high : (w h : ℕ) (add : Bool) (best : ℕ) (s : Shelf) → skipped w h add best s ≡ false → h ≤ s.height
unfolding skipped
skipped_high w h add best s e =
    ltb-false s.height h
    (or_l (ltb s.height h) (ltb s.width w)
    (or_l (ltb s.height h || ltb s.width w) (ltb best (s.height - h))
    (or_l (ltb s.height h || ltb s.width w || ltb best (s.height - h)) (add && ltb h (s.height - h)) e)))

looked_at : (w h best : ℕ) (s : Shelf) → h ≤ s.height → w ≤ s.width → s.height - h ≤ best → skipped w h false best s ≡ false
unfolding skipped
looked_at w h best s p q r = simp (le-ltb s.height h p, le-ltb s.width w q, le-ltb best (s.height - h) r)

module _ {g : Atlas} {w h : ℕ} where
  takeable_at : (i k : ℕ) → i < g.head.shelf_count → h ≤ (shelf_at g.shelves i).height → In k (chain_of g i)
      → takes w (bucket_at g.buckets k) ≡ true → Takeable w h g i k
  takeable_at i k l a c t =
      let v : Bucket = bucket_at g.buckets k in
      record { shelf = l; bucket = c; high = a; wide = takes_wide w v t; items = takes_items w v t }

  best_is : (i : ℕ) → i < g.head.shelf_count → h ≤ (shelf_at g.shelves i).height → (best : Option Best) (p : Pick)
      → PickIs g.buckets w ((shelf_at g.shelves i).height - h) (least_waste best) (chain_of g i) p
      → (p ≡ Pick.Nothing) ⊎ IsFound w h g (best_of p ((shelf_at g.shelves i).height - h) i best)
  best_is i l a best (Pick.Exact k) q = inr (_, refl, record { takeable = takeable_at i k l a q.0 q.1; waste = refl })
  best_is i l a best (Pick.First k) q = inr (_, refl, record { takeable = takeable_at i k l a q.0 q.1; waste = refl })
  best_is i l a best Pick.Nothing q = inl refl

  considered_is : (add : Bool) (i : ℕ) → i < g.head.shelf_count → (best : Option Best)
      → (considered w h add g.buckets i (shelf_at g.shelves i) best ≡ best)
      ⊎ IsFound w h g (considered w h add g.buckets i (shelf_at g.shelves i) best)
  unfolding considered first
  considered_is add i l best = elim (flag (skipped w h add (least_waste best) (shelf_at g.shelves i))) [
    | inl e ↦ inl (simp e)
    | inr e ↦
        let waste : ℕ = (shelf_at g.shelves i).height - h in
        let least : ℕ = least_waste best in
        elim (best_is i l (skipped_high w h add least (shelf_at g.shelves i) e) best
        (pick_in g.buckets w waste least (chain_of g i)) (pick_is g.buckets w waste least (chain_of g i))) [
          | inl q ↦ inl (simp (e, q))
          | inr f ↦ inr (simp e f)
        ]
  ]

  -- a takeable bucket ends a search that has found nothing and that can add no shelf
  considered_finds : Steady g → (i j : ℕ) → Takeable w h g i j
      → IsFound w h g (considered w h false g.buckets i (shelf_at g.shelves i) None)
  unfolding considered first
  considered_finds t i j k =
      let waste : ℕ = (shelf_at g.shelves i).height - h in
      let v = (t.stocked i k.shelf).counted j k.bucket in
      let most : ℕ = number_most in
      let low : waste < most = omega (arith, (t.stacked i k.shelf).top, t.domain.height.1) in
      let s : Shelf = shelf_at g.shelves i in
      let e : skipped w h false most s ≡ false = looked_at w h most s k.high (omega (arith, k.wide, v.free)) (omega arith) in
      let pick : Pick = pick_in g.buckets w waste most (chain_of g i) in
      let is : PickIs g.buckets w waste most (chain_of g i) pick = pick_is g.buckets w waste most (chain_of g i) in
      elim (best_is i k.shelf k.high None pick is) [
        | inl q ↦
            let z : PickIs g.buckets w waste most (chain_of g i) Pick.Nothing = rw q at is in
            absurd (omega (arith, z j k.bucket (takes_both w (bucket_at g.buckets j) k.wide k.items)))
        | inr f ↦ simp e f
      ]

-- ---- all shelves

module _ {g : Atlas} {w h : ℕ} where
  searched_is : (add : Bool) (k : ℕ) → k ≤ g.head.shelf_count
      → (searched w h add g.shelves g.buckets k ≡ None) ⊎ IsFound w h g (searched w h add g.shelves g.buckets k)
  unfolding searched
  searched_is add zero l = inl refl
  searched_is add (suc k) l =
      let ih = searched_is add k (omega arith) in
      elim (flag (is_over (searched w h add g.shelves g.buckets k))) [
        | inl e ↦ simp e ih
        | inr e ↦ elim (considered_is {g = g} {w = w} {h = h} add k (omega arith) (searched w h add g.shelves g.buckets k)) [
          | inl q ↦ simp (e, q) ih
          | inr f ↦ inr (simp e f)
        ]
      ]

  found_stays : (add : Bool) (k : ℕ) → k < g.head.shelf_count → IsFound w h g (searched w h add g.shelves g.buckets k)
      → IsFound w h g (searched w h add g.shelves g.buckets (suc k))
  unfolding searched
  found_stays add k l p = elim (flag (is_over (searched w h add g.shelves g.buckets k))) [
    | inl e ↦ simp e p
    | inr e ↦ elim (considered_is {g = g} {w = w} {h = h} add k l (searched w h add g.shelves g.buckets k)) [
      | inl q ↦ simp (e, q) p
      | inr f ↦ simp e f
    ]
  ]

  first_found : Steady g → (k j : ℕ) → Takeable w h g k j → searched w h false g.shelves g.buckets k ≡ None
      → IsFound w h g (searched w h false g.shelves g.buckets (suc k))
  unfolding searched
  first_found t k j p e = simp e (considered_finds t k j p)

  searched_finds : Steady g → (i j : ℕ) → Takeable w h g i j → (k : ℕ) → i < k → k ≤ g.head.shelf_count
      → IsFound w h g (searched w h false g.shelves g.buckets k)
  searched_finds t i j p zero l m = absurd (omega arith)
  searched_finds t i j p (suc k) l m = elim (ℕ_discrete i k) [
    | no ne ↦ found_stays false k (omega arith) (searched_finds t i j p k (omega arith) (omega arith))
    | yes e ↦ elim (searched_is false k (omega arith)) [
      | inl q ↦ first_found t k j (subst (λ (a : ℕ). Takeable w h g a j) e p) q
      | inr f ↦ found_stays false k (omega arith) f
    ]
  ]

  -- a takeable bucket is in the table
  pub takeable_below : Steady g → {i k : ℕ} → Takeable w h g i k → k < g.head.bucket_count
  takeable_below t {i} {k} p =
      linked_below (next g.buckets) g.head.bucket_count (first g.shelves i) (chain_of g i) k (t.chained.shelf i p.shelf) p.bucket

  -- what the search finds is takeable, and its waste is that of its shelf
  pub found_takeable : {best : Best} → search w h g ≡ Some best → Found w h g best
  unfolding search
  found_takeable e = elim (searched_is (can_add h g.head) g.head.shelf_count (omega arith)) [
    | inl n ↦ absurd (none-some _ (sym n ∙ e))
    | inr f ↦ subst (Found w h g) (some_one (sym f.1 ∙ e)) f.2
  ]

  -- where no shelf can be added, a takeable bucket makes it find one
  pub takeable_found : Steady g → can_add h g.head ≡ false → {i k : ℕ} → Takeable w h g i k → IsFound w h g (search w h g)
  unfolding search
  takeable_found t e {i} {k} p = rw e (searched_finds t i k p g.head.shelf_count p.shelf (omega arith))
