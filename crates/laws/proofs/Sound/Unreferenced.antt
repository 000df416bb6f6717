-- An unreferenced shelf, by its test: none of its buckets is referenced, so they weigh nothing.
-- The test `unreferenced` is true exactly when `Unreferenced` holds: `unreferenced_yes`, `unreferenced_all`; `unreferenced_no` names one.
use Prim.Native.Nat.{ℕ, ◌-◌, ◌<◌}
use mathlib.Core.Bool.{true, false, false≢true}
use mathlib.Core.Path.{◌≡◌, refl, sym, subst}
use mathlib.Core.List.{List, [], ◌∷◌}
use native.Mathlib.Decide.{ℕ_discrete}
use native.Mathlib.Omega.{arith}
use borrow.Author.Tests.{eq-eqb, ne_eqb}
use Rattle.rules.specs.declared.Bucket.{Bucket}
use Rattle.rules.specs.declared.Shelf.{Shelf}
use Rattle.rules.specs.Tables.{Atlas, bucket_at, shelf_at}
use Rattle.rules.specs.Chains.{In, chain_of}
use Rattle.rules.specs.Merging.{unreferenced, Unreferenced}
use Rattle.rules.specs.Return.{used_area}
use Rattle.rules.specs.Sound.{Counted, used_on, Steady}
use Rattle.laws.proofs.Chains.Count.{hit_same, hit_other, sum_of_none}

pub unreferenced_yes : (b xs : List ℕ) → unreferenced b xs ≡ true → (k : ℕ) → In k xs → (bucket_at b k).refs ≡ 0
unfolding unreferenced
unreferenced_yes b [] e k a = absurd (omega arith)
unreferenced_yes b (x ∷ xs) e k a = elim (ℕ_discrete (bucket_at b x).refs 0) [
  | no n ↦ absurd (false≢true (simp (ne_eqb (bucket_at b x).refs 0 n) at e))
  | yes z ↦ elim (ℕ_discrete k x) [
    | yes q ↦ subst (λ (i : ℕ). (bucket_at b i).refs ≡ 0) (sym q) z
    | no q ↦ unreferenced_yes b xs (simp (eq-eqb (bucket_at b x).refs 0 z) at e) k (omega (arith, hit_other k x q))
  ]
]

pub unreferenced_all : (b xs : List ℕ) → ((k : ℕ) → In k xs → (bucket_at b k).refs ≡ 0) → unreferenced b xs ≡ true
unfolding unreferenced
unreferenced_all b [] f = refl
unreferenced_all b (x ∷ xs) f =
    simp (eq-eqb (bucket_at b x).refs 0 (f x (omega (arith, hit_same x)))) (unreferenced_all b xs (λ k a. f k (omega arith)))

pub unreferenced_no : (b : List ℕ) (xs : List ℕ) → unreferenced b xs ≡ false → (k : ℕ) × In k xs × (0 < (bucket_at b k).refs)
unfolding unreferenced
unreferenced_no b [] e = absurd (let z : ◌≡◌ {A = ℕ} 0 1 = cc in omega arith)
unreferenced_no b (x ∷ xs) e = elim (ℕ_discrete (bucket_at b x).refs 0) [
  | yes z ↦
      let r = unreferenced_no b xs (simp (eq-eqb (bucket_at b x).refs 0 z) at e) in
      (r.0, omega (arith, r.1), r.2)
  | no nz ↦ (x, omega (arith, hit_same x), omega arith)
]

-- ---- what it weighs

-- an unused bucket of a shelf weighs nothing
pub unreferenced_area : (i : ℕ) (s : Shelf) (v : Bucket) → Counted i s v → v.refs ≡ 0 → used_area s v ≡ 0
unreferenced_area i s v c e =
    let z : s.width - v.free ≡ 0 = omega (arith, c.whole e) in
    rw z (omega arith)

pub unreferenced_area_on : {g : Atlas} → Steady g → (i : ℕ) → i < g.head.shelf_count → Unreferenced g i → used_on g i ≡ 0
unreferenced_area_on {g} st i l d =
    sum_of_none (λ k. used_area (shelf_at g.shelves i) (bucket_at g.buckets k)) (chain_of g i)
    (λ k c. unreferenced_area i (shelf_at g.shelves i) (bucket_at g.buckets k) ((st.stocked i l).counted k c) (d k c))
