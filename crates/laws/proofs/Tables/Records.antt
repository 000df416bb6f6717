-- Read after write of a record: the same index, another index, the length; and the links of a table that one record was written to.
-- The same for both tables, a shelf being five numbers and a bucket seven.
use Prim.Native.Nat.{ℕ, ◌+◌, ◌*◌, ◌≤◌, ◌<◌}
use mathlib.Core.Path.{◌≡◌, refl, ap}
use mathlib.Core.Logic.{◌≢◌, ◌⊎◌, inl, inr}
use mathlib.Core.List.{List, [], ◌∷◌}
use native.Mathlib.Decide.{dec_lt}
use native.Mathlib.Numerals.{towards_suc}
use native.Mathlib.Nat.{add-zero}
use native.Mathlib.Omega.{arith}
use lib.ListN.{length, get_or}
use lib.Seq.{sets, length-sets}
use Rattle.rules.specs.declared.Bucket.{Bucket}
use Rattle.rules.specs.declared.Shelf.{Shelf}
use Rattle.rules.specs.Tables.{bucket_at, put_bucket, shelf_at, put_shelf}
use Rattle.rules.specs.Chains.{next, first}
use Rattle.laws.proofs.Tables.Stores.{sets_outside, sets_in}

abbrev cells_b : Bucket → List ℕ
cells_b v = v.x ∷ v.free ∷ v.next ∷ v.refs ∷ v.items ∷ v.shelf ∷ v.generation ∷ []

put_is : (b : List ℕ) (i : ℕ) (v : Bucket) → put_bucket b i v ≡ sets b (7 * i) (cells_b v)
unfolding put_bucket
put_is b i v = simp towards_suc

pub length_put : (b : List ℕ) (i : ℕ) (v : Bucket) → length (put_bucket b i v) ≡ length b
length_put b i v = rw put_is (length-sets b (7 * i) (cells_b v))

apart : (j i k : ℕ) → j ≢ i → k < 7 → (7 * j + k < 7 * i) ⊎ (7 * i + 7 ≤ 7 * j + k)
apart j i k n l = elim (dec_lt j i) [ yes p ↦ inl (omega arith) | no q ↦ inr (omega arith) ]

module _ (b : List ℕ) (i : ℕ) (v : Bucket) where
  pub at_put : 7 * i + 7 ≤ length b → bucket_at (put_bucket b i v) i ≡ v
  unfolding bucket_at
  at_put h =
      let f : (k : ℕ) → k < 7 → get_or (put_bucket b i v) (7 * i + k) 0 ≡ get_or (cells_b v) k 0 =
      λ k hk. rw put_is (sets_in (cells_b v) b (7 * i) k h hk) in
      let e0 : get_or (put_bucket b i v) (7 * i) 0 ≡ v.x = rw add-zero at (f 0 (omega arith)) in
      rw (e0, f 1 (omega arith), f 2 (omega arith), f 3 (omega arith), f 4 (omega arith), f 5 (omega arith), f 6 (omega arith))

  pub at_put_other : (j : ℕ) → j ≢ i → bucket_at (put_bucket b i v) j ≡ bucket_at b j
  unfolding bucket_at
  at_put_other j n =
      let f : (k : ℕ) → k < 7 → get_or (put_bucket b i v) (7 * j + k) 0 ≡ get_or b (7 * j + k) 0 =
      λ k hk. rw put_is (sets_outside (cells_b v) b (7 * i) (7 * j + k) (apart j i k n hk)) in
      let e0 : get_or (put_bucket b i v) (7 * j) 0 ≡ get_or b (7 * j) 0 = rw add-zero at (f 0 (omega arith)) in
      rw (e0, f 1 (omega arith), f 2 (omega arith), f 3 (omega arith), f 4 (omega arith), f 5 (omega arith), f 6 (omega arith))

abbrev cells_s : Shelf → List ℕ
cells_s v = v.x ∷ v.y ∷ v.height ∷ v.width ∷ v.first ∷ []

put_s_is : (b : List ℕ) (i : ℕ) (v : Shelf) → put_shelf b i v ≡ sets b (5 * i) (cells_s v)
unfolding put_shelf
put_s_is b i v = simp towards_suc

pub length_put_s : (b : List ℕ) (i : ℕ) (v : Shelf) → length (put_shelf b i v) ≡ length b
length_put_s b i v = rw put_s_is (length-sets b (5 * i) (cells_s v))

apart_s : (j i k : ℕ) → j ≢ i → k < 5 → (5 * j + k < 5 * i) ⊎ (5 * i + 5 ≤ 5 * j + k)
apart_s j i k n l = elim (dec_lt j i) [ yes p ↦ inl (omega arith) | no q ↦ inr (omega arith) ]

module _ (b : List ℕ) (i : ℕ) (v : Shelf) where
  pub at_s_put : 5 * i + 5 ≤ length b → shelf_at (put_shelf b i v) i ≡ v
  unfolding shelf_at
  at_s_put h =
      let f : (k : ℕ) → k < 5 → get_or (put_shelf b i v) (5 * i + k) 0 ≡ get_or (cells_s v) k 0 =
      λ k hk. rw put_s_is (sets_in (cells_s v) b (5 * i) k h hk) in
      let e0 : get_or (put_shelf b i v) (5 * i) 0 ≡ v.x = rw add-zero at (f 0 (omega arith)) in
      rw (e0, f 1 (omega arith), f 2 (omega arith), f 3 (omega arith), f 4 (omega arith))

  pub at_s_put_other : (j : ℕ) → j ≢ i → shelf_at (put_shelf b i v) j ≡ shelf_at b j
  unfolding shelf_at
  at_s_put_other j n =
      let f : (k : ℕ) → k < 5 → get_or (put_shelf b i v) (5 * j + k) 0 ≡ get_or b (5 * j + k) 0 =
      λ k hk. rw put_s_is (sets_outside (cells_s v) b (5 * i) (5 * j + k) (apart_s j i k n hk)) in
      let e0 : get_or (put_shelf b i v) (5 * j) 0 ≡ get_or b (5 * j) 0 = rw add-zero at (f 0 (omega arith)) in
      rw (e0, f 1 (omega arith), f 2 (omega arith), f 3 (omega arith), f 4 (omega arith))

-- ---- links of a table that one record was written to

pub next_put : (b : List ℕ) (j : ℕ) (v : Bucket) → 7 * j + 7 ≤ length b → next (put_bucket b j v) j ≡ v.next
unfolding next
next_put b j v l = ap (λ (u : Bucket). u.next) (at_put b j v l)

pub next_put_other : (b : List ℕ) (j : ℕ) (v : Bucket) (k : ℕ) → k ≢ j → next (put_bucket b j v) k ≡ next b k
unfolding next
next_put_other b j v k ne = ap (λ (u : Bucket). u.next) (at_put_other b j v k ne)

pub first_put_s : (s : List ℕ) (i : ℕ) (v : Shelf) → 5 * i + 5 ≤ length s → first (put_shelf s i v) i ≡ v.first
unfolding first
first_put_s s i v l = ap (λ (u : Shelf). u.first) (at_s_put s i v l)

pub first_put_s_other : (s : List ℕ) (i : ℕ) (v : Shelf) (j : ℕ) → j ≢ i → first (put_shelf s i v) j ≡ first s j
unfolding first
first_put_s_other s i v j ne = ap (λ (u : Shelf). u.first) (at_s_put_other s i v j ne)

pub first_is : (s : List ℕ) (i : ℕ) → first s i ≡ (shelf_at s i).first
unfolding first
first_is s i = refl
