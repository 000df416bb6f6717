-- When the filler takes all that the bucket table still holds: no bucket is released, and the count by the ratio is at least what is left.
use Prim.Native.Nat.{ℕ, zero, suc, ◌+◌, ◌-◌, ◌≤◌, ◌<◌, min}
use mathlib.Core.Path.{◌≡◌, refl}
use mathlib.Core.Logic.{◌≢◌}
use native.Mathlib.Decide.{ℕ_discrete}
use native.Mathlib.Omega.{arith}
use borrow.Author.Tests.{eq-eqb, ne_eqb}
use Rattle.rules.specs.declared.Head.{Head}
use Rattle.rules.specs.Limits.{records_most, none}
use Rattle.rules.specs.Builds.{Build}
use Rattle.rules.specs.BucketCount.{by_ratio, ratio, bucket_count}
use Rattle.rules.specs.Tables.{Atlas}
use Rattle.rules.specs.Store.{Lay, laying, new_store, add_bucket, lay_one, lay_many}
use Rattle.rules.specs.NewShelf.{tall, bucket_width, column_left, pushed, laid_shelf, plain_shelf}
use Rattle.laws.proofs.Numbers.Rounding.{shelf_height_not_below}
use Rattle.laws.proofs.Numbers.BucketCount.{by_ratio_some}
use Rattle.laws.proofs.NewShelf.Keep.{opened_stays}

-- ---- how many buckets the table has after some are laid

abbrev buckets : Lay → ℕ
buckets l = l.state.head.bucket_count

abbrev released : Lay → ℕ
released l = l.state.head.released

module _ (width shelf : ℕ) where
  one_end : (l : Lay) → released l ≡ none → (released (lay_one width shelf l) ≡ none) × (buckets (lay_one width shelf l) ≡ buckets l + 1)
  unfolding lay_one add_bucket new_store
  one_end l e = simp (eq-eqb l.state.head.released none e) ((refl, refl))

  one_again : (l : Lay) → released l ≢ none → buckets (lay_one width shelf l) ≡ buckets l
  unfolding lay_one add_bucket new_store
  one_again l ne = simp (ne_eqb l.state.head.released none ne)

  one_most : (l : Lay) → buckets (lay_one width shelf l) ≤ buckets l + 1
  one_most l = elim (ℕ_discrete (released l) none) [ yes e ↦ omega (arith, (one_end l e).1) | no ne ↦ omega (arith, one_again l ne) ]

  -- none is released: each extends the table
  many_end : (k : ℕ) (l : Lay) → released l ≡ none → (released (lay_many k width shelf l) ≡ none) × (buckets (lay_many k width shelf l) ≡ buckets l + k)
  unfolding lay_many
  many_end zero l e = (e, omega arith)
  many_end (suc k) l e =
      let before = many_end k l e in
      let one = one_end (lay_many k width shelf l) before.0 in
      (one.0, omega (arith, before.1, one.1))

  -- one is released: the first of them does not
  many_again : (k : ℕ) (l : Lay) → released l ≢ none → buckets (lay_many (suc k) width shelf l) ≤ buckets l + k
  unfolding lay_many
  many_again zero l ne = omega (arith, one_again l ne)
  many_again (suc k) l ne = omega (arith, many_again k l ne, one_most (lay_many (suc k) width shelf l))

-- ---- the filler

laid_buckets : (height count : ℕ) (g : Atlas)
    → (laid_shelf height count g).head.bucket_count
    ≡ buckets (lay_many count (bucket_width g.head count) g.head.shelf_count (laying g (column_left g.head) none))
unfolding laid_shelf pushed
laid_buckets height count g = refl

tall_room : (h : Head) → tall h.room h ≡ h.room
unfolding tall
tall_room h = omega (arith, shelf_height_not_below h.room)

-- the count of module 2 for the filler: width 0, and the room as its height
abbrev pub filler_count : Build → Head → ℕ
filler_count build head = by_ratio build (ratio head.column_width 0 head.room)

module _ (build : Build) (g : Atlas) (some : g.head.room ≢ 0) (few : g.head.bucket_count < records_most) where
  filler_laid : (plain_shelf build 0 g.head.room g).head.bucket_count
      ≡ (laid_shelf g.head.room (min (filler_count build g.head) (records_most - g.head.bucket_count)) g).head.bucket_count
  unfolding plain_shelf bucket_count
  filler_laid = rw (opened_stays g.head some, tall_room g.head) refl

  pub filler_ends_law : g.head.released ≡ none → records_most ≤ g.head.bucket_count + filler_count build g.head
      → (plain_shelf build 0 g.head.room g).head.bucket_count ≡ records_most
  filler_ends_law e full =
      let k : ℕ = min (filler_count build g.head) (records_most - g.head.bucket_count) in
      omega (
        arith,
        filler_laid,
        laid_buckets g.head.room k g,
        (many_end (bucket_width g.head k) g.head.shelf_count k (laying g (column_left g.head) none) e).1,
      )

  pub filler_ended : (plain_shelf build 0 g.head.room g).head.bucket_count ≡ records_most
      → (g.head.released ≡ none) × (records_most ≤ g.head.bucket_count + filler_count build g.head)
  filler_ended z =
      let k : ℕ = min (filler_count build g.head) (records_most - g.head.bucket_count) in
      let l : Lay = laying g (column_left g.head) none in
      let w : ℕ = bucket_width g.head k in
      elim (ℕ_discrete g.head.released none) [
        | yes e ↦ (e, omega (arith, filler_laid, laid_buckets g.head.room k g, (many_end w g.head.shelf_count k l e).1))
        | no ne ↦
            let one : suc (k - 1) ≡ k = omega (arith, by_ratio_some build (ratio g.head.column_width 0 g.head.room)) in
            let less = rw one at (many_again w g.head.shelf_count (k - 1) l ne) in
            absurd (omega (arith, filler_laid, laid_buckets g.head.room k g, less, one))
      ]
