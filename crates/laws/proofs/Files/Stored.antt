-- Lent tables with the first n records of a file in them: what stands at each index, and that the rest is as it was.
-- Both tables alike, a shelf being five numbers and a bucket seven.
use Prim.Native.Nat.{ℕ, zero, suc, ◌*◌, ◌≤◌, ◌<◌}
use mathlib.Core.Path.{◌≡◌, refl, ◌∙◌}
use mathlib.Core.List.{List}
use native.Mathlib.Decide.{ℕ_discrete}
use native.Mathlib.Omega.{arith}
use lib.ListN.{length, drop}
use Rattle.rules.specs.Tables.{bucket_at, shelf_at}
use Rattle.rules.specs.Builds.{Build}
use Rattle.rules.specs.Repair.{read_as}
use Rattle.rules.specs.Files.{shelf_in, bucket_in, shelves_stored, buckets_stored}
use Rattle.laws.proofs.Tables.Records.{at_put, at_put_other, length_put, at_s_put, at_s_put_other, length_put_s}
use Rattle.laws.proofs.Tables.Beyond as beyond

pub shelves_length : (n : ℕ) (file shelves : List ℕ) → length (shelves_stored n file shelves) ≡ length shelves
unfolding shelves_stored
shelves_length zero file shelves = refl
shelves_length (suc n) file shelves = length_put_s (shelves_stored n file shelves) n (shelf_in file n) ∙ shelves_length n file shelves

pub buckets_length : (build : Build) (n : ℕ) (file buckets : List ℕ) → length (buckets_stored build n file buckets) ≡ length buckets
unfolding buckets_stored
buckets_length build zero file buckets = refl
buckets_length build (suc n) file buckets =
    length_put (buckets_stored build n file buckets) n (read_as build (bucket_in file n)) ∙ buckets_length build n file buckets

pub stored_shelf : (n : ℕ) (file shelves : List ℕ) → 5 * n ≤ length shelves → (i : ℕ) → i < n
    → shelf_at (shelves_stored n file shelves) i ≡ shelf_in file i
unfolding shelves_stored
stored_shelf zero file shelves h i l = absurd (omega arith)
stored_shelf (suc n) file shelves h i l =
    let t : List ℕ = shelves_stored n file shelves in
    elim (ℕ_discrete i n) [
      | yes e ↦ rw e (at_s_put t n (shelf_in file n) (omega (arith, shelves_length n file shelves)))
      | no ne ↦ at_s_put_other t n (shelf_in file n) i ne ∙ stored_shelf n file shelves (omega arith) i (omega arith)
    ]

pub stored_bucket : (build : Build) (n : ℕ) (file buckets : List ℕ) → 7 * n ≤ length buckets → (i : ℕ) → i < n
    → bucket_at (buckets_stored build n file buckets) i ≡ read_as build (bucket_in file i)
unfolding buckets_stored
stored_bucket build zero file buckets h i l = absurd (omega arith)
stored_bucket build (suc n) file buckets h i l =
    let t : List ℕ = buckets_stored build n file buckets in
    elim (ℕ_discrete i n) [
      | yes e ↦ rw e (at_put t n (read_as build (bucket_in file n)) (omega (arith, buckets_length build n file buckets)))
      | no ne ↦ at_put_other t n (read_as build (bucket_in file n)) i ne ∙ stored_bucket build n file buckets (omega arith) i (omega arith)
    ]

-- ---- past the records of the file

pub shelf_past : (n : ℕ) (file shelves : List ℕ) (j : ℕ) → n ≤ j → shelf_at (shelves_stored n file shelves) j ≡ shelf_at shelves j
unfolding shelves_stored
shelf_past zero file shelves j l = refl
shelf_past (suc n) file shelves j l =
    at_s_put_other (shelves_stored n file shelves) n (shelf_in file n) j (omega arith) ∙ shelf_past n file shelves j (omega arith)

pub bucket_past : (build : Build) (n : ℕ) (file buckets : List ℕ) (j : ℕ) → n ≤ j → bucket_at (buckets_stored build n file buckets) j ≡ bucket_at buckets j
unfolding buckets_stored
bucket_past build zero file buckets j l = refl
bucket_past build (suc n) file buckets j l =
    at_put_other (buckets_stored build n file buckets) n (read_as build (bucket_in file n)) j (omega arith) ∙ bucket_past build n file buckets j (omega arith)

pub shelves_past : (n : ℕ) (file shelves : List ℕ) → drop (5 * n) (shelves_stored n file shelves) ≡ drop (5 * n) shelves
shelves_past n file shelves = beyond.shelves_past n shelves (shelves_stored n file shelves) (shelves_length n file shelves) (shelf_past n file shelves)

pub buckets_past : (build : Build) (n : ℕ) (file buckets : List ℕ) → drop (7 * n) (buckets_stored build n file buckets) ≡ drop (7 * n) buckets
buckets_past build n file buckets =
    beyond.buckets_past n buckets (buckets_stored build n file buckets) (buckets_length build n file buckets) (bucket_past build n file buckets)
