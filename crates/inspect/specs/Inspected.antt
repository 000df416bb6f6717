-- The tables test on a file is the test on tables of full room that hold the file's records, with zeros behind them. They are never made:
-- the code reads the same numbers from the file.
use Rattle.std.specs.Prelude.{ℕ, ◌+◌, ◌*◌, ◌≤◌, ◌<◌, ◌≡◌, List, length, replicate}
use Rattle.rules.specs.declared.Head.{Head}
use Rattle.rules.specs.Limits.{records_most, bucket_bytes}
use Rattle.rules.specs.Tables.{Atlas, atlas}
use Rattle.rules.specs.Builds.{present}
use Rattle.rules.specs.Files.{shelf_place, bucket_place, head_in, shelves_stored, buckets_stored}

-- so many zeros
unfoldable pub blank : ℕ → List ℕ
blank n = replicate n 0

abbrev pub shelves_of : ℕ → List ℕ → List ℕ
shelves_of n file = shelves_stored n file (blank (5 * records_most))

abbrev pub buckets_of : ℕ → List ℕ → List ℕ
buckets_of n file = buckets_stored present n file (blank (7 * records_most))

-- with the file's header, `Known` below
abbrev pub inspected : List ℕ → Head → Atlas
inspected file head = atlas head (shelves_of (head_in file).shelf_count file) (buckets_of (head_in file).bucket_count file)

-- the header is the file's, and no record that it counts is cut off
pub record Known (file : List ℕ) (head : Head) : Type 0 where
  pub known : head ≡ head_in file
  pub whole : bucket_place head.shelf_count head.bucket_count ≤ length file

-- n bucket records, the first of them at `from`
pub record BucketsAt (file : List ℕ) (from n : ℕ) : Type 0 where
  pub starts : from ≡ shelf_place (head_in file).shelf_count
  pub whole : from + bucket_bytes * n ≤ length file

-- record i is one of those that the file's header counts, no more than there can be
pub record HasShelf (file : List ℕ) (i : ℕ) : Type 0 where
  pub below : i < (head_in file).shelf_count
  pub most : (head_in file).shelf_count ≤ records_most
  pub whole : shelf_place (head_in file).shelf_count ≤ length file

pub record HasBucket (file : List ℕ) (from i : ℕ) : Type 0 where
  pub below : i < (head_in file).bucket_count
  pub most : (head_in file).bucket_count ≤ records_most
  pub at : BucketsAt file from (head_in file).bucket_count
