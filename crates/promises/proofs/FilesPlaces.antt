-- T-01, "in trace-style records": what stands at each place of a file, in little-endian numbers of 16 bits: each record's length, kind and
-- payload, "each table in index order".
use Prim.Native.Nat.{ℕ, ◌+◌, ◌*◌, ◌<◌}
use mathlib.Core.Path.{◌≡◌, refl, ap}
use mathlib.Core.List.{List, [], ◌∷◌}
use lib.ListN.{get_or}
use Rattle.rules.specs.declared.Head.{Head}
use Rattle.rules.specs.declared.Shelf.{Shelf}
use Rattle.rules.specs.declared.Bucket.{Bucket}
use Rattle.rules.specs.Tables.{Atlas, shelf_at, bucket_at}
use Rattle.rules.specs.Trace.{u32_at}
use Rattle.rules.specs.Builds.{Build, version_of}
use Rattle.rules.specs.Files.{words, long_word, head_record, shelf_record, bucket_record, file_from, file_of, shelf_place, bucket_place, head_in}
use Rattle.laws.proofs.Files.Words.{Numbers, head_numbers, shelf_numbers, bucket_numbers, numbers_in, stands_left}
use Rattle.laws.proofs.Files.Layout.{stands_head, stands_shelf, stands_bucket, stands_end, head_in_law}

pub record FilePlaces (build : Build) (g : Atlas) : Type 0 where
  pub head : Numbers (file_of build g) 0 (head_numbers (version_of build) g.head)
  -- "the flag byte for vertical 0"; 1 would be read of a file that is too short
  pub flag : get_or (file_of build g) 28 1 ≡ 0
  -- "occupied as a signed 32-bit number": `figure_signed` (Files) has the sign
  pub figure : u32_at (file_of build g) 29 ≡ g.head.occupied
  pub shelf : (i : ℕ) → i < g.head.shelf_count → Numbers (file_of build g) (33 + 14 * i) (shelf_numbers (shelf_at g.shelves i))
  pub bucket : (k : ℕ) → k < g.head.bucket_count
      → Numbers (file_of build g) (33 + 14 * g.head.shelf_count + 18 * k) (bucket_numbers (bucket_at g.buckets k))
  -- "19 end"
  pub end : Numbers (file_of build g) (33 + 14 * g.head.shelf_count + 18 * g.head.bucket_count) (2 ∷ 19 ∷ [])

module _ (version : ℕ) (head : Head) (shelf : ℕ → Shelf) (bucket : ℕ → Bucket) where
  abbrev file : List ℕ
  file = file_from version head shelf bucket

  head_numbers_law : Numbers file 0 (head_numbers version head)
  unfolding head_record
  head_numbers_law = numbers_in file 0 (head_numbers version head)
      (stands_left file 0 (words (head_numbers version head)) (0 ∷ long_word head.occupied) (stands_head version head shelf bucket))

  flag_zero : get_or file 28 1 ≡ 0
  unfolding file_from head_record
  flag_zero = refl

  figure_number : u32_at file 29 ≡ head.occupied
  unfolding head_in
  figure_number = ap (λ (h : Head). h.occupied) (head_in_law version head shelf bucket)

  shelf_numbers_law : (i : ℕ) → i < head.shelf_count → Numbers file (shelf_place i) (shelf_numbers (shelf i))
  unfolding shelf_record
  shelf_numbers_law i l = numbers_in file (shelf_place i) (shelf_numbers (shelf i)) (stands_shelf version head shelf bucket i l)

  bucket_numbers_law : (k : ℕ) → k < head.bucket_count → Numbers file (bucket_place head.shelf_count k) (bucket_numbers (bucket k))
  unfolding bucket_record
  bucket_numbers_law k l =
      numbers_in file (bucket_place head.shelf_count k) (bucket_numbers (bucket k)) (stands_bucket version head shelf bucket k l)

  end_numbers : Numbers file (bucket_place head.shelf_count head.bucket_count) (2 ∷ 19 ∷ [])
  end_numbers = numbers_in file (bucket_place head.shelf_count head.bucket_count) (2 ∷ 19 ∷ []) (stands_end version head shelf bucket)

pub file_places : (build : Build) (g : Atlas) → FilePlaces build g
unfolding file_of
file_places build g =
    let v : ℕ = version_of build in
    let s : ℕ → Shelf = shelf_at g.shelves in
    let b : ℕ → Bucket = bucket_at g.buckets in
    record {
      head = head_numbers_law v g.head s b;
      flag = flag_zero v g.head s b;
      figure = figure_number v g.head s b;
      shelf = shelf_numbers_law v g.head s b;
      bucket = bucket_numbers_law v g.head s b;
      end = end_numbers v g.head s b;
    }
