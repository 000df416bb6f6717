-- What stands in the bytes that are made of a version, a header and the rows of two tables: all of it again, whatever the numbers are.
-- So those bytes are a file (`is_file_law`), and no two different things are written alike.
use Prim.Native.Nat.{ℕ, suc, ◌+◌, ◌*◌, ◌/◌, ◌%◌, ◌<◌}
use mathlib.Core.Path.{◌≡◌, refl, ap, ap₂}
use mathlib.Core.List.{List, ◌++◌}
use native.Mathlib.Nat.{add-zero}
use native.Mathlib.Omega.{arith}
use lib.ListN.{length, get_or, length-append}
use Rattle.rules.specs.declared.Head.{Head}
use Rattle.rules.specs.declared.Shelf.{Shelf}
use Rattle.rules.specs.declared.Bucket.{Bucket}
use Rattle.rules.specs.Files.{head_record, shelf_record, bucket_record, end_record, in_order, file_from, shelf_place, bucket_place}
use Rattle.rules.specs.Files.{head_in, version_in, shelf_from, bucket_from, shelf_in, bucket_in}
use Rattle.rules.specs.Trace.{u16_at}
use Rattle.laws.proofs.Files.Words.{Stands, stands_all, stands_left, stands_from, number_in, length_order, stands_order, order_same}

-- ---- how long

pub length_head : (version : ℕ) (head : Head) → length (head_record version head) ≡ 33
unfolding head_record
length_head version head = refl

pub length_shelf : (shelf : Shelf) → length (shelf_record shelf) ≡ 14
unfolding shelf_record
length_shelf shelf = refl

pub length_bucket : (bucket : Bucket) → length (bucket_record bucket) ≡ 18
unfolding bucket_record
length_bucket bucket = refl

-- the rows of each table
abbrev shelf_rows : Head → (ℕ → Shelf) → List ℕ
shelf_rows head shelf = in_order head.shelf_count (λ i. shelf_record (shelf i))

abbrev bucket_rows : Head → (ℕ → Bucket) → List ℕ
bucket_rows head bucket = in_order head.bucket_count (λ i. bucket_record (bucket i))

module _ (version : ℕ) (head : Head) (shelf : ℕ → Shelf) (bucket : ℕ → Bucket) where
  pub length_shelves : length (head_record version head ++ shelf_rows head shelf) ≡ 33 + 14 * head.shelf_count
  length_shelves = omega (
    arith,
    length-append (head_record version head) (shelf_rows head shelf),
    length_head version head,
    length_order (λ i. shelf_record (shelf i)) 14 (λ i. length_shelf (shelf i)) head.shelf_count,
  )

  pub length_buckets : length (head_record version head ++ shelf_rows head shelf ++ bucket_rows head bucket)
      ≡ bucket_place head.shelf_count head.bucket_count
  length_buckets = omega (
    arith,
    length-append (head_record version head ++ shelf_rows head shelf) (bucket_rows head bucket),
    length_shelves,
    length_order (λ i. bucket_record (bucket i)) 18 (λ i. length_bucket (bucket i)) head.bucket_count,
  )

  pub length_file : length (file_from version head shelf bucket) ≡ bucket_place head.shelf_count head.bucket_count + 4
  unfolding file_from
  length_file = omega (arith, length-append (head_record version head ++ shelf_rows head shelf ++ bucket_rows head bucket) end_record, length_buckets)

-- ---- what a record has in it, wherever it stands

-- a record of that length and kind
abbrev pub Framed : List ℕ → ℕ → ℕ → ℕ → Type 0
Framed file at size kind = (u16_at file at ≡ size) × (u16_at file (at + 2) ≡ kind)

-- the number at a place of a record that stands in a file
abbrev NumberAt : List ℕ → ℕ → List ℕ → Type 0
NumberAt file at xs = (k n : ℕ) → suc k < length xs → get_or xs k 0 ≡ n % 256 → get_or xs (suc k) 0 ≡ n / 256 → u16_at file (at + k) ≡ n

module _ (file : List ℕ) (at : ℕ) (shelf : Shelf) (s : Stands file at (shelf_record shelf)) where
  shelf_there : shelf_from file at ≡ shelf
  unfolding shelf_from shelf_record
  shelf_there =
      let n : NumberAt file at (shelf_record shelf) = number_in file at (shelf_record shelf) s in
      rw (
        n 4 shelf.x (omega arith) refl refl,
        n 6 shelf.y (omega arith) refl refl,
        n 8 shelf.height (omega arith) refl refl,
        n 10 shelf.width (omega arith) refl refl,
        n 12 shelf.first (omega arith) refl refl,
      )

  pub shelf_framed : Framed file at 12 17
  unfolding shelf_record
  shelf_framed =
      let n : NumberAt file at (shelf_record shelf) = number_in file at (shelf_record shelf) s in
      (rw add-zero at (n 0 12 (omega arith) refl refl), n 2 17 (omega arith) refl refl)

module _ (file : List ℕ) (at : ℕ) (bucket : Bucket) (s : Stands file at (bucket_record bucket)) where
  bucket_there : bucket_from file at ≡ bucket
  unfolding bucket_from bucket_record
  bucket_there =
      let n : NumberAt file at (bucket_record bucket) = number_in file at (bucket_record bucket) s in
      rw (
        n 4 bucket.x (omega arith) refl refl,
        n 6 bucket.free (omega arith) refl refl,
        n 8 bucket.next (omega arith) refl refl,
        n 10 bucket.refs (omega arith) refl refl,
        n 12 bucket.items (omega arith) refl refl,
        n 14 bucket.shelf (omega arith) refl refl,
        n 16 bucket.generation (omega arith) refl refl,
      )

  pub bucket_framed : Framed file at 16 18
  unfolding bucket_record
  bucket_framed =
      let n : NumberAt file at (bucket_record bucket) = number_in file at (bucket_record bucket) s in
      (rw add-zero at (n 0 16 (omega arith) refl refl), n 2 18 (omega arith) refl refl)

module _ (file : List ℕ) (version : ℕ) (head : Head) (s : Stands file 0 (head_record version head)) where
  head_there : head_in file ≡ head
  unfolding head_in head_record
  head_there =
      let n : NumberAt file 0 (head_record version head) = number_in file 0 (head_record version head) s in
      let z : head.occupied % 65536 + 65536 * (head.occupied / 65536) ≡ head.occupied = omega arith in
      rw (
        n 6 head.width (omega arith) refl refl,
        n 8 head.height (omega arith) refl refl,
        n 10 head.align_width (omega arith) refl refl,
        n 12 head.align_height (omega arith) refl refl,
        n 14 head.columns (omega arith) refl refl,
        n 16 head.column_width (omega arith) refl refl,
        n 18 head.column (omega arith) refl refl,
        n 20 head.room (omega arith) refl refl,
        n 22 head.shelf_count (omega arith) refl refl,
        n 24 head.bucket_count (omega arith) refl refl,
        n 26 head.released (omega arith) refl refl,
        n 29 (head.occupied % 65536) (omega arith) refl refl,
        n 31 (head.occupied / 65536) (omega arith) refl refl,
        z,
      )

  version_there : version_in file ≡ version
  unfolding version_in head_record
  version_there = number_in file 0 (head_record version head) s 4 version (omega arith) refl refl

  pub head_framed : Framed file 0 31 16
  unfolding head_record
  head_framed =
      let n : NumberAt file 0 (head_record version head) = number_in file 0 (head_record version head) s in
      (n 0 31 (omega arith) refl refl, n 2 16 (omega arith) refl refl)

  pub flag_there : get_or file 28 0 ≡ 0
  unfolding head_record
  flag_there = s 28 (omega arith)

pub end_framed : (file : List ℕ) (at : ℕ) → Stands file at end_record → Framed file at 2 19
end_framed file at s =
    let n : NumberAt file at end_record = number_in file at end_record s in
    (rw add-zero at (n 0 2 (omega arith) refl refl), n 2 19 (omega arith) refl refl)

-- ---- where each record stands

module _ (version : ℕ) (head : Head) (shelf : ℕ → Shelf) (bucket : ℕ → Bucket) where
  abbrev file : List ℕ
  file = file_from version head shelf bucket

  stands_rows : Stands file 0 (head_record version head ++ shelf_rows head shelf ++ bucket_rows head bucket)
  unfolding file_from
  stands_rows = stands_left file 0 (head_record version head ++ shelf_rows head shelf ++ bucket_rows head bucket) end_record (stands_all file)

  stands_shelves : Stands file 0 (head_record version head ++ shelf_rows head shelf)
  stands_shelves = stands_left file 0 (head_record version head ++ shelf_rows head shelf) (bucket_rows head bucket) stands_rows

  pub stands_head : Stands file 0 (head_record version head)
  stands_head = stands_left file 0 (head_record version head) (shelf_rows head shelf) stands_shelves

  pub stands_shelf : (i : ℕ) → i < head.shelf_count → Stands file (shelf_place i) (shelf_record (shelf i))
  stands_shelf = stands_order (λ i. shelf_record (shelf i)) 14 (λ i. length_shelf (shelf i)) file 33 head.shelf_count
      (stands_from file (head_record version head) (shelf_rows head shelf) 33 (length_head version head) stands_shelves)

  pub stands_bucket : (i : ℕ) → i < head.bucket_count → Stands file (bucket_place head.shelf_count i) (bucket_record (bucket i))
  stands_bucket = stands_order (λ i. bucket_record (bucket i)) 18 (λ i. length_bucket (bucket i)) file (33 + 14 * head.shelf_count) head.bucket_count
      (stands_from file (head_record version head ++ shelf_rows head shelf) (bucket_rows head bucket) _ (length_shelves version head shelf bucket) stands_rows)

  pub stands_end : Stands file (bucket_place head.shelf_count head.bucket_count) end_record
  unfolding file_from
  stands_end = stands_from file (head_record version head ++ shelf_rows head shelf ++ bucket_rows head bucket) end_record _
      (length_buckets version head shelf bucket) (stands_all file)

  -- ---- all of it again

  pub version_in_law : version_in file ≡ version
  version_in_law = version_there file version head stands_head

  pub head_in_law : head_in file ≡ head
  head_in_law = head_there file version head stands_head

  pub shelf_in_law : (i : ℕ) → i < head.shelf_count → shelf_in file i ≡ shelf i
  shelf_in_law i l = shelf_there file (shelf_place i) (shelf i) (stands_shelf i l)

  pub bucket_in_law : (i : ℕ) → i < head.bucket_count → bucket_in file i ≡ bucket i
  bucket_in_law i l = rw head_in_law (bucket_there file (bucket_place head.shelf_count i) (bucket i) (stands_bucket i l))

-- rows that agree below the counts are written alike
pub file_same : (version : ℕ) (head : Head) (shelf shelf' : ℕ → Shelf) (bucket bucket' : ℕ → Bucket)
    → ((i : ℕ) → i < head.shelf_count → shelf i ≡ shelf' i) → ((k : ℕ) → k < head.bucket_count → bucket k ≡ bucket' k)
    → file_from version head shelf bucket ≡ file_from version head shelf' bucket'
unfolding file_from
file_same version head shelf shelf' bucket bucket' es eb = ap₂ (λ (xs ys : List ℕ). head_record version head ++ xs ++ ys ++ end_record)
    (order_same (λ i. shelf_record (shelf i)) (λ i. shelf_record (shelf' i)) head.shelf_count (λ i l. ap shelf_record (es i l)))
    (order_same (λ k. bucket_record (bucket k)) (λ k. bucket_record (bucket' k)) head.bucket_count (λ k l. ap bucket_record (eb k l)))
