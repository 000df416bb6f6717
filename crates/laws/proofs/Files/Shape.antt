-- A file's shape, in words: its length, and each record's length and kind. The test of it, and that what is written has it.
use Prim.Native.Nat.{ℕ, ◌+◌, ◌<◌}
use mathlib.Core.Bool.{true}
use mathlib.Core.Path.{◌≡◌}
use mathlib.Core.List.{List}
use native.Mathlib.Omega.{arith}
use lib.ListN.{length, get_or, take}
use lib.Seq.{length-take-le, get_or-take}
use Rattle.rules.specs.declared.Head.{Head}
use Rattle.rules.specs.declared.Shelf.{Shelf}
use Rattle.rules.specs.declared.Bucket.{Bucket}
use Rattle.rules.specs.Files.{file_from, shelf_place, bucket_place, head_in, is_framed, is_file}
use Rattle.rules.specs.Trace.{u16_at}
use Rattle.laws.proofs.Tests.Tells.{Tells, tells_eqb, tells_and, tells_to, tells_map}
use Rattle.laws.proofs.Files.Layout.{Framed, head_framed, flag_there, shelf_framed, bucket_framed, end_framed}
use Rattle.laws.proofs.Files.Layout.{stands_head, stands_shelf, stands_bucket, stands_end, head_in_law, length_file}

pub record Shaped (file : List ℕ) (shelves buckets : ℕ) : Type 0 where
  pub long : length file ≡ bucket_place shelves buckets + 4
  pub head : Framed file 0 31 16
  pub flag : get_or file 28 0 ≡ 0
  pub shelf : (i : ℕ) → i < shelves → Framed file (shelf_place i) 12 17
  pub bucket : (i : ℕ) → i < buckets → Framed file (bucket_place shelves i) 16 18
  pub end : Framed file (bucket_place shelves buckets) 2 19

framed_tells : (file : List ℕ) (at size kind : ℕ) → Tells (is_framed file at size kind) (Framed file at size kind)
unfolding is_framed
framed_tells file at size kind = tells_and _ _ (tells_eqb _ _) (tells_eqb _ _)

pub shape_tells : (file : List ℕ) → Tells (is_file file) (Shaped file (head_in file).shelf_count (head_in file).bucket_count)
unfolding is_file
shape_tells file = tells_map
    (tells_and _ _ (tells_and _ _ (tells_and _ _ (tells_and _ _ (tells_and _ _
    (tells_eqb _ _)
    (framed_tells file 0 31 16))
    (tells_eqb _ _))
    (tells_to _ _ _ (λ i. framed_tells file (shelf_place i) 12 17)))
    (tells_to _ _ _ (λ i. framed_tells file (bucket_place (head_in file).shelf_count i) 16 18)))
    (framed_tells file (bucket_place (head_in file).shelf_count (head_in file).bucket_count) 2 19))
    (λ h. record { long = h.0.0.0.0.0; head = h.0.0.0.0.1; flag = h.0.0.0.1; shelf = h.0.0.1; bucket = h.0.1; end = h.1 })
    (λ h. (((((h.long, h.head), h.flag), h.shelf), h.bucket), h.end))

module _ (version : ℕ) (head : Head) (shelf : ℕ → Shelf) (bucket : ℕ → Bucket) where
  abbrev file : List ℕ
  file = file_from version head shelf bucket

  file_shaped : Shaped file head.shelf_count head.bucket_count
  file_shaped = record {
    long = length_file version head shelf bucket;
    head = head_framed file version head (stands_head version head shelf bucket);
    flag = flag_there file version head (stands_head version head shelf bucket);
    shelf = λ i l. shelf_framed file (shelf_place i) (shelf i) (stands_shelf version head shelf bucket i l);
    bucket = λ i l. bucket_framed file (bucket_place head.shelf_count i) (bucket i) (stands_bucket version head shelf bucket i l);
    end = end_framed file (bucket_place head.shelf_count head.bucket_count) (stands_end version head shelf bucket);
  }

  -- what is written is a file
  pub is_file_law : is_file file ≡ true
  is_file_law = (shape_tells file).shown (rw (head_in_law version head shelf bucket) file_shaped)

-- ---- no file is the start of another

module _ (file : List ℕ) (n : ℕ) (l : n < length file) where
  length_start : length (take n file) ≡ n
  length_start = length-take-le n file (omega arith)

  start_number : (k : ℕ) → k + 1 < n → u16_at (take n file) k ≡ u16_at file k
  start_number k h = rw (get_or-take n file k 0 (omega arith), get_or-take n file (k + 1) 0 h)

  pub start_not : is_file file ≡ true → is_file (take n file) ≡ true → ⊥
  unfolding head_in
  start_not e f =
      let whole = ((shape_tells file).holds e).long in
      let part = ((shape_tells (take n file)).holds f).long in
      omega (arith, length_start, whole, part, start_number 22 (omega (arith, length_start, part)), start_number 24 (omega (arith, length_start, part)))
