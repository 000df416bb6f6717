-- T-01, "Keep the atlas over a restart": the header and the tables as the bytes of a file, and a file's bytes back into lent tables. A file is
-- records as in a trace: "kind 16 header .., 17 one shelf, 18 one bucket, 19 end, each table in index order". `file_from` says which bytes,
-- `is_file` whether some bytes are of that form; docs/FILES.md has the same as a page.
use Rattle.std.specs.Prelude.{ℕ, zero, suc, ◌+◌, ◌*◌, ◌/◌, ◌%◌, ◌<◌, Bool, ◌&&◌, List, [], ◌∷◌, ◌++◌, eqb, length, get_or, if◌then◌else◌, Ok, Err, Result}
use Rattle.rules.specs.declared.Head.{Head}
use Rattle.rules.specs.declared.Shelf.{Shelf}
use Rattle.rules.specs.declared.Bucket.{Bucket}
use Rattle.rules.specs.declared.Refusal.{Refusal}
use Rattle.rules.specs.Limits.{head_bytes, shelf_bytes, bucket_bytes}
use Rattle.rules.specs.Tables.{Atlas, atlas, shelf_at, put_shelf, bucket_at, put_bucket}
use Rattle.rules.specs.Sound.{all_to, is_lent, is_sound_by}
use Rattle.rules.specs.Numbers.{u16_at, u32_at}
use Rattle.rules.specs.Builds.{Build, present, version_of}
use Rattle.rules.specs.Repair.{read_as}
pub use Rattle.rules.specs.Saving.{Saved, saved}
unfoldable pub use Rattle.rules.specs.Saving.{saving}

-- ---- the bytes: "in trace-style records", so all numbers little-endian

-- numbers of 16 bits
abbrev pub words : List ℕ → List ℕ
words [] = []
words (n ∷ ns) = (n % 256) ∷ (n / 256) ∷ words ns

-- a number of 32 bits
abbrev pub long_word : ℕ → List ℕ
long_word n = words ((n % 65536) ∷ (n / 65536) ∷ [])

-- a u16 length (of what follows it), a u16 kind, a payload
abbrev pub framed : ℕ → List ℕ → List ℕ
framed kind payload = words ((2 + length payload) ∷ kind ∷ []) ++ payload

-- "kind 16 header (u16 version 1, then the header's numbers, the flag byte for vertical 0, occupied as a signed 32-bit number)". The numbers
-- are those of `Head` in its order. A sound figure is below 2,147,483,648, so the 32 bits are those of the signed number.
unfoldable pub head_record : ℕ → Head → List ℕ
head_record version head =
    framed 16 (words (version ∷ head.width ∷ head.height ∷ head.align_width ∷ head.align_height ∷ head.columns ∷ head.column_width
    ∷ head.column ∷ head.room ∷ head.shelf_count ∷ head.bucket_count ∷ head.released ∷ []) ++ 0 ∷ long_word head.occupied)

-- "17 one shelf"
unfoldable pub shelf_record : Shelf → List ℕ
shelf_record shelf = framed 17 (words (shelf.x ∷ shelf.y ∷ shelf.height ∷ shelf.width ∷ shelf.first ∷ []))

-- "18 one bucket"
unfoldable pub bucket_record : Bucket → List ℕ
bucket_record bucket =
    framed 18 (words (bucket.x ∷ bucket.free ∷ bucket.next ∷ bucket.refs ∷ bucket.items ∷ bucket.shelf ∷ bucket.generation ∷ []))

-- "19 end"
abbrev pub end_record : List ℕ
end_record = framed 19 []

-- f 0, .., f (n - 1): "each table in index order"
abbrev pub in_order : ℕ → (ℕ → List ℕ) → List ℕ
in_order zero f = []
in_order (suc n) f = in_order n f ++ f n

-- the file of a version, a header and the rows of two tables, as many of each as the header counts
unfoldable pub file_from : ℕ → Head → (ℕ → Shelf) → (ℕ → Bucket) → List ℕ
file_from version head shelf bucket =
    ((head_record version head ++ in_order head.shelf_count (λ i. shelf_record (shelf i)))
    ++ in_order head.bucket_count (λ i. bucket_record (bucket i))) ++ end_record

-- the file that a build writes of an atlas: "Equal tables give equal bytes", as nothing past the counts is in it
unfoldable pub file_of : Build → Atlas → List ℕ
file_of build g = file_from (version_of build) g.head (shelf_at g.shelves) (bucket_at g.buckets)

-- ---- write: 1, 18

-- "the tables written to a lent buffer"; "Refusals: 1 first for the tables lent to a write ..; 18 buffer too short for writing"
abbrev pub write : Build → Atlas → List ℕ → Saved
write build g out = saving build Refusal.Buffer g (file_of build g) out

-- ---- what stands in a file

-- where shelf i's record starts; behind n shelves, where bucket i's does
abbrev pub shelf_place : ℕ → ℕ
shelf_place i = head_bytes + shelf_bytes * i

abbrev pub bucket_place : ℕ → ℕ → ℕ
bucket_place n i = head_bytes + shelf_bytes * n + bucket_bytes * i

unfoldable pub version_in : List ℕ → ℕ
version_in file = u16_at file 4

unfoldable pub head_in : List ℕ → Head
head_in file = record {
  width = u16_at file 6;
  height = u16_at file 8;
  align_width = u16_at file 10;
  align_height = u16_at file 12;
  columns = u16_at file 14;
  column_width = u16_at file 16;
  column = u16_at file 18;
  room = u16_at file 20;
  shelf_count = u16_at file 22;
  bucket_count = u16_at file 24;
  released = u16_at file 26;
  occupied = u32_at file 29;
}

-- the shelf whose record starts at a place
unfoldable pub shelf_from : List ℕ → ℕ → Shelf
shelf_from file at = record {
  x = u16_at file (at + 4);
  y = u16_at file (at + 6);
  height = u16_at file (at + 8);
  width = u16_at file (at + 10);
  first = u16_at file (at + 12);
}

unfoldable pub bucket_from : List ℕ → ℕ → Bucket
bucket_from file at = record {
  x = u16_at file (at + 4);
  free = u16_at file (at + 6);
  next = u16_at file (at + 8);
  refs = u16_at file (at + 10);
  items = u16_at file (at + 12);
  shelf = u16_at file (at + 14);
  generation = u16_at file (at + 16);
}

abbrev pub shelf_in : List ℕ → ℕ → Shelf
shelf_in file i = shelf_from file (shelf_place i)

abbrev pub bucket_in : List ℕ → ℕ → Bucket
bucket_in file i = bucket_from file (bucket_place (head_in file).shelf_count i)

-- ---- "16 malformed or cut": not a file of some version

-- a record of that length and kind starts at a place
unfoldable pub is_framed : List ℕ → ℕ → ℕ → ℕ → Bool
is_framed file at size kind = eqb (u16_at file at) size && eqb (u16_at file (at + 2)) kind

-- one header first, its flag byte 0; as many shelves as it counts, then as many buckets; the end, and nothing behind it
unfoldable pub is_file : List ℕ → Bool
is_file file =
    eqb (length file) (bucket_place (head_in file).shelf_count (head_in file).bucket_count + 4)
    && is_framed file 0 31 16 && eqb (get_or file 28 0) 0
    && all_to (head_in file).shelf_count (λ i. is_framed file (shelf_place i) 12 17)
    && all_to (head_in file).bucket_count (λ i. is_framed file (bucket_place (head_in file).shelf_count i) 16 18)
    && is_framed file (bucket_place (head_in file).shelf_count (head_in file).bucket_count) 2 19

-- ---- read: 1 (room only), 16, 17, 1

-- the lent tables with the first n records of the file in them; those behind are as they were
unfoldable pub shelves_stored : ℕ → List ℕ → List ℕ → List ℕ
shelves_stored zero file shelves = shelves
shelves_stored (suc i) file shelves = put_shelf (shelves_stored i file shelves) i (shelf_in file i)

-- T-08: with the repair, where the build that reads makes it
unfoldable pub buckets_stored : Build → ℕ → List ℕ → List ℕ → List ℕ
buckets_stored build zero file buckets = buckets
buckets_stored build (suc i) file buckets = put_bucket (buckets_stored build i file buckets) i (read_as build (bucket_in file i))

-- the atlas in a file, as a build reads it, over lent tables
unfoldable pub stored : Build → List ℕ → List ℕ → List ℕ → Atlas
stored build file shelves buckets =
    atlas (head_in file) (shelves_stored (head_in file).shelf_count file shelves) (buckets_stored build (head_in file).bucket_count file buckets)

-- what is said, and the lent tables after it
pub record Loaded : Type 0 where
  pub made : Result Head Refusal
  pub shelves : List ℕ
  pub buckets : List ℕ

abbrev pub loaded : Result Head Refusal → List ℕ → List ℕ → Loaded
loaded made shelves buckets = record { made = made; shelves = shelves; buckets = buckets }

-- "then 1 for unsound contents": "only sound tables are read". T-08: "the test for 1 is made after the repair"
unfoldable pub read_sound : Build → List ℕ → List ℕ → List ℕ → Loaded
read_sound build file shelves buckets =
    if is_sound_by build (stored build file shelves buckets)
    then loaded (Ok (head_in file)) (stored build file shelves buckets).shelves (stored build file shelves buckets).buckets
    else loaded (Err Refusal.Tables) shelves buckets

-- "and read back"; "1 first for .. the room lent to a read; .. reading: 16 malformed or cut, 17 unknown version, then 1 for unsound contents"
unfoldable pub read_by : Build → List ℕ → List ℕ → List ℕ → Loaded
read_by build file shelves buckets =
    if is_lent shelves buckets
    then (if is_file file
    then (if eqb (version_in file) 1 then read_sound build file shelves buckets else loaded (Err Refusal.Version) shelves buckets)
    else loaded (Err Refusal.Broken) shelves buckets)
    else loaded (Err Refusal.Tables) shelves buckets

-- the present build's
abbrev pub read : List ℕ → List ℕ → List ℕ → Loaded
read file shelves buckets = read_by present file shelves buckets

-- ---- what lent numbers are

-- those of a table: 16 bits each
abbrev pub Cells : List ℕ → Type 0
Cells numbers = (i : ℕ) → get_or numbers i 0 < 65536

-- those of a buffer: 8 bits each
abbrev pub Bytes : List ℕ → Type 0
Bytes numbers = (i : ℕ) → get_or numbers i 0 < 256
