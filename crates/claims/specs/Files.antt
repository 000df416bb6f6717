-- T-01, what a write makes and a read takes, on any tables, buffers and bytes: there and back, the form of a file, refusals in their order, and
-- what a call leaves.
use Rattle.std.specs.Prelude.{ℕ, ◌+◌, ◌*◌, ◌%◌, ◌≤◌, ◌<◌, true, ◌≡◌, ◌≢◌, ◌⊎◌, List, [], ◌∷◌, pos, negsuc, length, get_or, take, drop, Ok, Err}
use Rattle.rules.specs.declared.Head.{Head}
use Rattle.rules.specs.declared.Shelf.{Shelf}
use Rattle.rules.specs.declared.Bucket.{Bucket}
use Rattle.rules.specs.declared.Refusal.{Refusal}
use Rattle.rules.specs.Tables.{Atlas, shelf_at, bucket_at}
use Rattle.rules.specs.Answers.{made_says, written_says}
use Rattle.rules.specs.Sound.{SoundBy, Sound, Lent, is_sound_by, is_sound, is_lent}
use Rattle.rules.specs.Trace.{u16_at, i32_at}
use Rattle.rules.specs.Builds.{Build, present}
use Rattle.rules.specs.Files.{Cells, Bytes, file_from, file_of, head_in, write, stored, Loaded, read}
use Rattle.rules.specs.History.{Event, Listing, Run, Kept, held, from_bucket, saves, file_in, read_into}

-- the same header, and below its counts the same shelves, each bucket as P says
abbrev pub SameBut : (Bucket → Bucket → Type 0) → Atlas → Atlas → Type 0
SameBut P g g' =
    (g'.head ≡ g.head) × ((i : ℕ) → i < g.head.shelf_count → shelf_at g'.shelves i ≡ shelf_at g.shelves i)
    × ((k : ℕ) → k < g.head.bucket_count → P (bucket_at g.buckets k) (bucket_at g'.buckets k))

-- the same buckets too
abbrev pub Same : Atlas → Atlas → Type 0
Same g g' = SameBut (λ v v'. v' ≡ v) g g'

-- v' is bucket v after T-08's repair: "item count 0 and generation one up, where the count was not 0", of an unreferenced one alone
abbrev pub Repaired : Bucket → Bucket → Type 0
Repaired v v' =
    (v.refs ≢ 0 → v' ≡ v) × (v.items ≡ 0 → v' ≡ v)
    × (v.refs ≡ 0 → v.items ≢ 0 → v' ≡ record {
      x = v.x;
      free = v.free;
      next = v.next;
      refs = 0;
      items = 0;
      shelf = v.shelf;
      generation = (v.generation + 1) % 256;
    })

abbrev pub SameRepaired : Atlas → Atlas → Type 0
SameRepaired g g' = SameBut Repaired g g'

-- ---- there and back

-- `read_back`
abbrev pub ReadBack : Type 0
ReadBack = (build : Build) (g : Atlas) (s b : List ℕ) → is_sound g ≡ true → is_lent s b ≡ true
    → ((read (file_of build g) s b).made ≡ Ok g.head) × Same g (read_into g.head (read (file_of build g) s b))

-- `write_equal`
abbrev pub EqualBytes : Type 0
EqualBytes = (build : Build) (g g' : Atlas) → Same g g' → file_of build g ≡ file_of build g'

-- `write_different`
abbrev pub DifferentBytes : Type 0
DifferentBytes = (build : Build) (g g' : Atlas) → file_of build g ≡ file_of build g' → Same g g'

-- the file is read over s and b, as an atlas with that header
abbrev pub Reads : List ℕ → List ℕ → List ℕ → Head → Type 0
Reads file s b head = (read file s b).made ≡ Ok head

-- `only_written`: what a build before T-08 makes of the records in the file
abbrev pub OnlyWritten : Type 0
OnlyWritten = (file s b : List ℕ) (head : Head) → Bytes file → Reads file s b head → file ≡ file_of Build.dividing (stored Build.dividing file s b)

-- `read_sound_law`
abbrev pub ReadSound : Type 0
ReadSound = (file s b : List ℕ) (head : Head) → Reads file s b head → Sound (read_into head (read file s b))

-- `no_generation`: what was no generation is not made one
abbrev pub NoGeneration : Type 0
NoGeneration = (file s b : List ℕ) (head : Head) → Reads file s b head → (k : ℕ) → k < (head_in file).bucket_count
    → u16_at file (33 + 14 * (head_in file).shelf_count + 18 * k + 16) < 256

-- `restart`: of whatever build, what was held at the writing, and nothing else, is held; AllKept has it of all that follows
abbrev pub Restarted : Type 0
Restarted = (build : Build) (past : List Event) (g : Atlas) (x : Listing) → Run build past g x
    → (out : List ℕ) (n : ℕ) → (saves build g x out).written ≡ Ok n
    → (s b : List ℕ) → is_lent s b ≡ true → let l : Loaded = read (file_in (saves build g x out) n) s b in
    (l.made ≡ Ok g.head) × SameRepaired g (read_into g.head l) × Kept past (read_into g.head l)
    × ((k : ℕ) → k < g.head.bucket_count → (bucket_at l.buckets k).refs ≡ from_bucket k (held past))

-- ---- the form of a file, in numbers as the trace's records have

-- `write_bytes`
abbrev pub WriteBytes : Type 0
WriteBytes = (build : Build) (g : Atlas) → is_sound_by build g ≡ true → Cells g.shelves → Cells g.buckets → Bytes (file_of build g)

-- the numbers of 16 bits from that place on
abbrev pub Numbers : List ℕ → ℕ → List ℕ → Type 0
Numbers file at [] = Unit {0}
Numbers file at (n ∷ ns) = (u16_at file at ≡ n) × Numbers file (at + 2) ns

-- `file_places`: "kind 16 header (u16 version 1, then the header's numbers, the flag byte for vertical 0, .."
abbrev pub HeadPlaces : Type 0
HeadPlaces = (build : Build) (g : Atlas) → let head : Head = g.head in
    Numbers (file_of build g) 0
    (31 ∷ 16 ∷ 1 ∷ head.width ∷ head.height ∷ head.align_width ∷ head.align_height ∷ head.columns ∷ head.column_width
    ∷ head.column ∷ head.room ∷ head.shelf_count ∷ head.bucket_count ∷ head.released ∷ [])
    × (get_or (file_of build g) 28 1 ≡ 0)

-- ".. occupied as a signed 32-bit number)": `figure_signed`
abbrev pub FigureSigned : Type 0
FigureSigned = (build : Build) (g : Atlas) → is_sound_by build g ≡ true → i32_at (file_of build g) 29 ≡ pos g.head.occupied

-- `negative_unsound`
abbrev pub NegativeUnsound : Type 0
NegativeUnsound = (file s b : List ℕ) (head : Head) (m : ℕ) → i32_at file 29 ≡ negsuc m → Reads file s b head → ⊥

-- `file_places`: "17 one shelf, 18 one bucket, 19 end, each table in index order"
abbrev pub TablePlaces : Type 0
TablePlaces = (build : Build) (g : Atlas)
    → ((i : ℕ) → i < g.head.shelf_count → let shelf : Shelf = shelf_at g.shelves i in
    Numbers (file_of build g) (33 + 14 * i) (12 ∷ 17 ∷ shelf.x ∷ shelf.y ∷ shelf.height ∷ shelf.width ∷ shelf.first ∷ []))
    × ((k : ℕ) → k < g.head.bucket_count → let bucket : Bucket = bucket_at g.buckets k in
    Numbers (file_of build g) (33 + 14 * g.head.shelf_count + 18 * k)
    (16 ∷ 18 ∷ bucket.x ∷ bucket.free ∷ bucket.next ∷ bucket.refs ∷ bucket.items ∷ bucket.shelf ∷ bucket.generation ∷ []))
    × Numbers (file_of build g) (33 + 14 * g.head.shelf_count + 18 * g.head.bucket_count) (2 ∷ 19 ∷ [])

-- ---- write

-- `write_refusals.one`
abbrev pub WriteOne : Type 0
WriteOne = (build : Build) (g : Atlas) (out : List ℕ)
    → ((SoundBy build g → ⊥) → written_says (write build g out).written ≡ 1 ∷ [])
    × (written_says (write build g out).written ≡ 1 ∷ [] → SoundBy build g → ⊥)

-- `write_refusals.eighteen`
abbrev pub WriteEighteen : Type 0
WriteEighteen = (build : Build) (g : Atlas) (out : List ℕ)
    → (is_sound_by build g ≡ true → length out < length (file_of build g) → written_says (write build g out).written ≡ 18 ∷ [])
    × (written_says (write build g out).written ≡ 18 ∷ [] → SoundBy build g × (length out < length (file_of build g)))

-- `write_refusals.done`
abbrev pub WriteDone : Type 0
WriteDone = (build : Build) (g : Atlas) (out : List ℕ) → is_sound_by build g ≡ true → length (file_of build g) ≤ length out
    → (write build g out).written ≡ Ok (length (file_of build g))

-- `write_refused`
abbrev pub WriteRefused : Type 0
WriteRefused = (build : Build) (g : Atlas) (out : List ℕ) (r : Refusal) → (write build g out).written ≡ Err r
    → (write build g out).out ≡ out

-- `write_file`
abbrev pub WriteFile : Type 0
WriteFile = (build : Build) (g : Atlas) (out : List ℕ) (n : ℕ) → (write build g out).written ≡ Ok n
    → (n ≡ 37 + 14 * g.head.shelf_count + 18 * g.head.bucket_count) × (take n (write build g out).out ≡ file_of build g)
    × (drop n (write build g out).out ≡ drop n out)

-- ---- read

-- a file of that version, of any header and records
abbrev pub OfVersion : ℕ → List ℕ → Type 0
OfVersion version file = (head : Head) × (shelf : ℕ → Shelf) × (bucket : ℕ → Bucket) × (file ≡ file_from version head shelf bucket)

-- what a read says
abbrev pub read_says : List ℕ → List ℕ → List ℕ → List ℕ
read_says file s b = made_says (read file s b).made

-- `read_refusals.one`: the room, and last the contents
abbrev pub ReadOne : Type 0
ReadOne = (file s b : List ℕ) → Bytes file
    → ((Lent s b → ⊥) → read_says file s b ≡ 1 ∷ [])
    × (OfVersion 1 file → (Sound (stored present file s b) → ⊥) → read_says file s b ≡ 1 ∷ [])
    × (read_says file s b ≡ 1 ∷ [] → (Lent s b → ⊥) ⊎ (OfVersion 1 file × (Sound (stored present file s b) → ⊥)))

-- `read_refusals.sixteen`
abbrev pub ReadSixteen : Type 0
ReadSixteen = (file s b : List ℕ) → Bytes file
    → (is_lent s b ≡ true → ((version : ℕ) → OfVersion version file → ⊥) → read_says file s b ≡ 16 ∷ [])
    × (read_says file s b ≡ 16 ∷ [] → Lent s b × ((version : ℕ) → OfVersion version file → ⊥))

-- `read_refusals.seventeen`
abbrev pub ReadSeventeen : Type 0
ReadSeventeen = (file s b : List ℕ) → Bytes file
    → ((version : ℕ) → is_lent s b ≡ true → version ≢ 1 → OfVersion version file → read_says file s b ≡ 17 ∷ [])
    × (read_says file s b ≡ 17 ∷ [] → Lent s b × (version : ℕ) × (version ≢ 1) × OfVersion version file)

-- `read_refused`
abbrev pub ReadRefused : Type 0
ReadRefused = (file s b : List ℕ) (r : Refusal) → (read file s b).made ≡ Err r
    → ((read file s b).shelves ≡ s) × ((read file s b).buckets ≡ b)

-- `read_past`
abbrev pub ReadPast : Type 0
ReadPast = (file s b : List ℕ) (head : Head) → Reads file s b head
    → (drop (5 * head.shelf_count) (read file s b).shelves ≡ drop (5 * head.shelf_count) s)
    × (drop (7 * head.bucket_count) (read file s b).buckets ≡ drop (7 * head.bucket_count) b)
