-- T-01, "the tables written to a lent buffer and read back": what an accepted write puts into the buffer, what an accepted read leaves, and that
-- one undoes the other. When they are refused is in FilesRefused.
use Rattle.std.specs.Prelude.{Ok}
use Prim.Native.Nat.{ℕ, ◌+◌, ◌*◌, ◌≤◌, ◌<◌}
use mathlib.Core.Bool.{true}
use mathlib.Core.Path.{◌≡◌, refl, sym, ap, ◌∙◌}
use mathlib.Core.List.{List}
use native.Mathlib.Omega.{arith}
use borrow.Author.Tests.{lt-ltb, eq-eqb}
use lib.ListN.{length, drop}
use lib.IntN.{pos, negsuc}
use Rattle.rules.specs.declared.Head.{Head}
use Rattle.rules.specs.declared.Refusal.{Refusal}
use Rattle.rules.specs.Limits.{records_most, file_most}
use Rattle.rules.specs.Tables.{Atlas, shelf_at, bucket_at}
use Rattle.rules.specs.Sound.{Lent, SoundBy, Sound}
use Rattle.rules.specs.Trace.{u32_at, signed, i32_at}
use Rattle.rules.specs.Builds.{Build, present, version_of}
use Rattle.rules.specs.Repair.{read_as}
use Rattle.rules.specs.Files.{file_of, is_file, version_in, head_in, shelf_in, bucket_in, shelves_stored, buckets_stored, Cells, Bytes, write, stored}
use Rattle.rules.specs.Files.{read_sound, read, read_by}
use Rattle.rules.specs.History.{file_in, read_into}
use Rattle.laws.proofs.Sound.Test.{lent_test, sound_tells}
use Rattle.laws.proofs.Sound.Below.{SameBelow, sound_earlier}
use Rattle.laws.proofs.Sound.Lies.{occupied_area, area_fits}
use Rattle.laws.proofs.Files.Layout.{length_file, version_in_law, head_in_law, shelf_in_law, bucket_in_law, file_same}
use Rattle.laws.proofs.Files.Shape.{is_file_law}
use Rattle.laws.proofs.Files.Bytes.{file_bytes}
use Rattle.laws.proofs.Files.Stored.{stored_shelf, stored_bucket, shelves_past, buckets_past}
use Rattle.laws.proofs.Files.Any.{stored_lent}
use Rattle.laws.proofs.Files.Repaired.{AsRead, sound_read, same_read}
use Rattle.laws.proofs.Files.Saving.{SavingDone, saving_done}
use Rattle.laws.proofs.Files.Ways.{ReadDone, read_done}

-- ---- a write

-- a file is at most 131,077 bytes long
pub file_most_law : (build : Build) (g : Atlas) → SoundBy build g → length (file_of build g) ≤ file_most
unfolding file_of
file_most_law build g p =
    let long = length_file (version_of build) g.head (shelf_at g.shelves) (bucket_at g.buckets) in
    omega (arith, long, p.steady.domain.shelves, p.steady.domain.buckets)

pub record WriteFile (build : Build) (g : Atlas) (out : List ℕ) (n : ℕ) : Type 0 where
  -- n bytes are the file, and those behind it are as they were
  pub file : file_in (write build g out) n ≡ file_of build g
  pub behind : drop n (write build g out).out ≡ drop n out
  pub bytes : n ≡ 37 + 14 * g.head.shelf_count + 18 * g.head.bucket_count
  pub most : n ≤ file_most

pub write_file : (build : Build) (g : Atlas) (out : List ℕ) (n : ℕ) → (write build g out).written ≡ Ok n → WriteFile build g out n
unfolding file_of
write_file build g out n e =
    let w : SavingDone build g (file_of build g) out n (write build g out).out = saving_done build Refusal.Buffer g (file_of build g) out n e in
    let long = length_file (version_of build) g.head (shelf_at g.shelves) (bucket_at g.buckets) in
    record {
      file = w.is;
      behind = w.behind;
      bytes = omega (arith, w.bytes, long);
      most = omega (arith, w.bytes, file_most_law build g w.sound);
    }

version_one : (build : Build) → version_of build ≡ 1
version_one Build.keeping = refl
version_one Build.holding = refl
version_one Build.naming = refl
version_one Build.dividing = refl
version_one Build.renewing = refl

-- of tables of 16-bit numbers these are bytes
pub write_bytes : (build : Build) (g : Atlas) → SoundBy build g → Cells g.shelves → Cells g.buckets → Bytes (file_of build g)
unfolding file_of
write_bytes build g p cs cb = file_bytes (version_of build) g (omega (arith, version_one build)) p.steady cs cb

-- "Equal tables give equal bytes"
pub write_equal : (build : Build) (g g' : Atlas) → SameBelow g g' → file_of build g ≡ file_of build g'
unfolding file_of
write_equal build g g' d = rw d.head (file_same (version_of build) g.head (shelf_at g.shelves) (shelf_at g'.shelves)
    (bucket_at g.buckets) (bucket_at g'.buckets) (λ i l. sym (d.shelf i l)) (λ k l. sym (d.bucket k l)))

-- ---- what is in the file of an atlas

module _ (build : Build) (g : Atlas) where
  written_version : version_in (file_of build g) ≡ version_of build
  unfolding file_of
  written_version = version_in_law (version_of build) g.head (shelf_at g.shelves) (bucket_at g.buckets)

  written_head : head_in (file_of build g) ≡ g.head
  unfolding file_of
  written_head = head_in_law (version_of build) g.head (shelf_at g.shelves) (bucket_at g.buckets)

  written_shelf : (i : ℕ) → i < g.head.shelf_count → shelf_in (file_of build g) i ≡ shelf_at g.shelves i
  unfolding file_of
  written_shelf = shelf_in_law (version_of build) g.head (shelf_at g.shelves) (bucket_at g.buckets)

  written_bucket : (k : ℕ) → k < g.head.bucket_count → bucket_in (file_of build g) k ≡ bucket_at g.buckets k
  unfolding file_of
  written_bucket = bucket_in_law (version_of build) g.head (shelf_at g.shelves) (bucket_at g.buckets)

  written_file : is_file (file_of build g) ≡ true
  unfolding file_of
  written_file = is_file_law (version_of build) g.head (shelf_at g.shelves) (bucket_at g.buckets)

-- other tables give other bytes
pub write_different : (build : Build) (g g' : Atlas) → file_of build g ≡ file_of build g' → SameBelow g g'
write_different build g g' e =
    let h : g'.head ≡ g.head = sym (written_head build g') ∙ ap head_in (sym e) ∙ written_head build g in
    record {
      head = h;
      shelf = λ i l.
          sym (written_shelf build g' i (rw h l)) ∙ ap (λ (file : List ℕ). shelf_in file i) (sym e) ∙ written_shelf build g i l;
      bucket = λ k l.
          sym (written_bucket build g' k (rw h l)) ∙ ap (λ (file : List ℕ). bucket_in file k) (sym e) ∙ written_bucket build g k l;
    }

-- ---- a read

-- "only sound tables are read"
pub read_sound_law : (build : Build) (file s b : List ℕ) (head : Head) → (read_by build file s b).made ≡ Ok head
    → SoundBy build (read_into head (read_by build file s b))
read_sound_law build file s b head e =
    let r : ReadDone build file s b head (read_by build file s b) = read_done build file s b head e in rw r.into r.sound

-- the records past its counts are as they were, to the end of the tables
pub read_past : (file s b : List ℕ) (head : Head) → (read file s b).made ≡ Ok head
    → (drop (5 * head.shelf_count) (read file s b).shelves ≡ drop (5 * head.shelf_count) s)
    × (drop (7 * head.bucket_count) (read file s b).buckets ≡ drop (7 * head.bucket_count) b)
unfolding stored
read_past file s b head e =
    let r : ReadDone present file s b head (read file s b) = read_done present file s b head e in
    let es : (read file s b).shelves ≡ shelves_stored (head_in file).shelf_count file s = ap (λ (g : Atlas). g.shelves) r.into in
    let eb : (read file s b).buckets ≡ buckets_stored present (head_in file).bucket_count file b = ap (λ (g : Atlas). g.buckets) r.into in
    (rw (es, r.head) (shelves_past (head_in file).shelf_count file s), rw (eb, r.head) (buckets_past present (head_in file).bucket_count file b))

-- the rows that a file's records become
pub stored_rows : (build : Build) (file s b : List ℕ) → Lent s b → (head_in file).shelf_count ≤ records_most → (head_in file).bucket_count ≤ records_most
    → ((i : ℕ) → i < (head_in file).shelf_count → shelf_at (stored build file s b).shelves i ≡ shelf_in file i)
    × ((k : ℕ) → k < (head_in file).bucket_count → bucket_at (stored build file s b).buckets k ≡ read_as build (bucket_in file k))
unfolding stored
stored_rows build file s b lent ls lb = (
  stored_shelf (head_in file).shelf_count file s (omega (arith, lent.shelves)),
  stored_bucket build (head_in file).bucket_count file b (omega (arith, lent.buckets)),
)

-- ---- there and back: what an earlier build wrote, read by a build

module _ (build earlier : Build) (g : Atlas) (s b : List ℕ) (p : SoundBy earlier g) (lent : Lent s b) where
  stored_read : AsRead build g (stored build (file_of earlier g) s b)
  unfolding stored
  stored_read =
      let h : head_in (file_of earlier g) ≡ g.head = written_head earlier g in
      let rows = stored_rows build (file_of earlier g) s b lent (rw h p.steady.domain.shelves) (rw h p.steady.domain.buckets) in
      record {
        head = h;
        shelf = λ i l. rows.0 i (rw h l) ∙ written_shelf earlier g i l;
        bucket = λ k l. rows.1 k (rw h l) ∙ ap (read_as build) (written_bucket earlier g k l);
      }

  accepted_back : (read_by build (file_of earlier g) s b).made ≡ Ok g.head
  unfolding read_by read_sound
  accepted_back =
      let q : SoundBy build (stored build (file_of earlier g) s b) = sound_read stored_read (stored_lent build (file_of earlier g) s b lent) p in
      simp (
        (lent_test s b).shown lent,
        written_file earlier g,
        eq-eqb _ _ (written_version earlier g ∙ version_one earlier),
        (sound_tells (stored build (file_of earlier g) s b)).shown q,
        written_head earlier g,
      )

  -- what is written and read is the same header, and the same records below its counts, each bucket as the build reads it
  pub read_repaired : ((read_by build (file_of earlier g) s b).made ≡ Ok g.head)
      × AsRead build g (read_into g.head (read_by build (file_of earlier g) s b))
  read_repaired = (accepted_back, rw (read_done build (file_of earlier g) s b g.head accepted_back).into stored_read)

-- T-08: what is sound now has nothing to repair, and so "a file of this build"; whichever build wrote it
pub read_back : (build : Build) (g : Atlas) (s b : List ℕ) → Sound g → Lent s b
    → ((read (file_of build g) s b).made ≡ Ok g.head) × SameBelow g (read_into g.head (read (file_of build g) s b))
read_back build g s b p lent = let r = read_repaired present build g s b (sound_earlier p) lent in (r.0, same_read r.1 (p.rested refl))

-- ---- "occupied as a signed 32-bit number"

figure_small : {build : Build} (g : Atlas) → SoundBy build g → g.head.occupied < 2147483648
figure_small g p = omega (arith, occupied_area p.steady, area_fits p.steady)

signed_small : (n : ℕ) → n < 2147483648 → signed n ≡ pos n
unfolding signed
signed_small n l = simp (lt-ltb _ _ l)

pub figure_signed : (build : Build) (g : Atlas) → SoundBy build g → i32_at (file_of build g) 29 ≡ pos g.head.occupied
unfolding head_in
figure_signed build g p = ap signed (ap (λ (h : Head). h.occupied) (written_head build g)) ∙ signed_small g.head.occupied (figure_small g p)

-- a file whose figure is negative is never accepted
pub negative_unsound : (file s b : List ℕ) (m : ℕ) → i32_at file 29 ≡ negsuc m → (head : Head) → (read file s b).made ≡ Ok head → ⊥
unfolding stored head_in
negative_unsound file s b m e head a =
    let q : signed (u32_at file 29) ≡ pos (u32_at file 29) = signed_small (u32_at file 29)
    (figure_small (stored present file s b) (read_done present file s b head a).sound) in
    let z : ◌≡◌ {A = ℕ} 0 1 = cc in
    omega arith
