-- T-08, "Files from T-01 written earlier are read with that repair": what is read is what a build before T-08 reads, repaired; nothing else becomes a
-- file. Ids that a repaired bucket had issued are refused.
use Rattle.std.specs.Prelude.{Ok, Err}
use Prim.Native.Nat.{ℕ, ◌≤◌, ◌<◌}
use mathlib.Core.Path.{◌≡◌, refl, sym, ap, ◌∙◌}
use mathlib.Core.Logic.{◌≢◌}
use mathlib.Core.List.{List}
use native.Mathlib.Omega.{arith}
use borrow.Author.Tests.{eqb-true}
use Rattle.rules.specs.declared.Bucket.{Bucket}
use Rattle.rules.specs.declared.Head.{Head}
use Rattle.rules.specs.declared.Refusal.{Refusal}
use Rattle.rules.specs.Limits.{records_most}
use Rattle.rules.specs.Ids.{id_bucket, id_generation, next_generation}
use Rattle.rules.specs.Tables.{Atlas, shelf_at, bucket_at}
use Rattle.rules.specs.Sound.{Lent, SoundBy, Sound}
use Rattle.rules.specs.Builds.{Build, present}
use Rattle.rules.specs.Repair.{read_as}
use Rattle.rules.specs.Calls.{deallocate}
use Rattle.rules.specs.Files.{file_of, version_in, head_in, shelf_in, bucket_in, Bytes, stored, read}
use Rattle.rules.specs.History.{read_into}
use Rattle.laws.proofs.Tests.Tells.{false_true}
use Rattle.laws.proofs.Sound.Below.{sound_alike}
use Rattle.laws.proofs.Files.Layout.{file_same}
use Rattle.laws.proofs.Files.Back.{file_from_law}
use Rattle.laws.proofs.Files.Any.{stored_lent}
use Rattle.laws.proofs.Files.Repaired.{AsRead, sound_read, alike_back, risen_one, repaired_worn}
use Rattle.laws.proofs.Files.Ways.{ReadDone, read_done}
use Rattle.promises.proofs.Files.{stored_rows}
use Rattle.promises.proofs.Renewed.{stale_10}

-- the atlas that a file's records are, unrepaired: as a build before T-08 reads it
abbrev pub in_file : List ℕ → List ℕ → List ℕ → Atlas
in_file file s b = stored Build.dividing file s b

-- a read accepts only what a write of a build before T-08 makes, and leaves that atlas, repaired
pub record OnlyWritten (file s b : List ℕ) (left : Atlas) : Type 0 where
  pub written : file ≡ file_of Build.dividing (in_file file s b)
  pub sound : SoundBy Build.dividing (in_file file s b)
  pub read : AsRead present (in_file file s b) left

module _ (file s b : List ℕ) (lent : Lent s b) (ls : (head_in file).shelf_count ≤ records_most) (lb : (head_in file).bucket_count ≤ records_most) where
  -- the records of a file as a build reads them, from those of the file
  as_read : (build : Build) → AsRead build (in_file file s b) (stored build file s b)
  unfolding stored
  as_read build =
      let rows = stored_rows build file s b lent ls lb in
      let was = stored_rows Build.dividing file s b lent ls lb in
      record {
        head = refl;
        shelf = λ i l. rows.0 i l ∙ sym (was.0 i l);
        bucket = λ k l. rows.1 k l ∙ ap (read_as build) (sym (was.1 k l));
      }

  -- what the present build's test says after the repair, that of the build before said before it
  pub repaired_sound : SoundBy present (stored present file s b) → SoundBy Build.dividing (in_file file s b)
  repaired_sound p = sound_alike (alike_back (as_read present)) (stored_lent Build.dividing file s b lent) p (λ e. absurd (false_true e))

  pub sound_repaired : SoundBy Build.dividing (in_file file s b) → SoundBy present (stored present file s b)
  sound_repaired p = sound_read (as_read present) (stored_lent present file s b lent) p

pub only_written : (file s b : List ℕ) → Bytes file → (head : Head) → (read file s b).made ≡ Ok head
    → OnlyWritten file s b (read_into head (read file s b))
unfolding file_of stored
only_written file s b bytes head e =
    let r : ReadDone present file s b head (read file s b) = read_done present file s b head e in
    let d = r.sound.steady.domain in
    let rows = stored_rows Build.dividing file s b r.lent d.shelves d.buckets in
    let v : version_in file ≡ 1 = eqb-true (version_in file) 1 r.reads.version in
    record {
      written = file_from_law file bytes r.reads.formed ∙ rw v (file_same 1 (head_in file) (shelf_in file) (shelf_at (in_file file s b).shelves)
          (bucket_in file) (bucket_at (in_file file s b).buckets) (λ i l. sym (rows.0 i l)) (λ k l. sym (rows.1 k l)));
      sound = repaired_sound file s b r.lent d.shelves d.buckets r.sound;
      read = rw r.into (as_read file s b r.lent d.shelves d.buckets present);
    }

-- T-08: what was no generation is none after the repair
pub no_generation : (file s b : List ℕ) (head : Head) → (read file s b).made ≡ Ok head
    → (k : ℕ) → k < (head_in file).bucket_count → (bucket_in file k).generation < 256
unfolding stored
no_generation file s b head e k l =
    let r : ReadDone present file s b head (read file s b) = read_done present file s b head e in
    let d = r.sound.steady.domain in
    let was = stored_rows Build.dividing file s b r.lent d.shelves d.buckets in
    rw (was.1 k l) at ((repaired_sound file s b r.lent d.shelves d.buckets r.sound).steady.generations k l)

-- ---- ids that were issued before

-- of a bucket that the repair changes, any id of the generation that it had is refused from the reading on, as 10
pub repaired_stale : {g g' : Atlas} → AsRead present g g' → SoundBy Build.dividing g → Sound g' → (id : ℕ) → id_bucket id < g.head.bucket_count
    → (bucket_at g.buckets (id_bucket id)).refs ≡ 0 → (bucket_at g.buckets (id_bucket id)).items ≢ 0
    → id_generation id ≡ (bucket_at g.buckets (id_bucket id)).generation → (deallocate id g').answer ≡ Err Refusal.Stale
repaired_stale {g} {g'} d was p id l z ne e =
    let v : Bucket = bucket_at g.buckets (id_bucket id) in
    let low : v.generation < 256 = was.steady.generations (id_bucket id) l in
    let up : (bucket_at g'.buckets (id_bucket id)).generation ≡ next_generation v.generation =
    ap (λ (u : Bucket). u.generation) (d.bucket (id_bucket id) l ∙ repaired_worn v z ne) ∙ risen_one v.generation low in
    stale_10 g' p id (rw d.head l) (λ q. omega (arith, sym up ∙ q ∙ e))
