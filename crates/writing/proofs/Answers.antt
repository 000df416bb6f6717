-- What a write comes to, by the tests that led there: of tables that are sound, the buffer's length; with the list, the verdict on both.
-- The bytes are those of Records.antt.
use Rattle.std.specs.Prelude.{Ok, Err, Result}
use Prim.Native.Nat.{ℕ, ◌+◌, ◌*◌, ◌≤◌, ◌<◌}
use mathlib.Core.Path.{◌≡◌, refl, sym, ◌∙◌}
use mathlib.Core.List.{List}
use native.Mathlib.Omega.{arith}
use lib.ListN.{length}
use lib.Seq.{sets}
use Rattle.rules.specs.declared.Head.{Head}
use Rattle.rules.specs.declared.Allocation.{Allocation}
use Rattle.rules.specs.declared.Refusal.{Refusal}
use Rattle.rules.specs.Tables.{Atlas, shelf_at, bucket_at}
use Rattle.rules.specs.Sound.{Sound}
use Rattle.rules.specs.Builds.{present, version_of}
use Rattle.rules.specs.Files.{saved, write, file_of, bucket_place}
use Rattle.rules.specs.Listed.{holding, verdict, judged}
use Rattle.rules.specs.Listed as listed
use Rattle.laws.proofs.Files.Layout.{length_file}
use Rattle.laws.proofs.Files.Saving.{saving_short, saving_whole}
use Rattle.laws.proofs.Held.Calls.{judged_is}

-- how many bytes an atlas with that header takes
abbrev bytes : Head → ℕ
bytes head = bucket_place head.shelf_count head.bucket_count + 4

-- the rows that are written are there
pub rows_there : (g : Atlas) → Sound g
    → (5 * g.head.shelf_count ≤ length g.shelves) × (7 * g.head.bucket_count ≤ length g.buckets)
rows_there g p =
    let s = p.steady in
    (omega (arith, s.lent.shelves, s.domain.shelves), omega (arith, s.lent.buckets, s.domain.buckets))

module _ (g : Atlas) (out : List ℕ) where
  pub file_length : length (file_of present g) ≡ bytes g.head
  unfolding file_of
  file_length = length_file (version_of present) g.head (shelf_at g.shelves) (bucket_at g.buckets)

  pub short_buffer : Sound g → length out < bytes g.head → saved (Err Refusal.Buffer) out ≡ write present g out
  short_buffer p h = saving_short Refusal.Buffer (file_of present g) out p (omega (arith, file_length))

  pub file_written : {n : ℕ} {after : List ℕ} → Sound g → bytes g.head ≤ length out → n ≡ bytes g.head
      → after ≡ sets out 0 (file_of present g) → saved (Ok n) after ≡ write present g out
  file_written p h k s = saving_whole Refusal.Buffer (file_of present g) out p (omega (arith, file_length)) (k ∙ sym file_length) s

  -- with the list, by the verdict of the tests
  pub write_is : (list : List Allocation) (v : Result ℕ Refusal) → v ≡ verdict (holding g list)
      → judged (λ q. saved (Err q) out) (λ n. write present g out) v ≡ listed.write present (holding g list) out
  unfolding listed.write
  write_is list v e = judged_is _ _ (write present g out) (holding g list) v e (λ n p. refl)
