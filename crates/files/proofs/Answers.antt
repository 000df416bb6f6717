-- What a read comes to, by the tests that led there: the room, the bytes as a file, its version, its tables. What stands in the lent tables after
-- an accepted one is Storing.antt's.
use Rattle.std.specs.Prelude.{Ok, Err}
use Prim.Native.Nat.{ℕ, ◌*◌, ◌≤◌}
use mathlib.Core.Bool.{true, false}
use mathlib.Core.Path.{◌≡◌, ap}
use mathlib.Core.Logic.{◌≢◌}
use mathlib.Core.List.{List}
use native.Mathlib.Omega.{arith}
use borrow.Author.Tests.{eq-eqb, ne_eqb}
use lib.ListN.{length}
use Rattle.rules.specs.declared.Head.{Head}
use Rattle.rules.specs.declared.Refusal.{Refusal}
use Rattle.rules.specs.Limits.{head_bytes}
use Rattle.rules.specs.Tables.{Atlas, atlas}
use Rattle.rules.specs.Builds.{present}
use Rattle.rules.specs.Sound.{Lent, is_lent, is_sound}
use Rattle.rules.specs.Files.{loaded, read, read_by, read_sound, is_file, version_in, head_in, stored}
use Rattle.laws.proofs.Tests.Flags.{split}
use Rattle.laws.proofs.Sound.Test.{lent_test, sound_test}
use Rattle.laws.proofs.Files.Shape.{shape_tells}
use Rattle.inspect.specs.Inspected.{Known}

module _ (file : List ℕ) (e : is_file file ≡ true) where
  pub head_whole : head_bytes ≤ length file
  head_whole = omega (arith, ((shape_tells file).holds e).long)

  pub opened : {head : Head} → head ≡ head_in file → Known file head
  opened p = record { known = p; whole = rw p (omega (arith, ((shape_tells file).holds e).long)) }

module _ (file s b : List ℕ) where
  pub no_room : (Lent s b → ⊥) → loaded (Err Refusal.Tables) s b ≡ read file s b
  unfolding read_by
  no_room n = split (is_lent s b) (λ e. absurd (n ((lent_test s b).holds e))) (λ e. simp e)

  pub no_file : Lent s b → is_file file ≡ false → loaded (Err Refusal.Broken) s b ≡ read file s b
  unfolding read_by
  no_file l e = simp ((lent_test s b).shown l, e)

  pub other_version : Lent s b → is_file file ≡ true → version_in file ≢ 1 → loaded (Err Refusal.Version) s b ≡ read file s b
  unfolding read_by
  other_version l e n = simp ((lent_test s b).shown l, e, ne_eqb (version_in file) 1 n)

  pub unsound_file : Lent s b → is_file file ≡ true → version_in file ≡ 1 → is_sound (stored present file s b) ≡ false
      → loaded (Err Refusal.Tables) s b ≡ read file s b
  unfolding read_by read_sound
  unsound_file l e v z = simp ((lent_test s b).shown l, e, eq-eqb (version_in file) 1 v, z)

  -- the rows that are stored have room
  pub rows_fit : {head : Head} → head ≡ head_in file → Lent s b → is_sound (stored present file s b) ≡ true
      → (5 * head.shelf_count ≤ length s) × (7 * head.bucket_count ≤ length b)
  unfolding stored
  rows_fit p l z =
      let d = ((sound_test {build = present} (stored present file s b)).0 z).steady.domain in
      rw p (omega (arith, l.shelves, d.shelves), omega (arith, l.buckets, d.buckets))

  stored_is : {head : Head} {s' b' : List ℕ} → atlas head s' b' ≡ stored present file s b
      → loaded (Ok head) s' b' ≡ loaded (Ok (head_in file)) (stored present file s b).shelves (stored present file s b).buckets
  unfolding stored
  stored_is p = ap (λ (g : Atlas). loaded (Ok g.head) g.shelves g.buckets) p

  pub file_read : {head : Head} {s' b' : List ℕ} → Lent s b → is_file file ≡ true → version_in file ≡ 1 → is_sound (stored present file s b) ≡ true
      → atlas head s' b' ≡ stored present file s b → loaded (Ok head) s' b' ≡ read file s b
  unfolding read_by read_sound
  file_read l e v z p = simp ((lent_test s b).shown l, e, eq-eqb (version_in file) 1 v, z) (stored_is p)
