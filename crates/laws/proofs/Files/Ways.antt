-- The ways through a read: what holds of a refusal and of the accepted way holds of the call. The accepted way comes with the
-- tests that led there; a refusal leaves what was lent as it was.
use Rattle.std.specs.Prelude.{Ok, Err}
use Prim.Native.Nat.{ℕ}
use mathlib.Core.Bool.{true}
use mathlib.Core.Path.{◌≡◌}
use mathlib.Core.List.{List}
use lib.Dec.{eqb}
use Rattle.rules.specs.declared.Head.{Head}
use Rattle.rules.specs.declared.Refusal.{Refusal}
use Rattle.rules.specs.Builds.{Build}
use Rattle.rules.specs.Sound.{Lent, SoundBy, is_lent, is_sound_by}
use Rattle.rules.specs.Files.{Loaded, loaded, read_by, read_sound, is_file, version_in, head_in, stored}
use Rattle.rules.specs.History.{read_into}
use Rattle.laws.proofs.Tests.Flags.{split}
use Rattle.laws.proofs.Sound.Test.{lent_test, sound_test}
use Rattle.laws.proofs.Results.{ok_one, err_not_ok}

-- bytes and lent tables that a read accepts
pub record Reads (build : Build) (file s b : List ℕ) : Type 0 where
  pub lent : is_lent s b ≡ true
  pub formed : is_file file ≡ true
  pub version : eqb (version_in file) 1 ≡ true
  pub sound : is_sound_by build (stored build file s b) ≡ true

pub read_ways : (build : Build) (P : Loaded → Type 0) (file s b : List ℕ) → ((r : Refusal) → P (loaded (Err r) s b))
    → (Reads build file s b → P (loaded (Ok (head_in file)) (stored build file s b).shelves (stored build file s b).buckets))
    → P (read_by build file s b)
unfolding read_by read_sound
read_ways build P file s b no' yes' =
    split (is_lent s b) (λ e.
    split (is_file file) (λ f.
    split (eqb (version_in file) 1) (λ k.
    split (is_sound_by build (stored build file s b)) (λ z. simp (e, f, k, z) (yes' (record { lent = e; formed = f; version = k; sound = z })))
    (λ z. simp (e, f, k, z) (no' Refusal.Tables)))
    (λ k. simp (e, f, k) (no' Refusal.Version)))
    (λ f. simp (e, f) (no' Refusal.Broken)))
    (λ e. simp e (no' Refusal.Tables))

-- an accepted read: the atlas that it leaves is that in the file, over the lent tables
pub record ReadDone (build : Build) (file s b : List ℕ) (made : Head) (after : Loaded) : Type 0 where
  pub reads : Reads build file s b
  pub lent : Lent s b
  pub sound : SoundBy build (stored build file s b)
  pub head : made ≡ head_in file
  pub into : read_into made after ≡ stored build file s b

pub read_done : (build : Build) (file s b : List ℕ) (head : Head) → (read_by build file s b).made ≡ Ok head
    → ReadDone build file s b head (read_by build file s b)
unfolding stored
read_done build file s b head =
    read_ways build (λ (l : Loaded). l.made ≡ Ok head → ReadDone build file s b head l) file s b (λ r e. err_not_ok e)
    (λ r e. record {
      reads = r;
      lent = (lent_test s b).holds r.lent;
      sound = (sound_test {build = build} (stored build file s b)).0 r.sound;
      head = ok_one e;
      into = rw (ok_one e);
    })
