-- A text put into a lent buffer, a file (T-01) or a picture (T-07): when it is refused, with which number and in which order. `short` is the refusal of
-- a buffer that is too short.
use Rattle.std.specs.Prelude.{Ok}
use Prim.Native.Nat.{ℕ, ◌≤◌, ◌<◌}
use mathlib.Core.Bool.{Bool}
use mathlib.Core.Path.{◌≡◌, refl, sym}
use mathlib.Core.Logic.{◌≢◌}
use mathlib.Core.List.{List, [], ◌∷◌}
use native.Mathlib.Omega.{arith}
use borrow.Author.Tests.{ne_eqb, le-ltb}
use lib.Dec.{ltb}
use lib.ListN.{length}
use Rattle.rules.specs.declared.Refusal.{Refusal}
use Rattle.rules.specs.Answers.{number, written_says}
use Rattle.rules.specs.Tables.{Atlas}
use Rattle.rules.specs.Builds.{Build}
use Rattle.rules.specs.Sound.{SoundBy, is_sound_by}
use Rattle.rules.specs.Saving.{Saved, saving}
use Rattle.laws.proofs.Tests.Tells.{tells_ltb}
use Rattle.laws.proofs.Sound.Test.{sound_tells}
use Rattle.laws.proofs.Files.Saving.{SavingDone, saving_done}
use Rattle.promises.proofs.Exactly.{Exactly, other, longer, never, first, failed, passed}

abbrev pub saved_says : Saved → List ℕ
saved_says s = written_says s.written

-- 1, then that of a short buffer
pub record SavingRefusals (build : Build) (short : Refusal) (g : Atlas) (text out : List ℕ) : Type 0 where
  pub one : Exactly 1 (saved_says (saving build short g text out)) (SoundBy build g → ⊥)
  pub shorter : Exactly (number short) (saved_says (saving build short g text out)) (SoundBy build g × (length out < length text))
  -- else it is accepted, with as many bytes as the text has
  pub done : SoundBy build g → length text ≤ length out → (saving build short g text out).written ≡ Ok (length text)
  pub only : (n : ℕ) → (saving build short g text out).written ≡ Ok n → SoundBy build g × (length text ≤ length out) × (n ≡ length text)

module _ (build : Build) (short : Refusal) (another : number short ≢ 1) (g : Atlas) (text out : List ℕ) where
  abbrev lacks : Bool
  lacks = ltb (length out) (length text)

  pub saving_refusals : SavingRefusals build short g text out
  unfolding saving
  saving_refusals = record {
    one = failed saved_says 1 (is_sound_by build g) _ _ (sound_tells g)
        (never saved_says 1 lacks _ _ (other (ne_eqb (number short) 1 another)) (other refl)) refl;
    shorter = passed saved_says (number short) (is_sound_by build g) _ _ (sound_tells g)
        (first saved_says (number short) lacks _ _ (tells_ltb (length out) (length text)) refl longer)
        (other (ne_eqb 1 (number short) (λ e. another (sym e))));
    done = λ s l. simp ((sound_tells g).shown s, le-ltb _ _ l);
    only = λ n e. let w : SavingDone build g text out n (saving build short g text out).out = saving_done build short g text out n e in
        (w.sound, omega (arith, w.room, w.bytes), w.bytes);
  }

-- no other number is said
pub saving_unsaid : (build : Build) (short : Refusal) (g : Atlas) (text out : List ℕ) (n : ℕ) → n ≢ 1 → n ≢ number short
    → saved_says (saving build short g text out) ≢ n ∷ []
unfolding saving
saving_unsaid build short g text out n one ne =
    never saved_says n (is_sound_by build g) _ _
    (never saved_says n (ltb (length out) (length text)) _ _ (other (ne_eqb (number short) n (λ e. ne (sym e)))) longer)
    (other (ne_eqb 1 n (λ e. one (sym e))))
