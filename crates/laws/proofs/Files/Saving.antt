-- The ways through the call that puts a text into a lent buffer: what holds of a refusal and of the accepted way holds of the call. The accepted way
-- comes with the tests that led there; a refusal leaves the buffer as it was.
use Rattle.std.specs.Prelude.{Ok, Err}
use Prim.Native.Nat.{ℕ, ◌≤◌, ◌<◌}
use mathlib.Core.Bool.{true, false}
use mathlib.Core.Path.{◌≡◌, refl, ap, ◌∙◌}
use mathlib.Core.List.{List, ◌++◌}
use native.Mathlib.Nat.{zero-add}
use native.Mathlib.Omega.{arith}
use borrow.Author.Tests.{ltb-false, lt-ltb, le-ltb}
use lib.Dec.{ltb}
use lib.ListN.{length, take, drop}
use lib.Seq.{sets, sets-eq, take_at, drop_at}
use Rattle.rules.specs.declared.Refusal.{Refusal}
use Rattle.rules.specs.Tables.{Atlas}
use Rattle.rules.specs.Builds.{Build}
use Rattle.rules.specs.Sound.{SoundBy, is_sound_by}
use Rattle.rules.specs.Saving.{Saved, saved, saving}
use Rattle.laws.proofs.Tests.Flags.{split}
use Rattle.laws.proofs.Sound.Test.{sound_test}
use Rattle.laws.proofs.Results.{ok_one, err_not_ok}

-- an atlas and a buffer that are accepted
pub record Saves (build : Build) (g : Atlas) (text out : List ℕ) : Type 0 where
  pub sound : is_sound_by build g ≡ true
  pub room : ltb (length out) (length text) ≡ false

pub saving_ways : (build : Build) (P : Saved → Type 0) (short : Refusal) (g : Atlas) (text out : List ℕ) → ((r : Refusal) → P (saved (Err r) out))
    → (Saves build g text out → P (saved (Ok (length text)) (sets out 0 text))) → P (saving build short g text out)
unfolding saving
saving_ways build P short g text out no' yes' =
    split (is_sound_by build g) (λ e.
    split (ltb (length out) (length text)) (λ f. simp (e, f) (no' short)) (λ f. simp (e, f) (yes' (record { sound = e; room = f }))))
    (λ e. simp e (no' Refusal.Tables))

-- n bytes of the buffer are the text, and those behind it are as they were
pub record SavingDone (build : Build) (g : Atlas) (text out : List ℕ) (n : ℕ) (after : List ℕ) : Type 0 where
  pub sound : SoundBy build g
  pub room : n ≤ length out
  pub bytes : n ≡ length text
  pub is : take n after ≡ text
  pub behind : drop n after ≡ drop n out

-- a list that a shorter one was stored at the start of
sets_start : (vs l : List ℕ) → length vs ≤ length l → sets l 0 vs ≡ vs ++ drop (length vs) l
sets_start vs l h = rw zero-add at (sets-eq vs l 0 (rw zero-add h))

pub sets_take : (vs l : List ℕ) → length vs ≤ length l → take (length vs) (sets l 0 vs) ≡ vs
sets_take vs l h = ap (take (length vs)) (sets_start vs l h) ∙ take_at vs (drop (length vs) l) (length vs) refl

sets_drop : (vs l : List ℕ) → length vs ≤ length l → drop (length vs) (sets l 0 vs) ≡ drop (length vs) l
sets_drop vs l h = ap (drop (length vs)) (sets_start vs l h) ∙ drop_at vs (drop (length vs) l) (length vs) refl

pub saving_done : (build : Build) (short : Refusal) (g : Atlas) (text out : List ℕ) (n : ℕ) → (saving build short g text out).written ≡ Ok n
    → SavingDone build g text out n (saving build short g text out).out
saving_done build short g text out n =
    saving_ways build (λ (w : Saved). w.written ≡ Ok n → SavingDone build g text out n w.out) short g text out (λ r e. err_not_ok e)
    (λ w e.
    let room : length text ≤ length out = omega (arith, ltb-false (length out) (length text) w.room) in
    rw (ok_one e) (record {
      sound = (sound_test {build = build} g).0 w.sound;
      room = room;
      bytes = refl;
      is = sets_take text out room;
      behind = sets_drop text out room;
    }))

-- ---- the two ways behind 1

module _ {build : Build} (short : Refusal) {g : Atlas} (text out : List ℕ) (p : SoundBy build g) where
  pub saving_short : length out < length text → saved (Err short) out ≡ saving build short g text out
  unfolding saving
  saving_short h = simp ((sound_test g).1 p, lt-ltb (length out) (length text) h)

  pub saving_whole : {n : ℕ} {after : List ℕ} → length text ≤ length out → n ≡ length text → after ≡ sets out 0 text
      → saved (Ok n) after ≡ saving build short g text out
  unfolding saving
  saving_whole h k s = rw (k, s) (simp ((sound_test g).1 p, le-ltb (length out) (length text) h))

-- a refusal changes nothing
pub saving_refused : (build : Build) (short : Refusal) (g : Atlas) (text out : List ℕ) (r : Refusal)
    → (saving build short g text out).written ≡ Err r
    → (saving build short g text out).out ≡ out
saving_refused build short g text out r =
    saving_ways build (λ (w : Saved). w.written ≡ Err r → w.out ≡ out) short g text out (λ q e. refl) (λ w e. cc)
