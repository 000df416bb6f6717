-- T-07, "A picture for the service report": when a picture is refused, with which number and in which order, and what an accepted one puts into the
-- buffer. What is drawn is in the crate `pictured`.
use Rattle.std.specs.Prelude.{Ok, Err}
use Prim.Native.Nat.{ℕ, ◌≤◌, ◌<◌}
use mathlib.Core.Path.{◌≡◌}
use mathlib.Core.List.{List}
use native.Mathlib.Omega.{arith}
use lib.ListN.{length, take, drop}
use Rattle.rules.specs.declared.Refusal.{Refusal}
use Rattle.rules.specs.Answers.{written_says}
use Rattle.rules.specs.Limits.{picture_most}
use Rattle.rules.specs.Tables.{Atlas}
use Rattle.rules.specs.Builds.{present}
use Rattle.rules.specs.Sound.{Sound}
use Rattle.rules.specs.Picture.{picture_of, picture}
use Rattle.laws.proofs.Files.Saving.{SavingDone, saving_done, saving_refused}
use Rattle.laws.proofs.Picture.Most.{picture_most_law}
use Rattle.promises.proofs.Exactly.{Exactly}
use Rattle.promises.proofs.Saving.{SavingRefusals, saving_refusals}

-- "Refusals: 1, then 24 output buffer too short"
pub record PictureRefusals (g : Atlas) (out : List ℕ) : Type 0 where
  pub one : Exactly 1 (written_says (picture g out).written) (Sound g → ⊥)
  pub twenty_four : Exactly 24 (written_says (picture g out).written) (Sound g × (length out < length (picture_of g)))
  -- else it is accepted, with as many bytes as the picture has
  pub done : Sound g → length (picture_of g) ≤ length out → (picture g out).written ≡ Ok (length (picture_of g))
  pub only : (n : ℕ) → (picture g out).written ≡ Ok n → Sound g × (length (picture_of g) ≤ length out) × (n ≡ length (picture_of g))

pub picture_refusals : (g : Atlas) (out : List ℕ) → PictureRefusals g out
picture_refusals g out =
    let r : SavingRefusals present Refusal.Output g (picture_of g) out = saving_refusals present Refusal.Output (λ e. omega arith) g (picture_of g) out in
    record { one = r.one; twenty_four = r.shorter; done = r.done; only = r.only }

-- ".. with the buffer unchanged"
pub picture_refused : (g : Atlas) (out : List ℕ) (r : Refusal) → (picture g out).written ≡ Err r → (picture g out).out ≡ out
picture_refused g out r = saving_refused present Refusal.Output g (picture_of g) out r

pub record PictureText (g : Atlas) (out : List ℕ) (n : ℕ) : Type 0 where
  -- n bytes are the picture, and those behind it are as they were
  pub text : take n (picture g out).out ≡ picture_of g
  pub behind : drop n (picture g out).out ≡ drop n out
  pub bytes : n ≡ length (picture_of g)
  pub most : n ≤ picture_most

pub picture_text : (g : Atlas) (out : List ℕ) (n : ℕ) → (picture g out).written ≡ Ok n → PictureText g out n
picture_text g out n e =
    let w : SavingDone present g (picture_of g) out n (picture g out).out = saving_done present Refusal.Output g (picture_of g) out n e in
    record { text = w.is; behind = w.behind; bytes = w.bytes; most = omega (arith, w.bytes, picture_most_law g w.sound) }
