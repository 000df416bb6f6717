-- A text of an atlas put into a lent buffer: a file (T-01), a picture (T-07). What is said, and what is in the buffer after it.
use Rattle.std.specs.Prelude.{ℕ, List, ltb, length, if◌then◌else◌, Ok, Err, Result}
use Rattle.std.proofs.lemmas.List.Edits.{sets}
use Rattle.rules.specs.declared.Refusal.{Refusal}
use Rattle.rules.specs.Tables.{Atlas}
use Rattle.rules.specs.Builds.{Build}
use Rattle.rules.specs.Sound.{is_sound_by}

pub record Saved : Type 0 where
  pub written : Result ℕ Refusal
  pub out : List ℕ

abbrev pub saved : Result ℕ Refusal → List ℕ → Saved
saved w out = record { written = w; out = out }

-- 1 for the tables, then `short` where the buffer is shorter than the text; else how many bytes the text has, which stand from the buffer's start
-- on. What is behind them is as it was, and a refusal leaves all of it so.
unfoldable pub saving : Build → Refusal → Atlas → List ℕ → List ℕ → Saved
saving build short g text out =
    if is_sound_by build g
    then (if ltb (length out) (length text) then saved (Err short) out
    else saved (Ok (length text)) (sets out 0 text))
    else saved (Err Refusal.Tables) out
