-- Where any calls of a build at all lead from a fresh atlas whose tables nothing else writes: the calls of a run (rules/specs/History.antt), but ids
-- that are not held too among what is handed back, and any bytes among what is read.
use Rattle.std.specs.Prelude.{Ok}
use Prim.Native.Nat.{ℕ}
use mathlib.Core.Path.{◌≡◌}
use mathlib.Core.List.{List}
use lib.IntN.{ℤ}
use Rattle.rules.specs.declared.Head.{Head}
use Rattle.rules.specs.Tables.{Atlas, atlas}
use Rattle.rules.specs.Builds.{Build}
use Rattle.rules.specs.Calls.{new}
use Rattle.rules.specs.Files.{read_by}
use Rattle.rules.specs.History.{Call, step, read_into}

pub data Reached : Build → Atlas → Type 0 where
  fresh : (build : Build) (w h aw ah n : ℤ) (v : ℕ) (s b : List ℕ) (head : Head) → new w h aw ah n v s b ≡ Ok head → Reached build (atlas head s b)
  next : (build : Build) (g : Atlas) → Reached build g → (c : Call) → Reached build (step build c g).state
  restored : (build : Build) (file s b : List ℕ) (head : Head) → (read_by build file s b).made ≡ Ok head
      → Reached build (read_into head (read_by build file s b))
