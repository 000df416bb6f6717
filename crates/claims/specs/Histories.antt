-- What holds after any calls from a fresh atlas and any restarts: demand 3, sound tables, a held id taken back, and what the reading calls tell.
use Rattle.std.specs.Prelude.{ℕ, ◌-◌, ◌*◌, ◌≡◌, ◌≢◌, List, [], ◌∷◌, Ok, Err}
use Rattle.rules.specs.declared.Refusal.{Refusal}
use Rattle.rules.specs.Tables.{Atlas}
use Rattle.rules.specs.Answers.{sides_says, flag_says, figure_says}
use Rattle.rules.specs.Calls.{clear_by, deallocate_by, size, is_empty, allocated_space, free_space_of}
use Rattle.rules.specs.Builds.{Build, present}
use Rattle.rules.specs.History.{Event, Listing, Run, Kept, Holds, held, figure}

-- `kept`
abbrev pub AllKept : Type 0
AllKept = (build : Build) (past : List Event) (g : Atlas) (x : Listing) → Run build past g x → Kept past g

-- `never_1`, of one call; of every build `reached_sound`
abbrev pub NeverTables : Type 0
NeverTables = (build : Build) (past : List Event) (g : Atlas) (x : Listing) → Run build past g x
    → (clear_by build g).answer ≢ Err Refusal.Tables

-- `held_accepted`
abbrev pub HeldAccepted : Type 0
HeldAccepted = (build : Build) (past : List Event) (g : Atlas) (x : Listing) → Run build past g x
    → (id : ℕ) → Holds id (held past) → (deallocate_by build id g).answer ≡ (Ok tt)

-- `empty_held`
abbrev pub EmptyHeld : Type 0
EmptyHeld = (past : List Event) (g : Atlas) (x : Listing) → Run present past g x
    → (held past ≡ [] → flag_says (is_empty g) ≡ 0 ∷ 1 ∷ []) × (held past ≢ [] → flag_says (is_empty g) ≡ 0 ∷ 0 ∷ [])

-- `space_held`
abbrev pub FiguresHeld : Type 0
FiguresHeld = (past : List Event) (g : Atlas) (x : Listing) → Run present past g x
    → (figure_says (allocated_space g) ≡ 0 ∷ figure past ∷ [])
    × ((w h : ℕ) → sides_says (size g) ≡ 0 ∷ w ∷ h ∷ [] → figure_says (free_space_of g) ≡ 0 ∷ (w * h - figure past) ∷ [])
