-- T-02: the public calls with the list lent beside the tables. "Allocate adds to it, return takes out, new and clear empty it, and a return of
-- an id that is not in it is refused." Each is the call of Calls.antt, of Files.antt or of Picture.antt, once the list was found to fit: "21 list not
-- fitting the tables, straight after 1 (not in new or in reading)". A refusal leaves list and state as they were, past their counts too. New looks at
-- no list: where nothing is referenced, no entry is.
use Rattle.std.specs.Prelude.{ℕ, List, ltb, length, take, ℤ, if◌then◌else◌, Ok, Err, Result, ⊤, Bool}
use Rattle.rules.specs.declared.Allocation.{Allocation}
use Rattle.rules.specs.declared.Refusal.{Refusal}
use Rattle.rules.specs.Ids.{id_bucket}
use Rattle.rules.specs.Tables.{Atlas, Outcome}
use Rattle.rules.specs.Sound.{is_sound_by}
use Rattle.rules.specs.Calls as calls
use Rattle.rules.specs.Builds.{Build, present}
use Rattle.rules.specs.Saving.{Saved, saved}
use Rattle.rules.specs.Files as files
use Rattle.rules.specs.Picture as pictures
use Rattle.rules.specs.Held.{blank, entries, added, removed, place_of, place_for, fits}

-- header and tables, and the list beside them
pub record Holding : Type 0 where
  pub state : Atlas
  pub list : List Allocation

abbrev pub holding : Atlas → List Allocation → Holding
holding g list = record { state = g; list = list }

-- a call's answer, and what it leaves
pub record Ended (A : Type 0) : Type 0 where
  pub answer : A
  pub left : Holding

abbrev pub ended : {A : Type 0} → A → Holding → Ended A
ended a l = record { answer = a; left = l }

-- ---- 1, 21, then what the call says

-- what the tests say: how many entries there are, or the refusal
unfoldable pub verdict_by : Build → Holding → Result ℕ Refusal
verdict_by build l =
    if is_sound_by build l.state
    then (if fits l.state l.list then Ok (entries l.state) else Err Refusal.List)
    else Err Refusal.Tables

-- the present build's
abbrev pub verdict : Holding → Result ℕ Refusal
verdict l = verdict_by present l

abbrev pub judged : {A : Type 0} → (Refusal → A) → (ℕ → A) → Result ℕ Refusal → A
judged refuse answer (Ok n) = answer n
judged refuse answer (Err r) = refuse r

abbrev pub tested_by : {A : Type 0} → Build → (Refusal → A) → A → Holding → A
tested_by build refuse answer l = judged refuse (λ n. answer) (verdict_by build l)

abbrev pub tested : {A : Type 0} → (Refusal → A) → A → Holding → A
tested refuse answer l = tested_by present refuse answer l

-- a refusal of a call that may change what is lent
abbrev pub refusing : {A : Type 0} → (Refusal → A) → Holding → Refusal → Ended A
refusing refuse l r = ended (refuse r) l

-- the list stays as it is
abbrev pub beside : {A : Type 0} → Outcome A → List Allocation → Ended A
beside o list = ended o.answer (holding o.state list)

-- ---- clear: 1, 21. grow: 1, 21, 2, 12

unfoldable pub clear_by : Build → Holding → Ended (Result ⊤ Refusal)
clear_by build l = tested_by build (refusing Err l) (beside (calls.clear_by build l.state) l.list) l

unfoldable pub grow_by : Build → ℤ → ℤ → Holding → Ended (Result ⊤ Refusal)
grow_by build width height l = tested_by build (refusing Err l) (beside (calls.grow_by build width height l.state) l.list) l

-- the present build's
abbrev pub clear : Holding → Ended (Result ⊤ Refusal)
clear l = clear_by present l

abbrev pub grow : ℤ → ℤ → Holding → Ended (Result ⊤ Refusal)
grow width height l = grow_by present width height l

-- ---- allocate: 1, 21, 4, 5, then 6, 7 or 8, then 19

-- "Allocate adds to it"; "19 list full, in allocate after 8": of a request that is placed, and g the state after it
abbrev pub enter : Result Allocation Refusal → Atlas → Holding → Ended (Result Allocation Refusal)
enter (Ok a) g l =
    if ltb (entries l.state) (length l.list)
    then ended (Ok a) (holding g (added (entries l.state) (place_for (id_bucket a.id) g) a l.list))
    else ended (Err Refusal.Full) l
enter (Err r) g l = ended (Err r) l

unfoldable pub allocate_by : Build → ℤ → ℤ → Holding → Ended (Result Allocation Refusal)
allocate_by build width height l =
    let o : Outcome (Result Allocation Refusal) = calls.allocate_by build width height l.state in
    tested_by build (refusing Err l) (enter o.answer o.state l) l

-- the present build's
abbrev pub allocate : ℤ → ℤ → Holding → Ended (Result Allocation Refusal)
allocate width height l = allocate_by present width height l

-- ---- deallocate: 1, 21, 9, 10, 11, 20

-- "return takes out, .. and a return of an id that is not in it is refused"; "20 id not held, in return after 11": of a return that is
-- accepted without the list, and g the state after it
abbrev pub leave : ℕ → Result ⊤ Refusal → Atlas → Holding → Ended (Result ⊤ Refusal)
leave id (Ok tt) g l =
    let i : ℕ = place_of id (take (entries l.state) l.list) in
    if ltb i (entries l.state)
    then ended (Ok tt) (holding g (removed blank (entries l.state) i l.list))
    else ended (Err Refusal.NotHeld) l
leave id (Err r) g l = ended (Err r) l

unfoldable pub deallocate_by : Build → ℕ → Holding → Ended (Result ⊤ Refusal)
deallocate_by build id l =
    let o : Outcome (Result ⊤ Refusal) = calls.deallocate_by build id l.state in
    tested_by build (refusing Err l) (leave id o.answer o.state l) l

-- the present build's
abbrev pub deallocate : ℕ → Holding → Ended (Result ⊤ Refusal)
deallocate id l = deallocate_by present id l

-- ---- the four reading calls: 1, 21

unfoldable pub size : Holding → Result (ℕ × ℕ) Refusal
size l = tested Err (calls.size l.state) l

unfoldable pub is_empty : Holding → Result Bool Refusal
is_empty l = tested Err (calls.is_empty l.state) l

unfoldable pub allocated_space : Holding → Result ℕ Refusal
allocated_space l = tested Err (calls.allocated_space l.state) l

unfoldable pub free_space_of : Holding → Result ℕ Refusal
free_space_of l = tested Err (calls.free_space_of l.state) l

-- ---- write: 1, 21, 18. "A read takes no list and ends the one before."

unfoldable pub write : Build → Holding → List ℕ → Saved
write build l out = tested_by build (λ r. saved (Err r) out) (files.write build l.state out) l

-- ---- T-07, picture: 1, 21, 24

unfoldable pub picture : Holding → List ℕ → Saved
picture l out = tested (λ r. saved (Err r) out) (pictures.picture l.state out) l
