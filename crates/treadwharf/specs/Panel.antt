-- What each function of the panel hands back on any input: a number (0, or document 01's refusal), the header and the out slice, and the
-- tables and the list. Lent room too short is refusal 1, that of the header and of the out slice included; so is a header of no atlas. A function
-- to which no out slice or no list is lent has [] there; one that is lent a slice to read alone can not change it. The two tests tell yes or no.
use Rattle.rules.specs.declared.Refusal.{Refusal}
use Rattle.std.specs.Prelude.{ℕ, Bool, ◌&&◌, List, [], leb, ℤ, length, if◌then◌else◌, Result, ⊤}
use Rattle.rules.specs.declared.Allocation.{Allocation}
use Rattle.rules.specs.Tables.{atlas}
use Rattle.rules.specs.Sound as sound
use Rattle.rules.specs.Calls as calls
use Rattle.rules.specs.Builds.{Build}
use Rattle.rules.specs.Saving.{Saved}
use Rattle.rules.specs.Files.{Loaded}
use Rattle.rules.specs.Files as files
use Rattle.rules.specs.Held as held
use Rattle.rules.specs.Listed.{Holding, holding, Ended}
use Rattle.rules.specs.Listed as listed
use Rattle.telling.specs.Header.{is_head, has_room, read_head}
use Rattle.telling.specs.Told.{Told, told, new_told, reply_told, placing_told, sides_told, flag_told, figure_told, written_told}

-- with the tables and the list after the call
pub record Back : Type 0 where
  pub told : Told
  pub shelves : List ℕ
  pub buckets : List ℕ
  pub list : List Allocation

abbrev pub back : Told → List ℕ → List ℕ → List Allocation → Back
back t shelves buckets list = record { told = t; shelves = shelves; buckets = buckets; list = list }

-- with the buffer after the call: a file's bytes, or a picture's text
pub record Filing : Type 0 where
  pub told : Told
  pub text : List ℕ

abbrev pub filing : Told → List ℕ → Filing
filing t text = record { told = t; text = text }

-- what is lent: the atlas that a header and two tables are, and the list beside it
abbrev pub lent : List ℕ → List ℕ → List ℕ → List Allocation → Holding
lent header shelves buckets list = holding (atlas (read_head header) shelves buckets) list

-- ---- the answers with the tables and the list, and with the buffer: a refusal writes nothing

abbrev pub reply_back : Ended (Result ⊤ Refusal) → List ℕ → Back
reply_back o header =
    back (reply_told o.answer o.left.state.head header) o.left.state.shelves o.left.state.buckets o.left.list

abbrev pub placing_back : Ended (Result Allocation Refusal) → List ℕ → List ℕ → Back
placing_back o header out =
    back (placing_told o.answer o.left.state.head header out) o.left.state.shelves o.left.state.buckets o.left.list

abbrev pub saved_filing : Saved → List ℕ → List ℕ → Filing
saved_filing s header out = filing (written_told s.written header out) s.out

-- an accepted read writes the header and the tables
abbrev pub loaded_back : Loaded → List ℕ → Back
loaded_back l header = back (new_told l.made header) l.shelves l.buckets []

-- ---- the functions: the header's numbers, the tables, the list and the out slice where they are lent

-- of the header only the room is looked at
unfoldable pub new : ℤ → ℤ → ℤ → ℤ → ℤ → ℕ → List ℕ → List ℕ → List ℕ → Told
new width height align_width align_height columns vertical header shelves buckets =
    if leb 12 (length header) then new_told (calls.new width height align_width align_height columns vertical shelves buckets) header
    else told 1 header []

-- a call that changes the header, the tables or the list
unfoldable pub changing : (Holding → Ended (Result ⊤ Refusal)) → List ℕ → List ℕ → List ℕ → List Allocation → Back
changing call header shelves buckets list =
    if is_head header then reply_back (call (lent header shelves buckets list)) header else back (told 1 header []) shelves buckets list

abbrev pub clear : List ℕ → List ℕ → List ℕ → List Allocation → Back
clear = changing listed.clear

abbrev pub grow : ℤ → ℤ → List ℕ → List ℕ → List ℕ → List Allocation → Back
grow width height = changing (listed.grow width height)

abbrev pub deallocate : ℕ → List ℕ → List ℕ → List ℕ → List Allocation → Back
deallocate id = changing (listed.deallocate id)

-- the out slice has room for 5 numbers
unfoldable pub allocate : ℤ → ℤ → List ℕ → List ℕ → List ℕ → List Allocation → List ℕ → Back
allocate width height header shelves buckets list out =
    if has_room header out 5
    then placing_back (listed.allocate width height (lent header shelves buckets list)) header out
    else back (told 1 header out) shelves buckets list

-- the tables test
unfoldable pub is_sound : List ℕ → List ℕ → List ℕ → Bool
is_sound header shelves buckets = is_head header && sound.is_sound (atlas (read_head header) shelves buckets)

-- T-02. The list's test, behind that of the tables
unfoldable pub fits : List ℕ → List ℕ → List ℕ → List Allocation → Bool
fits header shelves buckets list = is_sound header shelves buckets && held.fits (atlas (read_head header) shelves buckets) list

-- a call that reads: the out slice has room for so many numbers, in which the answer is told
unfoldable pub reading : {A : Type 0} → ℕ → (A → List ℕ → List ℕ → Told) → (Holding → A)
    → List ℕ → List ℕ → List ℕ → List Allocation → List ℕ → Told
reading room tell call header shelves buckets list out =
    if has_room header out room then tell (call (lent header shelves buckets list)) header out else told 1 header out

abbrev pub size : List ℕ → List ℕ → List ℕ → List Allocation → List ℕ → Told
size = reading 2 sides_told listed.size

abbrev pub is_empty : List ℕ → List ℕ → List ℕ → List Allocation → List ℕ → Told
is_empty = reading 1 flag_told listed.is_empty

abbrev pub allocated_space : List ℕ → List ℕ → List ℕ → List Allocation → List ℕ → Told
allocated_space = reading 1 figure_told listed.allocated_space

abbrev pub free_space : List ℕ → List ℕ → List ℕ → List Allocation → List ℕ → Told
free_space = reading 1 figure_told listed.free_space_of

-- a call that puts a text of the atlas into a buffer: the out slice has room for 1 number, how many bytes
unfoldable pub putting : (Holding → List ℕ → Saved) → List ℕ → List ℕ → List ℕ → List Allocation → List ℕ → List ℕ → Filing
putting call header shelves buckets list text out =
    if has_room header out 1 then saved_filing (call (lent header shelves buckets list) text) header out else filing (told 1 header out) text

-- T-01
abbrev pub write : Build → List ℕ → List ℕ → List ℕ → List Allocation → List ℕ → List ℕ → Filing
write build = putting (listed.write build)

-- T-07
abbrev pub picture : List ℕ → List ℕ → List ℕ → List Allocation → List ℕ → List ℕ → Filing
picture = putting listed.picture

-- ---- T-01: read

-- of the header only the room is looked at; "A read takes no list"
unfoldable pub read : List ℕ → List ℕ → List ℕ → List ℕ → Back
read header shelves buckets file =
    if leb 12 (length header) then loaded_back (files.read file shelves buckets) header else back (told 1 header []) shelves buckets []
