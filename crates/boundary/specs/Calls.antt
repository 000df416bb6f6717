-- A run of panel calls, as those see it who link the panel: numbers in, numbers back. Between two calls there are only the lent numbers, the
-- header's and the two tables', and the lent list; what has happened is read from what the calls told. Over a restart there are only the bytes of
-- a file, and the list is lent anew.
use Rattle.rules.specs.declared.Head.{Head}
use Rattle.std.specs.Prelude.{ℕ, ◌≤◌, true, ◌≡◌, ◌≢◌, List, [], ◌∷◌, eqb, leb, ℤ, length, get_or, take, if◌then◌else◌, Ok, Err, Result, ⊤}
use Rattle.rules.specs.declared.Allocation.{Allocation}
use Rattle.rules.specs.declared.Refusal.{Refusal}
use Rattle.rules.specs.Tables.{Atlas, atlas}
use Rattle.rules.specs.Answers.{number, made_says, reply_says, placing_says, sides_says, flag_says, figure_says, written_says}
use Rattle.rules.specs.Sound as sound
use Rattle.rules.specs.Calls as calls
use Rattle.rules.specs.Builds.{Build, present}
use Rattle.rules.specs.Files as files
use Rattle.rules.specs.Held.{entries}
use Rattle.rules.specs.Listed.{Holding, verdict, judged}
use Rattle.rules.specs.Listed as listed
use Rattle.rules.specs.History.{Call, Event, Listing, Run, saves, file_in}
use Rattle.telling.specs.Header.{read_head}
use Rattle.telling.specs.Told.{Told, told}
use Rattle.treadwharf.specs.Panel.{Back, back, Filing}
use Rattle.treadwharf.specs.Panel as panel

-- ---- the calls

-- one for each exported function, with its numbers and, where one is lent, its out slice; the buffer of a write and of a picture stands before it, and of a
-- read there are the bytes
pub data PanelCall : Type 0 where
  new : ℤ → ℤ → ℤ → ℤ → ℤ → ℕ → PanelCall
  clear : PanelCall
  grow : ℤ → ℤ → PanelCall
  allocate : ℤ → ℤ → List ℕ → PanelCall
  deallocate : ℕ → PanelCall
  is_sound : PanelCall
  fits : PanelCall
  size : List ℕ → PanelCall
  is_empty : List ℕ → PanelCall
  allocated_space : List ℕ → PanelCall
  free_space : List ℕ → PanelCall
  write : List ℕ → List ℕ → PanelCall
  picture : List ℕ → List ℕ → PanelCall
  read : List ℕ → PanelCall

-- the tables test's answer among the numbers: for a no that which every call that asks for sound tables then returns, 1
abbrev pub soundness : List ℕ → List ℕ → List ℕ → ℕ
soundness header shelves buckets = if panel.is_sound header shelves buckets then 0 else 1

-- the list's test's: for a no that which every call that is lent a list then returns, 1 or 21
abbrev pub fitness : List ℕ → List ℕ → List ℕ → List Allocation → ℕ
fitness header shelves buckets list =
    if panel.fits header shelves buckets list then 0 else if panel.is_sound header shelves buckets then 21 else 1

-- the same with the list, which the call is not lent
abbrev pub beside : Back → List Allocation → Back
beside r list = back r.told r.shelves r.buckets list

-- what a call hands back on a header, two tables and a list, by the definition that its contract equals. What a write or a picture
-- puts into its buffer is no part of it, since no later call looks there
abbrev pub answer : PanelCall → List ℕ → List ℕ → List ℕ → List Allocation → Back
answer (PanelCall.new w h aw ah n v) header shelves buckets list = back (panel.new w h aw ah n v header shelves buckets) shelves buckets list
answer PanelCall.clear header shelves buckets list = panel.clear header shelves buckets list
answer (PanelCall.grow w h) header shelves buckets list = panel.grow w h header shelves buckets list
answer (PanelCall.allocate w h out) header shelves buckets list = panel.allocate w h header shelves buckets list out
answer (PanelCall.deallocate id) header shelves buckets list = panel.deallocate id header shelves buckets list
answer PanelCall.is_sound header shelves buckets list = back (told (soundness header shelves buckets) header []) shelves buckets list
answer PanelCall.fits header shelves buckets list = back (told (fitness header shelves buckets list) header []) shelves buckets list
answer (PanelCall.size out) header shelves buckets list = back (panel.size header shelves buckets list out) shelves buckets list
answer (PanelCall.is_empty out) header shelves buckets list = back (panel.is_empty header shelves buckets list out) shelves buckets list
answer (PanelCall.allocated_space out) header shelves buckets list = back (panel.allocated_space header shelves buckets list out) shelves buckets list
answer (PanelCall.free_space out) header shelves buckets list = back (panel.free_space header shelves buckets list out) shelves buckets list
answer (PanelCall.write file out) header shelves buckets list =
    back (panel.write present header shelves buckets list file out).told shelves buckets list
answer (PanelCall.picture text out) header shelves buckets list =
    back (panel.picture header shelves buckets list text out).told shelves buckets list
answer (PanelCall.read file) header shelves buckets list = beside (panel.read header shelves buckets file) list

-- ---- what it told: the event, from the numbers alone

-- "Refusal numbers"
unfoldable pub refusal_of : ℕ → Refusal
refusal_of n =
    if eqb n 1 then Refusal.Tables else if eqb n 2 then Refusal.Side else if eqb n 3 then Refusal.Options else if eqb n 4 then Refusal.Small
    else if eqb n 5 then Refusal.Large else if eqb n 6 then Refusal.NoPlace else if eqb n 7 then Refusal.Filler else if eqb n 8 then Refusal.Items
    else if eqb n 9 then Refusal.Unknown else if eqb n 10 then Refusal.Stale else if eqb n 11 then Refusal.Unheld else if eqb n 12 then Refusal.Shrink
    else if eqb n 13 then Refusal.NoAtlas else if eqb n 14 then Refusal.Malformed else if eqb n 15 then Refusal.Long else if eqb n 16 then Refusal.Broken
    else if eqb n 17 then Refusal.Version else if eqb n 18 then Refusal.Buffer else if eqb n 19 then Refusal.Full else if eqb n 20 then Refusal.NotHeld
    else if eqb n 21 then Refusal.List else if eqb n 22 then Refusal.Wide else if eqb n 23 then Refusal.Tall
    else Refusal.Output

-- 0 is acceptance: then the header's numbers are the new atlas's
unfoldable pub made_of : Told → Result Head Refusal
made_of t = if eqb t.number 0 then Ok (read_head t.header) else Err (refusal_of t.number)

unfoldable pub reply_of : Told → Result ⊤ Refusal
reply_of t = if eqb t.number 0 then (Ok tt) else Err (refusal_of t.number)

-- the five out numbers: the id and the rectangle's left, top, right and bottom
abbrev pub allocation_of : List ℕ → Allocation
allocation_of out = record {
  id = get_or out 0 0;
  rectangle = record { left = get_or out 1 0; top = get_or out 2 0; right = get_or out 3 0; bottom = get_or out 4 0 };
}

unfoldable pub placing_of : Told → Result Allocation Refusal
placing_of t = if eqb t.number 0 then Ok (allocation_of t.out) else Err (refusal_of t.number)

-- the call of the rules that it is. Where the out slice has no room for the five numbers nothing is asked of the atlas: a reading call. So are a
-- write, a picture and a read that is refused
unfoldable pub asks : PanelCall → Call
asks (PanelCall.new w h aw ah n v) = Call.new w h aw ah n v
asks PanelCall.clear = Call.clear
asks (PanelCall.grow w h) = Call.grow w h
asks (PanelCall.allocate w h out) = if leb 5 (length out) then Call.allocate w h else Call.read
asks (PanelCall.deallocate id) = Call.deallocate id
asks PanelCall.is_sound = Call.read
asks PanelCall.fits = Call.read
asks (PanelCall.size out) = Call.read
asks (PanelCall.is_empty out) = Call.read
asks (PanelCall.allocated_space out) = Call.read
asks (PanelCall.free_space out) = Call.read
asks (PanelCall.write file out) = Call.read
asks (PanelCall.picture text out) = Call.read
asks (PanelCall.read file) = Call.read

-- the event, from what was asked and what was told
abbrev pub event_of : Call → Told → Event
event_of (Call.new w h aw ah n v) t = Event.made (made_of t)
event_of (Call.allocate w h) t = Event.allocated (placing_of t)
event_of (Call.deallocate id) t = Event.deallocated id (reply_of t)
event_of Call.clear t = Event.cleared (reply_of t)
event_of (Call.grow w h) t = Event.grown (reply_of t)
event_of Call.read t = Event.read

-- ---- a run

-- what is said of the bytes, where the call is a read
abbrev pub OfRead : (List ℕ → Type 0) → PanelCall → Type 0
OfRead P (PanelCall.new w h aw ah n v) = Unit {0}
OfRead P PanelCall.clear = Unit {0}
OfRead P (PanelCall.grow w h) = Unit {0}
OfRead P (PanelCall.allocate w h out) = Unit {0}
OfRead P (PanelCall.deallocate id) = Unit {0}
OfRead P PanelCall.is_sound = Unit {0}
OfRead P PanelCall.fits = Unit {0}
OfRead P (PanelCall.size out) = Unit {0}
OfRead P (PanelCall.is_empty out) = Unit {0}
OfRead P (PanelCall.allocated_space out) = Unit {0}
OfRead P (PanelCall.free_space out) = Unit {0}
OfRead P (PanelCall.write file out) = Unit {0}
OfRead P (PanelCall.picture text out) = Unit {0}
OfRead P (PanelCall.read file) = P file

-- a read among the calls is refused: an accepted one is a restart
abbrev pub NoRestart : PanelCall → List ℕ → List ℕ → List ℕ → Type 0
NoRestart c header shelves buckets = OfRead (λ file. (panel.read header shelves buckets file).told.number ≢ 0) c

-- the bytes of the text that a write or a picture told of: as many of its buffer, from the start on, as the first number of its out slice says
abbrev pub text_told : Filing → List ℕ
text_told f = take (get_or f.told.out 0 0) f.text

-- the atlas that a header and two tables are
abbrev pub atlas_of : List ℕ → List ℕ → List ℕ → Atlas
atlas_of header shelves buckets = atlas (read_head header) shelves buckets

-- "any calls from a fresh atlas whose tables nothing else writes", of the present build: an accepted treadwharf_new on any lent slices, then any panel
-- calls, each on header, tables and list as the last one left them, with any out slices and any ids. T-01: what a write of some build made of an atlas
-- that demand 3 covered, handed to an accepted treadwharf_read over any lent slices, goes on with the past of the writing. T-02: "A read takes no list
-- and ends the one before"; one lent anew to which treadwharf_fits says yes "says what is held from there on".
pub data PanelRun : List Event → List ℕ → List ℕ → List ℕ → Listing → Type 0 where
  fresh : (w h aw ah n : ℤ) (v : ℕ) (header shelves buckets : List ℕ) → (panel.new w h aw ah n v header shelves buckets).number ≡ 0
      → (list : List Allocation) → PanelRun [] (panel.new w h aw ah n v header shelves buckets).header shelves buckets (Listing.lent list)
  next : (past : List Event) (header shelves buckets : List ℕ) (list : List Allocation) → PanelRun past header shelves buckets (Listing.lent list)
      → (c : PanelCall) → NoRestart c header shelves buckets
      → PanelRun (event_of (asks c) (answer c header shelves buckets list).told ∷ past) (answer c header shelves buckets list).told.header
      (answer c header shelves buckets list).shelves (answer c header shelves buckets list).buckets
      (Listing.lent (answer c header shelves buckets list).list)
  restored : (earlier : Build) (past : List Event) (g : Atlas) (listing : Listing) → Run earlier past g listing
      → (buffer : List ℕ) (n : ℕ) → (saves earlier g listing buffer).written ≡ Ok n
      → (file : List ℕ) → file ≡ file_in (saves earlier g listing buffer) n
      → (x s b : List ℕ) → (panel.read x s b file).told.number ≡ 0
      → PanelRun past (panel.read x s b file).told.header (panel.read x s b file).shelves (panel.read x s b file).buckets Listing.none
  relent : (past : List Event) (header shelves buckets : List ℕ) → PanelRun past header shelves buckets Listing.none
      → (list : List Allocation) → panel.fits header shelves buckets list ≡ true
      → PanelRun (Event.lent (take (entries (atlas_of header shelves buckets)) list) ∷ past) header shelves buckets (Listing.lent list)

-- the same calls, but with whatever list is lent to each, and any bytes among what is read: where any panel calls at all lead
pub data PanelReached : List ℕ → List ℕ → List ℕ → Type 0 where
  fresh : (w h aw ah n : ℤ) (v : ℕ) (header shelves buckets : List ℕ) → (panel.new w h aw ah n v header shelves buckets).number ≡ 0
      → PanelReached (panel.new w h aw ah n v header shelves buckets).header shelves buckets
  next : (header shelves buckets : List ℕ) → PanelReached header shelves buckets → (list : List Allocation) (c : PanelCall)
      → PanelReached (answer c header shelves buckets list).told.header (answer c header shelves buckets list).shelves
      (answer c header shelves buckets list).buckets
  restored : (header shelves buckets file : List ℕ) → (panel.read header shelves buckets file).told.number ≡ 0
      → PanelReached (panel.read header shelves buckets file).told.header (panel.read header shelves buckets file).shelves
      (panel.read header shelves buckets file).buckets

-- the out slice that is lent, if any, has room for what is told in it
abbrev pub OutRoom : PanelCall → Type 0
OutRoom (PanelCall.new w h aw ah n v) = Unit {0}
OutRoom PanelCall.clear = Unit {0}
OutRoom (PanelCall.grow w h) = Unit {0}
OutRoom (PanelCall.allocate w h out) = 5 ≤ length out
OutRoom (PanelCall.deallocate id) = Unit {0}
OutRoom PanelCall.is_sound = Unit {0}
OutRoom PanelCall.fits = Unit {0}
OutRoom (PanelCall.size out) = 2 ≤ length out
OutRoom (PanelCall.is_empty out) = 1 ≤ length out
OutRoom (PanelCall.allocated_space out) = 1 ≤ length out
OutRoom (PanelCall.free_space out) = 1 ≤ length out
OutRoom (PanelCall.write file out) = 1 ≤ length out
OutRoom (PanelCall.picture text out) = 1 ≤ length out
OutRoom (PanelCall.read file) = Unit {0}

-- ---- what is said, in the numbers of the rules' Answers

-- how many numbers are told in the out slice where the call is accepted
abbrev pub outs : PanelCall → ℕ
outs (PanelCall.new w h aw ah n v) = 0
outs PanelCall.clear = 0
outs (PanelCall.grow w h) = 0
outs (PanelCall.allocate w h out) = 5
outs (PanelCall.deallocate id) = 0
outs PanelCall.is_sound = 0
outs PanelCall.fits = 0
outs (PanelCall.size out) = 2
outs (PanelCall.is_empty out) = 1
outs (PanelCall.allocated_space out) = 1
outs (PanelCall.free_space out) = 1
outs (PanelCall.write file out) = 1
outs (PanelCall.picture text out) = 1
outs (PanelCall.read file) = 0

-- the number returned, and where it is 0 the out slice's first k numbers
unfoldable pub heard : ℕ → Told → List ℕ
heard k t = t.number ∷ (if eqb t.number 0 then take k t.out else [])

-- what the rules' call says; of the two tests, 0 for yes
abbrev pub says_of : PanelCall → Holding → List ℕ
says_of (PanelCall.new w h aw ah n v) l = made_says (calls.new w h aw ah n v l.state.shelves l.state.buckets)
says_of PanelCall.clear l = reply_says (listed.clear l).answer
says_of (PanelCall.grow w h) l = reply_says (listed.grow w h l).answer
says_of (PanelCall.allocate w h out) l = placing_says (listed.allocate w h l).answer
says_of (PanelCall.deallocate id) l = reply_says (listed.deallocate id l).answer
says_of PanelCall.is_sound l = (if sound.is_sound l.state then 0 else 1) ∷ []
says_of PanelCall.fits l = judged number (λ n. 0) (verdict l) ∷ []
says_of (PanelCall.size out) l = sides_says (listed.size l)
says_of (PanelCall.is_empty out) l = flag_says (listed.is_empty l)
says_of (PanelCall.allocated_space out) l = figure_says (listed.allocated_space l)
says_of (PanelCall.free_space out) l = figure_says (listed.free_space_of l)
says_of (PanelCall.write file out) l = written_says (listed.write present l file).written
says_of (PanelCall.picture text out) l = written_says (listed.picture l text).written
says_of (PanelCall.read file) l = made_says (files.read file l.state.shelves l.state.buckets).made
