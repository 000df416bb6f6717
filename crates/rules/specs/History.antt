-- Demand 3: what a run of calls has handed out, worked out from the calls' answers alone. A history is the list of these, newest first; a file
-- read back goes on with that of the moment of writing (T-01). From T-02 on the list is lent beside the tables, and any id may be handed back.
-- `held` and `figure` see no table; `Run`, `Kept` and `Exact` name what the calls leave. Proved as `kept` and `listed_exact` (promises/proofs/History.antt);
-- promises/proofs/Worked.antt computes a small history, and one of a build without the list in which an id that is no longer held is handed back.
-- Of tables or a list that something else wrote nothing is said here; nor that a request is placed at all, which demand 2 says.
use Rattle.std.specs.Prelude.{ℕ, ◌+◌, ◌≤◌, ◌<◌, true, false, ◌||◌, ◌≡◌, ◌⊎◌, List, [], ◌∷◌, eqb, length, take, ℤ, if◌then◌else◌, Ok, Err, Result, ⊤}
use Rattle.rules.specs.declared.Head.{Head}
use Rattle.rules.specs.declared.Rectangle.{Rectangle}
use Rattle.rules.specs.declared.Allocation.{Allocation}
use Rattle.rules.specs.declared.Refusal.{Refusal}
use Rattle.rules.specs.Ids.{id_bucket}
use Rattle.rules.specs.Tables.{Atlas, atlas, Outcome}
use Rattle.rules.specs.Answers.{number}
use Rattle.rules.specs.Chains.{sum_to}
use Rattle.rules.specs.Issue.{area}
use Rattle.rules.specs.Calls as calls
use Rattle.rules.specs.Builds.{Build, has_list, names_side}
use Rattle.rules.specs.Files.{Saved, saved, Loaded}
use Rattle.rules.specs.Files as files
pub use Rattle.rules.specs.Held.{entry, from_bucket, Covers, entries, Fits}
use Rattle.rules.specs.Listed.{Holding, holding, Ended}
use Rattle.rules.specs.Listed as listed

-- ---- what was asked, and what was answered

-- the calls on an atlas; the reading calls, the tables test, a write, a picture and a refused read among them, change and hand out nothing. A replay makes
-- these calls. A read that is accepted is `restored`, below
pub data Call : Type 0 where
  new : ℤ → ℤ → ℤ → ℤ → ℤ → ℕ → Call
  allocate : ℤ → ℤ → Call
  deallocate : ℕ → Call
  clear : Call
  grow : ℤ → ℤ → Call
  read : Call

pub data Event : Type 0 where
  made : Result Head Refusal → Event
  allocated : Result Allocation Refusal → Event
  deallocated : ℕ → Result ⊤ Refusal → Event
  cleared : Result ⊤ Refusal → Event
  grown : Result ⊤ Refusal → Event
  read : Event
  -- T-02: a list is lent anew after a read
  lent : List Allocation → Event

-- ---- what is held

-- the list without the entries of that id
abbrev pub without : ℕ → List Allocation → List Allocation
without id [] = []
without id (a ∷ xs) = if eqb a.id id then without id xs else a ∷ without id xs

-- "an accepted return ends the holding of its id, an accepted clear or new all holding"
abbrev pub held_after : Event → List Allocation → List Allocation
held_after (Event.made (Ok h)) xs = []
held_after (Event.made (Err r)) xs = xs
held_after (Event.allocated (Ok a)) xs = a ∷ xs
held_after (Event.allocated (Err r)) xs = xs
held_after (Event.deallocated id (Ok tt)) xs = without id xs
held_after (Event.deallocated id (Err r)) xs = xs
held_after (Event.cleared (Ok tt)) xs = []
held_after (Event.cleared (Err r)) xs = xs
held_after (Event.grown r) xs = xs
held_after Event.read xs = xs
-- T-02: "says what is held from there on, its entries standing for what was issued"
held_after (Event.lent ys) xs = ys

abbrev pub held : List Event → List Allocation
held [] = []
held (e ∷ past) = held_after e (held past)

-- the id is held
abbrev pub Holds : ℕ → List Allocation → Type 0
Holds id [] = ⊥
Holds id (a ∷ xs) = (a.id ≡ id) ⊎ Holds id xs

-- ---- the figure: "for each bucket with a held rectangle, the areas issued from it since it last had none"

-- the area that a call issued from bucket k
abbrev pub issued_from : ℕ → Event → ℕ
issued_from k (Event.allocated (Ok a)) = if eqb (id_bucket a.id) k then area a.rectangle else 0
issued_from k (Event.allocated (Err r)) = 0
issued_from k (Event.made m) = 0
issued_from k (Event.deallocated id r) = 0
issued_from k (Event.cleared r) = 0
issued_from k (Event.grown r) = 0
issued_from k Event.read = 0
-- T-02: "only the areas in demand 3's figure stay those of T-01's history"
issued_from k (Event.lent ys) = 0

-- the areas issued from bucket k since none of its rectangles was held; 0 where none is
unfoldable pub issued_since : ℕ → List Event → ℕ
issued_since k [] = 0
issued_since k (e ∷ past) = if eqb (from_bucket k (held (e ∷ past))) 0 then 0 else issued_from k e + issued_since k past

-- over every number that an id's bits for a bucket can name
unfoldable pub figure : List Event → ℕ
figure past = sum_to 4096 (λ k. issued_since k past)

-- ---- a run of calls

-- the state that a call leaves, and the event that it is
pub record Step : Type 0 where
  pub event : Event
  pub state : Atlas

abbrev pub after_made : Result Head Refusal → Atlas → Atlas
after_made (Ok h) g = atlas h g.shelves g.buckets
after_made (Err r) g = g

abbrev pub step_new : Result Head Refusal → Atlas → Step
step_new m g = record { event = Event.made m; state = after_made m g }

abbrev pub step_place : Outcome (Result Allocation Refusal) → Step
step_place o = record { event = Event.allocated o.answer; state = o.state }

abbrev pub step_reply : ((Result ⊤ Refusal) → Event) → Outcome (Result ⊤ Refusal) → Step
step_reply event o = record { event = event o.answer; state = o.state }

-- by the rules of a build: from T-06 on builds place differently, from T-08 on they return and test differently
abbrev pub step : Build → Call → Atlas → Step
step build (Call.new w h aw ah n v) g = step_new (calls.new w h aw ah n v g.shelves g.buckets) g
step build (Call.allocate w h) g = step_place (calls.allocate_by build w h g)
step build (Call.deallocate id) g = step_reply (Event.deallocated id) (calls.deallocate_by build id g)
step build Call.clear g = step_reply Event.cleared (calls.clear_by build g)
step build (Call.grow w h) g = step_reply Event.grown (calls.grow_by build w h g)
step build Call.read g = record { event = Event.read; state = g }

-- "whose caller hands back only ids it then holds": asked of the callers of a build without the list
abbrev pub Legal : Call → List Event → Type 0
Legal (Call.new w h aw ah n v) past = Unit {0}
Legal (Call.allocate w h) past = Unit {0}
Legal (Call.deallocate id) past = Holds id (held past)
Legal Call.clear past = Unit {0}
Legal (Call.grow w h) past = Unit {0}
Legal Call.read past = Unit {0}

-- ---- T-02: the same with the list beside the tables

-- the list as a call finds it; none in a build without it, and after a read until one is lent anew
pub data Listing : Type 0 where
  none : Listing
  lent : List Allocation → Listing

-- what a fresh atlas has beside it
abbrev pub begun : Build → List Allocation → Listing
begun build xs = if has_list build then Listing.lent xs else Listing.none

-- what a call leaves, and the event that it is
pub record StepListed : Type 0 where
  pub event : Event
  pub left : Holding

abbrev pub stepped : {A : Type 0} → (A → Event) → Ended A → StepListed
stepped event o = record { event = event o.answer; left = o.left }

-- an accepted new empties the list: no bucket is left that has an entry
abbrev pub stepped_new : Result Head Refusal → Holding → StepListed
stepped_new m l = record { event = Event.made m; left = holding (after_made m l.state) l.list }

abbrev pub listed_step : Build → Call → Holding → StepListed
listed_step build (Call.new w h aw ah n v) l = stepped_new (calls.new w h aw ah n v l.state.shelves l.state.buckets) l
listed_step build (Call.allocate w h) l = stepped Event.allocated (listed.allocate_by build w h l)
listed_step build (Call.deallocate id) l = stepped (Event.deallocated id) (listed.deallocate_by build id l)
listed_step build Call.clear l = stepped Event.cleared (listed.clear_by build l)
listed_step build (Call.grow w h) l = stepped Event.grown (listed.grow_by build w h l)
listed_step build Call.read l = record { event = Event.read; left = l }

-- ---- a file, and what is read of it

-- the write of a build: with the list, where it has one; after a read there is none until one is lent anew
abbrev pub saves : Build → Atlas → Listing → List ℕ → Saved
saves build g Listing.none out = if has_list build then saved (Err Refusal.List) out else files.write build g out
saves build g (Listing.lent xs) out = listed.write build (holding g xs) out

-- the bytes that a write puts into a buffer, of which it says that they are n
abbrev pub file_in : Saved → ℕ → List ℕ
file_in saved n = take n saved.out

-- the atlas that a read leaves over lent tables
abbrev pub read_into : Head → Loaded → Atlas
read_into head l = atlas head l.shelves l.buckets

-- ---- what a build answers

-- T-04: a request as a build before it answered, to which 22 and 23 were 5
abbrev pub unnamed_placing : Result Allocation Refusal → Result Allocation Refusal
unnamed_placing (Ok a) = Ok a
unnamed_placing (Err r) = Err (if eqb (number r) 22 || eqb (number r) 23 then Refusal.Large else r)

abbrev pub unnamed : Event → Event
unnamed (Event.allocated p) = Event.allocated (unnamed_placing p)
unnamed (Event.made m) = Event.made m
unnamed (Event.deallocated id r) = Event.deallocated id r
unnamed (Event.cleared r) = Event.cleared r
unnamed (Event.grown r) = Event.grown r
unnamed Event.read = Event.read
unnamed (Event.lent ys) = Event.lent ys

-- the event of a build's call, a refusal by the number that it gave
abbrev pub answered_by : Build → Event → Event
answered_by build e = if names_side build then e else unnamed e

-- ---- a run

-- "any calls from a fresh atlas whose tables nothing else writes": each call of a build finds header, tables and list as the last one left them.
pub data Run : Build → List Event → Atlas → Listing → Type 0 where
  fresh : (build : Build) (w h aw ah n : ℤ) (v : ℕ) (s b : List ℕ) (head : Head) → calls.new w h aw ah n v s b ≡ Ok head
      → (xs : List Allocation) → Run build [] (atlas head s b) (begun build xs)
  -- T-02: "For bytes written by a build without the list, its old premise on returned ids stands up to the writing."
  next : (build : Build) (past : List Event) (g : Atlas) → Run build past g Listing.none → has_list build ≡ false → (c : Call) → Legal c past
      → Run build (answered_by build (step build c g).event ∷ past) (step build c g).state Listing.none
  -- T-02: "Demand 3 then holds for any returns; the caller need only see that nothing else writes the list or tables."
  called : (build : Build) (past : List Event) (g : Atlas) (xs : List Allocation) → Run build past g (Listing.lent xs) → (c : Call)
      → Run build (answered_by build (listed_step build c (holding g xs)).event ∷ past) (listed_step build c (holding g xs)).left.state
      (Listing.lent (listed_step build c (holding g xs)).left.list)
  -- T-01: "demand 3's history goes on from the moment of writing: ids issued after it are not held once it is read back. It covers only bytes that
  -- some build's write made from an atlas it then covered": with the past of the writing, whatever was called since. T-02: "A read takes no list
  -- and ends the one before." T-06: "Tables and files made earlier stay sound and are not rearranged": of whatever build, what is read is what was
  -- written, but for T-08's repair.
  restored : (build earlier : Build) (past : List Event) (g : Atlas) (x : Listing) → Run earlier past g x
      → (out : List ℕ) (n : ℕ) → (saves earlier g x out).written ≡ Ok n
      → (s b : List ℕ) (head : Head) → (files.read_by build (file_in (saves earlier g x out) n) s b).made ≡ Ok head
      → Run build past (read_into head (files.read_by build (file_in (saves earlier g x out) n) s b)) Listing.none
  -- T-02: "A list lent anew after T-01's read that passes the test says what is held from there on". One that does not pass is 21, and nothing is
  -- changed.
  relent : (build : Build) (past : List Event) (g : Atlas) → Run build past g Listing.none → has_list build ≡ true
      → (xs : List Allocation) → Fits g xs → Run build (Event.lent (take (entries g) xs) ∷ past) g (Listing.lent xs)

-- ---- what demand 3 says after each call

-- it is not empty and lies inside the atlas
pub record Inside (r : Rectangle) (h : Head) : Type 0 where
  pub wide : r.left < r.right
  pub high : r.top < r.bottom
  pub width : r.right ≤ h.width
  pub height : r.bottom ≤ h.height

pub record Kept (past : List Event) (g : Atlas) : Type 0 where
  -- "the held rectangles lie inside the atlas"
  pub inside : (i : ℕ) → i < length (held past) → Inside (entry (held past) i).rectangle g.head
  -- "no two share a pixel"
  pub apart : (i j x y : ℕ) → i < length (held past) → j < length (held past) → Covers (entry (held past) i).rectangle x y
      → Covers (entry (held past) j).rectangle x y → i ≡ j
  -- so that "its id" is one entry
  pub distinct : (i j : ℕ) → i < length (held past) → j < length (held past) → (entry (held past) i).id ≡ (entry (held past) j).id → i ≡ j
  -- "the running occupied figure equals one worked out afresh from the history"
  pub occupied : g.head.occupied ≡ figure past

-- T-02: "After each call the list has exactly the held rectangles, as issued, with their ids": nothing more, nothing less, nothing twice
pub record Exact (list held : List Allocation) : Type 0 where
  pub only : (i : ℕ) → i < length list → (j : ℕ) × (j < length held) × (entry held j ≡ entry list i)
  pub all : (j : ℕ) → j < length held → (i : ℕ) × (i < length list) × (entry list i ≡ entry held j)
  pub once : (i j : ℕ) → i < length list → j < length list → entry list i ≡ entry list j → i ≡ j
