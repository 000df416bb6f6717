-- A record is answered as the call that it is. What it writes, and what it leaves, is said here by `listed_step` (rules/specs/History.antt): the
-- call's answer, and the state and the list after it.
use Rattle.rules.specs.declared.Allocation.{Allocation}
use Prim.Native.Nat.{ℕ}
use mathlib.Core.Bool.{Bool, true, false}
use mathlib.Core.Path.{◌≡◌, refl, ap}
use mathlib.Core.List.{List, [], ◌++◌}
use lib.ListN.{get_or}
use Rattle.rules.specs.declared.Head.{Head}
use Rattle.rules.specs.declared.Refusal.{Refusal}
use Rattle.std.specs.Prelude.{if◌then◌else◌, Ok, Err, Result, ⊤}
use Rattle.rules.specs.Tables.{atlas}
use Rattle.rules.specs.Text.{bytes}
use Rattle.rules.specs.Answers.{number}
use Rattle.rules.specs.Builds.{present}
use Rattle.rules.specs.Calls as calls
use Rattle.rules.specs.Listed as listed
use Rattle.rules.specs.Listed.{Holding, holding, Ended, allocated_space, free_space_of}
use Rattle.rules.specs.History.{Call, Event, listed_step, after_made}
use Rattle.rules.specs.Trace.{u32_at, i32_at, digits, decimal, spaced, newline, Bench, bench, lying, Turn, turn, after_new, placing_line, reply_line, report_line}
use Rattle.rules.specs.Trace.{new_turn, allocate_turn, deallocate_turn, clear_turn, grow_turn, report_turn, call_turn, record_turn}
use Rattle.promises.proofs.Framing.{Kind}

-- ---- the line of an answer

-- `refused N`
abbrev pub refusal : Refusal → List ℕ
refusal r = bytes "refused " ++ decimal (number r) ++ newline

-- the lines of document 01's whole output; "`clear ok` and `grow ok` are the other two lines"
abbrev pub event_line : Event → Result ℕ Refusal → Result ℕ Refusal → List ℕ
event_line (Event.made (Ok head)) occupied free = bytes "new ok\n"
event_line (Event.made (Err r)) occupied free = refusal r
event_line (Event.allocated (Ok a)) occupied free =
    bytes "alloc" ++ spaced a.id ++ spaced a.rectangle.left ++ spaced a.rectangle.top ++ spaced a.rectangle.right
    ++ spaced a.rectangle.bottom ++ newline
event_line (Event.allocated (Err r)) occupied free = refusal r
event_line (Event.deallocated id (Ok tt)) occupied free = bytes "dealloc ok\n"
event_line (Event.deallocated id (Err r)) occupied free = refusal r
event_line (Event.cleared (Ok tt)) occupied free = bytes "clear ok\n"
event_line (Event.cleared (Err r)) occupied free = refusal r
event_line (Event.grown (Ok tt)) occupied free = bytes "grow ok\n"
event_line (Event.grown (Err r)) occupied free = refusal r
event_line Event.read (Ok occupied) (Ok free) = bytes "space" ++ spaced occupied ++ spaced free ++ newline
event_line Event.read (Ok occupied) (Err r) = refusal r
event_line Event.read (Err r) free = refusal r
-- no record lends a list
event_line (Event.lent ys) occupied free = []

-- an accepted new makes an atlas, and what is made stays so
abbrev pub made_by : Event → Bool → Bool
made_by (Event.made (Ok head)) before = true
made_by (Event.made (Err r)) before = before
made_by (Event.allocated x) before = before
made_by (Event.deallocated id x) before = before
made_by (Event.cleared x) before = before
made_by (Event.grown x) before = before
made_by Event.read before = before
made_by (Event.lent ys) before = before

-- the call is made: its answer's line, and the state and the list that it leaves
abbrev pub called : Call → Bench → Turn
called c t =
    turn (event_line (listed_step present c (lying t)).event (allocated_space (lying t)) (free_space_of (lying t)))
    (bench (made_by (listed_step present c (lying t)).event t.made) (listed_step present c (lying t)).left)

-- any call but new asks for an atlas
abbrev pub on_atlas : Call → Bench → Turn
on_atlas c t = if t.made then called c t else turn (bytes "refused 13\n") t

-- "any other well-formed record before an accepted new gives 13"
abbrev pub answered : Call → Bench → Turn
answered (Call.new w h aw ah n v) t = called (Call.new w h aw ah n v) t
answered (Call.allocate w h) t = on_atlas (Call.allocate w h) t
answered (Call.deallocate id) t = on_atlas (Call.deallocate id) t
answered Call.clear t = on_atlas Call.clear t
answered (Call.grow w h) t = on_atlas (Call.grow w h) t
answered Call.read t = on_atlas Call.read t

-- ---- a record is answered as the call that it is

module _ (occupied free : Result ℕ Refusal) where
  new_as : (m : Result Head Refusal) (t : Bench)
      → after_new m t ≡ turn (event_line (Event.made m) occupied free) (bench (made_by (Event.made m) t.made) (holding (after_made m t.state) t.list))
  new_as (Ok head) t = refl
  new_as (Err r) t = refl

  placing_as : (x : Result Allocation Refusal) → placing_line x ≡ event_line (Event.allocated x) occupied free
  placing_as (Ok a) = refl
  placing_as (Err r) = refl

  deallocated_as : (id : ℕ) (x : Result ⊤ Refusal) → reply_line (bytes "dealloc ok\n") x ≡ event_line (Event.deallocated id x) occupied free
  deallocated_as id (Ok tt) = refl
  deallocated_as id (Err r) = refl

  cleared_as : (x : Result ⊤ Refusal) → reply_line (bytes "clear ok\n") x ≡ event_line (Event.cleared x) occupied free
  cleared_as (Ok tt) = refl
  cleared_as (Err r) = refl

  grown_as : (x : Result ⊤ Refusal) → reply_line (bytes "grow ok\n") x ≡ event_line (Event.grown x) occupied free
  grown_as (Ok tt) = refl
  grown_as (Err r) = refl

report_as : (occupied free : Result ℕ Refusal) → report_line occupied free ≡ event_line Event.read occupied free
report_as (Ok occupied) (Ok free) = refl
report_as (Ok occupied) (Err r) = refl
report_as (Err r) free = refl

on_bench : {p : List ℕ} {kind long : ℕ} {c : Call} → Kind p kind long c → (made : Bool) (l : Holding)
    → record_turn kind p (bench made l) ≡ answered c (bench made l)
unfolding decimal digits record_turn call_turn new_turn allocate_turn deallocate_turn clear_turn grow_turn report_turn
on_bench {p} Kind.new made l =
    new_as (allocated_space l) (free_space_of l)
    (calls.new (i32_at p 0) (i32_at p 4) (i32_at p 8) (i32_at p 12) (i32_at p 16) (get_or p 20 0) l.state.shelves l.state.buckets) (bench made l)
on_bench {p} Kind.allocate true l =
    let o : Ended (Result Allocation Refusal) = listed.allocate (i32_at p 0) (i32_at p 4) l in
    ap (λ (line : List ℕ). turn line (bench true o.left)) (placing_as (allocated_space l) (free_space_of l) o.answer)
on_bench {p} Kind.deallocate true l =
    let o : Ended (Result ⊤ Refusal) = listed.deallocate (u32_at p 0) l in
    ap (λ (line : List ℕ). turn line (bench true o.left)) (deallocated_as (allocated_space l) (free_space_of l) (u32_at p 0) o.answer)
on_bench Kind.clear true l =
    let o : Ended (Result ⊤ Refusal) = listed.clear l in
    ap (λ (line : List ℕ). turn line (bench true o.left)) (cleared_as (allocated_space l) (free_space_of l) o.answer)
on_bench {p} Kind.grow true l =
    let o : Ended (Result ⊤ Refusal) = listed.grow (i32_at p 0) (i32_at p 4) l in
    ap (λ (line : List ℕ). turn line (bench true o.left)) (grown_as (allocated_space l) (free_space_of l) o.answer)
on_bench Kind.report true l = ap (λ (line : List ℕ). turn line (bench true l)) (report_as (allocated_space l) (free_space_of l))
on_bench Kind.allocate false l = refl
on_bench Kind.deallocate false l = refl
on_bench Kind.clear false l = refl
on_bench Kind.grow false l = refl
on_bench Kind.report false l = refl

pub record_turn_law : {p : List ℕ} {kind long : ℕ} {c : Call} → Kind p kind long c → (t : Bench) → record_turn kind p t ≡ answered c t
record_turn_law k t = on_bench k t.made (lying t)

-- ---- new

-- "A refused new keeps the old atlas": header, tables, list and whether there is one; an accepted one takes its place, over the lent tables. No
-- bucket is left then that has an entry of the list
pub record NewKeeps (p : List ℕ) (t : Bench) (m : Result Head Refusal) : Type 0 where
  pub kept : (r : Refusal) → m ≡ Err r → record_turn 1 p t ≡ turn (refusal r) t
  pub replaced : (head : Head) → m ≡ Ok head
      → record_turn 1 p t ≡ turn (bytes "new ok\n") (bench true (holding (atlas head t.state.shelves t.state.buckets) t.list))

pub new_keeps : (p : List ℕ) (t : Bench)
    → NewKeeps p t (calls.new (i32_at p 0) (i32_at p 4) (i32_at p 8) (i32_at p 12) (i32_at p 16) (get_or p 20 0) t.state.shelves t.state.buckets)
unfolding record_turn new_turn
new_keeps p t =
    record { kept = λ r e. ap (λ (m : Result Head Refusal). after_new m t) e; replaced = λ head e. ap (λ (m : Result Head Refusal). after_new m t) e }
