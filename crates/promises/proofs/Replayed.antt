-- What a replay leaves is what the calls of its records lead to, from the first accepted new on, each with the list as the last one left it. So its
-- state is one of those that calls from a fresh atlas reach, and its list fits: no call answers 1 or 21 to it.
use Rattle.std.specs.Prelude.{Ok, Err, Result}
use Prim.Native.Nat.{ℕ}
use mathlib.Core.Bool.{Bool, true, false}
use mathlib.Core.Path.{◌≡◌, refl, sym, ap, ◌∙◌, subst}
use mathlib.Core.List.{List, [], ◌∷◌}
use lib.IntN.{ℤ}
use Rattle.rules.specs.declared.Head.{Head}
use Rattle.rules.specs.declared.Refusal.{Refusal}
use Rattle.rules.specs.declared.Allocation.{Allocation}
use Rattle.rules.specs.Tables.{Atlas}
use Rattle.rules.specs.Calls.{new}
use Rattle.rules.specs.Builds.{present}
use Rattle.rules.specs.Listed.{Holding, holding}
use Rattle.rules.specs.History.{Call, Event, listed_step, after_made, Listing, Run}
use Rattle.rules.specs.Trace.{Bench, bench, lying, replay, unmade}
use Rattle.laws.proofs.Tests.Tells.{true_false, false_true}
use Rattle.promises.proofs.Reached.{Reached}
use Rattle.promises.proofs.Sounds.{listed_reached}
use Rattle.promises.proofs.Never.{NeverOne, never_1, NeverSays, listed_never_1, listed_never_21}
use Rattle.promises.proofs.Framing.{Malformed}
use Rattle.promises.proofs.RecordTurns.{made_by, answered}
use Rattle.promises.proofs.Replays.{Records, Divided, divided, turns}
use Rattle.promises.proofs.Stops.{replay_after}
use Rattle.promises.proofs.NoAtlas.{NotNew}

-- ---- the calls that are made

-- what calls leave, one after another
abbrev pub left_after : List Call → Holding → Holding
left_after [] l = l
left_after (c ∷ cs) l = left_after cs (listed_step present c l).left

-- `FromNew g asked made`: of the calls that records are, where no atlas was made yet, those from the first accepted new on
pub data FromNew (g : Atlas) : List Call → List Call → Type 0 where
  none : FromNew g [] []
  before : (c : Call) {cs ds : List Call} → NotNew c → FromNew g cs ds → FromNew g (c ∷ cs) ds
  refused : (w h aw ah n : ℤ) (v : ℕ) (r : Refusal) {cs ds : List Call} → new w h aw ah n v g.shelves g.buckets ≡ Err r
      → FromNew g cs ds → FromNew g (Call.new w h aw ah n v ∷ cs) ds
  accepted : (w h aw ah n : ℤ) (v : ℕ) (head : Head) {cs : List Call} → new w h aw ah n v g.shelves g.buckets ≡ Ok head
      → FromNew g (Call.new w h aw ah n v ∷ cs) (Call.new w h aw ah n v ∷ cs)

pub from_new : (g : Atlas) (cs : List Call) → (ds : List Call) × FromNew g cs ds
from_new g [] = ([], FromNew.none)
from_new g (Call.new w h aw ah n v ∷ cs) = by_answer (new w h aw ah n v g.shelves g.buckets) refl (from_new g cs)
  where
    by_answer : (m : Result Head Refusal) → new w h aw ah n v g.shelves g.buckets ≡ m → (ds : List Call) × FromNew g cs ds
        → (ds : List Call) × FromNew g (Call.new w h aw ah n v ∷ cs) ds
    by_answer (Ok head) e f = (Call.new w h aw ah n v ∷ cs, FromNew.accepted w h aw ah n v head e)
    by_answer (Err r) e f = (f.0, FromNew.refused w h aw ah n v r e f.1)
from_new g (Call.allocate w h ∷ cs) = let f = from_new g cs in (f.0, FromNew.before (Call.allocate w h) tt f.1)
from_new g (Call.deallocate id ∷ cs) = let f = from_new g cs in (f.0, FromNew.before (Call.deallocate id) tt f.1)
from_new g (Call.clear ∷ cs) = let f = from_new g cs in (f.0, FromNew.before Call.clear tt f.1)
from_new g (Call.grow w h ∷ cs) = let f = from_new g cs in (f.0, FromNew.before (Call.grow w h) tt f.1)
from_new g (Call.read ∷ cs) = let f = from_new g cs in (f.0, FromNew.before Call.read tt f.1)

-- an atlas was made
abbrev pub some : List Call → Bool
some [] = false
some (c ∷ cs) = true

-- the bench after a replay of a trace with these records
pub record MakesCalls (after t : Bench) (cs : List Call) : Type 0 where
  -- an atlas was there before: all the calls are made on it
  pub made : t.made ≡ true → after ≡ bench true (left_after cs (lying t))
  -- none was there
  pub unmade : (ds : List Call) → t.made ≡ false → FromNew t.state cs ds → after ≡ bench (some ds) (left_after ds (lying t))

-- ---- on the calls alone

made_stays : (m : Result Head Refusal) → made_by (Event.made m) true ≡ true
made_stays (Ok head) = refl
made_stays (Err r) = refl

on_made : (c : Call) (l : Holding) → (answered c (bench true l)).after ≡ bench true (listed_step present c l).left
on_made (Call.new w h aw ah n v) l =
    let m : Result Head Refusal = new w h aw ah n v l.state.shelves l.state.buckets in
    ap (λ (b : Bool). bench b (holding (after_made m l.state) l.list)) (made_stays m)
on_made (Call.allocate w h) l = refl
on_made (Call.deallocate id) l = refl
on_made Call.clear l = refl
on_made (Call.grow w h) l = refl
on_made Call.read l = refl

all_made : (cs : List Call) (l : Holding) → (turns cs (bench true l)).after ≡ bench true (left_after cs l)
all_made [] l = refl
all_made (c ∷ cs) l = ap (λ (t : Bench). (turns cs t).after) (on_made c l) ∙ all_made cs (listed_step present c l).left

on_none : (c : Call) (l : Holding) → NotNew c → (answered c (bench false l)).after ≡ bench false l
on_none (Call.new w h aw ah n v) l ne = absurd ne
on_none (Call.allocate w h) l ne = refl
on_none (Call.deallocate id) l ne = refl
on_none Call.clear l ne = refl
on_none (Call.grow w h) l ne = refl
on_none Call.read l ne = refl

from_none : {g : Atlas} {cs ds : List Call} → FromNew g cs ds → (xs : List Allocation)
    → (turns cs (bench false (holding g xs))).after ≡ bench (some ds) (left_after ds (holding g xs))
from_none FromNew.none xs = refl
from_none {g} (FromNew.before c {cs} ne f) xs = ap (λ (t : Bench). (turns cs t).after) (on_none c (holding g xs) ne) ∙ from_none f xs
from_none {g} (FromNew.refused w h aw ah n v r {cs} e f) xs =
    ap (λ (m : Result Head Refusal). (turns cs (bench (made_by (Event.made m) false) (holding (after_made m g) xs))).after) e ∙ from_none f xs
from_none {g} (FromNew.accepted w h aw ah n v head {cs} e) xs =
    let m : Result Head Refusal = new w h aw ah n v g.shelves g.buckets in
    ap (λ (x : Result Head Refusal). (turns cs (bench (made_by (Event.made x) false) (holding (after_made m g) xs))).after) e
    ∙ all_made cs (holding (after_made m g) xs)

makes_calls : (cs : List Call) (made : Bool) (l : Holding) → MakesCalls (turns cs (bench made l)).after (bench made l) cs
makes_calls cs true l = record { made = λ e. all_made cs l; unmade = λ ds e f. true_false e }
makes_calls cs false l = record { made = λ e. false_true e; unmade = λ ds e f. from_none f l.list }

-- ---- a replay

-- a replay makes the calls of its records, and no others
pub replay_calls : {trace : List ℕ} {cs : List Call} {place : ℕ} {left : List ℕ} → Records 0 trace cs place left → Malformed place left → (t : Bench)
    → MakesCalls (replay trace t).after t cs
replay_calls {cs = cs} r m t =
    subst (λ (after : Bench). MakesCalls after t cs) (sym (replay_after r m t)) (makes_calls cs t.made (lying t))

-- ---- reached

-- where there is an atlas, calls from a fresh one lead to its state
abbrev pub Fair : Bench → Type 0
Fair t = t.made ≡ true → Reached present t.state

-- and where nothing else wrote the list either, they are a run of the present build
abbrev pub Ran : Bench → Type 0
Ran t = t.made ≡ true → (past : List Event) × Run present past t.state (Listing.lent t.list)

-- what holds of a bench after one call holds after a replay
module _ (P : Bench → Type 0) (one : (c : Call) (t : Bench) → P t → P (answered c t).after) where
  turns_keep : (cs : List Call) (t : Bench) → P t → P (turns cs t).after
  turns_keep [] t p = p
  turns_keep (c ∷ cs) t p = turns_keep cs (answered c t).after (one c t p)

  replay_keeps : (trace : List ℕ) (t : Bench) → P t → P (replay trace t).after
  replay_keeps trace t p =
      let d : Divided 0 trace = divided trace in
      subst P (sym (replay_after d.records d.stop t)) (turns_keep d.calls t p)

new_fair : (w h aw ah n : ℤ) (v : ℕ) (made : Bool) (l : Holding) (m : Result Head Refusal) → new w h aw ah n v l.state.shelves l.state.buckets ≡ m
    → Fair (bench made l) → Fair (bench (made_by (Event.made m) made) (holding (after_made m l.state) l.list))
new_fair w h aw ah n v made l (Ok head) e f = λ is. Reached.fresh present w h aw ah n v l.state.shelves l.state.buckets head e
new_fair w h aw ah n v made l (Err r) e f = f

call_fair : (c : Call) (made : Bool) (l : Holding) → Fair (bench made l) → Fair (answered c (bench made l)).after
call_fair (Call.new w h aw ah n v) made l f = new_fair w h aw ah n v made l (new w h aw ah n v l.state.shelves l.state.buckets) refl f
call_fair (Call.allocate w h) true l f = λ e. listed_reached present (f refl) (Call.allocate w h) l.list
call_fair (Call.deallocate id) true l f = λ e. listed_reached present (f refl) (Call.deallocate id) l.list
call_fair Call.clear true l f = λ e. listed_reached present (f refl) Call.clear l.list
call_fair (Call.grow w h) true l f = λ e. listed_reached present (f refl) (Call.grow w h) l.list
call_fair Call.read true l f = f
call_fair (Call.allocate w h) false l f = f
call_fair (Call.deallocate id) false l f = f
call_fair Call.clear false l f = f
call_fair (Call.grow w h) false l f = f
call_fair Call.read false l f = f

pub replay_reached : (trace : List ℕ) (t : Bench) → Fair t → Fair (replay trace t).after
replay_reached = replay_keeps Fair (λ c t. call_fair c t.made (lying t))

-- so no call ever answers 1 to the atlas that a replay made
pub replay_never_1 : (trace : List ℕ) (t : Bench) → Fair t → (replay trace t).after.made ≡ true → NeverOne (replay trace t).after.state
replay_never_1 trace t f e = never_1 (replay_reached trace t f e)

-- from the bench that a replay starts with
pub replay_fresh : (trace shelves buckets : List ℕ) (list : List Allocation) → Fair (replay trace (unmade shelves buckets list)).after
replay_fresh trace shelves buckets list = replay_reached trace (unmade shelves buckets list) (λ e. false_true e)

-- ---- a run

-- an accepted new, the first or another
new_ran : (w h aw ah n : ℤ) (v : ℕ) (made : Bool) (l : Holding) (m : Result Head Refusal) → new w h aw ah n v l.state.shelves l.state.buckets ≡ m
    → Ran (bench made l) → Ran (bench (made_by (Event.made m) made) (holding (after_made m l.state) l.list))
new_ran w h aw ah n v made l (Ok head) e f =
    λ is. ([], Run.fresh present w h aw ah n v l.state.shelves l.state.buckets head e l.list)
new_ran w h aw ah n v made l (Err r) e f = f

on_ran : (c : Call) (l : Holding) → Ran (bench true l) → Ran (bench true (listed_step present c l).left)
on_ran c l f = λ e. let r = f refl in ((listed_step present c l).event ∷ r.0, Run.called present r.0 l.state l.list r.1 c)

call_ran : (c : Call) (made : Bool) (l : Holding) → Ran (bench made l) → Ran (answered c (bench made l)).after
call_ran (Call.new w h aw ah n v) made l f = new_ran w h aw ah n v made l (new w h aw ah n v l.state.shelves l.state.buckets) refl f
call_ran (Call.allocate w h) true l f = on_ran (Call.allocate w h) l f
call_ran (Call.deallocate id) true l f = on_ran (Call.deallocate id) l f
call_ran Call.clear true l f = on_ran Call.clear l f
call_ran (Call.grow w h) true l f = on_ran (Call.grow w h) l f
call_ran Call.read true l f = on_ran Call.read l f
call_ran (Call.allocate w h) false l f = f
call_ran (Call.deallocate id) false l f = f
call_ran Call.clear false l f = f
call_ran (Call.grow w h) false l f = f
call_ran Call.read false l f = f

pub replay_ran : (trace : List ℕ) (t : Bench) → Ran t → Ran (replay trace t).after
replay_ran = replay_keeps Ran (λ c t. call_ran c t.made (lying t))

-- so no call that is lent what a replay left answers 1, nor 21
pub replay_never_21 : (trace : List ℕ) (t : Bench) → Ran t → (replay trace t).after.made ≡ true
    → NeverSays 1 (lying (replay trace t).after) × NeverSays 21 (lying (replay trace t).after)
replay_never_21 trace t f e = let r = (replay_ran trace t f e).1 in (listed_never_1 r, listed_never_21 r)

pub replay_fits : (trace shelves buckets : List ℕ) (list : List Allocation) → Ran (replay trace (unmade shelves buckets list)).after
replay_fits trace shelves buckets list = replay_ran trace (unmade shelves buckets list) (λ e. false_true e)
