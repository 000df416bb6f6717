-- "14: replay: malformed record", exactly when; and T-05: "15 is not given any more".
use Rattle.std.specs.Prelude.{Ok, Err, Result}
use Rattle.rules.specs.declared.Refusal.{Refusal}
use Prim.Native.Nat.{ℕ, ◌+◌, ◌<◌}
use mathlib.Core.Bool.{Bool, true, false}
use mathlib.Core.Path.{◌≡◌, refl, sym, ap, ◌∙◌}
use mathlib.Core.Logic.{◌≢◌}
use mathlib.Core.List.{List, [], ◌∷◌, ◌++◌, append-nil}
use native.Mathlib.Omega.{arith}
use borrow.Author.Tests.{eqb-false}
use lib.Dec.{eqb}
use lib.ListN.{length, get_or}
use Rattle.rules.specs.Text.{bytes}
use Rattle.rules.specs.Builds.{present}
use Rattle.rules.specs.Listed.{Holding, allocated_space, free_space_of}
use Rattle.rules.specs.History.{Call, Event, listed_step}
use Rattle.rules.specs.Trace.{Bench, bench, lying, Turn, turn, replay}
use Rattle.promises.proofs.Framing.{Malformed}
use Rattle.promises.proofs.RecordTurns.{event_line, called, on_atlas, answered}
use Rattle.promises.proofs.Replays.{Records, records_place, turns, followed, stop14, Continues, continues, behind, Remains, remains}

-- ---- no record's line is one of a stop

-- lines that differ in byte i
pub unlike : (i : ℕ) {a b : List ℕ} → eqb (get_or a i 0) (get_or b i 0) ≡ false → a ≡ b → ⊥
unlike i {a} {b} ne e = eqb-false (get_or a i 0) (get_or b i 0) ne (ap (λ (line : List ℕ). get_or line i 0) e)

-- their second letters differ
abbrev second : List ℕ → ℕ
second line = get_or line 1 0

-- what a call answers; a list lent anew is no answer
abbrev Said : Event → Type 0
Said (Event.made m) = Unit {0}
Said (Event.allocated x) = Unit {0}
Said (Event.deallocated id x) = Unit {0}
Said (Event.cleared x) = Unit {0}
Said (Event.grown x) = Unit {0}
Said Event.read = Unit {0}
Said (Event.lent ys) = ⊥

step_said : (c : Call) (l : Holding) → Said (listed_step present c l).event
step_said (Call.new w h aw ah n v) l = tt
step_said (Call.allocate w h) l = tt
step_said (Call.deallocate id) l = tt
step_said Call.clear l = tt
step_said (Call.grow w h) l = tt
step_said Call.read l = tt

event_no_stop : (e : Event) → Said e → (occupied free : Result ℕ Refusal) (more : List ℕ) → second (event_line e occupied free ++ more) ≢ 116
event_no_stop (Event.made (Ok head)) q occupied free more = λ e. omega (arith, e)
event_no_stop (Event.made (Err r)) q occupied free more = λ e. omega (arith, e)
event_no_stop (Event.allocated (Ok a)) q occupied free more = λ e. omega (arith, e)
event_no_stop (Event.allocated (Err r)) q occupied free more = λ e. omega (arith, e)
event_no_stop (Event.deallocated id (Ok tt)) q occupied free more = λ e. omega (arith, e)
event_no_stop (Event.deallocated id (Err r)) q occupied free more = λ e. omega (arith, e)
event_no_stop (Event.cleared (Ok tt)) q occupied free more = λ e. omega (arith, e)
event_no_stop (Event.cleared (Err r)) q occupied free more = λ e. omega (arith, e)
event_no_stop (Event.grown (Ok tt)) q occupied free more = λ e. omega (arith, e)
event_no_stop (Event.grown (Err r)) q occupied free more = λ e. omega (arith, e)
event_no_stop Event.read q (Ok occupied) (Ok free) more = λ e. omega (arith, e)
event_no_stop Event.read q (Ok occupied) (Err r) more = λ e. omega (arith, e)
event_no_stop Event.read q (Err r) free more = λ e. omega (arith, e)
event_no_stop (Event.lent ys) q occupied free more = absurd q

called_no_stop : (c : Call) (t : Bench) (more : List ℕ) → second ((called c t).line ++ more) ≢ 116
called_no_stop c t more = event_no_stop (listed_step present c (lying t)).event (step_said c (lying t)) (allocated_space (lying t))
    (free_space_of (lying t)) more

atlas_no_stop : (c : Call) (made : Bool) (l : Holding) (more : List ℕ) → second ((on_atlas c (bench made l)).line ++ more) ≢ 116
atlas_no_stop c true l more = called_no_stop c (bench true l) more
atlas_no_stop c false l more = λ e. omega (arith, e)

no_stop : (c : Call) (t : Bench) (more : List ℕ) → second ((answered c t).line ++ more) ≢ 116
no_stop (Call.new w h aw ah n v) t more = called_no_stop (Call.new w h aw ah n v) t more
no_stop (Call.allocate w h) t more = atlas_no_stop (Call.allocate w h) t.made (lying t) more
no_stop (Call.deallocate id) t more = atlas_no_stop (Call.deallocate id) t.made (lying t) more
no_stop Call.clear t more = atlas_no_stop Call.clear t.made (lying t) more
no_stop (Call.grow w h) t more = atlas_no_stop (Call.grow w h) t.made (lying t) more
no_stop Call.read t more = atlas_no_stop Call.read t.made (lying t) more

-- ---- refusal 14

-- The trace starts with these records, and then, from place on, this is left. "14 writes `stop 14 ` and the record's offset and ends": where what is
-- left is malformed the stop follows their lines, nothing follows it, and the bench is as they left it. And a stop follows their lines only there.
pub record StopsExactly (trace : List ℕ) (cs : List Call) (place : ℕ) (left : List ℕ) (t : Bench) : Type 0 where
  pub offset : length trace ≡ place + length left
  pub when : 0 < length left → Malformed place left → replay trace t ≡ turn ((turns cs t).line ++ stop14 place) (turns cs t).after
  pub only : (more : List ℕ) → (replay trace t).line ≡ (turns cs t).line ++ (bytes "stop " ++ more) → (0 < length left) × Malformed place left

stops_only : {trace : List ℕ} {cs : List Call} {place : ℕ} {left : List ℕ} {t : Bench} (f : Continues trace cs place left t) (more : List ℕ)
    → Remains place left → f.rest.line ≡ bytes "stop " ++ more → (0 < length left) × Malformed place left
stops_only f more (Remains.nothing e) is = absurd (unlike 1 refl (sym (ap (λ (x : Turn). x.line) (f.ends e)) ∙ is))
stops_only f more (Remains.broken some m) is = (some, m)
stops_only {cs = cs} {t = t} f more (Remains.whole b) is =
    let g = f.goes b.0 b.1 b.2 b.3 in
    absurd (no_stop b.0 (turns cs t).after g.0 (ap second (sym g.1 ∙ is)))

pub stop_14 : {trace : List ℕ} {cs : List Call} {place : ℕ} {left : List ℕ} → Records 0 trace cs place left → (t : Bench)
    → StopsExactly trace cs place left t
stop_14 {trace} {cs} {place} {left} r t =
    let f : Continues trace cs place left t = continues r t in
    record {
      offset = omega (arith, records_place r);
      when = λ some m. f.is ∙ ap (followed (turns cs t)) (f.stops some m);
      only = λ more e. stops_only f more (remains place left) (behind f (bytes "stop " ++ more) e);
    }

-- ---- no refusal

-- records alone: their lines, and nothing more
pub replay_ends : {trace : List ℕ} {cs : List Call} {place : ℕ} → Records 0 trace cs place [] → (t : Bench) → replay trace t ≡ turns cs t
replay_ends {trace} {cs} {place} r t =
    let f : Continues trace cs place [] t = continues r t in
    f.is ∙ ap (followed (turns cs t)) (f.ends refl) ∙ ap (λ (line : List ℕ). turn line (turns cs t).after) (append-nil (turns cs t).line)

-- "An empty trace writes nothing."
pub replay_empty : (t : Bench) → replay [] t ≡ turn [] t
replay_empty t = replay_ends Records.end t

-- the bench after a replay is that after its records, whatever is left behind them
pub replay_after : {trace : List ℕ} {cs : List Call} {place : ℕ} {left : List ℕ} → Records 0 trace cs place left → Malformed place left → (t : Bench)
    → (replay trace t).after ≡ (turns cs t).after
replay_after {left = []} r m t = ap (λ (x : Turn). x.after) (replay_ends r t)
replay_after {left = x ∷ xs} r m t = ap (λ (x : Turn). x.after) ((stop_14 r t).when (omega arith) m)

-- ---- refusal 15

-- "15 is not given any more": no stop says it, behind whatever records, and no call did
pub never_15 : {trace : List ℕ} {cs : List Call} {place : ℕ} {left : List ℕ} → Records 0 trace cs place left → (t : Bench) (more : List ℕ)
    → (replay trace t).line ≡ (turns cs t).line ++ (bytes "stop 15 " ++ more) → ⊥
never_15 {trace} {cs} {place} {left} r t more e =
    let f : Continues trace cs place left t = continues r t in
    let m : (0 < length left) × Malformed place left = (stop_14 r t).only (bytes "15 " ++ more) e in
    unlike 6 refl (sym (ap (λ (x : Turn). x.line) (f.stops m.0 m.1)) ∙ behind f (bytes "stop 15 " ++ more) e)
