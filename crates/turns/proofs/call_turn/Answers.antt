use mathlib.Core.Path.{refl}
use native.Mathlib.Omega.{arith}
use Rattle.rules.specs.Trace.{length_of}
use Rattle.laws.proofs.Held.Calls.{passed}
use Rattle.entries.proofs.Verdicts.{judged}
use Rattle.grow.proofs.Granted.{can_free}
use Rattle.turns.proofs.Answers.{turn_is}
use Rattle.turns.proofs.Payloads.{fits, call_allocate, call_deallocate, call_clear, call_grow, call_report}
use Rattle.turns.proofs.call_turn.Goals as goal

pub allocate_turn-requires : goal.allocate_turn-requires
unfolding length_of
allocate_turn-requires c =
    let p = c.requires in
    let f = fits 2 8 61 refl (omega arith) p.0 c.in-2.is in
    (f.0, f.1, p.1)

pub deallocate_turn-requires : goal.deallocate_turn-requires
unfolding length_of
deallocate_turn-requires c =
    let p = c.requires in
    let f = fits 3 4 19 refl (omega arith) p.0 c.in-3.is in
    (f.0, f.1, p.1)

pub grow_turn-requires : goal.grow_turn-requires
unfolding length_of
grow_turn-requires c =
    let p = c.requires in
    let f = fits 5 8 19 refl (omega arith) p.0 c.in-5.is in
    (f.0, f.1, judged _ _ _ p.1)

pub report_turn-requires : goal.report_turn-requires
report_turn-requires c =
    let p = c.requires in
    (omega (arith, p.0.room), λ n f. can_free (passed _ p.1 n f).passing.sound.steady)

pub returns-in-2 : goal.returns-in-2
returns-in-2 c =
    let r = c.allocate_turn.ensures in
    (turn_is (call_allocate _ _ _ c.in-2.is) r.0, r.1)

pub returns-in-3 : goal.returns-in-3
returns-in-3 c =
    let r = c.deallocate_turn.ensures in
    (turn_is (call_deallocate _ _ _ c.in-3.is) r.0, r.1)

pub returns-in-4 : goal.returns-in-4
returns-in-4 c =
    let r = c.clear_turn.ensures _ _ _ c.requires.1 in
    (turn_is (call_clear _ _ _ c.in-4.is) r.0, r.1)

pub returns-in-5 : goal.returns-in-5
returns-in-5 c =
    let r = c.grow_turn.ensures _ c.requires.1 in
    (turn_is (call_grow _ _ _ c.in-5.is) r.0, r.1)

pub returns-in_default : goal.returns-in_default
returns-in_default c =
    let n = c.in_default.in_default-own.rest in
    let r = c.report_turn.ensures _ _ _ c.requires.1 in
    (turn_is (call_report _ _ _ n.0.0.0.1 n.0.0.1 n.0.1 n.1) r.0, r.1)
