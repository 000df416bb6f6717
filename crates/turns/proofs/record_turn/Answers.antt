use mathlib.Core.Path.{refl}
use native.Mathlib.Omega.{arith}
use Rattle.rules.specs.Trace.{length_of}
use Rattle.turns.proofs.Answers.{turn_is}
use Rattle.turns.proofs.Payloads.{fits, record_new, record_call, record_none}
use Rattle.turns.proofs.record_turn.Goals as goal

pub new_turn-requires : goal.new_turn-requires
unfolding length_of
new_turn-requires c =
    fits 1 21 19 refl (omega arith) c.requires.0 c.if-kind-eq1.true

pub returns-then-kind-eq1 : goal.returns-then-kind-eq1
returns-then-kind-eq1 c =
    let r = c.new_turn.ensures _ in
    (turn_is (record_new _ _ _ c.if-kind-eq1.true) r.0, r.1 c.requires.1)

pub returns-then-stand : goal.returns-then-stand
returns-then-stand c =
    let r = c.call_turn.ensures in
    (turn_is (record_call _ _ _ c.if-kind-eq1.false c.if-stand.true) r.0, r.1)

pub returns : goal.returns
returns c = (
  turn_is (record_none _ _ _ c.if-kind-eq1.false c.if-stand.false)
      (record { put = c.refused_line-end.ensures; bench = refl }),
  c.requires.1,
)
