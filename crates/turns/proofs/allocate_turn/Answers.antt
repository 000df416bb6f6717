use Rattle.rules.specs.Listed as listed
use Rattle.rules.specs.Trace.{allocate_turn, after_placing}
use Rattle.framing.proofs.Numbers.{through}
use Rattle.turns.proofs.Answers.{turn_by, sides_by}
use Rattle.turns.proofs.allocate_turn.Goals as goal

pub returns : goal.returns
unfolding allocate_turn
returns c =
    let h = c.i32_at-height in
    let w = c.i32_at-width in
    let called = c.allocate-answer.ensures in
    let after = c.after_placing.ensures _ _ _ in (
      turn_by after_placing (sides_by listed.allocate called.0 (through w.ensures w.type_inv) (through h.ensures h.type_inv)) after.0,
      after.1 called.1,
    )
