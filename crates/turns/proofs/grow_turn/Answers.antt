use Rattle.rules.specs.Listed as listed
use Rattle.rules.specs.Trace.{grow_turn, after_reply}
use Rattle.framing.proofs.Numbers.{through}
use Rattle.turns.proofs.Answers.{turn_by, sides_by}
use Rattle.turns.proofs.grow_turn.Goals as goal

pub returns : goal.returns
unfolding grow_turn
returns c l p =
    let h = c.i32_at-height in
    let w = c.i32_at-width in
    let called = c.grow-answer.ensures l p in
    let after = c.after_reply.ensures _ _ l in (
      turn_by (after_reply _) (sides_by listed.grow called.0 (through w.ensures w.type_inv) (through h.ensures h.type_inv)) after.0,
      after.1 called.1,
    )
