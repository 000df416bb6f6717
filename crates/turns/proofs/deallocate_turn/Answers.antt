use Rattle.rules.specs.Listed as listed
use Rattle.rules.specs.Trace.{deallocate_turn, after_reply}
use Rattle.turns.proofs.Answers.{turn_by, id_by}
use Rattle.turns.proofs.deallocate_turn.Goals as goal

pub returns : goal.returns
unfolding deallocate_turn
returns c =
    let called = c.deallocate-answer.ensures in
    let after = c.after_reply.ensures _ _ _ in
    (turn_by (after_reply _) (id_by listed.deallocate called.0 c.u32_at-id.ensures) after.0, after.1 called.1)
