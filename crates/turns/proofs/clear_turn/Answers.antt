use mathlib.Core.Path.{sym}
use Rattle.rules.specs.Trace.{clear_turn, after_reply}
use Rattle.turns.proofs.Answers.{turn_by}
use Rattle.turns.proofs.clear_turn.Goals as goal

pub returns : goal.returns
unfolding clear_turn
returns c s b l p =
    let called = c.clear-answer.ensures s b l p in
    let after = c.after_reply.ensures s b l in
    (turn_by (after_reply _) (sym called.0) after.0, after.1 called.1)
