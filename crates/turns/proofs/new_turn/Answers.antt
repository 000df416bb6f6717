use mathlib.Core.Path.{◌∙◌}
use Rattle.rules.specs.Trace.{new_turn}
use Rattle.turns.proofs.Answers.{turn_is, tested_by, new_by, new_tested}
use Rattle.turns.proofs.new_turn.Goals as goal

pub returns : goal.returns
unfolding new_turn
returns c l =
    let made = c.made-answer.ensures in
    let stand = c.args.stand in
    let after = c.after_new.ensures in
    let wrote = after.0 _ _ l in
    (turn_is (new_by _ made) wrote, λ p. tested_by wrote (after.1 ∙ new_tested _ _ _ _ _ _ _ _ _ made stand l p))
