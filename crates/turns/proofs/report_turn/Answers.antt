use mathlib.Core.Path.{refl, ◌∙◌}
use Rattle.laws.proofs.Held.Calls.{allocated_is, free_is}
use Rattle.rules.specs.Trace.{report_turn}
use Rattle.turns.proofs.report_turn.Goals as goal

pub returns : goal.returns
unfolding report_turn
returns c s b l p =
    let occupied = c.allocated_space-occupied.ensures ∙ allocated_is _ l _ p in
    let free = c.free_space-free.ensures ∙ free_is _ l _ p in
    (record { put = rw (occupied, free) at c.report_line-end.ensures; bench = refl }, p)
