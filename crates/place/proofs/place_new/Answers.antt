use mathlib.Core.Path.{◌∙◌}
use native.Mathlib.Omega.{arith}
use Rattle.place.proofs.From.{few, ends_is, can_shelf, can_issue_new}
use Rattle.place.proofs.Arms.{add_ends, add_done}
use Rattle.place.proofs.place_new.Goals as goal

pub filler_ends-requires : goal.filler_ends-requires
filler_ends-requires c = (c.requires.place.sound.steady.columns.current, few c.requires)

pub returns-then-filler_ends : goal.returns-then-filler_ends
returns-then-filler_ends c =
    add_ends _ _ _ (ends_is c.requires _ c.filler_ends.ensures ∙ c.if-filler_ends.true)

pub new_shelf-added-requires : goal.new_shelf-added-requires
new_shelf-added-requires c = can_shelf c.requires (ends_is c.requires _ c.filler_ends.ensures ∙ c.if-filler_ends.false)

pub overflow_sub-added : goal.overflow_sub-added
overflow_sub-added c =
    omega (arith, (can_issue_new c.requires _ c.new_shelf-added.ensures (ends_is c.requires _ c.filler_ends.ensures ∙ c.if-filler_ends.false)).there)

pub issue_first-requires : goal.issue_first-requires
issue_first-requires c =
    can_issue_new c.requires _ c.new_shelf-added.ensures (ends_is c.requires _ c.filler_ends.ensures ∙ c.if-filler_ends.false)

pub returns : goal.returns
returns c =
    c.issue_first.ensures ∙ add_done _ _ _ _ c.new_shelf-added.ensures (ends_is c.requires _ c.filler_ends.ensures ∙ c.if-filler_ends.false)
