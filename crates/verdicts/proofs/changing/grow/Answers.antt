use mathlib.Core.Path.{sym, ◌∙◌}
use mir.Facts.{to_z-of_z}
use Rattle.laws.proofs.Results.{passed_on}
use Rattle.laws.proofs.Held.Calls.{grow_is}
use Rattle.verdicts.proofs.Lists.{grow_refused}
use Rattle.verdicts.proofs.Next.{grow_next}
use Rattle.verdicts.proofs.changing.grow.Goals as goal

pub returns-in_err-count : goal.returns-in_err-count
returns-in_err-count c =
    rw (passed_on c.from_residual.result c.from_residual.ensures.1)
    (λ l p. (grow_refused _ l (sym c.in_err-count.was ∙ p) _ _, p))

pub returns-in_err-after : goal.returns-in_err-after
returns-in_err-after c =
    rw (passed_on c.from_residual-in_err-after.result c.from_residual-in_err-after.ensures.1)
    (λ l p.
    let grown = grow_is _ l _ p _ _ (rw (to_z-of_z c.ranges.width, to_z-of_z c.ranges.height) at c.in_err-after.ensures) in
    (grown, grow_next _ _ _ p _ _ grown))

pub returns : goal.returns
returns c l p =
    let grown = grow_is _ l _ p _ _ (rw (to_z-of_z c.ranges.width, to_z-of_z c.ranges.height) at c.in_ok-after.ensures) in
    (grown, sym c.in_ok-count.was ∙ grow_next _ _ _ p _ _ grown)
