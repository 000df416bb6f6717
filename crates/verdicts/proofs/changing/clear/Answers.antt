use Rattle.laws.proofs.Results.{passed_on}
use Rattle.laws.proofs.Held.Calls.{clear_is}
use Rattle.verdicts.proofs.Next.{clear_next}
use Rattle.verdicts.proofs.changing.clear.Goals as goal

pub returns-in_err-after : goal.returns-in_err-after
returns-in_err-after c =
    rw (passed_on c.from_residual.result c.from_residual.ensures.1)
    (λ s b l p. (clear_is _ l _ p (c.in_err-after.ensures s b), p))

pub returns : goal.returns
returns c s b l p =
    let cleared = clear_is _ l _ p (c.in_ok-after.ensures s b) in
    (cleared, clear_next _ _ _ p cleared)
