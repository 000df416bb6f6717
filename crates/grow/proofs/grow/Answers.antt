use mathlib.Core.Path.{◌∙◌}
use Rattle.grow.proofs.Widening.{grown_can, grown_widens, grown_stays}
use Rattle.grow.proofs.grow.Goals as goal

pub widen_all-requires : goal.widen_all-requires
widen_all-requires c =
    rw c.grown_head-sized.ensures (grown_can _ _ _ c.if-head-eq1.true c.requires)

pub returns-then-head-eq1 : goal.returns-then-head-eq1
returns-then-head-eq1 c =
    rw c.grown_head-sized.ensures at c.widen_all.ensures ∙ grown_widens _ _ _ c.if-head-eq1.true

pub returns : goal.returns
returns c = rw c.grown_head-sized.ensures (grown_stays _ _ _ c.if-head-eq1.false)
