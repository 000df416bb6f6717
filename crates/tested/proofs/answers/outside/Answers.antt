use mathlib.Core.Path.{refl}
use borrow.Author.Tests.{eq-eqb, ne_eqb}
use Rattle.rules.specs.Calls.{outside}
use Rattle.laws.proofs.Calls.Arms.{or_first, or_second}
use Rattle.tested.proofs.answers.outside.Goals as goal

pub returns-then-n-eq0 : goal.returns-then-n-eq0
unfolding outside
returns-then-n-eq0 c = or_first _ _ refl (eq-eqb _ _ c.if-n-eq0.true)

pub returns-else-n-eq0 : goal.returns-else-n-eq0
unfolding outside
returns-else-n-eq0 c = or_second _ _ refl (ne_eqb _ _ c.if-n-eq0.false)
