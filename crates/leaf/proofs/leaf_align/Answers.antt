use mathlib.Core.Path.{sym}
use native.Mathlib.Nat.{mul-zero}
use Rattle.rules.specs.Rounding.{align}
use Rattle.leaf.proofs.leaf_align.Goals as goal

pub returns-then-step-eq0 : goal.returns-then-step-eq0
unfolding align
returns-then-step-eq0 c = rw c.if-step-eq0.true (sym (mul-zero _))
