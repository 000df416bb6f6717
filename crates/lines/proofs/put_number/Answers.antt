use mathlib.Core.Path.{refl}
use native.Mathlib.Omega.{arith}
use Rattle.lines.proofs.Digits.{digits_start, digits_turn, digits_end}
use Rattle.lines.proofs.put_number.Goals as goal

pub loop-left-init : goal.loop-left-init
loop-left-init c = digits_start _ _ refl (omega arith)

pub loop-left-preserved : goal.loop-left-preserved
loop-left-preserved c = digits_turn _ _ _ _ c.loop-left.invariant (omega arith)

pub returns : goal.returns
returns c =
    let inv = c.loop-left.invariant in
    rw (digits_end inv (omega arith)) at c.put_text.ensures
