use Rattle.lines.proofs.Digits.{Digits}
use Rattle.lines.proofs.put_number.Given as goal

abbrev pub invariant-loop-left : goal.invariant-loop-left
invariant-loop-left l = Digits l.digits l.i l.left l.n

abbrev pub decreases-loop-left : goal.decreases-loop-left
decreases-loop-left l = l.left
