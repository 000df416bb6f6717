use native.Mathlib.Omega.{arith}
use Rattle.tested.proofs.Arms.{width_less}
use Rattle.tested.proofs.making.fresh_head.Goals as goal

pub overflow_cast-result-6 : goal.overflow_cast-result-6
overflow_cast-result-6 c =
    let a = c.args in
    omega (arith, c.column_width-column_width.ensures, width_less a.width a.columns a.align_width)
