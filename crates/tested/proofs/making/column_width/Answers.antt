use Rattle.tested.proofs.Arms.{width_is}
use Rattle.tested.proofs.making.column_width.Goals as goal

pub returns : goal.returns
returns c = width_is _ _ _
