use mathlib.Core.Path.{refl}
use Rattle.telling.specs.Header.{write_allocation}
use Rattle.telling.proofs.answers.write_allocation.Goals as goal

pub returns : goal.returns
unfolding write_allocation
returns c = refl
