use mathlib.Core.Path.{refl}
use Rattle.telling.specs.Header.{write_counts}
use Rattle.telling.proofs.header.write_counts.Goals as goal

pub returns : goal.returns
unfolding write_counts
returns c = refl
