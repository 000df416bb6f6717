use mathlib.Core.Path.{refl}
use Rattle.telling.specs.Header.{read_head}
use Rattle.telling.proofs.header.read_head.Goals as goal

pub returns : goal.returns
unfolding read_head
returns c = refl
