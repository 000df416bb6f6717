use Rattle.telling.specs.Header.{write_head}
use Rattle.telling.proofs.header.write_head.Goals as goal

pub returns : goal.returns
unfolding write_head
returns c = c.write_counts.ensures
