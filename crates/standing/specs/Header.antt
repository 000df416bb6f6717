-- What is asked of the header by itself.
use Rattle.std.specs.Prelude.{◌*◌, ◌≤◌, ◌<◌}
use Rattle.rules.specs.declared.Head.{Head}
use Rattle.rules.specs.Sound.{Domain}

pub record Headed (head : Head) : Type 0 where
  pub domain : Domain head
  pub fit : head.columns * head.column_width ≤ head.width
  pub current : head.column < head.columns
