-- What the header says of the end of the shelves.
use Rattle.std.specs.Prelude.{◌+◌, ◌<◌, ◌≡◌, ◌≢◌}
use Rattle.rules.specs.declared.Head.{Head}
use Rattle.standing.specs.declared.ending.Pass.{Pass}

pub record Ends (head : Head) (pass : Pass) : Type 0 where
  pub occupied : head.occupied ≡ pass.tally.pixels
  pub empty : head.shelf_count ≡ 0 → (head.column ≡ 0) × (head.room ≡ head.height)
  pub column : head.shelf_count ≢ 0 → pass.row.opened ≡ head.column + 1
  pub room : head.shelf_count ≢ 0 → head.room + pass.row.top ≡ head.height
  pub used : head.shelf_count ≢ 0 → pass.before < pass.tally.pixels
