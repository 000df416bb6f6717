-- Where a shelf may stand, said of the row before it.
use Rattle.std.specs.Prelude.{ℕ, ◌+◌, ◌≤◌, ◌<◌, ◌≡◌, ◌≢◌, eqb, if◌then◌else◌}
use Rattle.rules.specs.declared.Head.{Head}
use Rattle.rules.specs.declared.Shelf.{Shelf}
use Rattle.rules.specs.Limits.{none}
use Rattle.rules.specs.Return.{top_of}
use Rattle.standing.specs.declared.shelves.Row.{Row}

-- a shelf at y = 0
pub record Opens (head : Head) (r : Row) (shelf : Shelf) : Type 0 where
  pub high : 1 ≤ shelf.height
  pub column : r.opened ≤ head.column
  pub x : shelf.x ≡ r.left

-- any other
pub record OnTop (head : Head) (r : Row) (shelf : Shelf) : Type 0 where
  pub y : shelf.y ≡ r.top
  pub x : shelf.x + head.column_width ≡ r.left

pub record OnRow (head : Head) (r : Row) (shelf : Shelf) : Type 0 where
  pub top : top_of shelf ≤ head.height
  pub opens : shelf.y ≡ 0 → Opens head r shelf
  pub stays : shelf.y ≢ 0 → OnTop head r shelf

-- with what is asked of the shelf's record besides
pub record Standing (head : Head) (r : Row) (shelf : Shelf) : Type 0 where
  pub some : shelf.first ≢ none
  pub wide : head.columns ≡ 1 → 1 ≤ shelf.width
  pub fits : OnRow head r shelf

-- the sums of a row's step are within 16 bits
pub record Ranged (head : Head) (r : Row) (shelf : Shelf) : Type 0 where
  pub top : top_of shelf < 65536
  pub opened : r.opened + 1 < 65536
  pub left : shelf.y ≡ 0 → r.left + head.column_width < 65536

abbrev pub row : ℕ → ℕ → ℕ → Row
row opened left top = record { opened = opened; left = left; top = top }

unfoldable pub row_next : Head → Row → Shelf → Row
row_next head r shelf =
    if eqb shelf.y 0 then row (r.opened + 1) (r.left + head.column_width) (top_of shelf) else row r.opened r.left (top_of shelf)
