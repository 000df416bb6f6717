-- The row after the first shelves.
use Rattle.std.specs.Prelude.{ℕ, zero, suc, ◌+◌, ◌*◌, ◌≤◌, ◌≡◌, List}
use Rattle.rules.specs.Tables.{Atlas, shelf_at}
use Rattle.rules.specs.Return.{top_of}
use Rattle.rules.specs.Sound.{column_of}
use Rattle.standing.specs.declared.shelves.Row.{Row}

-- how many columns the first i shelves open, and the top of the last of them
abbrev pub opened_by : List ℕ → ℕ → ℕ
opened_by shelves zero = 0
opened_by shelves (suc i) = column_of shelves i + 1

abbrev pub top_before : List ℕ → ℕ → ℕ
top_before shelves zero = 0
top_before shelves (suc i) = top_of (shelf_at shelves i)

-- the row after i shelves
pub record RowAt (g : Atlas) (i : ℕ) (r : Row) : Type 0 where
  pub opened : r.opened ≡ opened_by g.shelves i
  pub left : r.left ≡ opened_by g.shelves i * g.head.column_width
  pub top : r.top ≡ top_before g.shelves i
  pub column : r.opened ≤ g.head.column + 1
