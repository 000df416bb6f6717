-- The header in lent numbers: 12 of them, in the order of the header's fields. All but the occupied figure are numbers of 16 bits; a
-- header with a larger one is that of no atlas.
use Rattle.std.specs.Prelude.{ℕ, ◌≤◌, ◌<◌, Bool, ◌&&◌, List, leb, ltb, length, get_or, set, Option, Some, None, if◌then◌else◌}
use Rattle.rules.specs.declared.Head.{Head}
use Rattle.rules.specs.declared.Allocation.{Allocation}
use Rattle.rules.specs.Sound.{all_to}

-- its 11 numbers of 16 bits
pub record IsHead (header : List ℕ) : Type 0 where
  pub long : 12 ≤ length header
  pub low : (i : ℕ) → i < 11 → get_or header i 0 < 65536

unfoldable pub is_head : List ℕ → Bool
is_head header = leb 12 (length header) && all_to 11 (λ i. ltb (get_or header i 0) 65536)

-- a header, and an out slice with room for so many numbers
unfoldable pub has_room : List ℕ → List ℕ → ℕ → Bool
has_room header out room = is_head header && leb room (length out)

unfoldable pub read_head : List ℕ → Head
read_head header = record {
  width = get_or header 0 0;
  height = get_or header 1 0;
  align_width = get_or header 2 0;
  align_height = get_or header 3 0;
  columns = get_or header 4 0;
  column_width = get_or header 5 0;
  column = get_or header 6 0;
  room = get_or header 7 0;
  shelf_count = get_or header 8 0;
  bucket_count = get_or header 9 0;
  released = get_or header 10 0;
  occupied = get_or header 11 0;
}

-- its second half: the column, the room, the counts, the released chain and the figure
unfoldable pub write_counts : Head → List ℕ → List ℕ
write_counts head header =
    let counts : List ℕ = set (set (set (set header 6 head.column) 7 head.room) 8 head.shelf_count) 9 head.bucket_count in
    set (set counts 10 head.released) 11 head.occupied

-- numbers past the twelfth stay
unfoldable pub write_head : Head → List ℕ → List ℕ
write_head head header =
    let sides : List ℕ = set (set (set (set header 0 head.width) 1 head.height) 2 head.align_width) 3 head.align_height in
    write_counts head (set (set sides 4 head.columns) 5 head.column_width)

-- the id and the rectangle's left, top, right and bottom
unfoldable pub write_allocation : Allocation → List ℕ → List ℕ
write_allocation a out =
    set (set (set (set (set out 0 a.id) 1 a.rectangle.left) 2 a.rectangle.top) 3 a.rectangle.right) 4 a.rectangle.bottom

-- the header, where the numbers are one's; and where the out slice has room too
unfoldable pub head_in : List ℕ → Option Head
head_in header = if is_head header then Some (read_head header) else None

unfoldable pub head_beside : List ℕ → List ℕ → ℕ → Option Head
head_beside header out room = if has_room header out room then Some (read_head header) else None
