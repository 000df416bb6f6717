-- The lines of a picture, put piece by piece: each number behind its text.
use Prim.Native.Nat.{ℕ, ◌+◌, ◌≤◌}
use mathlib.Core.Path.{◌≡◌, refl}
use mathlib.Core.List.{List, ◌++◌}
use lib.ListN.{length}
use Rattle.rules.specs.declared.Head.{Head}
use Rattle.rules.specs.declared.Drawn.{Drawn}
use Rattle.rules.specs.Limits.{picture_most}
use Rattle.rules.specs.Text.{bytes, decimal}
use Rattle.rules.specs.Picture.{first_line, fill, rect_line}
use Rattle.lines.specs.Put.{Put}
use Rattle.lines.proofs.Puts.{put_then, put_pair}
use Rattle.drawing.proofs.Rooms.{room_start, field_start}

-- ---- a rectangle's line, up to each of its numbers

abbrev pub to_x : Drawn → List ℕ
to_x d = bytes "<rect x=\"" ++ decimal d.x

abbrev pub to_y : Drawn → List ℕ
to_y d = to_x d ++ bytes "\" y=\"" ++ decimal d.y

abbrev pub to_width : Drawn → List ℕ
to_width d = to_y d ++ bytes "\" width=\"" ++ decimal d.width

abbrev pub to_height : Drawn → List ℕ
to_height d = to_width d ++ bytes "\" height=\"" ++ decimal d.height

pub rect_is : (d : Drawn) → rect_line d ≡ to_height d ++ fill d.paint
unfolding rect_line
rect_is d = refl

pub record RectRooms (at : ℕ) (d : Drawn) : Type 0 where
  pub x : at + length (to_x d) ≤ picture_most
  pub y : at + length (to_y d) ≤ picture_most
  pub width : at + length (to_width d) ≤ picture_most
  pub height : at + length (to_height d) ≤ picture_most
  pub line : at + length (to_height d ++ fill d.paint) ≤ picture_most

pub rect_rooms : (at : ℕ) (d : Drawn) → at + length (rect_line d) ≤ picture_most → RectRooms at d
rect_rooms at d h =
    let line : at + length (to_height d ++ fill d.paint) ≤ picture_most = rw (rect_is d) at h in
    let height = room_start at (to_height d) (fill d.paint) line in
    let width = field_start at (to_width d) (bytes "\" height=\"") (decimal d.height) height in
    let y = field_start at (to_y d) (bytes "\" width=\"") (decimal d.width) width in
    record { x = field_start at (to_x d) (bytes "\" y=\"") (decimal d.y) y; y = y; width = width; height = height; line = line }

module _ (d : Drawn) {from mid after : List ℕ} {at m end : ℕ} where
  pub y_put : Put from mid at m (to_x d) → Put mid after m end (bytes "\" y=\"" ++ decimal d.y) → Put from after at end (to_y d)
  y_put = put_pair (bytes "\" y=\"") (decimal d.y)

  pub width_put : Put from mid at m (to_y d) → Put mid after m end (bytes "\" width=\"" ++ decimal d.width) → Put from after at end (to_width d)
  width_put = put_pair (bytes "\" width=\"") (decimal d.width)

  pub height_put : Put from mid at m (to_width d) → Put mid after m end (bytes "\" height=\"" ++ decimal d.height) → Put from after at end (to_height d)
  height_put = put_pair (bytes "\" height=\"") (decimal d.height)

  pub line_put : Put from mid at m (to_height d) → Put mid after m end (fill d.paint) → Put from after at end (rect_line d)
  line_put p q = rw (rect_is d) (put_then p q)

-- ---- the first line

abbrev pub to_wide : Head → List ℕ
to_wide head = bytes "<svg xmlns=\"http://www.w3.org/2000/svg\" viewBox=\"0 0 " ++ decimal head.width

abbrev pub to_tall : Head → List ℕ
to_tall head = to_wide head ++ bytes " " ++ decimal head.height

pub first_is : (head : Head) → first_line head ≡ to_tall head ++ bytes "\">\n"
unfolding first_line
first_is head = refl

pub record FirstRooms (at : ℕ) (head : Head) : Type 0 where
  pub wide : at + length (to_wide head) ≤ picture_most
  pub tall : at + length (to_tall head) ≤ picture_most
  pub line : at + length (to_tall head ++ bytes "\">\n") ≤ picture_most

pub first_rooms : (at : ℕ) (head : Head) → at + length (first_line head) ≤ picture_most → FirstRooms at head
first_rooms at head h =
    let line : at + length (to_tall head ++ bytes "\">\n") ≤ picture_most = rw (first_is head) at h in
    let tall = room_start at (to_tall head) (bytes "\">\n") line in
    record { wide = field_start at (to_wide head) (bytes " ") (decimal head.height) tall; tall = tall; line = line }

module _ (head : Head) {from mid after : List ℕ} {at m end : ℕ} where
  pub tall_put : Put from mid at m (to_wide head) → Put mid after m end (bytes " " ++ decimal head.height) → Put from after at end (to_tall head)
  tall_put = put_pair (bytes " ") (decimal head.height)

  pub first_put : Put from mid at m (to_tall head) → Put mid after m end (bytes "\">\n") → Put from after at end (first_line head)
  first_put p q = rw (first_is head) (put_then p q)
