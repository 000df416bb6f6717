-- The whole text in four pieces: the first line, the rectangle of the whole atlas, those of all shelves, the last line. And a picture with the list.
use Rattle.std.specs.Prelude.{Err, Result}
use Rattle.rules.specs.declared.Refusal.{Refusal}
use Prim.Native.Nat.{ℕ, ◌+◌, ◌≤◌}
use mathlib.Core.Path.{◌≡◌, refl, sym, ap}
use mathlib.Core.List.{List, ◌++◌, append_assoc}
use native.Mathlib.Omega.{arith}
use lib.ListN.{length}
use Rattle.rules.specs.declared.Allocation.{Allocation}
use Rattle.rules.specs.Limits.{picture_most}
use Rattle.rules.specs.Tables.{Atlas}
use Rattle.rules.specs.Sound.{Sound}
use Rattle.rules.specs.Picture.{ground, parts_to, drawing, first_line, rect_line, last_line, lines_of, picture_of, picture}
use Rattle.rules.specs.Saving.{saved}
use Rattle.rules.specs.Listed.{holding, verdict, judged}
use Rattle.rules.specs.Listed as listed
use Rattle.laws.proofs.Held.Calls.{judged_is}
use Rattle.laws.proofs.Picture.Most.{picture_most_law}
use Rattle.drawing.proofs.Rooms.{room_start}

module _ (g : Atlas) where
  abbrev pub to_ground : List ℕ
  to_ground = first_line g.head ++ rect_line (ground g.head)

  abbrev pub to_shelves : List ℕ
  to_shelves = to_ground ++ lines_of (parts_to g g.head.shelf_count)

  pub picture_is : picture_of g ≡ to_shelves ++ last_line
  unfolding picture_of drawing
  picture_is =
      ap (λ (l : List ℕ). l ++ last_line)
      (sym (append_assoc (first_line g.head) (rect_line (ground g.head)) (lines_of (parts_to g g.head.shelf_count))))

-- each piece stays within the picture's length
pub record PictureRooms (g : Atlas) : Type 0 where
  pub first : 0 + length (first_line g.head) ≤ picture_most
  pub ground : 0 + length (to_ground g) ≤ picture_most
  pub shelves : 0 + length (to_shelves g) ≤ picture_most
  pub whole : 0 + length (to_shelves g ++ last_line) ≤ picture_most

pub picture_rooms : {g : Atlas} → Sound g → PictureRooms g
picture_rooms {g} p =
    let most : 0 + length (picture_of g) ≤ picture_most = omega (arith, picture_most_law g p) in
    let whole : 0 + length (to_shelves g ++ last_line) ≤ picture_most = rw (picture_is g) at most in
    let shelves = room_start 0 (to_shelves g) last_line whole in
    let ground' = room_start 0 (to_ground g) (lines_of (parts_to g g.head.shelf_count)) shelves in
    record { first = room_start 0 (first_line g.head) (rect_line (ground g.head)) ground'; ground = ground'; shelves = shelves; whole = whole }

-- with the list, by the verdict of the tests
pub show_is : (g : Atlas) (out : List ℕ) (list : List Allocation) (v : Result ℕ Refusal) → v ≡ verdict (holding g list)
    → judged (λ q. saved (Err q) out) (λ n. picture g out) v ≡ listed.picture (holding g list) out
unfolding listed.picture
show_is g out list v e = judged_is _ _ (picture g out) (holding g list) v e (λ n p. refl)
