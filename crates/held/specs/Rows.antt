-- A row of six numbers of 16 bits as an entry of the list, and back: the id's low and high half, then the rectangle's left, top, right and bottom.
use Rattle.std.specs.Prelude.{ℕ, ◌+◌, ◌*◌, ◌/◌, ◌%◌, List, [], ◌∷◌, map, get_or}
use Rattle.rules.specs.declared.Rectangle.{Rectangle}
use Rattle.rules.specs.declared.Allocation.{Allocation}

unfoldable pub entry_of : List ℕ → Allocation
entry_of row = record {
  id = get_or row 0 0 + 65536 * get_or row 1 0;
  rectangle = record { left = get_or row 2 0; top = get_or row 3 0; right = get_or row 4 0; bottom = get_or row 5 0 };
}

unfoldable pub row_of : Allocation → List ℕ
row_of a =
    let r : Rectangle = a.rectangle in
    a.id % 65536 ∷ a.id / 65536 ∷ r.left ∷ r.top ∷ r.right ∷ r.bottom ∷ []

abbrev pub entries_of : List (List ℕ) → List Allocation
entries_of rows = map entry_of rows
