-- Module 10, grow and clear.
use Rattle.std.specs.Prelude.{ℕ, zero, suc, ◌+◌, ◌-◌, ◌*◌, ◌/◌, min, eqb, if◌then◌else◌}
use Rattle.rules.specs.declared.Head.{Head}
use Rattle.rules.specs.declared.Shelf.{Shelf}
use Rattle.rules.specs.Limits.{records_most, none}
use Rattle.rules.specs.Tables.{Atlas, atlas, shelf_at, put_shelf, with_sides}
use Rattle.rules.specs.Store.{Lay, laying, lay_many}

-- "One column: .. the column width becomes the full width, unrounded. More columns: their number becomes width / column width."
-- "Room rises by the added height."
unfoldable pub grown_head : ℕ → ℕ → Head → Head
grown_head width height head =
    if eqb head.columns 1
    then with_sides head width height (head.room + (height - head.height)) 1 width
    else with_sides head width height (head.room + (height - head.height)) (width / head.column_width) head.column_width

-- "(new width - column width) / bucket width more buckets, but at most 4,095 less the bucket count at that moment"
abbrev pub more_buckets : ℕ → Shelf → Head → ℕ
more_buckets added shelf head = min (added / shelf.width) (records_most - head.bucket_count)

abbrev pub headed : Shelf → ℕ → Shelf
headed shelf first = record { x = shelf.x; y = shelf.y; height = shelf.height; width = shelf.width; first = first }

-- shelf i with `count` more buckets from x on, "at the chain's head"
unfoldable pub widened : ℕ → ℕ → ℕ → Atlas → Atlas
widened x count i g =
    let shelf : Shelf = shelf_at g.shelves i in
    let l : Lay = lay_many count shelf.width i (laying g x shelf.first) in
    atlas l.state.head (put_shelf l.state.shelves i (headed shelf l.first)) l.state.buckets

-- "each shelf in order": the first k, from the old column width on
unfoldable pub widened_to : ℕ → ℕ → ℕ → Atlas → Atlas
widened_to x added zero g = g
widened_to x added (suc k) g =
    let before : Atlas = widened_to x added k g in
    widened x (more_buckets added (shelf_at before.shelves k) before.head) k before

unfoldable pub grown : ℕ → ℕ → Atlas → Atlas
grown width height g =
    let sized : Atlas = atlas (grown_head width height g.head) g.shelves g.buckets in
    if eqb g.head.columns 1 then widened_to g.head.column_width (width - g.head.column_width) g.head.shelf_count sized else sized

-- "Clear drops both tables, so generations start at 0 again."
unfoldable pub cleared_head : Head → Head
cleared_head head = record {
  width = head.width;
  height = head.height;
  align_width = head.align_width;
  align_height = head.align_height;
  columns = head.columns;
  column_width = head.column_width;
  column = 0;
  room = head.height;
  shelf_count = 0;
  bucket_count = 0;
  released = none;
  occupied = 0;
}

abbrev pub cleared : Atlas → Atlas
cleared g = atlas (cleared_head g.head) g.shelves g.buckets

-- "Free space is width times height less the occupied figure."
unfoldable pub free_space : Head → ℕ
free_space head = head.width * head.height - head.occupied
