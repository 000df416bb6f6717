-- Module 5, a new shelf. Read from the end: `new_shelf` is `filled`, the filler where one is needed, and then `plain_shelf`, the step that both
-- take; that step is `opened`, the column it goes to, and `laid_shelf`, its buckets laid and its record `pushed`. `filler_ends` is refusal 7.
use Rattle.std.specs.Prelude.{ℕ, ◌+◌, ◌-◌, ◌*◌, ◌/◌, ◌%◌, min, Bool, ◌&&◌, not, eqb, ltb, if◌then◌else◌}
use Rattle.rules.specs.declared.Head.{Head}
use Rattle.rules.specs.declared.Shelf.{Shelf}
use Rattle.rules.specs.Limits.{records_most, none}
use Rattle.rules.specs.Rounding.{shelf_height}
use Rattle.rules.specs.Builds.{Build}
use Rattle.rules.specs.BucketCount.{bucket_count}
use Rattle.rules.specs.Tables.{Atlas, atlas, put_shelf, with_room, with_shelves}
use Rattle.rules.specs.Store.{Lay, laying, lay_many}

-- "another column exists"
unfoldable pub another_column : Head → Bool
another_column head = ltb (head.column + 1) head.columns

-- "If the room left in the column is neither 0 nor at least the height asked for (not yet rounded) and another column exists"
unfoldable pub short : ℕ → Head → Bool
short height head = not (eqb head.room 0) && ltb head.room height && another_column head

-- "If the room is then 0 and a column is left, go to it with full height."
unfoldable pub opened : Head → Head
opened head = if eqb head.room 0 && another_column head then with_room head (head.column + 1) head.height else head

-- "Height is the rounded height, at most the room."
unfoldable pub tall : ℕ → Head → ℕ
tall height head = min (shelf_height height) head.room

-- "Bucket width is column width / count, less its remainder by the width alignment."
unfoldable pub bucket_width : Head → ℕ → ℕ
bucket_width head count = head.column_width / count - head.column_width / count % head.align_width

-- the left edge of the current column
abbrev pub column_left : Head → ℕ
column_left head = head.column * head.column_width

-- the record of a shelf that is put on the room left
abbrev pub shelf_for : Head → ℕ → ℕ → ℕ → Shelf
shelf_for head height width first = record { x = column_left head; y = head.height - head.room; height = height; width = width; first = first }

-- the shelf's record goes behind the last, its buckets being laid: the room falls by its height
unfoldable pub pushed : Head → ℕ → ℕ → Lay → Atlas
pushed head height width lay =
    atlas
    (with_shelves (with_room lay.state.head head.column (head.room - height)) (head.shelf_count + 1))
    (put_shelf lay.state.shelves head.shelf_count (shelf_for head height width lay.first))
    lay.state.buckets

-- a shelf of `count` buckets on the room of the current column
unfoldable pub laid_shelf : ℕ → ℕ → Atlas → Atlas
laid_shelf height count g =
    pushed g.head height (bucket_width g.head count)
    (lay_many count (bucket_width g.head count) g.head.shelf_count (laying g (column_left g.head) none))

-- how many buckets it gets
abbrev pub count_for : Build → ℕ → ℕ → Head → ℕ
count_for build w height head = bucket_count build head.column_width w (tall height head) head.bucket_count

-- a column opened where it is time to, and a shelf in it
unfoldable pub plain_shelf : Build → ℕ → ℕ → Atlas → Atlas
plain_shelf build w height g =
    let next : Head = opened g.head in
    laid_shelf (tall height next) (count_for build w height next) (atlas next g.shelves g.buckets)

-- "a filler shelf takes that room first; the filler is laid by the same step called once more, with width 0": that step's height is the
-- room, so it needs no filler itself. T-06: "Filler shelves follow the same rule."
unfoldable pub filled : Build → ℕ → Atlas → Atlas
filled build height g = if short height g.head then plain_shelf build 0 g.head.room g else g

unfoldable pub new_shelf : Build → ℕ → ℕ → Atlas → Atlas
new_shelf build w height g = plain_shelf build w height (filled build height g)

-- "the filler shelf would bring the bucket count to 4,095"
unfoldable pub filler_ends : Build → ℕ → Atlas → Bool
filler_ends build height g = short height g.head && eqb (filled build height g).head.bucket_count records_most
