-- The state: the header and the two lent tables, plain numbers with counts. Shelf i is the five numbers from 5 i on, bucket i the seven
-- from 7 i on: the four accessors below read and write them so, and `Lent` (Sound.antt) asks for the room. Past the end of a table a record
-- reads as zeros and a write changes nothing; no sound table comes to that.
use Rattle.std.specs.Prelude.{ℕ, ◌+◌, ◌*◌, List, get_or, set}
use Rattle.rules.specs.declared.Head.{Head}
use Rattle.rules.specs.declared.Shelf.{Shelf}
use Rattle.rules.specs.declared.Bucket.{Bucket}

pub record Atlas : Type 0 where
  pub head : Head
  pub shelves : List ℕ
  pub buckets : List ℕ

abbrev pub atlas : Head → List ℕ → List ℕ → Atlas
atlas head shelves buckets = record { head = head; shelves = shelves; buckets = buckets }

-- a call's answer, and the state after it
pub record Outcome (A : Type 0) : Type 0 where
  pub answer : A
  pub state : Atlas

abbrev pub outcome : {A : Type 0} → A → Atlas → Outcome A
outcome a g = record { answer = a; state = g }

unfoldable pub shelf_at : List ℕ → ℕ → Shelf
shelf_at shelves i = record {
  x = get_or shelves (5 * i) 0;
  y = get_or shelves (5 * i + 1) 0;
  height = get_or shelves (5 * i + 2) 0;
  width = get_or shelves (5 * i + 3) 0;
  first = get_or shelves (5 * i + 4) 0;
}

unfoldable pub put_shelf : List ℕ → ℕ → Shelf → List ℕ
put_shelf shelves i shelf =
    set (set (set (set (set shelves (5 * i) shelf.x)
    (5 * i + 1) shelf.y)
    (5 * i + 2) shelf.height)
    (5 * i + 3) shelf.width)
    (5 * i + 4) shelf.first

unfoldable pub bucket_at : List ℕ → ℕ → Bucket
bucket_at buckets i = record {
  x = get_or buckets (7 * i) 0;
  free = get_or buckets (7 * i + 1) 0;
  next = get_or buckets (7 * i + 2) 0;
  refs = get_or buckets (7 * i + 3) 0;
  items = get_or buckets (7 * i + 4) 0;
  shelf = get_or buckets (7 * i + 5) 0;
  generation = get_or buckets (7 * i + 6) 0;
}

unfoldable pub put_bucket : List ℕ → ℕ → Bucket → List ℕ
put_bucket buckets i bucket =
    set (set (set (set (set (set (set buckets (7 * i) bucket.x)
    (7 * i + 1) bucket.free)
    (7 * i + 2) bucket.next)
    (7 * i + 3) bucket.refs)
    (7 * i + 4) bucket.items)
    (7 * i + 5) bucket.shelf)
    (7 * i + 6) bucket.generation

-- ---- the header with some of its numbers changed

-- the current column and the room left in it
abbrev pub with_room : Head → ℕ → ℕ → Head
with_room head column room = record {
  width = head.width;
  height = head.height;
  align_width = head.align_width;
  align_height = head.align_height;
  columns = head.columns;
  column_width = head.column_width;
  column = column;
  room = room;
  shelf_count = head.shelf_count;
  bucket_count = head.bucket_count;
  released = head.released;
  occupied = head.occupied;
}

-- the number of shelves
abbrev pub with_shelves : Head → ℕ → Head
with_shelves head n = record {
  width = head.width;
  height = head.height;
  align_width = head.align_width;
  align_height = head.align_height;
  columns = head.columns;
  column_width = head.column_width;
  column = head.column;
  room = head.room;
  shelf_count = n;
  bucket_count = head.bucket_count;
  released = head.released;
  occupied = head.occupied;
}

-- the number of buckets and the first released one
abbrev pub with_store : Head → ℕ → ℕ → Head
with_store head n released = record {
  width = head.width;
  height = head.height;
  align_width = head.align_width;
  align_height = head.align_height;
  columns = head.columns;
  column_width = head.column_width;
  column = head.column;
  room = head.room;
  shelf_count = head.shelf_count;
  bucket_count = n;
  released = released;
  occupied = head.occupied;
}

-- the occupied figure
abbrev pub with_occupied : Head → ℕ → Head
with_occupied head pixels = record {
  width = head.width;
  height = head.height;
  align_width = head.align_width;
  align_height = head.align_height;
  columns = head.columns;
  column_width = head.column_width;
  column = head.column;
  room = head.room;
  shelf_count = head.shelf_count;
  bucket_count = head.bucket_count;
  released = head.released;
  occupied = pixels;
}

-- the sides, with what a grow makes of the room, the columns and their width
abbrev pub with_sides : Head → ℕ → ℕ → ℕ → ℕ → ℕ → Head
with_sides head width height room columns column_width = record {
  width = width;
  height = height;
  align_width = head.align_width;
  align_height = head.align_height;
  columns = columns;
  column_width = column_width;
  column = head.column;
  room = room;
  shelf_count = head.shelf_count;
  bucket_count = head.bucket_count;
  released = head.released;
  occupied = head.occupied;
}
