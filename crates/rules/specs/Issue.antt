-- Module 8, the issue of a rectangle.
use Rattle.std.specs.Prelude.{ℕ, ◌+◌, ◌-◌, ◌*◌}
use Rattle.rules.specs.declared.Shelf.{Shelf}
use Rattle.rules.specs.declared.Bucket.{Bucket}
use Rattle.rules.specs.declared.Rectangle.{Rectangle}
use Rattle.rules.specs.declared.Allocation.{Allocation}
use Rattle.rules.specs.Ids.{id_of}
use Rattle.rules.specs.Tables.{Atlas, atlas, Outcome, outcome, bucket_at, put_bucket, shelf_at, with_occupied}

-- "The rectangle starts at bucket x + bucket width - free width and is w wide and as high as the shelf."
abbrev pub rectangle_for : Shelf → Bucket → ℕ → Rectangle
rectangle_for shelf bucket w = record {
  left = bucket.x + shelf.width - bucket.free;
  top = shelf.y;
  right = bucket.x + shelf.width - bucket.free + w;
  bottom = shelf.y + shelf.height;
}

abbrev pub area : Rectangle → ℕ
area r = (r.right - r.left) * (r.bottom - r.top)

-- "Reference and item counts rise by 1": the bucket with w less
abbrev pub taken : Bucket → ℕ → Bucket
taken bucket w = record {
  x = bucket.x;
  free = bucket.free - w;
  next = bucket.next;
  refs = bucket.refs + 1;
  items = bucket.items + 1;
  shelf = bucket.shelf;
  generation = bucket.generation;
}

-- "the id carries the risen item count"
abbrev pub allocation_for : ℕ → Shelf → Bucket → ℕ → Allocation
allocation_for k shelf bucket w = record { id = id_of k (bucket.items + 1) bucket.generation; rectangle = rectangle_for shelf bucket w }

-- w from bucket k of shelf i; "the occupied figure rises by the area". "Taking from a bucket found by the search changes that bucket's record
-- and the figure, no other record."
unfoldable pub issue : ℕ → ℕ → ℕ → Atlas → Outcome Allocation
issue i k w g =
    let shelf : Shelf = shelf_at g.shelves i in
    let bucket : Bucket = bucket_at g.buckets k in
    outcome (allocation_for k shelf bucket w)
    (atlas (with_occupied g.head (g.head.occupied + area (rectangle_for shelf bucket w))) g.shelves (put_bucket g.buckets k (taken bucket w)))
