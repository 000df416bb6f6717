-- Module 9, return and cleanup.
use Rattle.std.specs.Prelude.{ℕ, zero, suc, ◌+◌, ◌-◌, ◌*◌, Bool, ◌&&◌, List, eqb, ltb, if◌then◌else◌}
use Rattle.rules.specs.declared.Head.{Head}
use Rattle.rules.specs.declared.Shelf.{Shelf}
use Rattle.rules.specs.declared.Bucket.{Bucket}
use Rattle.rules.specs.Builds.{Build, renews}
use Rattle.rules.specs.Ids.{next_generation}
use Rattle.rules.specs.Tables.{Atlas, atlas, bucket_at, put_bucket, shelf_at, with_room, with_shelves, with_store, with_occupied}
use Rattle.rules.specs.Chains.{chain, chain_of, first, last_of}
use Rattle.rules.specs.Merging.{unreferenced}

-- a shelf's top: where the next one's y is
abbrev pub top_of : Shelf → ℕ
top_of shelf = shelf.y + shelf.height

-- the bucket's used width times shelf height
abbrev pub used_area : Shelf → Bucket → ℕ
used_area shelf bucket = (shelf.width - bucket.free) * shelf.height

-- T-08: "When a bucket's reference count reaches 0 its item count becomes 0 and its generation rises by 1, wrapping."
abbrev pub emptied_items : Build → Bucket → ℕ
emptied_items build bucket = if renews build then 0 else bucket.items

abbrev pub emptied_generation : Build → Bucket → ℕ
emptied_generation build bucket = if renews build then next_generation bucket.generation else bucket.generation

-- "The reference count falls; at 0 .. its free width is whole again."
unfoldable pub returned_bucket : Build → Shelf → Bucket → Bucket
returned_bucket build shelf bucket = record {
  x = bucket.x;
  free = if eqb bucket.refs 1 then shelf.width else bucket.free;
  next = bucket.next;
  refs = bucket.refs - 1;
  items = if eqb bucket.refs 1 then emptied_items build bucket else bucket.items;
  shelf = bucket.shelf;
  generation = if eqb bucket.refs 1 then emptied_generation build bucket else bucket.generation;
}

-- "at 0 the bucket's used width times shelf height leaves the figure"
unfoldable pub freed_area : Shelf → Bucket → ℕ
freed_area shelf bucket = if eqb bucket.refs 1 then used_area shelf bucket else 0

-- bucket k with one reference less
unfoldable pub uncleaned : Build → ℕ → Atlas → Atlas
uncleaned build k g =
    let bucket : Bucket = bucket_at g.buckets k in
    let shelf : Shelf = shelf_at g.shelves bucket.shelf in
    atlas (with_occupied g.head (g.head.occupied - freed_area shelf bucket)) g.shelves (put_bucket g.buckets k (returned_bucket build shelf bucket))

-- ---- the cleanup

abbrev pub relinked : Bucket → ℕ → Bucket
relinked bucket next = record {
  x = bucket.x;
  free = bucket.free;
  next = next;
  refs = bucket.refs;
  items = bucket.items;
  shelf = bucket.shelf;
  generation = bucket.generation;
}

-- "their chains put in front of the released chain": the chain that starts at i
unfoldable pub released_table : List ℕ → ℕ → ℕ → List ℕ
released_table buckets i released =
    let last : ℕ = last_of i (chain buckets i) in
    put_bucket buckets last (relinked (bucket_at buckets last) released)

-- "A popped shelf at y = 0 in a later column steps back a column, with the room above that column's last shelf; otherwise its height
-- returns to the room." Shelf m is popped.
unfoldable pub stepped_back : List ℕ → ℕ → Head → Head
stepped_back shelves m head =
    if eqb (shelf_at shelves m).y 0 && ltb 0 head.column
    then with_room head (head.column - 1) (head.height - top_of (shelf_at shelves (m - 1)))
    else with_room head head.column (head.room + (shelf_at shelves m).height)

unfoldable pub popped : ℕ → Atlas → Atlas
popped m g =
    atlas
    (with_store (with_shelves (stepped_back g.shelves m g.head) m) g.head.bucket_count (first g.shelves m))
    g.shelves
    (released_table g.buckets (first g.shelves m) g.head.released)

-- "unreferenced last shelves are popped", of m
unfoldable pub cleaned : ℕ → Atlas → Atlas
cleaned zero g = g
cleaned (suc m) g = if unreferenced g.buckets (chain_of g m) then cleaned m (popped m g) else g

-- "If the bucket is on the last shelf": and was emptied
unfoldable pub last_emptied : ℕ → Atlas → Bool
last_emptied k g = eqb (bucket_at g.buckets k).refs 1 && eqb ((bucket_at g.buckets k).shelf + 1) g.head.shelf_count

unfoldable pub returned : Build → ℕ → Atlas → Atlas
returned build k g = if last_emptied k g then cleaned g.head.shelf_count (uncleaned build k g) else uncleaned build k g
