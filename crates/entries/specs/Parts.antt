-- Parts of the rules' test of one entry and of a pass's, and the reference counts of a bucket table.
use Rattle.std.specs.Prelude.{ℕ, ◌+◌, Bool, true, ◌&&◌, List, leb, ltb, if◌then◌else◌}
use Rattle.rules.specs.declared.Shelf.{Shelf}
use Rattle.rules.specs.declared.Bucket.{Bucket}
use Rattle.rules.specs.declared.Rectangle.{Rectangle}
use Rattle.rules.specs.declared.Allocation.{Allocation}
use Rattle.rules.specs.Limits.{items_most}
use Rattle.rules.specs.Ids.{id_bucket, id_item}
use Rattle.rules.specs.Tables.{Atlas, bucket_at}
use Rattle.rules.specs.Return.{top_of}
use Rattle.rules.specs.Held.{refs_of, bucket_of, shelf_under, belongs}
use Rattle.entries.specs.declared.passing.Order.{Order}

-- "its rectangle lies in that bucket's used span from the shelf's y to its top and is not empty"
unfoldable pub lies : Bucket → Shelf → Rectangle → Bool
lies bucket shelf r =
    leb bucket.x r.left && leb (r.right + bucket.free) (bucket.x + shelf.width)
    && leb shelf.y r.top && leb r.bottom (top_of shelf)
    && ltb r.left r.right && ltb r.top r.bottom

-- "Where a bucket's item count is below 4,095, the item number in each of its ids is from 1 to that count."
unfoldable pub numbered : Bucket → ℕ → Bool
numbered bucket item = if ltb bucket.items items_most then leb 1 item && leb item bucket.items else true

-- the entry belongs in the bucket that it names, which has a reference for it beside the n others
unfoldable pub joins : Atlas → Allocation → ℕ → Bool
joins g a n = ltb (id_bucket a.id) g.head.bucket_count && ltb n (refs_of g (id_bucket a.id)) && belongs (bucket_of g a) (shelf_under g a) a

-- its bucket is not before that of the pass's last entry; in the same bucket it lies behind that one, with a larger item number
unfoldable pub follows : Order → Allocation → Bool
follows p a = leb p.next (id_bucket a.id + 1) && leb p.right a.rectangle.left && leb p.item (id_item a.id)

abbrev pub refs_in : List ℕ → ℕ → ℕ
refs_in buckets k = (bucket_at buckets k).refs
