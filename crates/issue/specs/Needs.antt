-- What an issue asks for. All of it holds of sound tables, a bucket in a shelf's chain with w of it free, and an item count below 65,535.
use Rattle.std.specs.Prelude.{ℕ, ◌+◌, ◌*◌, ◌≤◌, ◌<◌, length}
use Rattle.rules.specs.Limits.{items_last, number_most}
use Rattle.rules.specs.declared.Shelf.{Shelf}
use Rattle.rules.specs.declared.Bucket.{Bucket}
use Rattle.rules.specs.Tables.{Atlas, bucket_at, shelf_at}

-- w of a bucket, on its shelf: the edges and the counts fit 16 bits
pub record CanTake (shelf : Shelf) (bucket : Bucket) (w : ℕ) : Type 0 where
  pub free : w ≤ bucket.free
  pub within : bucket.free ≤ shelf.width
  pub right : bucket.x + shelf.width ≤ number_most
  pub bottom : shelf.y + shelf.height ≤ number_most
  pub refs : bucket.refs < number_most
  pub items : bucket.items < items_last
  pub generation : bucket.generation < 256

pub record CanIssue (i k w : ℕ) (g : Atlas) : Type 0 where
  pub shelf : 5 * i + 5 ≤ length g.shelves
  pub bucket : 7 * k + 7 ≤ length g.buckets
  pub id : k < 4096
  pub take : CanTake (shelf_at g.shelves i) (bucket_at g.buckets k) w
  pub figure : g.head.occupied + w * (shelf_at g.shelves i).height < 4294967296
