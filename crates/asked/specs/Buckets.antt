-- What is asked of one bucket, and what a shelf's chain comes to.
use Rattle.std.specs.Prelude.{ℕ, ◌+◌, ◌-◌, ◌*◌, ◌≤◌, ◌<◌, ◌≡◌}
use Rattle.rules.specs.declared.Shelf.{Shelf}
use Rattle.rules.specs.declared.Bucket.{Bucket}
use Rattle.rules.specs.Limits.{records_most}
use Rattle.asked.specs.declared.buckets.Tally.{Tally}

-- ---- buckets

-- what T-08 and the generations ask of a bucket wherever it is
pub record Serving (bucket : Bucket) : Type 0 where
  pub generation : bucket.generation < 256
  pub rested : bucket.refs ≡ 0 → bucket.items ≡ 0

-- the free width, the reference count and the item count agree
pub record Agrees (shelf : Shelf) (bucket : Bucket) : Type 0 where
  pub free : bucket.free ≤ shelf.width
  pub whole : bucket.refs ≡ 0 → bucket.free ≡ shelf.width
  pub unused : bucket.free ≡ shelf.width → bucket.refs ≡ 0
  pub items : bucket.refs ≤ bucket.items
  pub rested : bucket.refs ≡ 0 → bucket.items ≡ 0

-- what a bucket of shelf i, its end at most edge, shows by itself
pub record InChain (i : ℕ) (shelf : Shelf) (edge : ℕ) (bucket : Bucket) : Type 0 where
  pub names : bucket.shelf ≡ i
  pub right : bucket.x + shelf.width ≤ edge
  pub generation : bucket.generation < 256
  pub agrees : Agrees shelf bucket

-- what its chain shows at the end, by the last x and the width used
pub record Closed (shelf : Shelf) (edge used : ℕ) : Type 0 where
  pub left : shelf.x ≤ edge
  pub flat : shelf.height ≡ 0 → used ≡ 0

-- a released bucket
pub record Freed (bucket : Bucket) : Type 0 where
  pub refs : bucket.refs ≡ 0
  pub items : bucket.items ≡ 0
  pub generation : bucket.generation < 256

-- ---- tallies

-- the width used by the buckets met since t, from the sum of their free widths
abbrev pub used_of : Tally → Shelf → ℕ → ℕ → ℕ
used_of t shelf seen free = (seen - t.seen) * shelf.width - free

abbrev pub tallied : Tally → Shelf → ℕ → ℕ → Tally
tallied t shelf seen used = record { seen = seen; pixels = t.pixels + used * shelf.height }

-- r is t with a chain that is closed
pub record Tallies (t : Tally) (shelf : Shelf) (seen edge used : ℕ) (r : Tally) : Type 0 where
  pub closed : Closed shelf edge used
  pub tally : r ≡ tallied t shelf seen used

-- the most pixels of one bucket: 65,535 squared
abbrev pub bucket_most : ℕ
bucket_most = 4294836225

-- a chain can be counted
pub record Countable (t : Tally) (shelf : Shelf) (seen free : ℕ) : Type 0 where
  pub since : t.seen ≤ seen
  pub room : seen ≤ records_most
  pub widths : free ≤ (seen - t.seen) * shelf.width
  pub pixels : t.pixels ≤ t.seen * bucket_most
