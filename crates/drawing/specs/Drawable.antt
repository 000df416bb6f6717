-- What the parts of a bucket and of a chain ask for. Sound tables give it (`proofs/Laws.antt`).
use Rattle.std.specs.Prelude.{ℕ, ◌+◌, ◌≤◌, List}
use Rattle.rules.specs.declared.Shelf.{Shelf}
use Rattle.rules.specs.declared.Bucket.{Bucket}
use Rattle.rules.specs.Limits.{number_most}
use Rattle.rules.specs.Tables.{bucket_at}
use Rattle.rules.specs.Chains.{chain, In}
use Rattle.chains.specs.Walk.{Walkable}

-- where a bucket's parts start and end are numbers of 16 bits
pub record Spanned (shelf : Shelf) (bucket : Bucket) : Type 0 where
  pub free : bucket.free ≤ shelf.width
  pub right : bucket.x + shelf.width ≤ number_most

-- the chain from bucket i, on a shelf
pub record DrawableChain (buckets : List ℕ) (shelf : Shelf) (i : ℕ) : Type 0 where
  pub walk : Walkable buckets i
  pub spanned : (k : ℕ) → In k (chain buckets i) → Spanned shelf (bucket_at buckets k)
