-- What adding and laying buckets ask for, and the tables with buckets being laid in them.
use Rattle.std.specs.Prelude.{ℕ, ◌+◌, ◌*◌, ◌≤◌, List, length}
use Rattle.rules.specs.declared.Head.{Head}
use Rattle.rules.specs.declared.Laying.{Laying}
use Rattle.rules.specs.Limits.{records_most, number_most}
use Rattle.rules.specs.Tables.{atlas}
use Rattle.rules.specs.Chains.{next, chain, Linked}
use Rattle.rules.specs.Store.{Lay, laying}

-- what is being laid, over the two tables
abbrev pub lays : Laying → List ℕ → List ℕ → Lay
lays l shelves buckets = laying (atlas l.head shelves buckets) l.x l.first

-- there is room for k more buckets, and the released chain is one
pub record RoomFor (k : ℕ) (head : Head) (buckets : List ℕ) : Type 0 where
  pub few : head.bucket_count + k ≤ records_most
  pub fits : 7 * (head.bucket_count + k) ≤ length buckets
  pub whole : Linked (next buckets) head.bucket_count head.released (chain buckets head.released)

-- k buckets from x on, each `width` wide, may be laid
pub record CanLay (k width x : ℕ) (head : Head) (buckets : List ℕ) : Type 0 where
  pub room : RoomFor k head buckets
  pub right : x + k * width ≤ number_most
