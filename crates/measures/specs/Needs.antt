-- What a new shelf asks for. All of it holds of sound tables that another shelf can be added to, where the filler does not end the table.
use Rattle.std.specs.Prelude.{ℕ, ◌+◌, ◌*◌, ◌≤◌, ◌<◌, ◌≡◌, false, length}
use Rattle.rules.specs.declared.Head.{Head}
use Rattle.rules.specs.Limits.{records_most, number_most}
use Rattle.rules.specs.Tables.{Atlas}
use Rattle.rules.specs.Chains.{next, released_of, Linked}
use Rattle.rules.specs.Builds.{present}
use Rattle.rules.specs.NewShelf.{filler_ends}
use Rattle.rules.specs.Search.{CanAdd}
use Rattle.rules.specs.Sound.{Lent}

-- the header
pub record Framed (head : Head) : Type 0 where
  pub align : 1 ≤ head.align_width
  pub high : 1 ≤ head.height
  pub within : head.room ≤ head.height
  pub column : head.column < head.columns
  pub wide : head.columns * head.column_width ≤ number_most

-- what one shelf more leaves as it was. `owned`: every shelf has a bucket of its own, and it is none of the released
pub record Ready (g : Atlas) : Type 0 where
  pub framed : Framed g.head
  pub lent : Lent g.shelves g.buckets
  pub released : Linked (next g.buckets) g.head.bucket_count g.head.released (released_of g)
  pub owned : g.head.shelf_count + length (released_of g) ≤ g.head.bucket_count

-- a shelf of this height and so many buckets, on the room of the current column
pub record CanStand (height count : ℕ) (g : Atlas) : Type 0 where
  pub ready : Ready g
  pub room : height ≤ g.head.room
  pub some : 1 ≤ count
  pub few : g.head.bucket_count + count ≤ records_most

-- a shelf for this height, without a filler
pub record CanPlainShelf (height : ℕ) (g : Atlas) : Type 0 where
  pub ready : Ready g
  pub asked : 1 ≤ height
  pub add : CanAdd height g

-- a shelf for this height, with the filler that may go first
pub record CanNewShelf (height : ℕ) (g : Atlas) : Type 0 where
  pub plain : CanPlainShelf height g
  pub filler : filler_ends present height g ≡ false
