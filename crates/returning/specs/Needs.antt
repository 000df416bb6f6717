-- What a return and the cleanup ask of the tables. `Steady` has it all.
use Rattle.std.specs.Prelude.{ℕ, ◌+◌, ◌-◌, ◌*◌, ◌≤◌, ◌<◌, ◌≢◌, List, length}
use Rattle.rules.specs.declared.Head.{Head}
use Rattle.rules.specs.Limits.{records_most, none}
use Rattle.rules.specs.Tables.{Atlas, bucket_at, shelf_at}
use Rattle.rules.specs.Chains.{first}
use Rattle.rules.specs.Return.{top_of, used_area}
use Rattle.rules.specs.Sound.{Columns, Stacked, Chained}

-- bucket k is there and referenced, its shelf is there, and its used area is part of the figure
pub record CanReturnUncleaned (k : ℕ) (g : Atlas) : Type 0 where
  pub bucket : 7 * k + 7 ≤ length g.buckets
  pub shelf : 5 * (bucket_at g.buckets k).shelf + 5 ≤ length g.shelves
  pub held : 0 < (bucket_at g.buckets k).refs
  pub free : (bucket_at g.buckets k).free ≤ (shelf_at g.shelves (bucket_at g.buckets k).shelf).width
  pub counted : used_area (shelf_at g.shelves (bucket_at g.buckets k).shelf) (bucket_at g.buckets k) ≤ g.head.occupied

-- shelf m is there, its height fits the room, and in a later column a shelf is before it
pub record CanStep (shelves : List ℕ) (m : ℕ) (head : Head) : Type 0 where
  pub table : 5 * m + 5 ≤ length shelves
  pub room : head.room + (shelf_at shelves m).height ≤ head.height
  pub before : 0 < head.column → (0 < m) × (top_of (shelf_at shelves (m - 1)) ≤ head.height)

-- every shelf can be popped, the last first
pub record CanPop (g : Atlas) : Type 0 where
  pub shelves : 5 * g.head.shelf_count ≤ length g.shelves
  pub buckets : 7 * records_most ≤ length g.buckets
  pub few : g.head.bucket_count ≤ records_most
  pub columns : Columns g
  pub stacked : (i : ℕ) → i < g.head.shelf_count → Stacked g i
  pub chained : Chained g
  pub some : (i : ℕ) → i < g.head.shelf_count → first g.shelves i ≢ none

pub record CanReturn (k : ℕ) (g : Atlas) : Type 0 where
  pub uncleaned : CanReturnUncleaned k g
  pub pop : CanPop g
