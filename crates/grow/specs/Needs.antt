-- What a grow asks of the header and the tables. `Steady`, and sides that are not below the present ones, have it all.
use Rattle.std.specs.Prelude.{ℕ, ◌+◌, ◌-◌, ◌*◌, ◌≤◌, ◌<◌, ◌≡◌, length}
use Rattle.rules.specs.declared.Head.{Head}
use Rattle.rules.specs.Limits.{records_most, number_most}
use Rattle.rules.specs.Tables.{Atlas, shelf_at}
use Rattle.rules.specs.Chains.{next, released_of, Linked}
use Rattle.store.specs.Needs.{CanLay}

-- the height does not fall, the room is part of it, and columns have a width
pub record CanSize (height : ℕ) (head : Head) : Type 0 where
  pub higher : head.height ≤ height
  pub room : head.room ≤ head.height
  pub column_width : 1 ≤ head.column_width

-- shelf i is there, and `count` more of its buckets may be laid from x on
pub record CanWiden (x count i : ℕ) (g : Atlas) : Type 0 where
  pub shelf : 5 * i + 5 ≤ length g.shelves
  pub lay : CanLay count (shelf_at g.shelves i).width x g.head g.buckets

-- every shelf may get as many more buckets as rule and room allow
pub record CanWidenAll (x added : ℕ) (g : Atlas) : Type 0 where
  pub shelves : 5 * g.head.shelf_count ≤ length g.shelves
  pub buckets : 7 * records_most ≤ length g.buckets
  pub few : g.head.bucket_count ≤ records_most
  pub released : Linked (next g.buckets) g.head.bucket_count g.head.released (released_of g)
  pub wide : (i : ℕ) → i < g.head.shelf_count → 1 ≤ (shelf_at g.shelves i).width
  pub right : x + added ≤ number_most

pub record CanGrow (width height : ℕ) (g : Atlas) : Type 0 where
  pub size : CanSize height g.head
  pub wider : g.head.columns ≡ 1 → g.head.column_width ≤ width
  pub widen : g.head.columns ≡ 1 → CanWidenAll g.head.column_width (width - g.head.column_width) g

-- what is occupied is part of the whole
pub record CanFree (head : Head) : Type 0 where
  pub part : head.occupied ≤ head.width * head.height
