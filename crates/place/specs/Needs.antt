-- What placing an aligned request asks for: sound tables, and a request that was refused as none of 4, 5, 22 and 23.
use Rattle.std.specs.Prelude.{ℕ, ◌%◌, ◌≤◌, ◌<◌, true, ◌≡◌}
use Rattle.rules.specs.Limits.{items_last}
use Rattle.rules.specs.Tables.{Atlas, bucket_at, shelf_at}
use Rattle.rules.specs.Search.{can_add}
use Rattle.rules.specs.Sound.{Steady, Sound}

pub record CanPlace (w h : ℕ) (g : Atlas) : Type 0 where
  pub sound : Sound g
  pub some : 1 ≤ w
  pub fits : w ≤ g.head.column_width
  pub even : w % g.head.align_width ≡ 0
  pub low : 1 ≤ h
  pub within : h ≤ g.head.height

-- and another shelf can be added
pub record CanPlaceNew (w h : ℕ) (g : Atlas) : Type 0 where
  pub place : CanPlace w h g
  pub add : can_add h g.head ≡ true

-- the first bucket of shelf i has w free and can count one more item
pub record CanIssueFirst (i w : ℕ) (g : Atlas) : Type 0 where
  pub steady : Steady g
  pub there : i < g.head.shelf_count
  pub some : 1 ≤ w
  pub free : w ≤ (bucket_at g.buckets (shelf_at g.shelves i).first).free
  pub high : 1 ≤ (shelf_at g.shelves i).height
  pub items : (bucket_at g.buckets (shelf_at g.shelves i).first).items < items_last
