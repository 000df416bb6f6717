-- How many buckets the new shelves of a request have: module 2's count, for its final height and the bucket count that it finds. The filler's
-- too, with width 0.
use Prim.Native.Nat.{ℕ, ◌-◌, ◌%◌, ◌≤◌, ◌<◌}
use mathlib.Core.Bool.{true, false}
use mathlib.Core.Path.{◌≡◌}
use Rattle.rules.specs.Builds.{Build}
use Rattle.rules.specs.Tables.{Atlas}
use Rattle.rules.specs.NewShelf.{new_shelf, filler_ends}
use Rattle.rules.specs.Search.{can_add}
use Rattle.rules.specs.Sound.{Steady}
use Rattle.laws.proofs.NewShelf.Keep.{Many, OneMore, Filled, filled_keeps, laid_behind, new_last}

-- n is g with a new last shelf i for a request w wide, and perhaps a filler before it
pub record ShelfCounts (build : Build) (w : ℕ) (g n : Atlas) (i : ℕ) : Type 0 where
  pub filler : (j : ℕ) → g.head.shelf_count ≤ j → j < i → Many build 0 g.head.bucket_count g.head n j
  -- the bucket count that shelf i finds, the filler's buckets in it
  pub found : ℕ
  pub fewest : g.head.bucket_count ≤ found
  pub most : found ≤ n.head.bucket_count
  pub row : Many build w found g.head n i

rows_of : (build : Build) (c r w height : ℕ) (g f n : Atlas) → Filled build height g f → OneMore build c r w height f n
    → ShelfCounts build w g n f.head.shelf_count
rows_of build c r w height g f n p q = record {
  filler = λ j a b. rw (q.stays.chain j b, q.stays.shelf j b) (p.many j a b);
  found = f.head.bucket_count;
  fewest = p.stays.more;
  most = q.stays.more;
  row = rw p.sides.column_width at q.many;
}

module _ (build : Build) (g : Atlas) (p : Steady g) (w height : ℕ) (low : 1 ≤ height) (within : height ≤ g.head.height)
    (some : 1 ≤ w) (fits : w ≤ g.head.column_width) (even : w % g.head.align_width ≡ 0)
    (add : can_add height g.head ≡ true) (ends : filler_ends build height g ≡ false) where
  pub new_rows : ShelfCounts build w g (new_shelf build w height g) ((new_shelf build w height g).head.shelf_count - 1)
  new_rows =
      rw (new_last build g p w height low within some fits even add ends)
      (rows_of build _ _ w height g _ _ (filled_keeps build g p height low add ends) (laid_behind build g p w height low within some fits even add ends).2)
