-- Where buckets lie: within their shelf's column, and so within the atlas.
-- What a rectangle that is issued from a bucket lies in.
use Prim.Native.Nat.{ℕ, ◌+◌, ◌≤◌, ◌<◌}
use native.Mathlib.Omega.{arith}
use Rattle.rules.specs.Tables.{Atlas, bucket_at, shelf_at}
use Rattle.rules.specs.Chains.{In, chain_of}
use Rattle.rules.specs.Return.{top_of}
use Rattle.rules.specs.Sound.{Steady}
use Rattle.laws.proofs.Sound.Lies.{shelf_right, bucket_left, bucket_right}

-- bucket k of shelf i lies within its shelf's column, and so within the atlas
pub record BucketWithin (g : Atlas) (i k : ℕ) : Type 0 where
  pub left : (shelf_at g.shelves i).x ≤ (bucket_at g.buckets k).x
  pub right : (bucket_at g.buckets k).x + (shelf_at g.shelves i).width ≤ (shelf_at g.shelves i).x + g.head.column_width
  pub across : (bucket_at g.buckets k).x + (shelf_at g.shelves i).width ≤ g.head.width
  pub down : top_of (shelf_at g.shelves i) ≤ g.head.height

pub bucket_within : {g : Atlas} → Steady g → (i k : ℕ) → i < g.head.shelf_count → In k (chain_of g i) → BucketWithin g i k
bucket_within {g} st i k l c = record {
  left = bucket_left st i k l c;
  right = bucket_right st i k l c;
  across = omega (arith, bucket_right st i k l c, shelf_right st i l);
  down = (st.stacked i l).top;
}
