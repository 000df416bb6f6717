use native.Mathlib.Omega.{arith}
use Rattle.entries.proofs.Arms.{shelf_there}
use Rattle.entries.proofs.belonging.joins.Goals as goal

pub shelf_at-shelf-requires : goal.shelf_at-shelf-requires
shelf_at-shelf-requires c =
    rw c.bucket_at-bucket.ensures (shelf_there c.requires _ c.if-k-head.false
    (omega (arith, rw c.bucket_at-bucket.ensures at c.if-met-bucket.false)))
