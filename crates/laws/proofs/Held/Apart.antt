-- Entries of two buckets share neither id nor pixel: an id names its bucket, a rectangle lies in it, and two referenced buckets of sound tables
-- share no pixel. Of one bucket: entries that lie left to right with rising item numbers.
use Prim.Native.Nat.{ℕ, ◌≤◌, ◌<◌}
use mathlib.Core.Path.{ap}
use mathlib.Core.Logic.{◌≢◌}
use native.Mathlib.Omega.{arith}
use Rattle.rules.specs.declared.Allocation.{Allocation}
use Rattle.rules.specs.Ids.{id_bucket, id_item}
use Rattle.rules.specs.Tables.{Atlas}
use Rattle.rules.specs.Sound.{Steady}
use Rattle.rules.specs.Held.{Covers}
use Rattle.laws.proofs.Sound.Apart.{Used, InBucket, buckets_apart}
use Rattle.laws.proofs.Held.Test.{Stands, Disjoint}

-- what an entry covers lies in its bucket
pub covers_bucket : {g : Atlas} {a : Allocation} {x y : ℕ} → Stands g a → Covers a.rectangle x y → InBucket g (id_bucket a.id) x y
covers_bucket s c = omega (arith, c, s.belongs.left, s.belongs.right, s.belongs.top, s.belongs.bottom)

pub other_bucket : {g : Atlas} → Steady g → {a b : Allocation} → Stands g a → Stands g b → Used g (id_bucket a.id) → Used g (id_bucket b.id)
    → id_bucket a.id ≢ id_bucket b.id → Disjoint a b
other_bucket st {a} {b} sa sb ua ub ne = record {
  id = λ e. ne (ap id_bucket e);
  pixel = λ s. buckets_apart st (id_bucket a.id) (id_bucket b.id) s.0 s.1 ua ub ne (covers_bucket sa s.2) (covers_bucket sb s.3);
}

-- b ends where a begins, or before, and has the smaller item number
pub along_bucket : {a b : Allocation} → b.rectangle.right ≤ a.rectangle.left → id_item b.id < id_item a.id → Disjoint a b
along_bucket {a} {b} l i = record { id = λ e. omega (arith, i, ap id_item e); pixel = λ s. omega (arith, l, s.2, s.3) }
