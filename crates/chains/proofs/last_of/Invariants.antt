use Prim.Native.Nat.{◌<◌}
use mathlib.Core.Path.{◌≡◌}
use lib.ListN.{length}
use Rattle.rules.specs.Chains.{chain, last_of}
use Rattle.chains.specs.Walk.{Walkable}
use Rattle.chains.proofs.last_of.Given as goal

abbrev pub invariant-loop-k : goal.invariant-loop-k
invariant-loop-k l = Walkable l.buckets l.k × (last_of l.last (chain l.buckets l.k) ≡ last_of l.first (chain l.buckets l.first)) × (l.k < 65536)

abbrev pub decreases-loop-k : goal.decreases-loop-k
decreases-loop-k l = length (chain l.buckets l.k)
