use Prim.Native.Nat.{◌<◌}
use mathlib.Core.Path.{◌≡◌}
use lib.ListN.{length}
use Rattle.rules.specs.Chains.{chain}
use Rattle.rules.specs.Merging.{unreferenced}
use Rattle.chains.specs.Walk.{Walkable}
use Rattle.chains.proofs.is_unreferenced.Given as goal

abbrev pub invariant-loop-k : goal.invariant-loop-k
invariant-loop-k l = Walkable l.buckets l.k × (unreferenced l.buckets (chain l.buckets l.k) ≡ unreferenced l.buckets (chain l.buckets l.first)) × (l.k < 65536)

abbrev pub decreases-loop-k : goal.decreases-loop-k
decreases-loop-k l = length (chain l.buckets l.k)
