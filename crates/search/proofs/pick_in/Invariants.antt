use Prim.Native.Nat.{◌<◌}
use mathlib.Core.Path.{◌≡◌}
use lib.ListN.{length}
use Rattle.rules.specs.Chains.{chain}
use Rattle.rules.specs.Search.{pick_in}
use Rattle.chains.specs.Walk.{Walkable}
use Rattle.search.proofs.pick_in.Given as goal

abbrev pub invariant-loop-k : goal.invariant-loop-k
invariant-loop-k l =
    Walkable l.buckets l.k
    × (pick_in l.buckets l.w l.waste l.best (chain l.buckets l.k) ≡ pick_in l.buckets l.w l.waste l.best (chain l.buckets l.first))
    × (l.k < 65536)

abbrev pub decreases-loop-k : goal.decreases-loop-k
decreases-loop-k l = length (chain l.buckets l.k)
