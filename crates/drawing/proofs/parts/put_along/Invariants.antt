use Prim.Native.Nat.{◌<◌}
use lib.ListN.{length}
use Rattle.rules.specs.Chains.{chain}
use Rattle.drawing.specs.Drawable.{DrawableChain}
use Rattle.drawing.proofs.Buckets.{Going}
use Rattle.drawing.proofs.Buckets.{lines_from}
use Rattle.drawing.proofs.parts.put_along.Given as goal

abbrev pub invariant-loop-k : goal.invariant-loop-k
invariant-loop-k l =
    DrawableChain l.buckets l.shelf l.k
    × Going l.initial.out l.out l.at l.end (lines_from l.buckets l.shelf l.first) (lines_from l.buckets l.shelf l.k)
    × (l.k < 65536)

abbrev pub decreases-loop-k : goal.decreases-loop-k
decreases-loop-k l = length (chain l.buckets l.k)
