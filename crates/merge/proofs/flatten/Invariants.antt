use Prim.Native.Nat.{◌-◌, ◌≤◌}
use mathlib.Core.Path.{◌≡◌}
use lib.ListN.{length}
use Rattle.rules.specs.Merging.{flattened_to}
use Rattle.merge.proofs.flatten.Given as goal

abbrev pub invariant-loop-k : goal.invariant-loop-k
invariant-loop-k l = (l.shelves ≡ flattened_to l.initial.shelves l.i l.y l.k) × (l.k ≤ l.followers) × (length l.shelves ≡ length l.initial.shelves)

abbrev pub decreases-loop-k : goal.decreases-loop-k
decreases-loop-k l = l.followers - l.k
