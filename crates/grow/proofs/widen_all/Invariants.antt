use Prim.Native.Nat.{◌-◌, ◌≤◌}
use mathlib.Core.Path.{◌≡◌}
use lib.ListN.{length}
use Rattle.rules.specs.Tables.{atlas}
use Rattle.rules.specs.Grow.{widened_to}
use Rattle.grow.specs.Needs.{CanWidenAll}
use Rattle.grow.proofs.widen_all.Given as goal

abbrev pub invariant-loop-i : goal.invariant-loop-i
invariant-loop-i l =
    (atlas l.after l.shelves l.buckets ≡ widened_to l.x l.added l.i (atlas l.initial.after l.initial.shelves l.initial.buckets))
    × CanWidenAll l.x l.added (atlas l.after l.shelves l.buckets)
    × (l.i ≤ l.i-end)
    × (length l.shelves ≡ length l.initial.shelves)
    × (length l.buckets ≡ length l.initial.buckets)

abbrev pub decreases-loop-i : goal.decreases-loop-i
decreases-loop-i l = l.i-end - l.i
