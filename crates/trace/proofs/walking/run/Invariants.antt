use Prim.Native.Nat.{◌-◌}
use mathlib.Core.Path.{◌≡◌}
use lib.ListN.{length}
use Rattle.held.specs.Rows.{entries_of}
use Rattle.turns.specs.Turns.{TestedAt}
use Rattle.trace.specs.Walks.{path_of, Stretch, walked}
use Rattle.trace.proofs.Loop.{Walking}
use Rattle.trace.proofs.walking.run.Given as goal

abbrev pub invariant-loop-walk : goal.invariant-loop-walk
invariant-loop-walk l =
    (let whole : Stretch = walked (l.initial.walk.until - l.initial.walk.place) l.bytes
    (path_of l.initial.walk l.initial.shelves l.initial.buckets (entries_of l.initial.list)) in
    Walking l.bytes l.initial.out l.out l.initial.walk.stand.at whole l.walk l.shelves l.buckets (entries_of l.list))
    × TestedAt l.walk.stand l.shelves l.buckets (entries_of l.list)
    × (length l.shelves ≡ length l.initial.shelves) × (length l.buckets ≡ length l.initial.buckets) × (length l.list ≡ length l.initial.list)

abbrev pub decreases-loop-walk : goal.decreases-loop-walk
decreases-loop-walk l = l.walk.until - l.walk.place
