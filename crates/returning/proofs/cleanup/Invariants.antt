use mathlib.Core.Path.{◌≡◌}
use lib.ListN.{length}
use Rattle.rules.specs.Tables.{atlas}
use Rattle.rules.specs.Return.{cleaned}
use Rattle.returning.specs.Needs.{CanPop}
use Rattle.returning.proofs.cleanup.Given as goal

abbrev pub invariant-loop-after : goal.invariant-loop-after
invariant-loop-after l =
    CanPop (atlas l.after l.shelves l.buckets)
    × (cleaned l.after.shelf_count (atlas l.after l.shelves l.buckets)
    ≡ cleaned l.initial.after.shelf_count (atlas l.initial.after l.shelves l.initial.buckets))
    × (length l.buckets ≡ length l.initial.buckets)

abbrev pub decreases-loop-after : goal.decreases-loop-after
decreases-loop-after l = l.after.shelf_count
