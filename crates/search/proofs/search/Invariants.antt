use Prim.Native.Nat.{◌-◌, ◌≤◌}
use mathlib.Core.Path.{◌≡◌}
use Rattle.rules.specs.Search.{searched, least_waste}
use Rattle.search.proofs.Laws.{best_at}
use Rattle.search.proofs.search.Given as goal

abbrev pub invariant-loop-i : goal.invariant-loop-i
invariant-loop-i l =
    (best_at l.least l.found ≡ searched l.w l.h l.add l.shelves l.buckets l.i)
    × (l.least ≡ least_waste (best_at l.least l.found))
    × (l.i ≤ l.count)

abbrev pub decreases-loop-i : goal.decreases-loop-i
decreases-loop-i l = l.count - l.i
