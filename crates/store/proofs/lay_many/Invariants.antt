use Prim.Native.Nat.{ℕ, ◌-◌, ◌≤◌}
use mathlib.Core.Path.{◌≡◌}
use mathlib.Core.List.{List}
use lib.ListN.{length}
use Rattle.rules.specs.Store.{lay_many}
use Rattle.store.specs.Needs.{lays, CanLay}
use Rattle.store.proofs.lay_many.Given as goal

abbrev pub invariant-loop : goal.invariant-loop
invariant-loop l =
    ((shelves : List ℕ) → lays l.laid shelves l.buckets ≡ lay_many l.counter l.width l.shelf (lays l.initial.laid shelves l.initial.buckets))
    × CanLay (l.k - l.counter) l.width l.laid.x l.laid.head l.buckets
    × (l.counter ≤ l.k)
    × (length l.buckets ≡ length l.initial.buckets)

abbrev pub decreases-loop : goal.decreases-loop
decreases-loop l = l.k - l.counter
