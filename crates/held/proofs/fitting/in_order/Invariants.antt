use mathlib.Core.Path.{◌≡◌}
use Rattle.std.specs.Prelude.{Some}
use Rattle.rules.specs.Tables.{atlas}
use Rattle.entries.specs.Passes.{passed}
use Rattle.held.proofs.fitting.in_order.Given as goal

-- the pass after the entries before this one
abbrev pub invariant-loop-held : goal.invariant-loop-held
invariant-loop-held g l = passed (atlas l.head l.shelves l.buckets) (g.T.Entry.entries l.list) l.held-index ≡ Some l.pass
