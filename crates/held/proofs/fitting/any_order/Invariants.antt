use mathlib.Core.Bool.{true}
use mathlib.Core.Path.{◌≡◌}
use Rattle.rules.specs.Tables.{atlas}
use Rattle.entries.specs.Passes.{all_admitted}
use Rattle.held.proofs.fitting.any_order.Given as goal

-- those before this one fit
abbrev pub invariant-loop-i : goal.invariant-loop-i
invariant-loop-i g l = all_admitted (atlas l.head l.shelves l.buckets) (g.T.Entry.entries l.list) l.i ≡ true
