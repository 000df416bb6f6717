use mathlib.Core.Path.{◌≡◌}
use Rattle.std.specs.Prelude.{Some}
use Rattle.entries.specs.Passes.{seen}
use Rattle.held.proofs.fitting.earlier.Given as goal

-- how many are alike of those before this one
abbrev pub invariant-loop-other : goal.invariant-loop-other
invariant-loop-other g l = seen (g.T.Entry.entries l.before) l.entry l.other-index ≡ Some l.alike
