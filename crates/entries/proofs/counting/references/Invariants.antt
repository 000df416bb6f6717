use Prim.Native.Nat.{◌*◌, ◌≤◌}
use mathlib.Core.Path.{◌≡◌}
use Rattle.rules.specs.Chains.{sum_to}
use Rattle.entries.specs.Parts.{refs_in}
use Rattle.entries.proofs.counting.references.Given as goal

-- each count is of 16 bits
abbrev pub invariant-loop-k : goal.invariant-loop-k
invariant-loop-k l = (l.sum ≡ sum_to l.k (refs_in l.buckets)) × (l.sum ≤ 65535 * l.k)
