use Prim.Native.Nat.{◌+◌, ◌*◌}
use mathlib.Core.Path.{◌≡◌}
use mathlib.Core.Bool.{true}
use Rattle.rules.specs.Sound.{all_to}
use Rattle.rules.specs.Files.{is_framed}
use Rattle.filed.proofs.are_framed.Given as goal

abbrev pub invariant-loop-i : goal.invariant-loop-i
invariant-loop-i l = all_to l.i (λ k. is_framed l.file (l.at + (l.kind.size + 2) * k) l.kind.size l.kind.number) ≡ true
