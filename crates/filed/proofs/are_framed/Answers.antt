use Prim.Native.Nat.{◌+◌, ◌*◌}
use mathlib.Core.Path.{sym, ◌∙◌}
use Rattle.rules.specs.Files.{is_framed}
use Rattle.filed.proofs.Framed.{all_false}
use Rattle.filed.proofs.are_framed.Goals as goal

pub returns-then-not-is_framed : goal.returns-then-not-is_framed
returns-then-not-is_framed c =
    all_false _ (λ k. is_framed _ (_ + _ * k) _ _) c.loop-i.i c.loop-i-test.true
    (sym c.is_framed.ensures ∙ c.if-not-is_framed.true)
