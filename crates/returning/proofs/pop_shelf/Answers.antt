use Prim.Native.Nat.{◌-◌}
use mathlib.Core.Path.{ap}
use native.Mathlib.Omega.{arith}
use Rattle.rules.specs.declared.Head.{Head}
use Rattle.rules.specs.Chains.{first}
use Rattle.rules.specs.Return.{popped}
use Rattle.laws.proofs.Return.StepBack.{stepped_is}
use Rattle.returning.proofs.Cleaning.{pop_steps, pop_some}
use Rattle.returning.proofs.pop_shelf.Goals as goal

pub step_back-back-requires : goal.step_back-back-requires
step_back-back-requires c = pop_steps _ _ (omega (arith, c.requires.1)) c.requires.0

pub release-requires : goal.release-requires
unfolding first
release-requires c =
    rw c.shelf_at-last.ensures (pop_some _ _ (omega (arith, c.requires.1)) c.requires.0)

pub returns : goal.returns
unfolding popped first
returns c =
    let a = c.args in
    let kept = ap (λ (h : Head). h.bucket_count) (stepped_is a.shelves.now (a.head.shelf_count - 1) a.head) in
    rw (c.release.ensures, c.step_back-back.ensures, c.shelf_at-last.ensures, kept)
