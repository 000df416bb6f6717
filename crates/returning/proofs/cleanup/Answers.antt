use Prim.Native.Nat.{suc, ◌-◌}
use mathlib.Core.Path.{◌≡◌, sym, ap, subst, ◌∙◌}
use native.Mathlib.Omega.{arith}
use Rattle.rules.specs.Tables.{Atlas}
use Rattle.rules.specs.Chains.{first}
use Rattle.rules.specs.Return.{cleaned}
use Rattle.returning.specs.Needs.{CanPop}
use Rattle.returning.proofs.Cleaning.{pop_walkable, pop_keeps, popped_count, cleaned_none, cleaned_stop, cleaned_turn}
use Rattle.returning.proofs.cleanup.Goals as goal

pub is_unreferenced-requires : goal.is_unreferenced-requires
unfolding first
is_unreferenced-requires c =
    rw c.shelf_at-last.ensures (pop_walkable _ _ (omega arith) c.loop-after.invariant.0)

pub returns-then-not-is_unreferenced : goal.returns-then-not-is_unreferenced
unfolding first
returns-then-not-is_unreferenced c =
    let e = rw c.shelf_at-last.ensures at c.is_unreferenced.ensures in
    cleaned_stop _ _ (omega arith) (sym e ∙ c.if-not-is_unreferenced.true) ∙ c.loop-after.invariant.1

pub loop-after-smaller : goal.loop-after-smaller
loop-after-smaller c =
    let last : c.loop-after.after.shelf_count ≡ suc (c.loop-after.after.shelf_count - 1) = omega arith in
    omega (arith, ap (λ (g : Atlas). g.head.shelf_count) c.pop_shelf-after.ensures ∙ popped_count _ _, last)

pub loop-after-preserved : goal.loop-after-preserved
unfolding first
loop-after-preserved c =
    let i = c.loop-after.invariant in
    let e = c.pop_shelf-after.ensures in
    let empty = rw c.shelf_at-last.ensures at c.is_unreferenced.ensures in (
      subst (λ (g : Atlas). CanPop g) (sym e) (pop_keeps _ _ (omega arith) i.0),
      ap (λ (g : Atlas). cleaned g.head.shelf_count g) e ∙ cleaned_turn _ _ (omega arith) (sym empty ∙ c.if-not-is_unreferenced.false) ∙ i.1,
      c.pop_shelf-after.auto.buckets ∙ i.2,
    )

pub returns : goal.returns
returns c = cleaned_none _ (omega arith) ∙ c.loop-after.invariant.1
