use Prim.Native.Nat.{suc, ◌+◌, ◌-◌}
use mathlib.Core.Path.{◌≡◌, refl, sym, ap, ◌∙◌, subst}
use mathlib.Core.List.{[]}
use native.Mathlib.Nat.{sub-zero}
use native.Mathlib.Omega.{arith}
use Rattle.rules.specs.Store.{Lay, lay_one}
use Rattle.store.proofs.Laid.{LayRoom, lay_none, lay_more, lay_keeps}
use Rattle.store.proofs.lay_many.Goals as goal

pub loop-init : goal.loop-init
loop-init c = (λ s. lay_none _ _ _, rw sub-zero c.requires, omega arith, refl)

pub loop-preserved : goal.loop-preserved
loop-preserved c =
    let l = c.loop in
    let e = c.lay_one-laid.ensures in
    let a = c.args in
    let z : a.k - l.counter ≡ suc (a.k - (l.counter + 1)) = omega arith in (
      λ s. e s ∙ ap (lay_one a.width a.shelf) (l.invariant.0 s) ∙ sym (lay_more l.counter _ _ _),
      subst (λ (g : Lay). LayRoom (a.k - (l.counter + 1)) a.width g) (sym (e [])) (lay_keeps _ a.width a.shelf _ (rw z at l.invariant.1)),
      omega arith,
      c.lay_one-laid.auto.buckets ∙ l.invariant.3,
    )
