use mathlib.Core.Path.{refl, sym, ap, subst, ◌∙◌}
use native.Mathlib.Omega.{arith}
use Rattle.rules.specs.Tables.{Atlas, atlas, shelf_at}
use Rattle.rules.specs.Grow.{more_buckets, widened}
use Rattle.grow.specs.Needs.{CanWidenAll}
use Rattle.grow.proofs.Widening.{widen_keeps, widened_none, widened_more, widened_count}
use Rattle.grow.proofs.widen_all.Goals as goal

pub loop-i-init : goal.loop-i-init
loop-i-init c = (widened_none _ _ _, c.requires, omega arith, refl, refl)

pub more_buckets-count-requires : goal.more_buckets-count-requires
more_buckets-count-requires c =
    let a = c.args in
    let l = c.loop-i in
    let g = atlas a.head a.shelves.now a.buckets.now in
    let e = ap (λ (g : Atlas). g.head.shelf_count) l.invariant.0 ∙ widened_count a.x a.added l.i g in
    rw c.shelf_at-shelf.ensures (l.invariant.1.wide _ (omega arith), l.invariant.1.few)

pub loop-i-preserved : goal.loop-i-preserved
loop-i-preserved c =
    let n = c.loop-i.invariant in
    let i = c.loop-i.i in
    let a = c.args in
    let g = atlas a.head a.shelves.now a.buckets.now in
    let s = ap (λ (g : Atlas). g.head.shelf_count) n.0 ∙ widened_count a.x a.added i g in
    let e = rw (c.more_buckets-count.ensures, c.shelf_at-shelf.ensures) at c.widen-after.ensures in (
      e ∙ ap (λ (g : Atlas). widened a.x (more_buckets a.added (shelf_at g.shelves i) g.head) i g) n.0 ∙ sym (widened_more a.x a.added i _),
      subst (λ (g : Atlas). CanWidenAll a.x a.added g) (sym e) (widen_keeps a.x a.added i _ (omega arith) n.1),
      omega arith,
      c.widen-after.auto.shelves ∙ n.3,
      c.widen-after.auto.buckets ∙ n.4,
    )
