use Rattle.std.specs.Prelude.{Ok}
use mathlib.Core.Path.{sym, ap, ◌∙◌}
use native.Mathlib.Omega.{arith}
use Rattle.rules.specs.Tables.{outcome}
use Rattle.grow.proofs.Granted.{can_grow}
use Rattle.tested.proofs.Arms.{grow_side, grow_shrinks, grow_done, sides_good, grow_wider}
use Rattle.tested.proofs.growing.grow_to.Goals as goal

pub returns-then-sides_bad : goal.returns-then-sides_bad
returns-then-sides_bad c = grow_side _ _ _ (sym c.sides_bad.ensures ∙ c.if-sides_bad.true)

pub returns-then-shrinks : goal.returns-then-shrinks
returns-then-shrinks c =
    grow_shrinks _ _ _ (sym c.sides_bad.ensures ∙ c.if-sides_bad.false)
    (sym c.shrinks.ensures ∙ c.if-shrinks.true)

pub overflow_cast-width : goal.overflow_cast-width
overflow_cast-width c =
    let s = sides_good _ _ (sym c.sides_bad.ensures ∙ c.if-sides_bad.false) in
    omega arith

pub overflow_cast-height : goal.overflow_cast-height
overflow_cast-height c =
    let s = sides_good _ _ (sym c.sides_bad.ensures ∙ c.if-sides_bad.false) in
    omega arith

pub grow-requires : goal.grow-requires
grow-requires c =
    let s = sides_good _ _ (sym c.sides_bad.ensures ∙ c.if-sides_bad.false) in
    let w = grow_wider _ _ c.args.head (sym c.shrinks.ensures ∙ c.if-shrinks.false) in
    can_grow c.requires.steady _ _ w.0 s.0 w.1

pub returns : goal.returns
returns c =
    ap (outcome (Ok tt)) c.grow.ensures
    ∙ grow_done _ _ _ (sym c.sides_bad.ensures ∙ c.if-sides_bad.false) (sym c.shrinks.ensures ∙ c.if-shrinks.false)
