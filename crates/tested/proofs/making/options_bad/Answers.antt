use mathlib.Core.Path.{sym, ◌≡◌, ◌∙◌}
use mathlib.Core.Bool.{◌||◌}
use Rattle.rules.specs.Limits.{option_most}
use Rattle.rules.specs.Calls.{outside}
use Rattle.tested.proofs.Arms.{numbers_good}
use Rattle.tested.proofs.making.options_bad.Goals as goal

pub column_width-requires : goal.column_width-requires
column_width-requires c =
    let a = c.args in
    let two : c.if-outside.value ≡ (outside a.align_width option_most || outside a.align_height option_most) = elim c.if-outside.branch [
      | goal.then-outside w ↦ rw (sym c.outside.ensures ∙ w.if-outside.true) (w.value-is ∙ w.if-outside.true)
      | goal.else-outside w ↦ rw (sym c.outside.ensures ∙ w.if-outside.false) (w.value-is ∙ w.outside-else-outside.ensures)
    ] in
    let three : c.if-outside-2.value
    ≡ (outside a.align_width option_most || outside a.align_height option_most || outside a.columns option_most) = elim c.if-outside-2.branch [
      | goal.then-outside-2 w ↦ rw (sym two ∙ w.if-outside-2.true) (w.value-is ∙ w.if-outside-2.true)
      | goal.else-outside-2 w ↦ rw (sym two ∙ w.if-outside-2.false) (w.value-is ∙ w.outside-else-outside-2.ensures)
    ] in
    let good = numbers_good _ _ _ (sym three ∙ c.if-outside-3.false) in
    (good.2.0, good.0.0)
