use mathlib.Core.Path.{sym, ◌∙◌}
use Rattle.tested.proofs.Arms.{made_fresh}
use Rattle.tested.proofs.making.made.Goals as goal

pub fresh_head-head-requires : goal.fresh_head-head-requires
fresh_head-head-requires c =
    made_fresh _ _ _ _ _ _ (sym c.sides_bad.ensures ∙ c.if-sides_bad.false) (sym c.options_bad.ensures ∙ c.if-options_bad.false)
