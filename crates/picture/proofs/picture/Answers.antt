use mathlib.Core.Path.{◌∙◌}
use Rattle.entries.proofs.Verdicts.{judged}
use Rattle.drawing.proofs.Shown.{show_is}
use Rattle.picture.proofs.picture.Goals as goal

pub show-requires : goal.show-requires
show-requires g c = judged _ _ _ c.test-verdict.ensures

pub returns : goal.returns
returns g c =
    c.show.ensures ∙ show_is _ _ _ _ c.test-verdict.ensures
