use mathlib.Core.Path.{◌∙◌}
use Rattle.laws.proofs.Held.Calls.{empty_is}
use Rattle.atlas.proofs.reading.is_empty.Goals as goal

pub returns : goal.returns
returns g c = c.is_empty.ensures ∙ empty_is _ _ _ c.test-verdict.ensures
