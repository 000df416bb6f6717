use mathlib.Core.Path.{◌∙◌}
use Rattle.laws.proofs.Held.Calls.{size_is}
use Rattle.atlas.proofs.reading.size.Goals as goal

pub returns : goal.returns
returns g c = c.size.ensures ∙ size_is _ _ _ c.test-verdict.ensures
