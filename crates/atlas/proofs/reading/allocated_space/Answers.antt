use mathlib.Core.Path.{◌∙◌}
use Rattle.laws.proofs.Held.Calls.{allocated_is}
use Rattle.atlas.proofs.reading.allocated_space.Goals as goal

pub returns : goal.returns
returns g c = c.allocated_space.ensures ∙ allocated_is _ _ _ c.test-verdict.ensures
