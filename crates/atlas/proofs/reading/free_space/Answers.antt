use mathlib.Core.Path.{◌∙◌}
use Rattle.laws.proofs.Held.Calls.{passed, free_is}
use Rattle.grow.proofs.Granted.{can_free}
use Rattle.atlas.proofs.reading.free_space.Goals as goal

pub free_space-requires : goal.free_space-requires
free_space-requires g c = λ n f. can_free (passed _ c.test-verdict.ensures n f).passing.sound.steady

pub returns : goal.returns
returns g c = c.free_space.ensures ∙ free_is _ _ _ c.test-verdict.ensures
