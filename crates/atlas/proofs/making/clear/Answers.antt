use Rattle.laws.proofs.Held.Calls.{clear_is}
use Rattle.atlas.proofs.making.clear.Goals as goal

pub returns : goal.returns
returns g c = clear_is _ _ _ c.test-verdict.ensures (c.clear.ensures _ _)
