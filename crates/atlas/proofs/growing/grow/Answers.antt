use mir.Facts.{to_z-of_z}
use Rattle.laws.proofs.Held.Calls.{grow_is}
use Rattle.entries.proofs.Verdicts.{judged}
use Rattle.atlas.proofs.growing.grow.Goals as goal

pub grow-requires : goal.grow-requires
grow-requires g c = judged _ _ _ c.test-verdict.ensures

pub returns : goal.returns
returns g c =
    let fits = c.ranges in
    grow_is _ _ _ c.test-verdict.ensures _ _ (rw (to_z-of_z fits.width, to_z-of_z fits.height) at c.grow.ensures)
