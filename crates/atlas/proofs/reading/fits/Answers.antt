use mathlib.Core.Path.{sym, ◌∙◌}
use Rattle.laws.proofs.Sound.Test.{sound_test}
use Rattle.atlas.proofs.reading.fits.Goals as goal

pub fits-requires : goal.fits-requires
fits-requires g c = (sound_test _).0 (sym c.is_sound.ensures ∙ c.if-is_sound.true)
