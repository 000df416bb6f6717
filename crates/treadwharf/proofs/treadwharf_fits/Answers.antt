use mathlib.Core.Path.{sym, ◌∙◌}
use Rattle.telling.proofs.Numbers.{found_in, none_in}
use Rattle.treadwharf.proofs.Ways.{fits_no, fits_yes}
use Rattle.treadwharf.proofs.treadwharf_fits.Goals as goal

pub returns-in_default : goal.returns-in_default
returns-in_default c = fits_no _ _ _ _ (none_in _ (sym c.head_in.ensures ∙ c.in_default.is))

pub returns : goal.returns
returns c =
    let f = found_in _ _ (sym c.head_in.ensures ∙ c.in-Some.is) in
    fits_yes _ _ _ _ f.is f.read c.fits.ensures
