use mathlib.Core.Path.{sym, ◌∙◌}
use Rattle.telling.proofs.Numbers.{found_in, none_in}
use Rattle.treadwharf.proofs.Ways.{sound_no, sound_yes}
use Rattle.treadwharf.proofs.treadwharf_is_sound.Goals as goal

pub returns-in_default : goal.returns-in_default
returns-in_default c = sound_no _ _ _ (none_in _ (sym c.head_in.ensures ∙ c.in_default.is))

pub returns : goal.returns
returns c =
    let f = found_in _ _ (sym c.head_in.ensures ∙ c.in-Some.is) in
    sound_yes _ _ _ f.is f.read c.is_sound.ensures
