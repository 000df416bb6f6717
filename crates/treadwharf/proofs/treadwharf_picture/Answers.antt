use mathlib.Core.Path.{sym, ◌∙◌}
use Rattle.rules.specs.Listed as listed
use Rattle.telling.proofs.Numbers.{found_beside, none_beside}
use Rattle.treadwharf.proofs.Ways.{putting_no, putting_yes}
use Rattle.treadwharf.proofs.treadwharf_picture.Goals as goal

pub returns-in_default : goal.returns-in_default
returns-in_default c = rw c.from.ensures
    (putting_no _ _ _ _ _ listed.picture _ (none_beside _ _ _ (sym c.head_beside.ensures ∙ c.in_default.is)))

pub tell_figure-requires : goal.tell_figure-requires
tell_figure-requires c = (found_beside _ _ _ _ (sym c.head_beside.ensures ∙ c.in-Some.is)).spare

pub returns : goal.returns
returns c =
    let f = found_beside _ _ _ _ (sym c.head_beside.ensures ∙ c.in-Some.is) in
    putting_yes _ _ _ _ _ listed.picture _ _ f.is f.read c.picture-drawn.ensures c.tell_figure.ensures
