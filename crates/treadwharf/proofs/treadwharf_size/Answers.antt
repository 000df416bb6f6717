use mathlib.Core.Path.{sym, ◌∙◌}
use Rattle.rules.specs.Listed as listed
use Rattle.telling.specs.Told.{sides_told}
use Rattle.telling.proofs.Numbers.{found_beside, none_beside}
use Rattle.treadwharf.proofs.Ways.{reading_no, reading_yes}
use Rattle.treadwharf.proofs.treadwharf_size.Goals as goal

pub returns-in_default : goal.returns-in_default
returns-in_default c = rw c.from.ensures
    (reading_no _ _ _ _ _ 2 sides_told listed.size (none_beside _ _ _ (sym c.head_beside.ensures ∙ c.in_default.is)))

pub tell_sides-requires : goal.tell_sides-requires
tell_sides-requires c = (found_beside _ _ _ _ (sym c.head_beside.ensures ∙ c.in-Some.is)).spare

pub returns : goal.returns
returns c =
    let f = found_beside _ _ _ _ (sym c.head_beside.ensures ∙ c.in-Some.is) in
    reading_yes _ _ _ _ _ 2 sides_told listed.size f.is f.read c.size-sides.ensures c.tell_sides.ensures
