use mir.Facts.{to_z-of_z}
use mathlib.Core.Path.{sym, ◌∙◌}
use Rattle.telling.proofs.Numbers.{found_beside, none_beside}
use Rattle.treadwharf.proofs.Ways.{allocate_no, allocate_yes}
use Rattle.treadwharf.proofs.treadwharf_allocate.Goals as goal

pub returns-in_default : goal.returns-in_default
returns-in_default c = rw c.from.ensures
    (allocate_no _ _ _ _ _ _ _ (none_beside _ _ _ (sym c.head_beside.ensures ∙ c.in_default.is)))

pub tell_issued-requires : goal.tell_issued-requires
tell_issued-requires c =
    let f = found_beside _ _ _ _ (sym c.head_beside.ensures ∙ c.in-Some.is) in
    (f.long, f.spare)

pub returns : goal.returns
returns c =
    let f = found_beside _ _ _ _ (sym c.head_beside.ensures ∙ c.in-Some.is) in
    allocate_yes _ _ _ _ _ _ _ _ f.is f.read (rw (to_z-of_z c.ranges.width, to_z-of_z c.ranges.height) at c.allocate-placed.ensures) c.tell_issued.ensures
