use mathlib.Core.Path.{sym, ◌∙◌}
use Rattle.rules.specs.Listed as listed
use Rattle.telling.specs.Told.{figure_told}
use Rattle.telling.proofs.Numbers.{found_beside, none_beside}
use Rattle.treadwharf.proofs.Ways.{reading_no, reading_yes}
use Rattle.treadwharf.proofs.treadwharf_free_space.Goals as goal

pub returns-in_default : goal.returns-in_default
returns-in_default c = rw c.from.ensures
    (reading_no _ _ _ _ _ 1 figure_told listed.free_space_of (none_beside _ _ _ (sym c.head_beside.ensures ∙ c.in_default.is)))

pub tell_figure-requires : goal.tell_figure-requires
tell_figure-requires c = (found_beside _ _ _ _ (sym c.head_beside.ensures ∙ c.in-Some.is)).spare

pub returns : goal.returns
returns c =
    let f = found_beside _ _ _ _ (sym c.head_beside.ensures ∙ c.in-Some.is) in
    reading_yes _ _ _ _ _ 1 figure_told listed.free_space_of f.is f.read c.free_space-free.ensures c.tell_figure.ensures
