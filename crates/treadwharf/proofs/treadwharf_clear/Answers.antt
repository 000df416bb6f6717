use mathlib.Core.Path.{sym, ◌∙◌}
use Rattle.telling.proofs.Numbers.{found_in, none_in}
use Rattle.treadwharf.proofs.Ways.{changing_no, changing_yes}
use Rattle.treadwharf.proofs.treadwharf_clear.Goals as goal

pub returns-in_default : goal.returns-in_default
returns-in_default c = rw c.from.ensures
    (changing_no _ _ _ _ _ (none_in _ (sym c.head_in.ensures ∙ c.in_default.is)))

pub tell_head-requires : goal.tell_head-requires
tell_head-requires c = (found_in _ _ (sym c.head_in.ensures ∙ c.in-Some.is)).long

pub returns : goal.returns
returns c =
    let f = found_in _ _ (sym c.head_in.ensures ∙ c.in-Some.is) in
    changing_yes _ _ _ _ _ _ f.is f.read c.clear-cleared.ensures c.tell_head.ensures
