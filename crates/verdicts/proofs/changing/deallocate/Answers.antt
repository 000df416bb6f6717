use Rattle.std.specs.Prelude.{Ok}
use mathlib.Core.Path.{refl, sym, ◌∙◌}
use Rattle.laws.proofs.Results.{passed_on}
use Rattle.entries.proofs.Verdicts.{judged}
use Rattle.held.proofs.Forms.{as_long}
use Rattle.verdicts.proofs.Lists.{deallocate_refused, room_for, there_to_go, deallocated_is}
use Rattle.verdicts.proofs.Next.{deallocate_next}
use Rattle.verdicts.proofs.changing.deallocate.Goals as goal

pub returns-in_err-count : goal.returns-in_err-count
returns-in_err-count g c =
    rw (passed_on c.from_residual.result c.from_residual.ensures.1)
    (deallocate_refused _ _ (sym c.in_err-count.was ∙ c.requires) _, c.requires)

pub find-at-requires : goal.find-at-requires
find-at-requires g c =
    room_for _ _ _ _ (as_long g.T.Entry.entry g.T.Entry.entries g.met.T.Entry.each c.args.list.now) _ c.in_ok-count.was c.requires

pub deallocate-requires : goal.deallocate-requires
deallocate-requires g c = judged _ _ _ c.requires

pub returns-in_err-after : goal.returns-in_err-after
returns-in_err-after g c =
    let n = c.in_ok-count.was in
    let long = as_long g.T.Entry.entry g.T.Entry.entries g.met.T.Entry.each c.args.list.now in
    let left = deallocated_is _ _ _ _ long _ n c.requires _ _ c.in_err-after.ensures c.find-at.ensures refl in
    rw (passed_on c.from_residual-in_err-after.result c.from_residual-in_err-after.ensures.1)
    (left, n ∙ deallocate_next _ _ (Ok _) (sym n ∙ c.requires) _ left)

pub remove-requires : goal.remove-requires
remove-requires g c =
    let n = c.in_ok-count.was in
    let long = as_long g.T.Entry.entry g.T.Entry.entries g.met.T.Entry.each c.args.list.now in
    (there_to_go _ _ _ _ long _ n c.requires _ _ c.in_ok-after.ensures refl, room_for _ _ _ _ long _ n c.requires)

pub returns : goal.returns
returns g c =
    let n = c.in_ok-count.was in
    let long = as_long g.T.Entry.entry g.T.Entry.entries g.met.T.Entry.each c.args.list.now in
    let left = deallocated_is _ _ _ _ long _ n c.requires _ _ c.in_ok-after.ensures c.find-at.ensures c.remove.ensures in
    (left, deallocate_next _ _ (Ok _) (sym n ∙ c.requires) _ left)
