use Rattle.std.specs.Prelude.{Ok}
use mir.Facts.{to_z-of_z}
use mathlib.Core.Path.{refl, sym, ◌∙◌}
use native.Mathlib.Omega.{arith}
use Rattle.laws.proofs.Results.{passed_on}
use Rattle.entries.proofs.Verdicts.{judged}
use Rattle.held.proofs.Forms.{as_long}
use Rattle.verdicts.proofs.Lists.{allocate_refused, told_refused, told_placed, place_within, place_spare, allocated_is}
use Rattle.verdicts.proofs.Next.{allocate_next, counts_on}
use Rattle.verdicts.proofs.placing.allocate.Goals as goal

pub returns-in_err-count : goal.returns-in_err-count
returns-in_err-count g c =
    rw (passed_on c.from_residual.result c.from_residual.ensures.1)
    (allocate_refused _ _ (sym c.in_err-count.was ∙ c.requires) _ _, c.requires)

pub allocate-requires : goal.allocate-requires
allocate-requires g c = judged _ _ _ c.requires

pub returns-in_err-head : goal.returns-in_err-head
returns-in_err-head g c =
    let n = c.in_ok-count.was in
    let long = as_long g.T.Entry.entry g.T.Entry.entries g.met.T.Entry.each c.args.list.now in
    let left = allocated_is _ _ _ _ long _ n c.requires _ _ 0
    (rw (to_z-of_z c.ranges.width, to_z-of_z c.ranges.height) at c.in_err-head.ensures.0) (told_refused _ 0) refl in
    rw (passed_on c.from_residual-in_err-head.result c.from_residual-in_err-head.ensures.1)
    (left, n ∙ allocate_next _ _ (Ok _) (sym n ∙ c.requires) _ _ left)

pub add-requires : goal.add-requires
add-requires g c =
    let n = c.in_ok-count.was in
    let long = as_long g.T.Entry.entry g.T.Entry.entries g.met.T.Entry.each c.args.list.now in
    let placed = rw (to_z-of_z c.ranges.width, to_z-of_z c.ranges.height) at c.in_ok-head.ensures.0 in
    let told = told_placed _ (c.in_ok-head.ensures.1 _ refl) in
    (place_within _ _ _ _ long _ n c.requires _ _ _ placed told _ refl, place_spare _ _ _ _ long _ n c.requires _ _ _ placed told _ refl)

pub overflow_add-result : goal.overflow_add-result
overflow_add-result g c =
    let few = counts_on _ _ _ c.requires (λ i. omega (arith, c.slice_known-2-1.given i)) _ c.in_ok-count.was in
    omega arith

pub returns : goal.returns
returns g c =
    let n = c.in_ok-count.was in
    let long = as_long g.T.Entry.entry g.T.Entry.entries g.met.T.Entry.each c.args.list.now in
    let placed = rw (to_z-of_z c.ranges.width, to_z-of_z c.ranges.height) at c.in_ok-head.ensures.0 in
    let left = allocated_is _ _ _ _ long _ n c.requires _ _ _ placed (told_placed _ (c.in_ok-head.ensures.1 _ refl)) c.add.ensures in
    (left, allocate_next _ _ (Ok _) (sym n ∙ c.requires) _ _ left)
