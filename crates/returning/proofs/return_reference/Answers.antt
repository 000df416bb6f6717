use mathlib.Core.Path.{sym, ap, subst, ◌∙◌}
use Rattle.rules.specs.Tables.{Atlas}
use Rattle.rules.specs.Return.{cleaned}
use Rattle.returning.specs.Needs.{CanPop}
use Rattle.returning.proofs.Cleaning.{uncleaned_keeps, returned_cleans, returned_stays}
use Rattle.returning.proofs.return_reference.Goals as goal

pub cleanup-requires : goal.cleanup-requires
cleanup-requires c =
    let p = c.requires in
    subst (λ (g : Atlas). CanPop g) (sym c.return_uncleaned-after.ensures) (uncleaned_keeps _ _ p.uncleaned p.pop)

pub returns-then-last_emptied : goal.returns-then-last_emptied
returns-then-last_emptied c =
    let v = c.bucket_at-bucket.ensures in
    c.cleanup.ensures ∙ ap (λ (g : Atlas). cleaned g.head.shelf_count g) c.return_uncleaned-after.ensures
    ∙ returned_cleans _ _ (rw (c.last_emptied.ensures, v) at c.if-last_emptied.true)

pub returns : goal.returns
returns c =
    let v = c.bucket_at-bucket.ensures in
    c.return_uncleaned-after.ensures ∙ returned_stays _ _ (rw (c.last_emptied.ensures, v) at c.if-last_emptied.false)
