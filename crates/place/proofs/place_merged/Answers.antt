use mathlib.Core.Path.{sym, ap, ◌∙◌}
use Rattle.std.specs.Prelude.{Err}
use Rattle.laws.proofs.Options.{ok_some, err_none}
use Rattle.laws.proofs.Results.{passed_on}
use Rattle.merge.proofs.Laws.{steady_scan, steady_fits}
use Rattle.place.proofs.From.{not_worn, can_issue_run}
use Rattle.place.proofs.Arms.{merge_none, merge_done}
use Rattle.place.proofs.place_merged.Goals as goal

pub merge_run-requires : goal.merge_run-requires
merge_run-requires c = steady_scan c.requires.sound.steady

pub returns-in_err-run : goal.returns-in_err-run
returns-in_err-run c =
    let n = err_none _ c.merge_run.result (sym c.ok_or.ensures.value ∙ c.in_err-run.was) in
    rw (passed_on c.from_residual.result c.from_residual.ensures.1 ∙ ap Err (sym n.1)) (merge_none _ _ _ (sym c.merge_run.ensures ∙ n.0))

pub merge-requires : goal.merge-requires
merge-requires c =
    steady_fits c.requires.sound.steady _ _ (sym c.merge_run.ensures ∙ ok_some _ _ (sym c.ok_or.ensures.value ∙ c.in_ok-run.was))

pub issue_first-requires : goal.issue_first-requires
issue_first-requires c =
    can_issue_run c.requires (sym c.merge_run.ensures ∙ ok_some _ _ (sym c.ok_or.ensures.value ∙ c.in_ok-run.was)) _ (c.merge.ensures _ _)

pub returns : goal.returns
returns c =
    let e = sym c.merge_run.ensures ∙ ok_some _ _ (sym c.ok_or.ensures.value ∙ c.in_ok-run.was) in
    c.issue_first.ensures ∙ merge_done _ _ _ _ e (not_worn c.requires e) (c.merge.ensures _ _)
