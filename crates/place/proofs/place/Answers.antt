use mathlib.Core.Path.{sym, ◌∙◌}
use Rattle.chains.proofs.Laws.{steady_shelves}
use Rattle.place.proofs.From.{can_issue_found}
use Rattle.place.proofs.Arms.{searched_is, place_added, place_merged_law}
use Rattle.place.proofs.place.Goals as goal

pub search-requires : goal.search-requires
search-requires c = steady_shelves c.requires.sound.steady

pub issue-requires : goal.issue-requires
issue-requires c =
    can_issue_found c.requires (sym (searched_is _ _ _ _ _ c.can_add-add.ensures c.search.ensures) ∙ c.in-Some.is)

pub returns-then-add : goal.returns-then-add
returns-then-add c =
    let a = c.can_add-add.ensures in
    c.place_new.ensures ∙ place_added _ _ _ (sym (searched_is _ _ _ _ _ a c.search.ensures) ∙ c.in_default.is) (sym a ∙ c.if-add.true)

pub returns : goal.returns
returns c =
    let a = c.can_add-add.ensures in
    c.place_merged.ensures ∙ place_merged_law _ _ _ (sym (searched_is _ _ _ _ _ a c.search.ensures) ∙ c.in_default.is) (sym a ∙ c.if-add.false)
