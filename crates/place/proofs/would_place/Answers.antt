use Rattle.std.specs.Prelude.{is_some}
use mathlib.Core.Bool.{not}
use mathlib.Core.Path.{sym, ap, ◌∙◌}
use Rattle.laws.proofs.Options.{is_there, not_there}
use Rattle.chains.proofs.Laws.{steady_shelves}
use Rattle.place.proofs.From.{few, ends_is}
use Rattle.place.proofs.Arms.{told, searched_is, place_found, place_added, place_merged_law, add_told}
use Rattle.place.proofs.would_place.Goals as goal

pub search-requires : goal.search-requires
search-requires c = steady_shelves c.requires.sound.steady

pub returns-then-is_some : goal.returns-then-is_some
returns-then-is_some c =
    let e = searched_is _ _ _ _ _ c.can_add-more.ensures c.search.ensures in
    told (place_found _ _ _ (is_there _ (ap is_some (sym e) ∙ sym c.is_some.ensures ∙ c.if-is_some.true)).1)

pub filler_ends-requires : goal.filler_ends-requires
filler_ends-requires c =
    let p = c.requires in
    (p.sound.steady.columns.current, few (record { place = p; add = sym c.can_add-more.ensures ∙ c.if-more.true }))

pub returns-then-more : goal.returns-then-more
returns-then-more c =
    let a = c.can_add-more.ensures in
    let add = sym a ∙ c.if-more.true in
    let e = searched_is _ _ _ _ _ a c.search.ensures in
    let none = not_there _ (ap is_some (sym e) ∙ sym c.is_some.ensures ∙ c.if-is_some.false) in
    ap not (sym (ends_is (record { place = c.requires; add = add }) _ c.filler_ends.ensures))
    ∙ add_told _ _ _ ∙ told (place_added _ _ _ none add)

pub returns : goal.returns
returns c =
    let a = c.can_add-more.ensures in
    let e = searched_is _ _ _ _ _ a c.search.ensures in
    let none = not_there _ (ap is_some (sym e) ∙ sym c.is_some.ensures ∙ c.if-is_some.false) in
    c.would_merge.ensures ∙ told (place_merged_law _ _ _ none (sym a ∙ c.if-more.false))
