use mathlib.Core.Path.{◌∙◌, ap, sym, subst}
use Rattle.rules.specs.Tables.{Atlas}
use Rattle.rules.specs.Builds.{present}
use Rattle.rules.specs.NewShelf.{plain_shelf}
use Rattle.measures.specs.Needs.{CanPlainShelf}
use Rattle.measures.proofs.Filler.{fill_once, new_short, new_plain, filler_falls, filler_place, after_filler}
use Rattle.shelf.proofs.+new_shelf.Goals as goal

pub new_shelf-filled-requires : goal.new_shelf-filled-requires
new_shelf-filled-requires t c =
    let e = sym c.is_short.ensures ∙ c.if-is_short.true in
    let p = c.requires.plain in
    (rw (← c.decreases) (filler_falls _ _ e), filler_place _ _ e p.ready p.add.buckets)

pub plain_shelf-requires : goal.plain_shelf-requires
plain_shelf-requires t c =
    let e = sym c.is_short.ensures ∙ c.if-is_short.true in
    let p = c.requires.plain in
    subst (λ (g : Atlas). CanPlainShelf c.args.height g) (sym (c.new_shelf-filled.ensures ∙ fill_once _ _))
    (after_filler _ _ e p.ready p.add.buckets p.asked c.requires.filler)

pub returns-then-is_short : goal.returns-then-is_short
returns-then-is_short t c =
    c.plain_shelf.ensures
    ∙ ap (plain_shelf present _ _) (c.new_shelf-filled.ensures ∙ fill_once _ _)
    ∙ sym (new_short _ _ _ (sym c.is_short.ensures ∙ c.if-is_short.true))

pub returns : goal.returns
returns t c = c.plain_shelf-2.ensures ∙ sym (new_plain _ _ _ (sym c.is_short.ensures ∙ c.if-is_short.false))
