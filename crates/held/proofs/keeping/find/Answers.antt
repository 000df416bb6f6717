use mathlib.Core.Path.{◌≡◌, ◌∙◌}
use Rattle.std.specs.Prelude.{nat_eq, position, take}
use Rattle.std.proofs.Common.{rules, tests}
use Rattle.std.proofs.lemmas.Iterator.Search.{position_from_yields_List}
use Rattle.std.proofs.lemmas.Iterator.{YieldsList-from_slice}
use Rattle.held.proofs.Forms.{place_found}
use Rattle.held.proofs.keeping.find.Goals as goal

pub returns : goal.returns
returns g c =
    let e = g.T.Entry in
    let p : c.position.result ≡ position (λ x. nat_eq (e.entry x).id c.args.id) (take c.args.n c.args.list.now) =
    position_from_yields_List (λ x. nat_eq (e.entry x).id c.args.id) _ _ c.position.result c.position.ensures.ran
    (YieldsList-from_slice _ c.iter.ensures.rest) (λ x b q k. search (rules, tests))
    in
    rw p at c.unwrap_or.ensures ∙ place_found e.entry e.entries g.met.T.Entry.each c.args.n c.args.id c.args.list.now c.requires
