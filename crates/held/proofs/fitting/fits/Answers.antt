use Prim.Native.Nat.{◌<◌, ◌≤◌}
use mathlib.Core.Path.{◌≡◌, ◌∙◌}
use lib.ListN.{length, take}
use Rattle.std.proofs.Common.{rules}
use Rattle.held.proofs.Forms.{fits_short, fits_passed, fits_admitted}
use Rattle.held.proofs.fitting.fits.Goals as goal

pub returns-in_default : goal.returns-in_default
returns-in_default g c =
    let e = g.T.Entry in
    let short : length c.args.list.now < c.entries-n.result = search rules in
    fits_short e.entry e.entries g.met.T.Entry.each _ c.args.list.now _ (c.entries-n.ensures c.args.shelves.now) short

pub returns-then-in_order : goal.returns-then-in_order
returns-then-in_order g c =
    let e = g.T.Entry in
    let lookup = c.in-Some.ensures.lookup in
    let live : c.in-Some.live.now ≡ take c.entries-n.result c.args.list.now = search rules in
    let long : c.entries-n.result ≤ length c.args.list.now = search rules in
    c.if-in_order.true
    ∙ fits_passed e.entry e.entries g.met.T.Entry.each _ c.args.list.now _ (c.entries-n.ensures c.args.shelves.now) long c.requires
    (rw live at (c.if-in_order.ensures))

pub returns-else-in_order : goal.returns-else-in_order
returns-else-in_order g c =
    let e = g.T.Entry in
    let live : c.in-Some.live.now ≡ take c.entries-n.result c.args.list.now = search rules in
    let long : c.entries-n.result ≤ length c.args.list.now = search rules in
    rw live at c.any_order.ensures
    ∙ fits_admitted e.entry e.entries g.met.T.Entry.each _ c.args.list.now _ (c.entries-n.ensures c.args.shelves.now) long
