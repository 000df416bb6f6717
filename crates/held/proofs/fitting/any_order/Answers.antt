use mathlib.Core.Path.{sym, ◌∙◌}
use native.Mathlib.Omega.{arith}
use lib.ListN.{length}
use Rattle.entries.proofs.Turns.{all_none, all_more, all_not}
use Rattle.held.proofs.Forms.{entry_at, seen_first}
use Rattle.held.proofs.fitting.any_order.Goals as goal

pub loop-i-init : goal.loop-i-init
loop-i-init g c = all_none _ (g.T.Entry.entries c.args.list.now)

-- what the test of entry i was asked
pub returns-then-not-admits : goal.returns-then-not-admits
returns-then-not-admits g c =
    let e = g.T.Entry in
    let xs = c.args.list.now in
    let read = c.entry-entry.ensures ∙ entry_at e.entry e.entries g.met.T.Entry.each xs c.loop-i.i _ c.loop-i-test.true c.index-list-i.is in
    let before = rw (read, seen_first e.entry e.entries g.met.T.Entry.each xs c.loop-i.i _ (omega arith)) at c.earlier-before.ensures in
    let asked = rw (read, before) at c.admits.ensures in
    all_not _ (e.entries xs) (length xs) c.loop-i.i c.loop-i-test.true (sym asked ∙ c.if-not-admits.true)

pub loop-i-preserved : goal.loop-i-preserved
loop-i-preserved g c =
    let e = g.T.Entry in
    let xs = c.args.list.now in
    let read = c.entry-entry.ensures ∙ entry_at e.entry e.entries g.met.T.Entry.each xs c.loop-i.i _ c.loop-i-test.true c.index-list-i.is in
    let before = rw (read, seen_first e.entry e.entries g.met.T.Entry.each xs c.loop-i.i _ (omega arith)) at c.earlier-before.ensures in
    let asked = rw (read, before) at c.admits.ensures in
    all_more _ (e.entries xs) c.loop-i.i c.loop-i.invariant (sym asked ∙ c.if-not-admits.false)
