use mathlib.Core.Path.{◌∙◌}
use Rattle.entries.proofs.Turns.{passed_none, passed_more, passed_not}
use Rattle.held.proofs.Forms.{entry_at}
use Rattle.held.proofs.fitting.in_order.Goals as goal

pub loop-held-init : goal.loop-held-init
loop-held-init g c = passed_none _ _ _ c.default-pass.ensures

pub returns-in_default : goal.returns-in_default
returns-in_default g c =
    let e = g.T.Entry in
    let read = c.entry.ensures ∙ entry_at e.entry e.entries g.met.T.Entry.each _ _ _ c.loop-held-test.true c.held-item.is in
    passed_not _ _ _ _ c.loop-held-test.true c.loop-held.invariant (rw read at c.in_default.ensures)

pub loop-held-preserved : goal.loop-held-preserved
loop-held-preserved g c =
    let e = g.T.Entry in
    let read = c.entry.ensures ∙ entry_at e.entry e.entries g.met.T.Entry.each _ _ _ c.loop-held-test.true c.held-item.is in
    passed_more _ _ _ c.loop-held.invariant (rw read at c.in-Some.ensures)
