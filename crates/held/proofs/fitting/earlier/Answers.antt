use mathlib.Core.Path.{◌∙◌}
use native.Mathlib.Omega.{arith}
use Rattle.entries.proofs.Turns.{seen_none, seen_more, seen_not, few}
use Rattle.held.proofs.Forms.{entry_at}
use Rattle.held.proofs.fitting.earlier.Goals as goal

pub loop-other-init : goal.loop-other-init
loop-other-init g c = seen_none (g.T.Entry.entries c.args.before.now) c.args.entry

pub compare-requires : goal.compare-requires
compare-requires g c =
    omega (arith, few (g.T.Entry.entries c.args.before.now) c.args.entry c.loop-other.other-index c.loop-other.invariant, c.loop-other-test.true)

pub returns-in_err-alike : goal.returns-in_err-alike
returns-in_err-alike g c =
    let e = g.T.Entry in
    let read = c.entry.ensures ∙ entry_at e.entry e.entries g.met.T.Entry.each _ _ _ c.loop-other-test.true c.other-item.is in
    c.from_residual.ensures ∙ seen_not _ _ _ _ c.loop-other-test.true c.loop-other.invariant (rw read at c.in_err-alike.ensures)

pub loop-other-preserved : goal.loop-other-preserved
loop-other-preserved g c =
    let e = g.T.Entry in
    let read = c.entry.ensures ∙ entry_at e.entry e.entries g.met.T.Entry.each _ _ _ c.loop-other-test.true c.other-item.is in
    seen_more _ _ _ c.loop-other.invariant (rw read at c.in_ok-alike.ensures)
