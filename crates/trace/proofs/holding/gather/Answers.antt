use native.Mathlib.Omega.{arith}
use Rattle.lines.proofs.Puts.{put_then}
use Rattle.trace.proofs.Gathered.{parts_are, put_cut}
use Rattle.trace.proofs.holding.gather.Goals as goal

pub returns : goal.returns
returns c =
    let p = c.args.pause in
    let held = c.well_formed.0.1.1.1.1.1.1.0.1.0.1 in
    let parts = parts_are p.held c.args.chunk.now p.count (omega (arith, held, c.requires.0)) c.args.from c.min.ensures c.saturating_sub.ensures in
    put_cut (put_then c.put_text-held.ensures c.put_text-end.ensures) parts c.min-2.ensures
