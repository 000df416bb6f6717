use Rattle.rules.specs.Tables.{atlas}
use Rattle.sound.specs.Pass.{Passed}
use Rattle.sound.proofs.pass.walk_shelves.Given as goal

abbrev pub invariant-loop-i : goal.invariant-loop-i
invariant-loop-i g l =
    let r = g.R.Records in
    Passed (atlas l.head (r.shelves l.records) (r.buckets l.records)) l.i l.marks l.pass
