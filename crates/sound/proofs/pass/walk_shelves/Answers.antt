use Rattle.asked.proofs.Answers.{refuted}
use Rattle.sound.proofs.PassLaws.{passed_more, stops_shelf, stops_walk}
use Rattle.sound.proofs.pass.walk_shelves.Goals as goal

pub returns-then-not-is_shelf : goal.returns-then-not-is_shelf
returns-then-not-is_shelf g c =
    stops_shelf c.loop-i.invariant c.loop-i-test.true
    (rw c.shelf-shelf.ensures at (refuted c.is_shelf.ensures c.if-not-is_shelf.true))

pub returns-in_err-tally : goal.returns-in_err-tally
returns-in_err-tally g c =
    rw c.from_residual.ensures
    (stops_walk c.loop-i.invariant c.loop-i-test.true (rw c.shelf-shelf.ensures at c.in_err-tally.ensures))

pub loop-i-preserved : goal.loop-i-preserved
loop-i-preserved g c =
    let s = c.shelf-shelf.ensures in
    rw (c.row_after.ensures, s)
    (passed_more c.loop-i.invariant (rw s at (c.is_shelf.ensures.holds c.if-not-is_shelf.false)) (rw s at c.in_ok-tally.ensures))
