use native.Mathlib.Omega.{arith}
use Rattle.rules.specs.Chains.{next}
use Rattle.asked.proofs.Answers.{refuted}
use Rattle.walks.proofs.WalkLaws.{midway_falls, midway_out, midway_twice}
use Rattle.walks.proofs.WalkLaws.{loosely_more, loosely_bad, loosely_end}
use Rattle.sound.proofs.released.walk_released.Goals as goal

pub returns-then-marks-here-ne0 : goal.returns-then-marks-here-ne0
returns-then-marks-here-ne0 g c =
    midway_twice c.loop-here.invariant c.requires.0.count c.loop-here-test.true c.if-marks-here-ne0.true

pub returns-then-not-is_freed : goal.returns-then-not-is_freed
returns-then-not-is_freed g c =
    loosely_bad c.loop-here.invariant c.requires.0.count c.loop-here-test.true
    (rw c.bucket-bucket.ensures at (refuted c.is_freed.ensures c.if-not-is_freed.true))

pub loop-here-smaller : goal.loop-here-smaller
loop-here-smaller g c =
    midway_falls c.loop-here.invariant c.loop-here-test.true c.if-marks-here-ne0.false

pub loop-here-preserved : goal.loop-here-preserved
unfolding next
loop-here-preserved g c =
    let b = c.bucket-bucket.ensures in
    rw b
    (loosely_more c.loop-here.invariant c.loop-here-test.true c.if-marks-here-ne0.false
    (rw b at (c.is_freed.ensures.holds c.if-not-is_freed.false)))

pub returns-then-here : goal.returns-then-here
returns-then-here g c =
    midway_out c.loop-here.invariant c.requires.0.count c.if-here.true (omega arith)

pub returns : goal.returns
returns g c =
    loosely_end c.loop-here.invariant c.requires.0.count c.if-here.false
