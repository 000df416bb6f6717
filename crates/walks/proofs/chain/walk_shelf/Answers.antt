use native.Mathlib.Omega.{arith}
use Rattle.rules.specs.Chains.{next}
use Rattle.asked.proofs.Answers.{refuted}
use Rattle.walks.proofs.WalkLaws.{midway_falls, midway_out, midway_twice}
use Rattle.walks.proofs.WalkLaws.{along_free, along_more, along_bad, along_countable, along_answers}
use Rattle.walks.proofs.chain.walk_shelf.Goals as goal

pub returns-then-marks-here-ne0 : goal.returns-then-marks-here-ne0
returns-then-marks-here-ne0 g c =
    let l = c.loop-here in
    midway_twice l.invariant c.requires.0.count c.loop-here-test.true (λ z. omega (arith, c.if-marks-here-ne0.true))

pub returns-then-not-is_following : goal.returns-then-not-is_following
returns-then-not-is_following g c =
    along_bad c.loop-here.invariant c.requires.0.count c.loop-here-test.true
    (rw c.bucket-bucket.ensures at (refuted c.is_following.ensures c.if-not-is_following.true))

pub overflow_add-free : goal.overflow_add-free
overflow_add-free g c =
    omega (arith, along_free c.loop-here.invariant c.requires.0.marked (omega arith))

pub loop-here-smaller : goal.loop-here-smaller
loop-here-smaller g c =
    midway_falls c.loop-here.invariant c.loop-here-test.true (omega (arith, c.if-marks-here-ne0.false))

pub loop-here-preserved : goal.loop-here-preserved
unfolding next
loop-here-preserved g c =
    let b = c.bucket-bucket.ensures in
    rw b
    (along_more c.loop-here.invariant c.loop-here-test.true (omega (arith, c.if-marks-here-ne0.false))
    (rw b at (c.is_following.ensures.holds c.if-not-is_following.false)))

pub returns-then-here : goal.returns-then-here
returns-then-here g c =
    midway_out c.loop-here.invariant c.requires.0.count c.if-here.true (omega arith)

pub tally_with-requires : goal.tally_with-requires
tally_with-requires g c =
    along_countable c.loop-here.invariant c.requires.0.marked

pub returns : goal.returns
returns g c =
    let p = c.requires in
    along_answers c.loop-here.invariant _ p.0.count c.if-here.false (omega arith) (omega arith) p.1 p.0.marked c.tally_with.ensures
