use native.Mathlib.Omega.{arith}
use Rattle.trace.proofs.Fed.{end_held, end_short, end_over, end_none, end_cut}
use Rattle.trace.proofs.feeding.finish.Goals as goal
use Rattle.trace.proofs.feeding.finish.Goals.{then-pause-via-then-pause, then-pause-via-else-pause+then-pause-eq0}
use Rattle.trace.proofs.feeding.finish.Goals.{then-pause-gt-HELD_MOST-via-then-pause-gt-HELD_MOST, then-pause-gt-HELD_MOST-via-else-pause-gt-HELD_MOST+then-out-lt-STOP_MOST}

pub returns-then-pause-gt-HELD_MOST : goal.returns-then-pause-gt-HELD_MOST
returns-then-pause-gt-HELD_MOST c = elim c.then-pause-gt-HELD_MOST.branch [
  | then-pause-gt-HELD_MOST-via-then-pause-gt-HELD_MOST w ↦ end_held _ _ w.if-pause-gt-HELD_MOST.true
  | then-pause-gt-HELD_MOST-via-else-pause-gt-HELD_MOST+then-out-lt-STOP_MOST w ↦ end_short _ _ w.if-pause-gt-HELD_MOST.false w.if-out-lt-STOP_MOST.true
]

pub returns-then-pause : goal.returns-then-pause
returns-then-pause c = elim c.then-pause.branch [
  | then-pause-via-then-pause w ↦ end_over _ _ c.if-pause-gt-HELD_MOST.false c.if-out-lt-STOP_MOST.false w.if-pause.true
  | then-pause-via-else-pause+then-pause-eq0 w ↦ end_none _ _ c.if-pause-gt-HELD_MOST.false c.if-out-lt-STOP_MOST.false w.if-pause-eq0.true
]

pub returns : goal.returns
returns c =
    let long = c.well_formed.0.1.1.1.1.1.1.0.1.0.1 in
    let few = c.if-pause-gt-HELD_MOST.false in
    end_cut _ _ few c.if-out-lt-STOP_MOST.false c.if-pause.false c.if-pause-eq0.false (omega (arith, long, few))
    c.stop_line.ensures
