use mathlib.Core.Path.{◌∙◌}
use native.Mathlib.Omega.{arith}
use Rattle.trace.proofs.Loop.{walking_turn, walking_end, turn_nearer}
use Rattle.trace.proofs.walking.run.Goals as goal

pub loop-walk-smaller : goal.loop-walk-smaller
loop-walk-smaller c =
    turn_nearer _ _ c.loop-walk-test.true c.loop-walk.invariant.0.within c.turn-walk.ensures.0

pub loop-walk-preserved : goal.loop-walk-preserved
loop-walk-preserved c =
    let t = c.turn-walk in
    let inv = c.loop-walk.invariant in (
      walking_turn c.loop-walk-test.true inv.0 t.ensures.0,
      t.ensures.1,
      t.auto.shelves ∙ inv.2,
      t.auto.buckets ∙ inv.3,
      t.auto.list ∙ inv.4,
    )

pub returns : goal.returns
returns c = let inv = c.loop-walk.invariant in (walking_end (omega arith) inv.0, inv.1)
