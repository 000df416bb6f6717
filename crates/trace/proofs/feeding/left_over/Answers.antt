use Rattle.trace.proofs.Fed.{left_held, left_none}
use Rattle.trace.proofs.feeding.left_over.Goals as goal
use Rattle.trace.proofs.feeding.left_over.Goals.{then-walk, else-walk}

pub returns : goal.returns
returns c s b l = elim c.if-walk.branch [
  | then-walk w ↦ rw (w.held-is, w.count-is) (left_none c.args.walk _ s b l w.if-walk.true)
  | else-walk w ↦
      let going = w.if-walk.false in
      rw (w.held-is, w.count-is) (left_held c.args.walk _ s b l going c.requires.within (c.requires.few going) w.gather-count.ensures)
]
