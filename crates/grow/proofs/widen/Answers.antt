use Rattle.grow.proofs.Widening.{widened_by}
use Rattle.grow.proofs.widen.Goals as goal

pub returns : goal.returns
returns c =
    let a = c.args in
    let v = c.shelf_at-shelf.ensures in
    rw (c.put_shelf.ensures, v) (widened_by a.x a.count a.i _ _ (rw v at (c.lay_many-laid.ensures a.shelves.now)))
