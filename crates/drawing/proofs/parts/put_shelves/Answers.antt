use Rattle.rules.specs.Tables.{Atlas, atlas}
use Rattle.rules.specs.Chains.{first}
use Rattle.drawing.proofs.Buckets.{shelf_drawable, shelf_room, shelf_turn}
use Rattle.drawing.proofs.parts.put_shelves.Goals as goal

pub put_along-end-requires : goal.put_along-end-requires
unfolding first
put_along-end-requires c =
    let g : Atlas = atlas c.args.head c.args.shelves.now c.args.buckets.now in
    let i = c.loop-i.i in
    let l = c.loop-i-test.true in
    rw c.shelf_at-shelf.ensures
    (shelf_drawable c.requires.0 i l, shelf_room g i c.loop-i.invariant g.head.shelf_count l c.requires.1)

pub loop-i-preserved : goal.loop-i-preserved
unfolding first
loop-i-preserved c =
    let g : Atlas = atlas c.args.head c.args.shelves.now c.args.buckets.now in
    shelf_turn g c.loop-i.i c.loop-i.invariant (rw c.shelf_at-shelf.ensures at c.put_along-end.ensures)
