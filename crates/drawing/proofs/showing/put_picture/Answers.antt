use native.Mathlib.Omega.{arith}
use Rattle.rules.specs.Tables.{Atlas, atlas}
use Rattle.rules.specs.Picture.{ground, parts_to, rect_line, last_line, lines_of}
use Rattle.lines.proofs.Puts.{put_then}
use Rattle.drawing.proofs.Rooms.{room_then}
use Rattle.drawing.proofs.Shown.{picture_is, picture_rooms}
use Rattle.drawing.proofs.showing.put_picture.Goals as goal

pub put_first-first-requires : goal.put_first-first-requires
put_first-first-requires c = (picture_rooms c.requires).first

pub put_rect-ground-requires : goal.put_rect-ground-requires
put_rect-ground-requires c =
    rw c.whole.ensures (room_then (rect_line (ground c.args.head)) c.put_first-first.ensures (picture_rooms c.requires).ground)

pub put_shelves-last-requires : goal.put_shelves-last-requires
put_shelves-last-requires c =
    let g : Atlas = atlas c.args.head c.args.shelves.now c.args.buckets.now in
    let start = put_then c.put_first-first.ensures (rw c.whole.ensures at c.put_rect-ground.ensures) in
    (c.requires, room_then (lines_of (parts_to g g.head.shelf_count)) start (picture_rooms c.requires).shelves)

pub put_text-requires : goal.put_text-requires
put_text-requires c =
    let start = put_then c.put_first-first.ensures (rw c.whole.ensures at c.put_rect-ground.ensures) in
    omega (arith, room_then last_line (put_then start c.put_shelves-last.ensures) (picture_rooms c.requires).whole)

pub returns : goal.returns
returns c =
    let a = c.args in
    let start = put_then c.put_first-first.ensures (rw c.whole.ensures at c.put_rect-ground.ensures) in
    rw (picture_is (atlas a.head a.shelves.now a.buckets.now))
    (put_then (put_then start c.put_shelves-last.ensures) c.put_text.ensures)
