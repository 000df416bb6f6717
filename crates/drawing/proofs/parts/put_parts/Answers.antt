use native.Mathlib.Omega.{arith}
use Rattle.rules.specs.Picture.{free_part, rect_line}
use Rattle.lines.proofs.Puts.{put_then}
use Rattle.drawing.proofs.Rooms.{room_then}
use Rattle.drawing.proofs.Buckets.{parts_one, parts_two, parts_start}
use Rattle.drawing.proofs.parts.put_parts.Goals as goal

pub put_rect-end-requires : goal.put_rect-end-requires
put_rect-end-requires c =
    rw c.used_part.ensures (omega (arith, parts_start c.args.shelf c.args.bucket, c.requires.1))

pub returns-then-bucket-eq0 : goal.returns-then-bucket-eq0
returns-then-bucket-eq0 c =
    let a = c.args in
    rw (parts_one a.shelf a.bucket c.if-bucket-eq0.true) (rw c.used_part.ensures at c.put_rect-end.ensures)

pub put_rect-requires : goal.put_rect-requires
put_rect-requires c =
    let s = c.args.shelf in
    let v = c.args.bucket in
    let used = rw c.used_part.ensures at c.put_rect-end.ensures in
    rw c.free_part.ensures (room_then (rect_line (free_part s v)) used (rw (parts_two s v c.if-bucket-eq0.false) at c.requires.1))

pub returns : goal.returns
returns c =
    let a = c.args in
    let used = rw c.used_part.ensures at c.put_rect-end.ensures in
    let free = rw c.free_part.ensures at c.put_rect.ensures in
    rw (parts_two a.shelf a.bucket c.if-bucket-eq0.false) (put_then used free)
