use native.Mathlib.Omega.{arith}
use Rattle.rules.specs.Trace.{spaced}
use Rattle.lines.proofs.Puts.{put_then, put_pair, put_room, room_less}
use Rattle.lines.proofs.Digits.{spaced_length, pair_length}
use Rattle.lines.proofs.alloc_line.Goals as goal

pub put_corner-first-requires : goal.put_corner-first-requires
put_corner-first-requires c =
    let room = c.requires in
    room_less _ _ 22 45
    (put_room 11 45 c.put_spaced-id.ensures (spaced_length _) (put_room 5 56 c.put_text-word.ensures (omega arith) room))
    (omega arith)

pub put_corner-second-requires : goal.put_corner-second-requires
put_corner-second-requires c =
    let room = c.requires in
    room_less _ _ 22 23
    (put_room 22 23 c.put_corner-first.ensures (pair_length _ _)
    (put_room 11 45 c.put_spaced-id.ensures (spaced_length _) (put_room 5 56 c.put_text-word.ensures (omega arith) room)))
    (omega arith)

pub put_text-requires : goal.put_text-requires
put_text-requires c =
    let room = c.requires in
    omega (
      arith,
      put_room 22 1 c.put_corner-second.ensures (pair_length _ _)
          (put_room 22 23 c.put_corner-first.ensures (pair_length _ _)
          (put_room 11 45 c.put_spaced-id.ensures (spaced_length _) (put_room 5 56 c.put_text-word.ensures (omega arith) room))),
    )

pub returns : goal.returns
returns c =
    let start = put_then c.put_text-word.ensures c.put_spaced-id.ensures in
    let corners = put_pair (spaced _) (spaced _) (put_pair (spaced _) (spaced _) start c.put_corner-first.ensures) c.put_corner-second.ensures in
    put_then corners c.put_text.ensures
