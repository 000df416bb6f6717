use native.Mathlib.Omega.{arith}
use Rattle.lines.proofs.Puts.{put_then, put_room}
use Rattle.lines.proofs.Digits.{spaced_length}
use Rattle.lines.proofs.refused_line.Goals as goal

pub put_text-requires : goal.put_text-requires
put_text-requires c =
    let room = c.requires in
    omega (arith, put_room 11 1 c.put_spaced-after.ensures (spaced_length _) (put_room 7 12 c.put_text-word.ensures (omega arith) room))

pub returns : goal.returns
returns c =
    let word = put_then c.put_text-word.ensures c.put_spaced-after.ensures in
    rw c.from.ensures at (put_then word c.put_text.ensures)
