use Rattle.lines.proofs.Puts.{put_then, put_room}
use Rattle.lines.proofs.Digits.{spaced_length}
use Rattle.lines.proofs.put_pair.Goals as goal

pub put_spaced-requires : goal.put_spaced-requires
put_spaced-requires c =
    put_room 11 11 c.put_spaced-after.ensures (spaced_length _) c.requires

pub returns : goal.returns
returns c = put_then c.put_spaced-after.ensures c.put_spaced.ensures
