use Rattle.lines.proofs.Puts.{put_then}
use Rattle.drawing.proofs.texts.put_field.Goals as goal

pub returns : goal.returns
returns c = put_then c.put_text-end.ensures c.put_number.ensures
