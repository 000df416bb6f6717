use native.Mathlib.Omega.{arith}
use Rattle.rules.specs.Text.{bytes, decimal}
use Rattle.drawing.proofs.Rooms.{room_then, field_then}
use Rattle.drawing.proofs.Lines.{first_rooms, tall_put, first_put}
use Rattle.drawing.proofs.texts.put_first.Goals as goal

pub put_field-width-requires : goal.put_field-width-requires
put_field-width-requires c = (first_rooms c.args.at c.args.head c.requires).wide

pub put_field-height-requires : goal.put_field-height-requires
put_field-height-requires c =
    let head = c.args.head in
    field_then (bytes " ") (decimal head.height) c.put_field-width.ensures (first_rooms c.args.at head c.requires).tall

pub put_text-requires : goal.put_text-requires
put_text-requires c =
    let head = c.args.head in
    omega (arith, room_then (bytes "\">\n") (tall_put head c.put_field-width.ensures c.put_field-height.ensures) (first_rooms c.args.at head c.requires).line)

pub returns : goal.returns
returns c =
    let head = c.args.head in
    first_put head (tall_put head c.put_field-width.ensures c.put_field-height.ensures) c.put_text.ensures
