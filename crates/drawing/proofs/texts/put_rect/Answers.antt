use Rattle.rules.specs.Text.{bytes, decimal}
use Rattle.rules.specs.Picture.{fill}
use Rattle.drawing.proofs.Rooms.{room_then, field_then}
use Rattle.drawing.proofs.Lines.{rect_rooms, y_put, width_put, height_put, line_put}
use Rattle.drawing.proofs.texts.put_rect.Goals as goal

pub put_field-x-requires : goal.put_field-x-requires
put_field-x-requires c = (rect_rooms c.args.at c.args.drawn c.requires).x

pub put_field-y-requires : goal.put_field-y-requires
put_field-y-requires c =
    let d = c.args.drawn in
    field_then (bytes "\" y=\"") (decimal d.y) c.put_field-x.ensures (rect_rooms c.args.at d c.requires).y

pub put_field-width-requires : goal.put_field-width-requires
put_field-width-requires c =
    let d = c.args.drawn in
    let y-there = y_put d c.put_field-x.ensures c.put_field-y.ensures in
    field_then (bytes "\" width=\"") (decimal d.width) y-there (rect_rooms c.args.at d c.requires).width

pub put_field-height-requires : goal.put_field-height-requires
put_field-height-requires c =
    let d = c.args.drawn in
    let width-there = width_put d (y_put d c.put_field-x.ensures c.put_field-y.ensures) c.put_field-width.ensures in
    field_then (bytes "\" height=\"") (decimal d.height) width-there (rect_rooms c.args.at d c.requires).height

pub put_fill-requires : goal.put_fill-requires
put_fill-requires c =
    let d = c.args.drawn in
    let width-there = width_put d (y_put d c.put_field-x.ensures c.put_field-y.ensures) c.put_field-width.ensures in
    room_then (fill d.paint) (height_put d width-there c.put_field-height.ensures) (rect_rooms c.args.at d c.requires).line

pub returns : goal.returns
returns c =
    let d = c.args.drawn in
    let width-there = width_put d (y_put d c.put_field-x.ensures c.put_field-y.ensures) c.put_field-width.ensures in
    line_put d (height_put d width-there c.put_field-height.ensures) c.put_fill.ensures
