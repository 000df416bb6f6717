use Rattle.rules.specs.Tables.{atlas}
use Rattle.rules.specs.Picture.{parts_to, lines_of}
use Rattle.lines.specs.Put.{Put}
use Rattle.drawing.proofs.parts.put_shelves.Given as goal

abbrev pub invariant-loop-i : goal.invariant-loop-i
invariant-loop-i l = Put l.initial.out l.out l.at l.end (lines_of (parts_to (atlas l.fn.head l.shelves l.buckets) l.i))
