-- "First .., then a rectangle for the whole atlas .. Then, shelf by shelf and along each chain, one such line ..; last .. Each line ends in a newline."
-- The text of a picture has these lines and nothing else.
use mathlib.Core.Path.{◌≡◌}
use mathlib.Core.List.{[], ◌∷◌, ◌++◌, map}
use Rattle.rules.specs.Tables.{Atlas}
use Rattle.rules.specs.Picture.{drawing, first_line, rect_line, last_line, picture_of}
use Rattle.rules.specs.Drawings.{cut}
use Rattle.laws.proofs.Picture.Cut.{cut_picture}

-- cut behind each newline it is the first line, one for each rectangle of the drawing in its order, and the last
pub picture_lines : (g : Atlas) → cut (picture_of g) ≡ first_line g.head ∷ (map rect_line (drawing g) ++ last_line ∷ [])
picture_lines g = cut_picture g
