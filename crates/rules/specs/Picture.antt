-- T-07, "A picture for the service report": "the atlas as SVG, in whole numbers and fixed lines of our own", into a lent buffer. A drawing is a
-- list of rectangles; its text is the first line, a line for each of them, and the last.
use Rattle.std.specs.Prelude.{ℕ, zero, suc, ◌+◌, ◌-◌, List, [], ◌∷◌, ◌++◌, eqb, if◌then◌else◌}
use Rattle.rules.specs.declared.Head.{Head}
use Rattle.rules.specs.declared.Shelf.{Shelf}
use Rattle.rules.specs.declared.Bucket.{Bucket}
use Rattle.rules.specs.declared.Paint.{Paint}
use Rattle.rules.specs.declared.Drawn.{Drawn}
use Rattle.rules.specs.declared.Refusal.{Refusal}
use Rattle.rules.specs.Text.{bytes, decimal}
use Rattle.rules.specs.Tables.{Atlas, shelf_at, bucket_at}
use Rattle.rules.specs.Chains.{chain_of}
use Rattle.rules.specs.Builds.{present}
use Rattle.rules.specs.Saving.{Saved, saving}

-- ---- the drawing

abbrev pub drawn : ℕ → ℕ → ℕ → ℕ → Paint → Drawn
drawn x y width height paint = record { x = x; y = y; width = width; height = height; paint = paint }

-- "a rectangle for the whole atlas"
abbrev pub ground : Head → Drawn
ground head = drawn 0 0 head.width head.height Paint.Ground

-- how much of a bucket is used: all but its free width, from its x on
abbrev pub used_width : Shelf → Bucket → ℕ
used_width shelf bucket = shelf.width - bucket.free

-- "one such line for the used part .., even if 0 wide"
abbrev pub used_part : Shelf → Bucket → Drawn
used_part shelf bucket = drawn bucket.x shelf.y (used_width shelf bucket) shelf.height Paint.Used

-- the free part is behind the used one
abbrev pub free_part : Shelf → Bucket → Drawn
free_part shelf bucket = drawn (bucket.x + used_width shelf bucket) shelf.y bucket.free shelf.height Paint.Free

-- "and one .. for the free part where it is not 0 wide"
unfoldable pub parts : Shelf → Bucket → List Drawn
parts shelf bucket = used_part shelf bucket ∷ (if eqb bucket.free 0 then [] else free_part shelf bucket ∷ [])

-- "along each chain": of the buckets ks of a shelf
abbrev pub parts_along : List ℕ → Shelf → List ℕ → List Drawn
parts_along buckets shelf [] = []
parts_along buckets shelf (k ∷ ks) = parts shelf (bucket_at buckets k) ++ parts_along buckets shelf ks

-- "shelf by shelf": of the first n
abbrev pub parts_to : Atlas → ℕ → List Drawn
parts_to g zero = []
parts_to g (suc i) = parts_to g i ++ parts_along g.buckets (shelf_at g.shelves i) (chain_of g i)

unfoldable pub drawing : Atlas → List Drawn
drawing g = ground g.head ∷ parts_to g g.head.shelf_count

-- ---- its text: "Each line ends in a newline."

-- "First `<svg xmlns="http://www.w3.org/2000/svg" viewBox="0 0 W H">`, .. W and H the atlas sides"
unfoldable pub first_line : Head → List ℕ
first_line head =
    bytes "<svg xmlns=\"http://www.w3.org/2000/svg\" viewBox=\"0 0 " ++ decimal head.width ++ bytes " " ++ decimal head.height ++ bytes "\">\n"

-- "`#282828`", "`#4646b4`", "`#323232`": the end of a rectangle's line, its colour in it
abbrev pub fill : Paint → List ℕ
fill Paint.Ground = bytes "\" fill=\"#282828\"/>\n"
fill Paint.Used = bytes "\" fill=\"#4646b4\"/>\n"
fill Paint.Free = bytes "\" fill=\"#323232\"/>\n"

-- "`<rect x="0" y="0" width="W" height="H" fill="#282828"/>`", and "one such line" for each part
unfoldable pub rect_line : Drawn → List ℕ
rect_line d =
    bytes "<rect x=\"" ++ decimal d.x ++ bytes "\" y=\"" ++ decimal d.y ++ bytes "\" width=\"" ++ decimal d.width
    ++ bytes "\" height=\"" ++ decimal d.height ++ fill d.paint

-- "last `</svg>`"
abbrev pub last_line : List ℕ
last_line = bytes "</svg>\n"

-- the lines of some rectangles, in their order
abbrev pub lines_of : List Drawn → List ℕ
lines_of [] = []
lines_of (d ∷ ds) = rect_line d ++ lines_of ds

unfoldable pub picture_of : Atlas → List ℕ
picture_of g = first_line g.head ++ lines_of (drawing g) ++ last_line

-- ---- picture: 1, 24

-- "Refusals: 1, then 24 output buffer too short, with the buffer unchanged."
abbrev pub picture : Atlas → List ℕ → Saved
picture g out = saving present Refusal.Output g (picture_of g) out
