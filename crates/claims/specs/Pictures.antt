-- T-07, a picture of any tables into any buffer: when it is refused, in its order, what it leaves, and what it shows of sound tables.
use Rattle.std.specs.Prelude.{ℕ, ◌+◌, ◌≤◌, ◌<◌, true, ◌≡◌, ◌≢◌, List, [], ◌∷◌, ◌++◌, map, length, get_or, take, drop, Ok, Err}
use Rattle.rules.specs.declared.Shelf.{Shelf}
use Rattle.rules.specs.declared.Bucket.{Bucket}
use Rattle.rules.specs.declared.Allocation.{Allocation}
use Rattle.rules.specs.declared.Paint.{Paint}
use Rattle.rules.specs.declared.Drawn.{Drawn}
use Rattle.rules.specs.declared.Refusal.{Refusal}
use Rattle.rules.specs.Answers.{written_says}
use Rattle.rules.specs.Limits.{picture_most}
use Rattle.rules.specs.Tables.{Atlas, shelf_at, bucket_at}
use Rattle.rules.specs.Chains.{In, sum_to, chain_of, released_of}
use Rattle.rules.specs.Sound.{Sound, is_sound}
use Rattle.rules.specs.Held.{entries, entry, bucket_of, shelf_under, fits}
use Rattle.rules.specs.Picture.{drawn, ground, used_part, parts, drawing, first_line, rect_line, last_line, picture_of, picture}
use Rattle.rules.specs.Drawings.{drawn_area, used_count, cut}

-- ---- the call

-- `picture_refusals.one`
abbrev pub PictureOne : Type 0
PictureOne = (g : Atlas) (out : List ℕ)
    → ((Sound g → ⊥) → written_says (picture g out).written ≡ 1 ∷ [])
    × (written_says (picture g out).written ≡ 1 ∷ [] → Sound g → ⊥)

-- `picture_refusals.twenty_four`
abbrev pub PictureTwentyFour : Type 0
PictureTwentyFour = (g : Atlas) (out : List ℕ)
    → (is_sound g ≡ true → length out < length (picture_of g) → written_says (picture g out).written ≡ 24 ∷ [])
    × (written_says (picture g out).written ≡ 24 ∷ [] → Sound g × (length out < length (picture_of g)))

-- `picture_refusals.done`
abbrev pub PictureDone : Type 0
PictureDone = (g : Atlas) (out : List ℕ) → is_sound g ≡ true → length (picture_of g) ≤ length out
    → (picture g out).written ≡ Ok (length (picture_of g))

-- `picture_refused`
abbrev pub PictureRefused : Type 0
PictureRefused = (g : Atlas) (out : List ℕ) (r : Refusal) → (picture g out).written ≡ Err r → (picture g out).out ≡ out

-- `picture_text`
abbrev pub PictureText : Type 0
PictureText = (g : Atlas) (out : List ℕ) (n : ℕ) → (picture g out).written ≡ Ok n
    → (n ≡ length (picture_of g)) × (take n (picture g out).out ≡ picture_of g) × (drop n (picture g out).out ≡ drop n out) × (n ≤ picture_most)

-- `picture_lines`: "Each line ends in a newline", the first, one for each rectangle, the last
abbrev pub PictureLines : Type 0
PictureLines = (g : Atlas) → cut (picture_of g) ≡ first_line g.head ∷ (map rect_line (drawing g) ++ last_line ∷ [])

-- ---- the drawing

-- `used_area`: "the drawn used area adds up to the occupied figure"
abbrev pub UsedArea : Type 0
UsedArea = (g : Atlas) → is_sound g ≡ true → drawn_area (drawing g) ≡ g.head.occupied

-- `used_one`: a used rectangle for each bucket of a shelf's chain, and for no released one
abbrev pub UsedOne : Type 0
UsedOne = (g : Atlas) → is_sound g ≡ true
    → (used_count (drawing g) ≡ sum_to g.head.shelf_count (λ i. length (chain_of g i)))
    × (used_count (drawing g) + length (released_of g) ≡ g.head.bucket_count)

-- the two parts of a bucket, the used one so wide
abbrev Spans : Shelf → Bucket → ℕ → Type 0
Spans shelf bucket used =
    (used + bucket.free ≡ shelf.width)
    × (bucket.free ≡ 0 → parts shelf bucket ≡ drawn bucket.x shelf.y used shelf.height Paint.Used ∷ [])
    × (bucket.free ≢ 0 → parts shelf bucket ≡ drawn bucket.x shelf.y used shelf.height Paint.Used
    ∷ drawn (bucket.x + used) shelf.y bucket.free shelf.height Paint.Free ∷ [])

-- `parts_span`: "one such line for the used part .., even if 0 wide, and one .. for the free part where it is not 0 wide"
abbrev pub PartsSpan : Type 0
PartsSpan = (g : Atlas) → is_sound g ≡ true → (i k : ℕ) → i < g.head.shelf_count → In k (chain_of g i)
    → (used : ℕ) × Spans (shelf_at g.shelves i) (bucket_at g.buckets k) used

-- `drawn_inside`
abbrev pub DrawnInside : Type 0
DrawnInside = (g : Atlas) → is_sound g ≡ true → (n : ℕ) → n < length (drawing g) → let d : Drawn = get_or (drawing g) n (ground g.head) in
    (d.x + d.width ≤ g.head.width) × (d.y + d.height ≤ g.head.height)

-- the pixel (x, y) lies in the rectangle
abbrev Shows : Drawn → ℕ → ℕ → Type 0
Shows d x y = (d.x ≤ x) × (x < d.x + d.width) × (d.y ≤ y) × (y < d.y + d.height)

-- the parts of bucket k of shelf i, each by its place
abbrev part : Atlas → ℕ → ℕ → ℕ → Drawn
part g i k n = get_or (parts (shelf_at g.shelves i) (bucket_at g.buckets k)) n (ground g.head)

abbrev Part : Atlas → ℕ → ℕ → ℕ → Type 0
Part g i k n = (i < g.head.shelf_count) × In k (chain_of g i) × (n < length (parts (shelf_at g.shelves i) (bucket_at g.buckets k)))

-- `parts_apart`: of two buckets
abbrev pub PartsApart : Type 0
PartsApart = (g : Atlas) → is_sound g ≡ true → (i j k l m n x y : ℕ) → Part g i k m → Part g j l n
    → Shows (part g i k m) x y → Shows (part g j l n) x y → k ≡ l

-- `held_drawn`: of each entry of a list that fits
abbrev pub HeldDrawn : Type 0
HeldDrawn = (g : Atlas) (list : List Allocation) → fits g list ≡ true → (n : ℕ) → n < entries g → let a : Allocation = entry list n in
    let d : Drawn = used_part (shelf_under g a) (bucket_of g a) in
    (d.x ≤ a.rectangle.left) × (a.rectangle.right ≤ d.x + d.width) × (d.y ≤ a.rectangle.top) × (a.rectangle.bottom ≤ d.y + d.height)
