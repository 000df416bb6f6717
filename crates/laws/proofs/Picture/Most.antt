-- No picture of sound tables is longer than `picture_most`: a line of a rectangle has at most 72 bytes, and each bucket two such lines at most.
use Prim.Native.Nat.{ℕ, zero, suc, ◌+◌, ◌*◌, ◌≤◌, ◌<◌}
use mathlib.Core.Path.{◌≡◌, refl, ap}
use mathlib.Core.List.{List, [], ◌∷◌, ◌++◌}
use native.Mathlib.Omega.{arith}
use native.Mathlib.Decide.{ℕ_discrete}
use borrow.Author.Tests.{eq-eqb, ne_eqb}
use lib.ListN.{length, length-append}
use Rattle.rules.specs.declared.Head.{Head}
use Rattle.rules.specs.declared.Shelf.{Shelf}
use Rattle.rules.specs.declared.Bucket.{Bucket}
use Rattle.rules.specs.declared.Paint.{Paint}
use Rattle.rules.specs.declared.Drawn.{Drawn}
use Rattle.rules.specs.Limits.{side_most, records_most, picture_most}
use Rattle.rules.specs.Text.{bytes, digits, decimal}
use Rattle.rules.specs.Tables.{Atlas, bucket_at, shelf_at}
use Rattle.rules.specs.Chains.{In, sum_to, chain_of}
use Rattle.rules.specs.Return.{top_of}
use Rattle.rules.specs.Sound.{Steady, Sound}
use Rattle.rules.specs.Picture.{ground, used_part, free_part, parts, parts_along, parts_to, drawing, first_line, fill, rect_line, last_line, lines_of, picture_of}
use Rattle.laws.proofs.Numbers.Decimal.{decimal_five}
use Rattle.laws.proofs.Chains.Count.{hit_same}
use Rattle.laws.proofs.Sound.Lies.{lengths}
use Rattle.laws.proofs.Sound.Within.{BucketWithin, bucket_within}
use Rattle.laws.proofs.Picture.Lines.{lines_along, lines_to}

-- ---- a line

pub fill_length : (p : Paint) → length (fill p) ≡ 19
fill_length Paint.Ground = refl
fill_length Paint.Used = refl
fill_length Paint.Free = refl

-- a text and a number behind others
field_length : (xs text : List ℕ) (n : ℕ) → length (xs ++ text ++ decimal n) ≡ length xs + length text + length (decimal n)
field_length xs text n = omega (arith, length-append (xs ++ text) (decimal n), length-append xs text)

pub rect_length : (d : Drawn)
    → length (rect_line d) ≡ 52 + (length (decimal d.x) + length (decimal d.y) + length (decimal d.width) + length (decimal d.height))
unfolding rect_line
rect_length d =
    let one : List ℕ = bytes "<rect x=\"" ++ decimal d.x in
    let two : List ℕ = one ++ bytes "\" y=\"" ++ decimal d.y in
    let three : List ℕ = two ++ bytes "\" width=\"" ++ decimal d.width in
    let four : List ℕ = three ++ bytes "\" height=\"" ++ decimal d.height in
    omega (
      arith,
      field_length one (bytes "\" y=\"") d.y,
      field_length two (bytes "\" width=\"") d.width,
      field_length three (bytes "\" height=\"") d.height,
      length-append four (fill d.paint),
      fill_length d.paint,
    )

-- numbers of at most five digits
rect_most : (d : Drawn) → d.x < 100000 → d.y < 100000 → d.width < 100000 → d.height < 100000 → length (rect_line d) ≤ 72
rect_most d x y w h = omega (
  arith,
  rect_length d,
  decimal_five d.x x,
  decimal_five d.y y,
  decimal_five d.width w,
  decimal_five d.height h,
)

pub first_length : (head : Head) → length (first_line head) ≡ 57 + (length (decimal head.width) + length (decimal head.height))
unfolding first_line
first_length head =
    let one : List ℕ = bytes "<svg xmlns=\"http://www.w3.org/2000/svg\" viewBox=\"0 0 " ++ decimal head.width in
    omega (arith, field_length one (bytes " ") head.height, length-append (one ++ bytes " " ++ decimal head.height) (bytes "\">\n"))

-- ---- a bucket's lines

-- a bucket on a shelf, inside an atlas
record Lain (s : Shelf) (v : Bucket) : Type 0 where
  free : v.free ≤ s.width
  across : v.x + s.width ≤ side_most
  down : top_of s ≤ side_most

parts_most : (s : Shelf) (v : Bucket) → Lain s v → length (lines_of (parts s v)) ≤ 144
unfolding parts
parts_most s v l =
    let used : length (rect_line (used_part s v)) ≤ 72 =
    rect_most (used_part s v) (omega (arith, l.across)) (omega (arith, l.down)) (omega (arith, l.across)) (omega (arith, l.down)) in
    let free : length (rect_line (free_part s v)) ≤ 72 =
    rect_most (free_part s v) (omega (arith, l.across)) (omega (arith, l.down)) (omega (arith, l.across, l.free)) (omega (arith, l.down)) in
    elim (ℕ_discrete v.free 0) [
      | yes e ↦ simp (eq-eqb v.free 0 e) (omega (arith, used, length-append (rect_line (used_part s v)) []))
      | no ne ↦ simp (ne_eqb v.free 0 ne) (omega (
        arith,
        used,
        free,
        length-append (rect_line (used_part s v)) (rect_line (free_part s v) ++ []),
        length-append (rect_line (free_part s v)) [],
      ))
    ]

along_most : (b : List ℕ) (s : Shelf) (ks : List ℕ) → ((k : ℕ) → In k ks → Lain s (bucket_at b k)) → length (lines_of (parts_along b s ks)) ≤ 144 * length ks
along_most b s [] p = omega arith
along_most b s (k ∷ ks) p =
    let rest = along_most b s ks (λ j c. p j (omega arith)) in
    let here = parts_most s (bucket_at b k) (p k (omega (arith, hit_same k))) in
    omega (
      arith,
      rest,
      here,
      ap length (lines_along b s k ks),
      length-append (lines_of (parts s (bucket_at b k))) (lines_of (parts_along b s ks)),
    )

-- ---- all

module _ {g : Atlas} (st : Steady g) where
  lain : (i k : ℕ) → i < g.head.shelf_count → In k (chain_of g i) → Lain (shelf_at g.shelves i) (bucket_at g.buckets k)
  lain i k l c =
      let w : BucketWithin g i k = bucket_within st i k l c in
      record {
        free = ((st.stocked i l).counted k c).free;
        across = omega (arith, w.across, st.domain.width);
        down = omega (arith, w.down, st.domain.height);
      }

  to_most : (n : ℕ) → n ≤ g.head.shelf_count → length (lines_of (parts_to g n)) ≤ 144 * sum_to n (λ i. length (chain_of g i))
  to_most zero l = omega arith
  to_most (suc n) l =
      let s : Shelf = shelf_at g.shelves n in
      omega (
        arith,
        to_most n (omega arith),
        along_most g.buckets s (chain_of g n) (λ k c. lain n k (omega arith) c),
        ap length (lines_to g n),
        length-append (lines_of (parts_to g n)) (lines_of (parts_along g.buckets s (chain_of g n))),
      )

-- the first line, and that of the whole atlas
start_most : (head : Head) → head.width ≤ side_most → head.height ≤ side_most → length (first_line head) + length (rect_line (ground head)) ≤ 131
unfolding decimal digits
start_most head w h = omega (
  arith,
  first_length head,
  rect_length (ground head),
  decimal_five head.width (omega arith),
  decimal_five head.height (omega arith),
)

pub picture_most_law : (g : Atlas) → Sound g → length (picture_of g) ≤ picture_most
unfolding picture_of drawing
picture_most_law g p =
    let st : Steady g = p.steady in
    let n : ℕ = g.head.shelf_count in
    let parts : List ℕ = lines_of (parts_to g n) in
    let few : sum_to n (λ i. length (chain_of g i)) ≤ records_most = omega (arith, lengths st, st.domain.buckets) in
    omega (
      arith,
      few,
      to_most st n (omega arith),
      start_most g.head st.domain.width.1 st.domain.height.1,
      length-append (first_line g.head ++ (rect_line (ground g.head) ++ parts)) last_line,
      length-append (first_line g.head) (rect_line (ground g.head) ++ parts),
      length-append (rect_line (ground g.head)) parts,
    )
