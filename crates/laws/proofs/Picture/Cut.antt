-- The text of a drawing, cut behind its newlines: the first line, a line for each rectangle, the last. A line has one newline, at its end.
use Prim.Native.Nat.{ℕ, zero, suc, ◌+◌, ◌/◌, ◌%◌, ◌≤◌}
use mathlib.Core.Path.{◌≡◌, refl, sym, ap, ◌∙◌}
use mathlib.Core.Logic.{◌≢◌}
use mathlib.Core.List.{List, [], ◌∷◌, ◌++◌, append_assoc, map}
use native.Mathlib.Omega.{arith}
use native.Mathlib.Decide.{dec_lt}
use borrow.Author.Tests.{lt-ltb, le-ltb, ne_eqb}
use Rattle.rules.specs.declared.Head.{Head}
use Rattle.rules.specs.declared.Paint.{Paint}
use Rattle.rules.specs.declared.Drawn.{Drawn}
use Rattle.rules.specs.Text.{bytes, digits, decimal, newline}
use Rattle.rules.specs.Tables.{Atlas}
use Rattle.rules.specs.Chains.{hit, count}
use Rattle.rules.specs.Picture.{drawing, first_line, fill, rect_line, last_line, lines_of, picture_of}
use Rattle.rules.specs.Drawings.{in_front, cut}
use Rattle.laws.proofs.Chains.Count.{hit_other, hit_same, count_append}

-- ---- lines

-- what stands before the newline at its end has none
pub record Line (line : List ℕ) : Type 0 where
  pub before : List ℕ
  pub is : line ≡ before ++ newline
  pub plain : count 10 before ≡ 0

cut_at : (xs rest : List ℕ) → count 10 xs ≡ 0 → cut (xs ++ newline ++ rest) ≡ (xs ++ newline) ∷ cut rest
unfolding cut
cut_at [] rest z = refl
cut_at (c ∷ xs) rest z =
    let ne : c ≢ 10 = λ e. omega (arith, ap (hit 10) e, hit_same 10) in
    simp (ne_eqb c 10 ne) (ap (in_front c) (cut_at xs rest (omega arith)))

cut_line : (line rest : List ℕ) → Line line → cut (line ++ rest) ≡ line ∷ cut rest
cut_line line rest l = rw l.is (cut_at l.before rest l.plain)

-- ---- the bytes of a number are no newline

plain_digits : (d n : ℕ) (tail : List ℕ) → count 10 (digits d n tail) ≡ count 10 tail
unfolding digits
plain_digits zero n tail = refl
plain_digits (suc d) n tail = elim (dec_lt n 10) [
  | yes h ↦ simp (lt-ltb n 10 h) (omega (arith, hit_other 10 (48 + n) (λ e. omega arith)))
  | no h ↦
      let l : 10 ≤ n = omega arith in
      let ih = plain_digits d (n / 10) ((48 + n % 10) ∷ tail) in
      simp (le-ltb n 10 l) (omega (arith, ih, hit_other 10 (48 + n % 10) (λ e. omega arith)))
]

plain_decimal : (n : ℕ) → count 10 (decimal n) ≡ 0
unfolding decimal
plain_decimal n = plain_digits 10 n []

-- a text and a number behind others
plain_field : (xs text : List ℕ) (n : ℕ) → count 10 xs ≡ 0 → count 10 text ≡ 0 → count 10 (xs ++ text ++ decimal n) ≡ 0
plain_field xs text n x t = omega (arith, count_append 10 (xs ++ text) (decimal n), count_append 10 xs text, plain_decimal n)

-- ---- each is a line

ended : (xs end line : List ℕ) → count 10 xs ≡ 0 → count 10 end ≡ 0 → line ≡ end ++ newline → Line (xs ++ line)
ended xs end line x z e = record {
  before = xs ++ end;
  is = ap (λ (l : List ℕ). xs ++ l) e ∙ sym (append_assoc xs end newline);
  plain = omega (arith, count_append 10 xs end);
}

pub first_line_law : (head : Head) → Line (first_line head)
unfolding first_line hit
first_line_law head =
    let start : List ℕ = bytes "<svg xmlns=\"http://www.w3.org/2000/svg\" viewBox=\"0 0 " in
    let one : List ℕ = start ++ decimal head.width in
    ended (one ++ bytes " " ++ decimal head.height) (bytes "\">") (bytes "\">\n")
    (plain_field one (bytes " ") head.height (plain_field [] start head.width refl refl) refl) refl refl

-- what stands before a rectangle's colour
places : Drawn → List ℕ
places d =
    bytes "<rect x=\"" ++ decimal d.x ++ bytes "\" y=\"" ++ decimal d.y ++ bytes "\" width=\"" ++ decimal d.width
    ++ bytes "\" height=\"" ++ decimal d.height

plain_places : (d : Drawn) → count 10 (places d) ≡ 0
unfolding hit places
plain_places d =
    let one : List ℕ = bytes "<rect x=\"" ++ decimal d.x in
    let two : List ℕ = one ++ bytes "\" y=\"" ++ decimal d.y in
    let three : List ℕ = two ++ bytes "\" width=\"" ++ decimal d.width in
    plain_field three (bytes "\" height=\"") d.height (plain_field two (bytes "\" width=\"") d.width
    (plain_field one (bytes "\" y=\"") d.y (plain_field [] (bytes "<rect x=\"") d.x refl refl) refl) refl) refl

painted : (xs : List ℕ) (p : Paint) → count 10 xs ≡ 0 → Line (xs ++ fill p)
unfolding hit
painted xs Paint.Ground z = ended xs (bytes "\" fill=\"#282828\"/>") (fill Paint.Ground) z refl refl
painted xs Paint.Used z = ended xs (bytes "\" fill=\"#4646b4\"/>") (fill Paint.Used) z refl refl
painted xs Paint.Free z = ended xs (bytes "\" fill=\"#323232\"/>") (fill Paint.Free) z refl refl

pub rect_line_law : (d : Drawn) → Line (rect_line d)
unfolding rect_line places
rect_line_law d = painted (places d) d.paint (plain_places d)

last_line_law : Line last_line
unfolding hit
last_line_law = record { before = bytes "</svg>"; is = refl; plain = refl }

-- ---- all

cut_rects : (ds : List Drawn) (rest : List ℕ) → cut (lines_of ds ++ rest) ≡ map rect_line ds ++ cut rest
cut_rects [] rest = refl
cut_rects (d ∷ ds) rest =
    ap cut (append_assoc (rect_line d) (lines_of ds) rest) ∙ cut_line (rect_line d) (lines_of ds ++ rest) (rect_line_law d)
    ∙ ap (λ (lines : List (List ℕ)). rect_line d ∷ lines) (cut_rects ds rest)

pub cut_picture : (g : Atlas) → cut (picture_of g) ≡ first_line g.head ∷ (map rect_line (drawing g) ++ last_line ∷ [])
unfolding picture_of cut
cut_picture g =
    ap cut (append_assoc (first_line g.head) (lines_of (drawing g)) last_line)
    ∙ cut_line (first_line g.head) (lines_of (drawing g) ++ last_line) (first_line_law g.head)
    ∙ ap (λ (lines : List (List ℕ)). first_line g.head ∷ lines) (cut_rects (drawing g) last_line)
