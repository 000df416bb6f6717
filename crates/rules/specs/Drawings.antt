-- T-07: what is measured of a drawing, the used rectangles and what they add up to, and how a text is cut into its lines.
use Rattle.std.specs.Prelude.{ℕ, ◌+◌, ◌*◌, List, [], ◌∷◌, eqb, if◌then◌else◌}
use Rattle.rules.specs.declared.Paint.{Paint}
use Rattle.rules.specs.declared.Drawn.{Drawn}

-- ---- the used rectangles

-- n of a used part, and 0 of what is not
abbrev pub of_used : Paint → ℕ → ℕ
of_used Paint.Ground n = 0
of_used Paint.Used n = n
of_used Paint.Free n = 0

-- the sum of f over the used rectangles of a drawing
abbrev pub used_sum : (Drawn → ℕ) → List Drawn → ℕ
used_sum f [] = 0
used_sum f (d ∷ ds) = of_used d.paint (f d) + used_sum f ds

-- "the drawn used area"
abbrev pub drawn_area : List Drawn → ℕ
drawn_area ds = used_sum (λ d. d.width * d.height) ds

-- how many they are
abbrev pub used_count : List Drawn → ℕ
used_count ds = used_sum (λ d. 1) ds

-- ---- lines

-- the byte in front of the first line
abbrev pub in_front : ℕ → List (List ℕ) → List (List ℕ)
in_front c [] = (c ∷ []) ∷ []
in_front c (line ∷ lines) = (c ∷ line) ∷ lines

-- a text cut behind each newline
unfoldable pub cut : List ℕ → List (List ℕ)
cut [] = []
cut (c ∷ cs) = if eqb c 10 then (c ∷ []) ∷ cut cs else in_front c (cut cs)
