-- The lines of a drawing, one part of it behind another.
use Prim.Native.Nat.{ℕ, zero, suc, ◌≤◌}
use mathlib.Core.Path.{◌≡◌, refl, sym, ap, ◌∙◌}
use mathlib.Core.List.{List, [], ◌∷◌, ◌++◌, append_assoc}
use native.Mathlib.Omega.{arith}
use native.Mathlib.Decide.{ℕ_discrete}
use lib.ListN.{length, length-append}
use Rattle.rules.specs.declared.Drawn.{Drawn}
use Rattle.rules.specs.declared.Shelf.{Shelf}
use Rattle.rules.specs.Tables.{Atlas, bucket_at, shelf_at}
use Rattle.rules.specs.Chains.{chain_of}
use Rattle.rules.specs.Picture.{parts, parts_along, parts_to, rect_line, lines_of}

pub lines_append : (xs ys : List Drawn) → lines_of (xs ++ ys) ≡ lines_of xs ++ lines_of ys
lines_append [] ys = refl
lines_append (d ∷ xs) ys = ap (λ (l : List ℕ). rect_line d ++ l) (lines_append xs ys) ∙ sym (append_assoc (rect_line d) (lines_of xs) (lines_of ys))

-- a bucket, then the rest of its chain
pub lines_along : (b : List ℕ) (s : Shelf) (k : ℕ) (ks : List ℕ)
    → lines_of (parts_along b s (k ∷ ks)) ≡ lines_of (parts s (bucket_at b k)) ++ lines_of (parts_along b s ks)
lines_along b s k ks = lines_append (parts s (bucket_at b k)) (parts_along b s ks)

-- the shelves before, then shelf i
pub lines_to : (g : Atlas) (i : ℕ)
    → lines_of (parts_to g (suc i)) ≡ lines_of (parts_to g i) ++ lines_of (parts_along g.buckets (shelf_at g.shelves i) (chain_of g i))
lines_to g i = lines_append (parts_to g i) (parts_along g.buckets (shelf_at g.shelves i) (chain_of g i))

-- fewer shelves have fewer lines
pub lines_rise : (g : Atlas) (i n : ℕ) → i ≤ n → length (lines_of (parts_to g i)) ≤ length (lines_of (parts_to g n))
lines_rise g i zero l = let e : i ≡ 0 = omega arith in rw e (omega arith)
lines_rise g i (suc n) l = elim (ℕ_discrete i (suc n)) [
  | yes e ↦ rw e (omega arith)
  | no ne ↦
      let more = lines_of (parts_along g.buckets (shelf_at g.shelves n) (chain_of g n)) in
      omega (arith, lines_rise g i n (omega arith), ap length (lines_to g n), length-append (lines_of (parts_to g n)) more)
]
