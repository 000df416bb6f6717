-- The used rectangles of a drawing: whatever is added up over them is added up over the buckets of the shelves' chains, one for each.
use Prim.Native.Nat.{ℕ, zero, suc, ◌+◌}
use mathlib.Core.Path.{◌≡◌, refl}
use mathlib.Core.List.{List, [], ◌∷◌, ◌++◌}
use native.Mathlib.Omega.{arith}
use native.Mathlib.Decide.{ℕ_discrete}
use borrow.Author.Tests.{eq-eqb, ne_eqb}
use Rattle.rules.specs.declared.Shelf.{Shelf}
use Rattle.rules.specs.declared.Bucket.{Bucket}
use Rattle.rules.specs.declared.Drawn.{Drawn}
use Rattle.rules.specs.Tables.{Atlas, bucket_at, shelf_at}
use Rattle.rules.specs.Chains.{sum_to, sum_of, chain_of}
use Rattle.rules.specs.Picture.{used_part, parts, parts_along, parts_to, drawing}
use Rattle.rules.specs.Drawings.{used_sum}

module _ (f : Drawn → ℕ) where
  used_append : (xs ys : List Drawn) → used_sum f (xs ++ ys) ≡ used_sum f xs + used_sum f ys
  used_append [] ys = omega arith
  used_append (d ∷ xs) ys = omega (arith, used_append xs ys)

  -- of a bucket's parts one is used
  used_parts : (s : Shelf) (v : Bucket) → used_sum f (parts s v) ≡ f (used_part s v)
  unfolding parts
  used_parts s v = elim (ℕ_discrete v.free 0) [
    | yes e ↦ simp (eq-eqb v.free 0 e) (omega arith)
    | no ne ↦ simp (ne_eqb v.free 0 ne) (omega arith)
  ]

  used_along_law : (b : List ℕ) (s : Shelf) (ks : List ℕ) → used_sum f (parts_along b s ks) ≡ sum_of (λ k. f (used_part s (bucket_at b k))) ks
  used_along_law b s [] = refl
  used_along_law b s (k ∷ ks) =
      omega (arith, used_append (parts s (bucket_at b k)) (parts_along b s ks), used_parts s (bucket_at b k), used_along_law b s ks)

  -- of shelf i
  abbrev pub used_along : Atlas → ℕ → ℕ
  used_along g i = sum_of (λ k. f (used_part (shelf_at g.shelves i) (bucket_at g.buckets k))) (chain_of g i)

  used_to : (g : Atlas) (n : ℕ) → used_sum f (parts_to g n) ≡ sum_to n (used_along g)
  used_to g zero = refl
  used_to g (suc i) =
      let s : Shelf = shelf_at g.shelves i in
      omega (
        arith,
        used_append (parts_to g i) (parts_along g.buckets s (chain_of g i)),
        used_to g i,
        used_along_law g.buckets s (chain_of g i),
      )

  pub used_drawing : (g : Atlas) → used_sum f (drawing g) ≡ sum_to g.head.shelf_count (used_along g)
  unfolding drawing
  used_drawing g = omega (arith, used_to g g.head.shelf_count)
