-- What holds of the whole atlas's rectangle, and of both parts of every bucket of the shelves' chains, holds of every rectangle of the drawing.
use Prim.Native.Nat.{ℕ, zero, suc, ◌<◌}
use mathlib.Core.Logic.{◌≢◌}
use mathlib.Core.List.{List, [], ◌∷◌, ◌++◌}
use native.Mathlib.Omega.{arith}
use native.Mathlib.Decide.{ℕ_discrete}
use borrow.Author.Tests.{eq-eqb, ne_eqb}
use lib.ListN.{length, get_or}
use Rattle.rules.specs.declared.Shelf.{Shelf}
use Rattle.rules.specs.declared.Bucket.{Bucket}
use Rattle.rules.specs.declared.Drawn.{Drawn}
use Rattle.rules.specs.Tables.{Atlas, bucket_at, shelf_at}
use Rattle.rules.specs.Chains.{In, chain_of}
use Rattle.rules.specs.Picture.{ground, used_part, free_part, parts, parts_along, parts_to, drawing}
use Rattle.laws.proofs.Chains.Count.{hit_same}

module _ (P : Drawn → Type 0) where
  abbrev pub Every : List Drawn → Type 0
  Every [] = Unit {0}
  Every (d ∷ ds) = P d × Every ds

  pub every_at : (ds : List Drawn) → Every ds → (n : ℕ) → n < length ds → (d : Drawn) → P (get_or ds n d)
  every_at [] e n l d = absurd (omega arith)
  every_at (x ∷ ds) e zero l d = e.0
  every_at (x ∷ ds) e (suc n) l d = every_at ds e.1 n (omega arith) d

  every_append : (xs ys : List Drawn) → Every xs → Every ys → Every (xs ++ ys)
  every_append [] ys p q = q
  every_append (d ∷ xs) ys p q = (p.0, every_append xs ys p.1 q)

  -- a free part is asked of where there is one
  pub every_parts : (s : Shelf) (v : Bucket) → P (used_part s v) → (v.free ≢ 0 → P (free_part s v)) → Every (parts s v)
  unfolding parts
  every_parts s v p q = elim (ℕ_discrete v.free 0) [
    | yes e ↦ simp (eq-eqb v.free 0 e) (p, tt)
    | no ne ↦ simp (ne_eqb v.free 0 ne) (p, (q ne, tt))
  ]

  every_along : (b : List ℕ) (s : Shelf) (ks : List ℕ) → ((k : ℕ) → In k ks → Every (parts s (bucket_at b k))) → Every (parts_along b s ks)
  every_along b s [] e = tt
  every_along b s (k ∷ ks) e =
      every_append (parts s (bucket_at b k)) (parts_along b s ks) (e k (omega (arith, hit_same k))) (every_along b s ks (λ j c. e j (omega arith)))

  -- e is of the parts of each bucket
  module _ (g : Atlas)
      (e : (i k : ℕ) → i < g.head.shelf_count → In k (chain_of g i) → Every (parts (shelf_at g.shelves i) (bucket_at g.buckets k))) where
    every_to : (n : ℕ) → ((i : ℕ) → i < n → i < g.head.shelf_count) → Every (parts_to g n)
    every_to zero l = tt
    every_to (suc i) l =
        every_append (parts_to g i) (parts_along g.buckets (shelf_at g.shelves i) (chain_of g i)) (every_to i (λ j m. l j (omega arith)))
        (every_along g.buckets (shelf_at g.shelves i) (chain_of g i) (λ k c. e i k (l i (omega arith)) c))

    pub every_drawing : P (ground g.head) → Every (drawing g)
    unfolding drawing
    every_drawing p = (p, every_to g.head.shelf_count (λ i l. l))
