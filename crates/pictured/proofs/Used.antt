-- The used rectangles of a drawing: "Show that the drawn used area adds up to the occupied figure", and that there is one for each bucket of a shelf's
-- chain, and none of a released bucket.
use Prim.Native.Nat.{ℕ, ◌+◌, ◌*◌}
use mathlib.Core.Path.{◌≡◌, sym, ◌∙◌}
use mathlib.Core.List.{List, [], ◌∷◌}
use native.Mathlib.Omega.{arith}
use lib.ListN.{length}
use Rattle.rules.specs.declared.Drawn.{Drawn}
use Rattle.rules.specs.Tables.{Atlas, shelf_at, bucket_at}
use Rattle.rules.specs.Chains.{sum_to, sum_of, chain_of, released_of}
use Rattle.rules.specs.Sound.{Sound}
use Rattle.rules.specs.Picture.{used_part, drawing}
use Rattle.rules.specs.Drawings.{used_sum, drawn_area, used_count}
use Rattle.laws.proofs.Chains.Count.{sum_ext}
use Rattle.laws.proofs.Sound.Lies.{lengths}
use Rattle.laws.proofs.Picture.Used.{used_drawing}

pub used_area : (g : Atlas) → Sound g → drawn_area (drawing g) ≡ g.head.occupied
used_area g p = used_drawing (λ d. d.width * d.height) g ∙ sym p.steady.occupied

pub record UsedOne (g : Atlas) : Type 0 where
  -- whatever is added up over the used rectangles is added up over the buckets of the shelves' chains
  pub each : (f : Drawn → ℕ) → used_sum f (drawing g)
      ≡ sum_to g.head.shelf_count (λ i. sum_of (λ k. f (used_part (shelf_at g.shelves i) (bucket_at g.buckets k))) (chain_of g i))
  -- so they are as many as these
  pub chains : used_count (drawing g) ≡ sum_to g.head.shelf_count (λ i. length (chain_of g i))
  -- and with the released ones as many as there are buckets
  pub released : used_count (drawing g) + length (released_of g) ≡ g.head.bucket_count

sum_length : (ks : List ℕ) → sum_of (λ k. 1) ks ≡ length ks
sum_length [] = omega arith
sum_length (k ∷ ks) = omega (arith, sum_length ks)

pub used_one : (g : Atlas) → Sound g → UsedOne g
used_one g p =
    let m : ℕ = g.head.shelf_count in
    let all : used_count (drawing g) ≡ sum_to m (λ i. length (chain_of g i)) =
    used_drawing (λ d. 1) g ∙ sum_ext m (λ i. sum_of (λ k. 1) (chain_of g i)) (λ i. length (chain_of g i)) (λ i l. sum_length (chain_of g i)) in
    record { each = λ f. used_drawing f g; chains = all; released = omega (arith, all, lengths p.steady) }
