-- What demand 3 shuts out: a rectangle handed out twice, a figure that is not the history's, a figure left over where nothing is held. And
-- that a build without the list needs its premise: with an id handed back twice demand 3 does not hold. With the list it does.
use Prim.Native.Nat.{ℕ, ◌<◌}
use mathlib.Core.Path.{◌≡◌, sym, ap, ◌∙◌, subst}
use mathlib.Core.List.{List, [], ◌∷◌}
use native.Mathlib.Omega.{arith}
use lib.ListN.{length}
use Rattle.rules.specs.declared.Rectangle.{Rectangle}
use Rattle.rules.specs.declared.Allocation.{Allocation}
use Rattle.rules.specs.Tables.{Atlas}
use Rattle.rules.specs.History.{Event, held, from_bucket, figure, issued_since, entry, Covers, Kept}
use Rattle.laws.proofs.Chains.Count.{sum_ext, sum_zeros}
use Rattle.promises.proofs.Invariant.{since_none}
use Rattle.rules.specs.Builds.{present}
use Rattle.rules.specs.History.{Listing}
use Rattle.promises.proofs.Worked.{at, twice, allocation, twice_returned}
use Rattle.promises.proofs.WorkedList.{mended, mended_run}
use Rattle.promises.proofs.History.{kept}

-- a rectangle inside the atlas has a pixel
corner : (r : Rectangle) → r.left < r.right → r.top < r.bottom → Covers r r.left r.top
corner r w h = record { left = omega arith; right = w; top = omega arith; bottom = h }

-- no rectangle is held at two places
pub once_held : {past : List Event} {g : Atlas} → Kept past g → (i j : ℕ) → i < length (held past) → j < length (held past)
    → (entry (held past) i).rectangle ≡ (entry (held past) j).rectangle → i ≡ j
once_held {past} {g} k i j li lj e =
    let r : Rectangle = (entry (held past) i).rectangle in
    let c : Covers r r.left r.top = corner r (k.inside i li).wide (k.inside i li).high in
    k.apart i j r.left r.top li lj c (subst (λ (q : Rectangle). Covers q r.left r.top) e c)

-- the history decides the figure
pub one_figure : {past : List Event} {g g' : Atlas} → Kept past g → Kept past g' → g.head.occupied ≡ g'.head.occupied
one_figure k k' = k.occupied ∙ sym k'.occupied

-- where nothing is held it is 0
pub none_held : {past : List Event} {g : Atlas} → Kept past g → held past ≡ [] → g.head.occupied ≡ 0
unfolding figure
none_held {past} {g} k e =
    k.occupied
    ∙ sum_ext 4096 (λ n. issued_since n past) (λ n. 0) (λ n l. since_none n past (ap (from_bucket n) e))
    ∙ sum_zeros 4096

-- "whose caller hands back only ids it then holds": two held rectangles share the pixel (20, 0) where one id was handed back twice
pub premise_needed : Kept (at twice).past (at twice).state → ⊥
premise_needed k =
    let both : held (at twice).past ≡ allocation 16781312 0 0 25 8 ∷ allocation 8192 20 0 50 8 ∷ [] = twice_returned.both in
    let two : length (held (at twice).past) ≡ 2 = ap length both in
    let first : Covers (entry (held (at twice).past) 0).rectangle 20 0 =
    subst (λ (xs : List Allocation). Covers (entry xs 0).rectangle 20 0) (sym both)
    (record { left = omega arith; right = omega arith; top = omega arith; bottom = omega arith }) in
    let second : Covers (entry (held (at twice).past) 1).rectangle 20 0 =
    subst (λ (xs : List Allocation). Covers (entry xs 1).rectangle 20 0) (sym both)
    (record { left = omega arith; right = omega arith; top = omega arith; bottom = omega arith }) in
    omega (arith, k.apart 0 1 20 0 (omega arith) (omega arith) first second)

-- T-02: the same calls with the list
pub twice_kept : Kept mended.past mended.left.state
twice_kept = kept present mended.past mended.left.state (Listing.lent mended.left.list) mended_run
