-- The occupied figure: one bucket's weight changes, and the sum over all shelves with it. And an area of 16-bit sides fits 32 bits.
-- The first is what an issue and a return do to the figure, the second what a product of sides in the code needs.
use Prim.Native.Nat.{ℕ, ◌+◌, ◌*◌, ◌^◌, ◌≤◌, ◌<◌}
use mathlib.Core.Path.{◌≡◌, ap}
use mathlib.Core.Logic.{◌≢◌}
use mathlib.Core.List.{List}
use native.Mathlib.Nat.{mul-le-mul}
use native.Mathlib.Omega.{arith}
use Rattle.rules.specs.Chains.{count, sum_to, sum_of}
use Rattle.laws.proofs.Chains.Count.{sum_term, sum_change, sum_of_same, sum_of_change}
use Rattle.laws.proofs.Chains.Moves.{Tied}
use Rattle.laws.proofs.Chains.Ties.{home_one}

-- over all shelves: the weight may depend on the shelf (its height); bucket j is on shelf a
pub figure_change : {f : ℕ → ℕ} {n m : ℕ} {h : ℕ → ℕ} {r : ℕ} {ch : ℕ → List ℕ} {rs : List ℕ} → Tied f n m h r ch rs
    → (g g' : ℕ → ℕ → ℕ) (a j : ℕ) → a < m → j < n → 0 < count j (ch a) → ((i k : ℕ) → k ≢ j → g' i k ≡ g i k)
    → sum_to m (λ i. sum_of (g' i) (ch i)) + g a j ≡ sum_to m (λ i. sum_of (g i) (ch i)) + g' a j
figure_change {f} {n} {m} {h} {r} {ch} {rs} t g g' a j la lj c e =
    let one = sum_term m a (λ i. count j (ch i)) la in
    omega (
      arith,
      t.once j lj,
      sum_of_change (g a) (g' a) (ch a) j (omega (arith, t.once j lj)) (e a),
      sum_change m a (λ i. sum_of (g i) (ch i)) (λ i. sum_of (g' i) (ch i)) la
          (λ i li ne. sum_of_same (g i) (g' i) (ch i) (λ k ck. e i k (λ z.
          ne (home_one t j i a lj li la (let w : count k (ch i) ≡ count j (ch i) = ap (λ (y : ℕ). count y (ch i)) z in omega arith) c)))),
    )

-- ---- an area of 16-bit sides fits 32 bits

pub area_small : (a b : ℕ) → a ≤ 65535 → b ≤ 65535 → a * b < 2 ^ 32
area_small a b ha hb = let z : a * b ≤ 65535 * 65535 = mul-le-mul ha hb in omega arith
