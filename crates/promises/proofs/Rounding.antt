-- "Rounding up to a multiple is shown once for any step, not per step."
-- Of the multiples of the step that are not below the size, the rule names the least.
use Prim.Native.Nat.{ℕ, ◌%◌, ◌≤◌, ◌<◌}
use mathlib.Core.Path.{◌≡◌}
use Rattle.rules.specs.Rounding.{align}
use Rattle.laws.proofs.Numbers.Rounding.{align_multiple, align_not_below, align_least}

-- the size, rounded up: of the multiples of the step that are not below the size it is the least
pub record RoundedUp (step size rounded : ℕ) : Type 0 where
  pub multiple : rounded % step ≡ 0
  pub not_below : size ≤ rounded
  pub least : (n : ℕ) → n % step ≡ 0 → size ≤ n → rounded ≤ n

-- "Aligning: up to the next multiple", for any step of at least 1 and any size
pub rounding : (step size : ℕ) → 0 < step → RoundedUp step size (align step size)
rounding step size some = record {
  multiple = align_multiple step size some;
  not_below = align_not_below step size some;
  least = align_least step size some;
}
