-- The sums of a tally are within their types.
use Prim.Native.Nat.{ℕ, ◌-◌, ◌*◌, ◌≤◌, ◌<◌}
use native.Mathlib.Omega.{arith}
use native.Mathlib.Nat.{mul-le-mul, mul-le-mul_left}
use Rattle.rules.specs.declared.Shelf.{Shelf}
use Rattle.asked.specs.declared.buckets.Tally.{Tally}
use Rattle.asked.specs.Buckets.{used_of, bucket_most, Countable}

module _ {t : Tally} {shelf : Shelf} {seen free : ℕ} (c : Countable t shelf seen free) where
  pub widths_most : shelf.width < 65536 → (seen - t.seen) * shelf.width ≤ (seen - t.seen) * 65535
  widths_most hw = mul-le-mul_left (seen - t.seen) (omega arith)

  pub area_most : shelf.width < 65536 → shelf.height < 65536 → used_of t shelf seen free * shelf.height ≤ (seen - t.seen) * bucket_most
  area_most hw hh =
      let u : used_of t shelf seen free ≤ (seen - t.seen) * 65535 = omega (arith, widths_most hw) in
      let v : shelf.height ≤ 65535 = omega arith in
      omega (arith, mul-le-mul u v)
