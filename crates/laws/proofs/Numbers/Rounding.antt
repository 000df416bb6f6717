-- Rounding up: for any step of at least 1 the answer is the least multiple of the step that is not below the size; and shelf heights.
use Prim.Native.Nat.{ℕ, ◌+◌, ◌-◌, ◌*◌, ◌/◌, ◌%◌, ◌≤◌, ◌<◌}
use mathlib.Core.Path.{◌≡◌, sym, ap, ◌∙◌}
use mathlib.Core.Logic.{◌≢◌}
use native.Mathlib.Decide.{dec_le}
use native.Mathlib.Nat.{div-add-mod', mul-le-mul_right, one-mul, mod-lt, div-eq_of_lt-le, add-mul, mul-mod_left}
use native.Mathlib.Omega.{arith}
use borrow.Author.Tests.{le-leb, lt-leb}
use Rattle.rules.specs.Rounding.{shelf_height, align, step}

-- ---- any step

pub one_more : (q k : ℕ) → (q + 1) * k ≡ q * k + k
one_more q k = add-mul q 1 k ∙ ap (λ (n : ℕ). q * k + n) (one-mul k)

module _ (k s : ℕ) (hk : 0 < k) where
  pub align_multiple : align k s % k ≡ 0
  unfolding align
  align_multiple = mul-mod_left ((s + (k - 1)) / k) k

  -- not below the size, and less than a step above it
  within : (s ≤ align k s) × (align k s < s + k)
  unfolding align
  within =
      let d : (s + (k - 1)) / k * k + (s + (k - 1)) % k ≡ s + (k - 1) = div-add-mod' (s + (k - 1)) k in
      let m : (s + (k - 1)) % k < k = mod-lt (s + (k - 1)) hk in
      (omega arith, omega arith)

  pub align_not_below : s ≤ align k s
  align_not_below = within.0

  -- no smaller multiple is
  pub align_least : (n : ℕ) → n % k ≡ 0 → s ≤ n → align k s ≤ n
  align_least n e h =
      let a : align k s / k * k + align k s % k ≡ align k s = div-add-mod' (align k s) k in
      let z : align k s % k ≡ 0 = align_multiple in
      let d : n / k * k + n % k ≡ n = div-add-mod' n k in
      elim (dec_le (align k s / k) (n / k)) [
        | yes p ↦ (let l : align k s / k * k ≤ n / k * k = mul-le-mul_right k p in omega arith)
        | no q ↦
            let l : (n / k + 1) * k ≤ align k s / k * k = mul-le-mul_right k (omega arith) in
            let m : (n / k + 1) * k ≡ n / k * k + k = one_more (n / k) k in
            absurd (let w = within in omega arith)
      ]

  -- ---- as the code works it out, by the remainder

  -- the quotient is known between two multiples
  quotient : (q : ℕ) → q * k < s + k → s ≤ q * k → align k s ≡ q * k
  unfolding align
  quotient q lo hi =
      let d : (s + (k - 1)) / k ≡ q = div-eq_of_lt-le k (omega arith) (omega (arith, one_more q k)) in
      ap (λ (n : ℕ). n * k) d

  pub align_exact : s % k ≡ 0 → s ≡ align k s
  align_exact e =
      let d : s / k * k + s % k ≡ s = div-add-mod' s k in
      sym (quotient (s / k) (omega arith) (omega arith) ∙ (omega arith))

  pub align_more : s % k ≢ 0 → s + (k - s % k) ≡ align k s
  align_more n =
      let d : s / k * k + s % k ≡ s = div-add-mod' s k in
      let m : s % k < k = mod-lt s hk in
      let e : (s / k + 1) * k ≡ s / k * k + k = one_more (s / k) k in
      sym (quotient (s / k + 1) (omega arith) (omega arith) ∙ (omega arith))

-- ---- shelf heights

-- a step is from 1 to 64
steps : (s : ℕ) → (0 < step s) × (step s ≤ 64)
unfolding step
steps s = elim (dec_le s 31) [
  | yes p ↦ simp (le-leb s 31 p) (omega arith, omega arith)
  | no q ↦
      let l : 31 < s = omega arith in
      elim (dec_le s 127) [
        | yes p ↦ simp (lt-leb s 31 l, le-leb s 127 p) (omega arith, omega arith)
        | no q ↦
            let m : 127 < s = omega arith in
            elim (dec_le s 511) [
              | yes p ↦ simp (lt-leb s 31 l, lt-leb s 127 m, le-leb s 511 p) (omega arith, omega arith)
              | no q ↦ simp (lt-leb s 31 l, lt-leb s 127 m, lt-leb s 511 (omega arith)) (omega arith, omega arith)
            ]
      ]
]

pub shelf_height_not_below : (s : ℕ) → s ≤ shelf_height s
unfolding shelf_height
shelf_height_not_below s = align_not_below (step s) s (steps s).0
