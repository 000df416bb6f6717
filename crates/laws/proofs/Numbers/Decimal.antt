-- How many digits a number has.
use Prim.Native.Nat.{ℕ, zero, suc, ◌+◌, ◌/◌, ◌%◌, ◌^◌, ◌≤◌, ◌<◌}
use mathlib.Core.List.{List, [], ◌∷◌}
use native.Mathlib.Omega.{arith}
use native.Mathlib.Decide.{dec_lt}
use native.Mathlib.Nat.{div-lt_iff_lt-mul, pow-suc}
use borrow.Author.Tests.{lt-ltb, le-ltb}
use lib.ListN.{length}
use Rattle.rules.specs.Text.{digits, decimal}

-- no more than are asked for
digits_length : (d n : ℕ) (tail : List ℕ) → length (digits d n tail) ≤ d + length tail
unfolding digits
digits_length zero n tail = omega arith
digits_length (suc d) n tail = elim (dec_lt n 10) [
  | yes h ↦ simp (lt-ltb n 10 h) (omega arith)
  | no h ↦
      let l : 10 ≤ n = omega arith in
      let ih = digits_length d (n / 10) ((48 + n % 10) ∷ tail) in
      simp (le-ltb n 10 l) (omega arith)
]

pub decimal_length : (n : ℕ) → length (decimal n) ≤ 10
unfolding decimal
decimal_length n = omega (arith, digits_length 10 n [])

-- and no more than the number has
digits_few : (k d n : ℕ) (tail : List ℕ) → n < 10 ^ suc k → length (digits d n tail) ≤ suc k + length tail
unfolding digits
digits_few k zero n tail h = omega arith
digits_few zero (suc d) n tail h = simp (lt-ltb n 10 h) (omega arith)
digits_few (suc k) (suc d) n tail h = elim (dec_lt n 10) [
  | yes l ↦ simp (lt-ltb n 10 l) (omega arith)
  | no l ↦
      let more : 10 ≤ n = omega arith in
      let ih = digits_few k d (n / 10) ((48 + n % 10) ∷ tail) ((div-lt_iff_lt-mul {k = 10} (omega arith)).1 (rw pow-suc at h)) in
      simp (le-ltb n 10 more) (omega arith)
]

pub decimal_five : (n : ℕ) → n < 100000 → length (decimal n) ≤ 5
unfolding decimal
decimal_five n l = omega (arith, digits_few 4 10 n [] l)
