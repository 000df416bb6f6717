-- The numbers of a record: "all little_endian", and an i32 is the number of the same bits.
use Prim.Native.Nat.{ℕ, ◌+◌, ◌-◌, ◌*◌, ◌≤◌, ◌<◌}
use mathlib.Core.Path.{◌≡◌, ap}
use mathlib.Core.List.{List}
use native.Mathlib.Omega.{arith}
use borrow.Author.Tests.{lt-ltb, le-ltb}
use lib.ListN.{get_or}
use lib.IntN.{ℤ, pos, negsuc}
use Rattle.rules.specs.Trace.{u32_at, i32_at, signed}

-- four bytes, the lowest first
abbrev pub four_bytes : List ℕ → ℕ → ℕ
four_bytes p i = get_or p i 0 + 256 * get_or p (i + 1) 0 + 65536 * get_or p (i + 2) 0 + 16777216 * get_or p (i + 3) 0

-- n below 2^31 is itself; n from there to 2^32 is n - 2^32, and `negsuc m` is - (m + 1)
pub record SameBits (n : ℕ) (z : ℤ) : Type 0 where
  pub low : n < 2147483648 → z ≡ pos n
  pub high : 2147483648 ≤ n → n < 4294967296 → (m : ℕ) × (z ≡ negsuc m) × (n + (m + 1) ≡ 4294967296)

pub record NumberIn (p : List ℕ) (i : ℕ) : Type 0 where
  pub unsigned : u32_at p i ≡ four_bytes p i
  pub bits : SameBits (four_bytes p i) (i32_at p i)

signed_bits : (n : ℕ) → SameBits n (signed n)
unfolding signed
signed_bits n = record {
  low = λ l. simp (lt-ltb n 2147483648 l);
  high = λ l h. (4294967295 - n, simp (le-ltb n 2147483648 l), omega arith);
}

little_endian : (p : List ℕ) (i : ℕ) → u32_at p i ≡ four_bytes p i
little_endian p i =
    let e : i + 2 + 1 ≡ i + 3 = omega arith in
    let f : get_or p (i + 2 + 1) 0 ≡ get_or p (i + 3) 0 = ap (λ (j : ℕ). get_or p j 0) e in
    omega (arith, f)

pub number_in : (p : List ℕ) (i : ℕ) → NumberIn p i
number_in p i = let e : u32_at p i ≡ four_bytes p i = little_endian p i in record { unsigned = e; bits = rw (← e) (signed_bits (u32_at p i)) }
