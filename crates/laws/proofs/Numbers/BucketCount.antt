-- How many buckets a new shelf gets, and how wide they are: the power of two from the count of leading zeros; the count is from 1 to the
-- ratio; each bucket is at least as wide as the request, and together they fit the column.
use Prim.Native.Nat.{ℕ, zero, suc, ◌+◌, ◌-◌, ◌*◌, ◌/◌, ◌%◌, ◌^◌, ◌≤◌, ◌<◌, max}
use mathlib.Core.Path.{◌≡◌, sym, ap, ◌∙◌}
use mathlib.Core.Logic.{◌≢◌}
use native.Mathlib.Decide.{dec_le}
use native.Mathlib.Nat.{div-add-mod', div-mul-le_self, le-div_iff_mul-le, mul-le-mul, mul-le-mul_left, mul-le-mul_right}
use native.Mathlib.Nat.{mul_comm, pow-suc, le-max_left, le-max_right, min-le_left, min-le_right, le_trans}
use native.Mathlib.Omega.{arith}
use borrow.Author.Tests.{le-leb, lt-leb}
use lib.Count.{count_leading_zeros, leading_length}
use lib.Pow.{pow_mono}
use Rattle.rules.specs.declared.Head.{Head}
use Rattle.rules.specs.Limits.{records_most}
use Rattle.rules.specs.Builds.{Build, least_count}
use Rattle.rules.specs.NewShelf.{bucket_width}
use Rattle.rules.specs.BucketCount.{doubled, power_of_two, by_ratio, ratio, bucket_count}

-- ---- the next power of two

pow_back : (m j : ℕ) → 2 ^ m < 2 ^ suc j → m ≤ j
pow_back m j h = elim (dec_le (suc j) m) [ yes p ↦ absurd (let z : 2 ^ suc j ≤ 2 ^ m = pow_mono p in omega arith) | no n ↦ omega arith ]

twice : (j : ℕ) → 2 * 2 ^ j ≡ 2 ^ suc j
twice j = mul_comm 2 (2 ^ j) ∙ sym (pow-suc 2 j)

doubled_is : (f n j m : ℕ) → j ≤ m → m < j + f → n ≤ 2 ^ m → 2 ^ m < 2 * n → doubled f n (2 ^ j) ≡ 2 ^ m
unfolding doubled
doubled_is zero n j m h1 h2 h3 h4 = absurd (omega arith)
doubled_is (suc f) n j m h1 h2 h3 h4 = elim (dec_le n (2 ^ j)) [
  | yes p ↦
      let le : m ≤ j = pow_back m j (omega (arith, twice j)) in
      let e : j ≡ m = omega arith in
      simp (le-leb n (2 ^ j) p) (ap (λ (k : ℕ). 2 ^ k) e)
  | no q ↦
      let ne : j ≢ m = λ e. (let z : 2 ^ j ≡ 2 ^ m = ap (λ (k : ℕ). 2 ^ k) e in omega arith) in
      simp (lt-leb n (2 ^ j) (omega arith), twice j) (doubled_is f n (suc j) m (omega arith) (omega arith) h3 h4)
]

-- "found from the count of leading zeros"
module _ (n : ℕ) (some : 1 ≤ n) (small : n ≤ 2147483648) where
  bits : (m : ℕ) × (count_leading_zeros 32 (n - 1) + m ≡ 32) × (n - 1 < 2 ^ m) × (2 ^ m ≤ 2 * (n - 1) + 1)
  bits = leading_length 32 (n - 1) (omega arith)

  pub shift_below : 32 - count_leading_zeros 32 (n - 1) < 32
  shift_below =
      let w = bits in
      elim (dec_le 32 w.0) [ yes p ↦ absurd (let z : 2 ^ 32 ≤ 2 ^ w.0 = pow_mono p in omega arith) | no q ↦ omega arith ]

  pub power_is : 2 ^ (32 - count_leading_zeros 32 (n - 1)) ≡ power_of_two n
  unfolding power_of_two
  power_is =
      let w = bits in
      let e : 32 - count_leading_zeros 32 (n - 1) ≡ w.0 = omega arith in
      let s = shift_below in
      rw e (sym (doubled_is 32 n 0 w.0 (omega arith) (omega arith) (omega arith) (omega arith)))

doubled_not_below : (f n p : ℕ) → p ≤ doubled f n p
unfolding doubled
doubled_not_below zero n p = omega arith
doubled_not_below (suc f) n p = elim (dec_le n p) [
  | yes h ↦ simp (le-leb n p h) (omega arith)
  | no q ↦ simp (lt-leb n p (omega arith)) (omega (arith, doubled_not_below f n (2 * p)))
]

doubled_near : (f n p : ℕ) → p < 2 * n → doubled f n p < 2 * n
unfolding doubled
doubled_near zero n p h = h
doubled_near (suc f) n p h = elim (dec_le n p) [
  | yes l ↦ simp (le-leb n p l) h
  | no q ↦ simp (lt-leb n p (omega arith)) (doubled_near f n (2 * p) (omega arith))
]

pub power_some : (n : ℕ) → 1 ≤ power_of_two n
unfolding power_of_two
power_some n = doubled_not_below 32 n 1

power_four : (n : ℕ) → 3 ≤ n → 4 ≤ power_of_two n
unfolding power_of_two doubled
power_four n h = simp (lt-leb n 1 (omega arith), lt-leb n 2 (omega arith)) (doubled_not_below 30 n 4)

power_near : (n : ℕ) → 1 ≤ n → power_of_two n < 2 * n
unfolding power_of_two
power_near n h = doubled_near 32 n 1 (omega arith)

-- ---- the count by the ratio

pub ratio_1 : (build : Build) (n : ℕ) → n ≤ 4 → 1 ≡ by_ratio build n
unfolding by_ratio
ratio_1 build n h = simp (le-leb n 4 h)

pub ratio_2 : (build : Build) (n : ℕ) → 4 < n → n ≤ 16 → 2 ≡ by_ratio build n
unfolding by_ratio
ratio_2 build n l h = simp (lt-leb n 4 l, le-leb n 16 h)

pub ratio_4 : (build : Build) (n : ℕ) → 16 < n → n ≤ 32 → 4 ≡ by_ratio build n
unfolding by_ratio
ratio_4 build n l h = simp (lt-leb n 4 (omega arith), lt-leb n 16 l, le-leb n 32 h)

pub ratio_more : (build : Build) (n : ℕ) → 32 < n → max (least_count build) (power_of_two (n / 16 - 1)) ≡ by_ratio build n
unfolding by_ratio
ratio_more build n l = simp (lt-leb n 4 (omega arith), lt-leb n 16 (omega arith), lt-leb n 32 l)

-- at least the least; from 64 on, and to 32, it is the same in every build
pub ratio_least : (build : Build) (n : ℕ) → 32 < n → least_count build ≤ by_ratio build n
ratio_least build n l = let e = ratio_more build n l in omega (arith, le-max_left (least_count build) (power_of_two (n / 16 - 1)))

least_few : (build : Build) → least_count build ≤ 4
least_few Build.keeping = omega arith
least_few Build.holding = omega arith
least_few Build.naming = omega arith
least_few Build.dividing = omega arith
least_few Build.renewing = omega arith

pub ratio_wide : (build : Build) (n : ℕ) → 64 ≤ n → power_of_two (n / 16 - 1) ≡ by_ratio build n
ratio_wide build n l =
    let e = ratio_more build n (omega arith) in
    omega (arith, least_few build, power_four (n / 16 - 1) (omega arith))

-- between them at most 4
pub ratio_between : (build : Build) (n : ℕ) → 32 < n → n < 64 → by_ratio build n ≤ 4
ratio_between build n l h =
    let e = ratio_more build n l in
    omega (arith, least_few build, power_near (n / 16 - 1) (omega arith))

pub ratio_narrow : (build other : Build) (n : ℕ) → n ≤ 32 → by_ratio build n ≡ by_ratio other n
unfolding by_ratio
ratio_narrow build other n l = simp (le-leb n 32 l)

-- in every build from 1 to the ratio, or 1
by_ratio_law : (build : Build) (n : ℕ) → (1 ≤ by_ratio build n) × (by_ratio build n ≤ max 1 n)
by_ratio_law build n = elim (dec_le n 4) [
  | yes p ↦ (let e = ratio_1 build n p in (omega arith, omega (arith, le-max_left 1 n)))
  | no q ↦
      let m : n ≤ max 1 n = le-max_right 1 n in
      elim (dec_le n 16) [
        | yes p ↦ (let e = ratio_2 build n (omega arith) p in (omega arith, omega arith))
        | no q ↦ elim (dec_le n 32) [
          | yes p ↦ (let e = ratio_4 build n (omega arith) p in (omega arith, omega arith))
          | no q ↦
              let e = ratio_more build n (omega arith) in
              let l = least_few build in
              let s = power_some (n / 16 - 1) in
              let t = power_near (n / 16 - 1) (omega arith) in
              (omega arith, omega arith)
        ]
      ]
]

pub by_ratio_some : (build : Build) (n : ℕ) → 1 ≤ by_ratio build n
by_ratio_some build n = (by_ratio_law build n).0

pub by_ratio_most : (build : Build) (n : ℕ) → by_ratio build n ≤ max 1 n
by_ratio_most build n = (by_ratio_law build n).1

-- ---- the count of a new shelf

module _ (build : Build) (column_width w height buckets : ℕ) where
  -- never more than the table still holds
  pub bucket_count_room : bucket_count build column_width w height buckets ≤ records_most - buckets
  unfolding bucket_count
  bucket_count_room = min-le_right (by_ratio build (ratio column_width w height)) (records_most - buckets)

  -- at least one, while the table holds one more
  pub bucket_count_some : buckets < records_most → 1 ≤ bucket_count build column_width w height buckets
  unfolding bucket_count
  bucket_count_some h = omega (arith, by_ratio_some build (ratio column_width w height))

  -- as many requests side by side fit the column
  pub bucket_count_fits : 1 ≤ w → w ≤ column_width → bucket_count build column_width w height buckets * w ≤ column_width
  unfolding bucket_count ratio
  bucket_count_fits some fits =
      let c : ℕ = bucket_count build column_width w height buckets in
      let b : c ≤ max 1 (column_width / max w height) =
      le_trans (min-le_left (by_ratio build (column_width / max w height)) (records_most - buckets)) (by_ratio_most build (column_width / max w height)) in
      elim (dec_le (column_width / max w height) 1) [
        | yes p ↦
            let l : c * w ≤ 1 * w = mul-le-mul_right w (omega arith) in
            omega arith
        | no q ↦
            let l : c * w ≤ column_width / max w height * max w height = mul-le-mul (omega arith) (le-max_left w height) in
            omega (arith, div-mul-le_self column_width (max w height))
      ]

-- ---- the width of its buckets

-- a multiple of k that is at most n is at most n less its remainder
multiple_below : (k m n : ℕ) → 0 < k → m % k ≡ 0 → m ≤ n → m ≤ n - n % k
multiple_below k m n hk e h =
    let d : m / k * k + m % k ≡ m = div-add-mod' m k in
    let f : n / k * k + n % k ≡ n = div-add-mod' n k in
    let q : m / k ≤ n / k = (le-div_iff_mul-le hk).1 (omega arith) in
    let l : m / k * k ≤ n / k * k = mul-le-mul_right k q in
    omega arith

module _ (h : Head) (count : ℕ) where
  -- "Bucket width is column width / count, less its remainder by the width alignment": at least any aligned width that fits so often
  pub bucket_width_enough : (w : ℕ) → 1 ≤ h.align_width → w % h.align_width ≡ 0 → 1 ≤ count → count * w ≤ h.column_width → w ≤ bucket_width h count
  unfolding bucket_width
  bucket_width_enough w ha e hc fits =
      let q : w ≤ h.column_width / count = (le-div_iff_mul-le hc).1 (rw (mul_comm w count) fits) in
      multiple_below h.align_width w (h.column_width / count) ha e q

  -- together no wider than the column
  pub buckets_fit : count * bucket_width h count ≤ h.column_width
  unfolding bucket_width
  buckets_fit =
      let part : ℕ = h.column_width / count in
      let l : count * (part - part % h.align_width) ≤ count * part = mul-le-mul_left count (omega arith) in
      omega (arith, div-mul-le_self h.column_width count, mul_comm count part)

-- the buckets of a new shelf are at least as wide as the aligned request
pub bucket_wide_enough : (build : Build) (h : Head) (w height buckets : ℕ) → 1 ≤ h.align_width → w % h.align_width ≡ 0 → 1 ≤ w → w ≤ h.column_width
    → 1 ≤ bucket_count build h.column_width w height buckets → w ≤ bucket_width h (bucket_count build h.column_width w height buckets)
bucket_wide_enough build h w height buckets ha e some fits hc =
    bucket_width_enough h (bucket_count build h.column_width w height buckets) w ha e hc
    (bucket_count_fits build h.column_width w height buckets some fits)
