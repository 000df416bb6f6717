-- Decimal digits, as a loop makes them from the last one on.
use Prim.Native.Nat.{ℕ, zero, suc, ◌+◌, ◌-◌, ◌/◌, ◌%◌, ◌^◌, ◌≤◌, ◌<◌}
use mathlib.Core.Path.{◌≡◌, refl, sym, ap, ap₂, ◌∙◌}
use mathlib.Core.List.{List, ◌∷◌, ◌++◌}
use native.Mathlib.Omega.{arith}
use borrow.Author.Tests.{lt-ltb, le-ltb}
use native.Mathlib.Nat.{div-lt_iff_lt-mul, pow-suc, suc-add}
use native.Mathlib.Numerals.{add-one}
use lib.ListN.{length, take, drop, set, length-set, length-append, length-drop, drop_of_length-le}
use lib.Seq.{take-length, drop-cons, drop-set-lt, get_or-set_same}
use Rattle.rules.specs.Trace.{digits, decimal, spaced}
use Rattle.laws.proofs.Numbers.Decimal.{decimal_length}

-- a digit more
digits_more : (d n : ℕ) (tail : List ℕ) → 10 ≤ n → digits (suc d) n tail ≡ digits d (n / 10) ((48 + n % 10) ∷ tail)
unfolding digits
digits_more d n tail h = simp (le-ltb n 10 h)

-- the first digit
digits_last : (d n : ℕ) (tail : List ℕ) → n < 10 → digits (suc d) n tail ≡ (48 + n) ∷ tail
unfolding digits
digits_last d n tail h = simp (lt-ltb n 10 h)

-- Where the digits of n from place i on are in the array, `left` has those before them: the loop's invariant.
pub record Digits (arr : List ℕ) (i left n : ℕ) : Type 0 where
  pub place : i ≤ 9
  pub long : length arr ≡ 10
  pub few : left < 10 ^ (i + 1)
  pub rest : digits (i + 1) left (drop (i + 1) arr) ≡ decimal n

pub digits_start : (arr : List ℕ) (n : ℕ) → length arr ≡ 10 → n < 4294967296 → Digits arr 9 n n
unfolding decimal
digits_start arr n e h = record {
  place = omega arith;
  long = e;
  few = omega arith;
  rest = ap (digits 10 n) (drop_of_length-le arr {i = 10} (omega arith));
}

-- a digit stored at place i, in front of what is there
drop_stored : (arr : List ℕ) (i v : ℕ) → i < length arr → drop i (set arr i v) ≡ v ∷ drop (i + 1) arr
drop_stored arr i v h =
    drop-cons (set arr i v) i 0 (rw length-set h)
    ∙ ap₂ (λ (x : ℕ) (xs : List ℕ). x ∷ xs) (get_or-set_same arr i v 0 h) (drop-set-lt (suc i) arr i v (omega arith) ∙ rw add-one refl)

pub digits_place : (arr : List ℕ) (i left n : ℕ) → Digits arr i left n → 10 ≤ left → 1 ≤ i
digits_place arr zero left n p h = absurd (omega (arith, p.few))
digits_place arr (suc j) left n p h = omega arith

-- the last digit goes to place i
pub digits_turn : (arr : List ℕ) (i left n : ℕ) → Digits arr i left n → 10 ≤ left → Digits (set arr i (48 + left % 10)) (i - 1) (left / 10) n
unfolding digits
digits_turn arr zero left n p h = absurd (omega (arith, p.few))
digits_turn arr (suc j) left n p h =
    let e : suc j - 1 ≡ j = omega arith in
    let stored : drop (j + 1) (set arr (suc j) (48 + left % 10)) ≡ (48 + left % 10) ∷ drop (suc j + 1) arr =
    rw add-one (drop_stored arr (suc j) (48 + left % 10) (omega (arith, p.place, p.long))) in
    let f : suc (j + 1) ≡ suc j + 1 = omega arith in
    rw e (record {
      place = omega (arith, p.place);
      long = length-set arr (suc j) (48 + left % 10) ∙ p.long;
      few = (div-lt_iff_lt-mul {k = 10} (omega arith)).1 (rw (suc-add, pow-suc) at p.few);
      rest = rw stored (sym (digits_more (j + 1) left _ h) ∙ ap (λ (d : ℕ). digits d left (drop (suc j + 1) arr)) f ∙ p.rest);
    })

-- the first digit goes to place i, and the digits are the array's part from there on
pub digits_end : {arr : List ℕ} {i left n : ℕ} → Digits arr i left n → left < 10
    → take (10 - i) (drop i (set arr i (48 + left))) ≡ decimal n
digits_end {arr} {i} {left} {n} p h =
    let part : List ℕ = drop i (set arr i (48 + left)) in
    let long : 10 - i ≡ length part = sym (length-drop i (set arr i (48 + left)) ∙ rw length-set (ap (λ (k : ℕ). k - i) p.long)) in
    ap (λ (k : ℕ). take k part) long ∙ take-length part ∙ drop_stored arr i (48 + left) (omega (arith, p.place, p.long))
    ∙ sym (digits_last i left (drop (i + 1) arr) h) ∙ ap (λ (d : ℕ). digits d left (drop (i + 1) arr)) (sym (add-one i)) ∙ p.rest

-- a space and the digits
pub spaced_length : (n : ℕ) → length (spaced n) ≤ 11
spaced_length n = omega (arith, decimal_length n)

pub pair_length : (m n : ℕ) → length (spaced m ++ spaced n) ≤ 22
pair_length m n = omega (arith, length-append (spaced m) (spaced n), spaced_length m, spaced_length n)
