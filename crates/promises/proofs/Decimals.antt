-- The numbers of a line are decimal: digits alone, read from the left they are the number, and none but 0 starts with a 0.
use Prim.Native.Nat.{ℕ, zero, suc, ◌+◌, ◌-◌, ◌*◌, ◌/◌, ◌%◌, ◌≤◌, ◌<◌}
use mathlib.Core.Path.{◌≡◌, refl, sym, ap, ◌∙◌, subst}
use mathlib.Core.List.{List, [], ◌∷◌}
use native.Mathlib.Omega.{arith}
use native.Mathlib.Decide.{ℕ_discrete}
use borrow.Author.Tests.{ltb-true, ltb-false}
use lib.Dec.{ltb}
use lib.ListN.{get_or}
use Rattle.rules.specs.Trace.{digits, decimal}
use Rattle.laws.proofs.Tests.Flags.{split}

-- the number that digits are, behind those read before
abbrev pub read_on : ℕ → List ℕ → ℕ
read_on before [] = before
read_on before (c ∷ cs) = read_on (10 * before + (c - 48)) cs

-- `0` to `9`
abbrev pub Digits : List ℕ → Type 0
Digits [] = Unit {0}
Digits (c ∷ cs) = (48 ≤ c) × (c ≤ 57) × Digits cs

abbrev tens : ℕ → ℕ
tens zero = 1
tens (suc d) = 10 * tens d

pub record Decimal (n : ℕ) (text : List ℕ) : Type 0 where
  pub digits : Digits text
  pub reads : read_on 0 text ≡ n
  pub leads : get_or text 0 48 ≡ 48 → text ≡ 48 ∷ []

-- the digits of n stand in front of the tail
record InFront (n : ℕ) (tail text : List ℕ) : Type 0 where
  digits : Digits tail → Digits text
  reads : read_on 0 text ≡ read_on n tail
  leads : 0 < n → 48 < get_or text 0 48

some_left : (d n : ℕ) → 10 ≤ n → n < 10 * tens d → 0 < d
some_left zero n l h = absurd (omega arith)
some_left (suc d) n l h = omega arith

in_front : (d n : ℕ) (tail : List ℕ) → n < tens d → 0 < d → InFront n tail (digits d n tail)
unfolding digits
in_front zero n tail l s = absurd (omega arith)
in_front (suc d) n tail l s = split (ltb n 10)
    (λ e. simp e (record {
      digits = λ t. (omega arith, omega (arith, ltb-true n 10 e), t);
      reads = ap (λ (m : ℕ). read_on m tail) (let z : 10 * 0 + (48 + n - 48) ≡ n = omega arith in z);
      leads = λ h. omega arith;
    }))
    (λ e.
    let ten : 10 ≤ n = ltb-false n 10 e in
    let f : InFront (n / 10) ((48 + n % 10) ∷ tail) (digits d (n / 10) ((48 + n % 10) ∷ tail)) =
    in_front d (n / 10) ((48 + n % 10) ∷ tail) (omega arith) (some_left d n ten l) in
    simp e (record {
      digits = λ t. f.digits (omega arith, omega arith, t);
      reads = f.reads ∙ ap (λ (m : ℕ). read_on m tail) (let z : 10 * (n / 10) + (48 + n % 10 - 48) ≡ n = omega arith in z);
      leads = λ h. f.leads (omega arith);
    }))

-- every number of a line has at most ten digits: an id is below 2^32
pub decimal_10 : (n : ℕ) → n < 10000000000 → Decimal n (decimal n)
unfolding decimal digits
decimal_10 n l =
    let f : InFront n [] (digits 10 n []) = in_front 10 n [] l (omega arith) in
    record {
      digits = f.digits tt;
      reads = f.reads;
      leads = λ e. elim (ℕ_discrete n 0) [
        | yes z ↦ subst (λ (m : ℕ). digits 10 m [] ≡ 48 ∷ []) (sym z) refl
        | no nz ↦ absurd (omega (arith, f.leads (omega arith), e))
      ];
    }
