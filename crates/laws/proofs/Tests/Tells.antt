-- What a test tells: it is true exactly when a statement holds. One law for each way to join tests.
-- With them a test of the rules is turned into words without a case for each of its answers.
use Prim.Native.Nat.{ℕ, zero, suc, ◌≤◌, ◌<◌}
use mathlib.Core.Bool.{Bool, true, false, ◌&&◌, ◌||◌, not}
use mathlib.Core.Path.{◌≡◌, refl, sym, subst}
use mathlib.Core.Logic.{◌⊎◌, inl, inr}
use mathlib.Core.List.{List, [], ◌∷◌}
use native.Mathlib.Decide.{ℕ_discrete}
use native.Mathlib.Omega.{arith}
use borrow.Author.Tests.{le-leb, eq-eqb, ltb-true, leb-true, lt-ltb, eqb-true}
use lib.Dec.{eqb, leb, ltb, T}
use Rattle.std.specs.Prelude.{if◌then◌else◌}
use Rattle.rules.specs.Chains.{count, In}
use Rattle.rules.specs.Sound.{all_to, all_of, any_of, of_last}
use Rattle.laws.proofs.Chains.Count.{hit_same, hit_other}

pub record Tells (t : Bool) (P : Type 0) : Type 0 where
  pub holds : t ≡ true → P
  pub shown : P → t ≡ true

pub false_true : {A : Type 0} → false ≡ true → A
false_true e = absurd (subst (λ (b : Bool). T (not b)) e tt)

pub true_false : {A : Type 0} → true ≡ false → A
true_false e = absurd (subst T e tt)

pub tells_leb : (a b : ℕ) → Tells (leb a b) (a ≤ b)
tells_leb a b = record { holds = leb-true a b; shown = le-leb a b }

pub tells_ltb : (a b : ℕ) → Tells (ltb a b) (a < b)
tells_ltb a b = record { holds = ltb-true a b; shown = lt-ltb a b }

pub tells_eqb : (a b : ℕ) → Tells (eqb a b) (a ≡ b)
tells_eqb a b = record { holds = eqb-true a b; shown = eq-eqb a b }

pub tells_map : {t : Bool} {P Q : Type 0} → Tells t P → (P → Q) → (Q → P) → Tells t Q
tells_map r f g = record { holds = λ e. f (r.holds e); shown = λ q. r.shown (g q) }

pub tells_not : (t : Bool) {P : Type 0} → Tells t P → Tells (not t) (P → ⊥)
tells_not true r = record { holds = λ e. false_true e; shown = λ n. absurd (n (r.holds refl)) }
tells_not false r = record { holds = λ e p. false_true (r.shown p); shown = λ n. refl }

pub tells_and : (s t : Bool) {P Q : Type 0} → Tells s P → Tells t Q → Tells (s && t) (P × Q)
tells_and true t p q = record { holds = λ e. (p.holds refl, q.holds e); shown = λ h. q.shown h.1 }
tells_and false t p q = record { holds = λ e. false_true e; shown = λ h. p.shown h.0 }

pub tells_or : (s t : Bool) {P Q : Type 0} → Tells s P → Tells t Q → Tells (s || t) (P ⊎ Q)
tells_or true t p q = record { holds = λ e. inl (p.holds refl); shown = λ h. refl }
tells_or false t p q = record { holds = λ e. inr (q.holds e); shown = λ h. or_right p q h }
  where
    or_right : {t : Bool} {P Q : Type 0} → Tells false P → Tells t Q → P ⊎ Q → t ≡ true
    or_right p q (inl x) = false_true (p.shown x)
    or_right p q (inr y) = q.shown y

-- a clause that is asked only where c
pub tells_if : (c t : Bool) {C P : Type 0} → Tells c C → Tells t P → Tells (if c then t else true) (C → P)
tells_if true t r p = record { holds = λ e x. p.holds e; shown = λ h. p.shown (h (r.holds refl)) }
tells_if false t r p = record { holds = λ e x. false_true (r.shown x); shown = λ h. refl }

-- a clause that is a test only where the one before it holds
pub tells_then : (s t : Bool) {P Q : Type 0} → Tells s P → (P → Tells t Q) → Tells (s && t) (P × Q)
tells_then true t p q = record { holds = λ e. (p.holds refl, (q (p.holds refl)).holds e); shown = λ h. (q h.0).shown h.1 }
tells_then false t p q = record { holds = λ e. false_true e; shown = λ h. p.shown h.0 }

pub tells_below : (n : ℕ) (p : ℕ → Bool) (P : ℕ → Type 0) → ((i : ℕ) → i < n → Tells (p i) (P i)) → Tells (all_to n p) ((i : ℕ) → i < n → P i)
tells_below zero p P t = record { holds = λ e i l. absurd (omega arith); shown = λ h. refl }
tells_below (suc n) p P t = tells_map (tells_and (all_to n p) (p n) (tells_below n p P (λ i l. t i (omega arith))) (t n (omega arith)))
    (λ h i l. elim (ℕ_discrete i n) [ yes e ↦ subst P (sym e) h.1 | no ne ↦ h.0 i (omega arith) ])
    (λ h. (λ i l. h i (omega arith), h n (omega arith)))

pub tells_to : (n : ℕ) (p : ℕ → Bool) (P : ℕ → Type 0) → ((i : ℕ) → Tells (p i) (P i)) → Tells (all_to n p) ((i : ℕ) → i < n → P i)
tells_to n p P t = tells_below n p P (λ i l. t i)

pub tells_of : (xs : List ℕ) (p : ℕ → Bool) (P : ℕ → Type 0) → ((k : ℕ) → Tells (p k) (P k)) → Tells (all_of p xs) ((k : ℕ) → In k xs → P k)
tells_of [] p P t = record { holds = λ e k l. absurd (omega arith); shown = λ h. refl }
tells_of (x ∷ xs) p P t = tells_map (tells_and (p x) (all_of p xs) (t x) (tells_of xs p P t))
    (λ h k l. elim (ℕ_discrete k x) [ yes e ↦ subst P (sym e) h.0 | no ne ↦ h.1 k (omega (arith, hit_other k x ne)) ])
    (λ h. (h x (omega (arith, hit_same x)), λ k l. h k (omega arith)))

pub tells_any : (xs : List ℕ) (p : ℕ → Bool) (P : ℕ → Type 0) → ((k : ℕ) → Tells (p k) (P k)) → Tells (any_of p xs) ((k : ℕ) × In k xs × P k)
tells_any [] p P t = record { holds = λ e. false_true e; shown = λ h. absurd (let l : 0 < count h.0 [] = h.1 in omega arith) }
tells_any (x ∷ xs) p P t = tells_map (tells_or (p x) (any_of p xs) (t x) (tells_any xs p P t)) there back
  where
    there : P x ⊎ ((k : ℕ) × In k xs × P k) → (k : ℕ) × In k (x ∷ xs) × P k
    there (inl h) = (x, omega (arith, hit_same x), h)
    there (inr h) = (h.0, omega (arith, h.1), h.2)

    back : (k : ℕ) × In k (x ∷ xs) × P k → P x ⊎ ((k : ℕ) × In k xs × P k)
    back h = elim (ℕ_discrete h.0 x) [
      | yes e ↦ inl (subst P e h.2)
      | no ne ↦ inr (h.0, omega (arith, h.1, hit_other h.0 x ne), h.2)
    ]

pub tells_last : (n : ℕ) (p : ℕ → Bool) (P : ℕ → Type 0) → ((i : ℕ) → Tells (p i) (P i)) → Tells (of_last n p) ((i : ℕ) → suc i ≡ n → P i)
tells_last zero p P t = record { holds = λ e i q. absurd (omega arith); shown = λ h. refl }
tells_last (suc n) p P t = record {
  holds = λ e i q. let s : n ≡ i = omega arith in subst P s ((t n).holds e);
  shown = λ h. (t n).shown (h n refl);
}

-- two tests of one statement are the same
pub tells_same : (s t : Bool) {P : Type 0} → Tells s P → Tells t P → s ≡ t
tells_same true t p q = sym (q.shown (p.holds refl))
tells_same false true p q = false_true (p.shown (q.holds refl))
tells_same false false p q = refl
