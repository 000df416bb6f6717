-- What an answer says, in the numbers of the rules' Answers: 0 first where the call was accepted, a refusal's number alone where not. And when
-- exactly a number is said, over the tests that a call makes one after another.
use Prim.Native.Nat.{ℕ}
use mathlib.Core.Path.{◌≡◌, refl, sym, subst}
use Rattle.std.proofs.lemmas.Option.{none-some}
use mathlib.Core.Bool.{Bool, true, false}
use mathlib.Core.List.{List, [], ◌∷◌}
use native.Mathlib.Omega.{arith}
use borrow.Author.Tests.{eqb-false}
use lib.Dec.{eqb}
use Rattle.rules.specs.declared.Refusal.{Refusal}
use Rattle.std.specs.Prelude.{if◌then◌else◌, Option, Some, None}
use Rattle.rules.specs.Answers.{number, refused}
use Rattle.laws.proofs.Options.{some_one}
use Rattle.laws.proofs.Numbers.Refusals.{number_some}
use Rattle.laws.proofs.Tests.Tells.{Tells, false_true}

-- ---- accepted

abbrev pub Accepted : List ℕ → Type 0
Accepted says = (values : List ℕ) × (says ≡ 0 ∷ values)

-- a refusal is not accepted
pub refused_not : (r : Refusal) → Accepted (refused r) → ⊥
refused_not r a = let e : number r ≡ 0 = cc a.1 in omega (arith, number_some r)

-- ---- exactly when

-- the answer is refusal n exactly when P holds
pub record Exactly (n : ℕ) (says : List ℕ) (P : Type 0) : Type 0 where
  pub when : P → says ≡ n ∷ []
  pub only : says ≡ n ∷ [] → P

pub exactly_map : {n : ℕ} {says : List ℕ} {P Q : Type 0} → Exactly n says P → (P → Q) → (Q → P) → Exactly n says Q
exactly_map e f g = record { when = λ q. e.when (g q); only = λ s. f (e.only s) }

-- another number
pub other : {m n : ℕ} {xs ys : List ℕ} → eqb m n ≡ false → m ∷ xs ≡ n ∷ ys → ⊥
other {m} {n} ne e = let q : m ≡ n = cc in eqb-false m n ne q

-- more than a number
pub longer : {m n x : ℕ} {xs : List ℕ} → m ∷ x ∷ xs ≡ n ∷ [] → ⊥
longer e = let z : ◌≡◌ {A = ℕ} 0 1 = cc in omega arith

-- a call makes one test after another: `f` is what the outcome of either way says
module _ {A : Type 0} (f : A → List ℕ) (n : ℕ) where
  -- neither way says n
  pub never : (t : Bool) (a b : A) → (f a ≡ n ∷ [] → ⊥) → (f b ≡ n ∷ [] → ⊥) → f (if t then a else b) ≡ n ∷ [] → ⊥
  never true a b p q = p
  never false a b p q = q

  -- the test's way says it
  pub first : (t : Bool) (a b : A) {P : Type 0} → Tells t P → f a ≡ n ∷ [] → (f b ≡ n ∷ [] → ⊥) → Exactly n (f (if t then a else b)) P
  first true a b p e ne = record { when = λ h. e; only = λ s. p.holds refl }
  first false a b p e ne = record { when = λ h. false_true (p.shown h); only = λ s. absurd (ne s) }

  -- where the test fails, it is said exactly when Q holds
  pub later : (t : Bool) (a b : A) {P Q : Type 0} → Tells t P → (f a ≡ n ∷ [] → ⊥) → Exactly n (f b) Q
      → Exactly n (f (if t then a else b)) ((P → ⊥) × Q)
  later true a b p ne q = record { when = λ h. absurd (h.0 (p.holds refl)); only = λ s. absurd (ne s) }
  later false a b p ne q = record { when = λ h. q.when h.1; only = λ s. (λ h. false_true (p.shown h), q.only s) }

  -- the test of the tables: it fails and says it
  pub failed : (t : Bool) (a b : A) {P : Type 0} → Tells t P → (f a ≡ n ∷ [] → ⊥) → f b ≡ n ∷ [] → Exactly n (f (if t then a else b)) (P → ⊥)
  failed true a b p ne e = record { when = λ h. absurd (h (p.holds refl)); only = λ s. absurd (ne s) }
  failed false a b p ne e = record { when = λ h. e; only = λ s h. false_true (p.shown h) }

  -- it passes, and it is said exactly when Q holds
  pub passed : (t : Bool) (a b : A) {P Q : Type 0} → Tells t P → Exactly n (f a) Q → (f b ≡ n ∷ [] → ⊥) → Exactly n (f (if t then a else b)) (P × Q)
  passed true a b p q ne = record { when = λ h. q.when h.1; only = λ s. (p.holds refl, q.only s) }
  passed false a b p q ne = record { when = λ h. false_true (p.shown h.0); only = λ s. absurd (ne s) }

  -- the same of what may be there: `way` is the outcome
  module _ {T : Type 0} (way : Option T → A) where
    pub never_some : (o : Option T) → (f (way None) ≡ n ∷ [] → ⊥) → ((x : T) → f (way (Some x)) ≡ n ∷ [] → ⊥) → f (way o) ≡ n ∷ [] → ⊥
    never_some None p q = p
    never_some (Some x) p q = q x

    -- where it is not there, it is said exactly when Q holds
    pub where_none : (o : Option T) {Q : Type 0} → Exactly n (f (way None)) Q → ((x : T) → f (way (Some x)) ≡ n ∷ [] → ⊥)
        → Exactly n (f (way o)) ((o ≡ None) × Q)
    where_none None q ne = record { when = λ h. q.when h.1; only = λ s. (refl, q.only s) }
    where_none (Some x) q ne = record { when = λ h. absurd (none-some x (sym h.0)); only = λ s. absurd (ne x s) }

    -- where x is there, it is said exactly when Q holds of x
    pub where_some : (o : Option T) (Q : T → Type 0) → (f (way None) ≡ n ∷ [] → ⊥) → ((x : T) → Exactly n (f (way (Some x))) (Q x))
        → Exactly n (f (way o)) ((x : T) × (o ≡ Some x) × Q x)
    where_some None Q ne q = record { when = λ h. absurd (none-some h.0 h.1); only = λ s. absurd (ne s) }
    where_some (Some x) Q ne q = record { when = λ h. (q x).when (subst Q (some_one (sym h.1)) h.2); only = λ s. (x, refl, (q x).only s) }
