-- Lists of held rectangles: what holds of each entry and of each two, how many were issued from a bucket, and what a return leaves.
-- They know no tables; the laws are by recursion on the list.
use Prim.Native.Nat.{ℕ, zero, suc, ◌+◌, ◌≤◌, ◌<◌}
use mathlib.Core.Path.{◌≡◌, refl, sym, ap, ◌∙◌}
use mathlib.Core.Logic.{◌≢◌, inl, inr}
use mathlib.Core.List.{List, [], ◌∷◌}
use native.Mathlib.Decide.{ℕ_discrete}
use native.Mathlib.Omega.{arith}
use borrow.Author.Tests.{eq-eqb, ne_eqb}
use lib.ListN.{length}
use Rattle.rules.specs.declared.Allocation.{Allocation}
use Rattle.rules.specs.Ids.{id_bucket}
use Rattle.rules.specs.History.{without, Holds, from_bucket, entry}

-- P holds of each entry
abbrev pub Each : (Allocation → Type 0) → List Allocation → Type 0
Each P [] = Unit {0}
Each P (a ∷ xs) = P a × Each P xs

-- R holds of each two entries at different places
abbrev pub Pairs : (Allocation → Allocation → Type 0) → List Allocation → Type 0
Pairs R [] = Unit {0}
Pairs R (a ∷ xs) = Each (R a) xs × Pairs R xs

-- ---- how many were issued from bucket k

pub from_here : (k : ℕ) (a : Allocation) (xs : List Allocation) → id_bucket a.id ≡ k → from_bucket k (a ∷ xs) ≡ 1 + from_bucket k xs
from_here k a xs e = simp (eq-eqb (id_bucket a.id) k e)

pub from_other : (k : ℕ) (a : Allocation) (xs : List Allocation) → id_bucket a.id ≢ k → from_bucket k (a ∷ xs) ≡ from_bucket k xs
from_other k a xs ne = simp (ne_eqb (id_bucket a.id) k ne) (omega arith)

pub from_less : (k : ℕ) (a : Allocation) (xs : List Allocation) → from_bucket k xs ≤ from_bucket k (a ∷ xs)
from_less k a xs = elim (ℕ_discrete (id_bucket a.id) k) [
  | yes e ↦ omega (arith, from_here k a xs e)
  | no ne ↦ omega (arith, from_other k a xs ne)
]

-- a held id is counted
pub from_held : (id : ℕ) (xs : List Allocation) → Holds id xs → 0 < from_bucket (id_bucket id) xs
from_held id [] h = absurd h
from_held id (a ∷ xs) (inl e) = omega (arith, from_here (id_bucket id) a xs (ap id_bucket e))
from_held id (a ∷ xs) (inr h) = omega (arith, from_held id xs h, from_less (id_bucket id) a xs)

-- ---- each entry, and each two

-- of each entry, whose bucket then has one
pub each_map : (P Q : Allocation → Type 0) (xs : List Allocation)
    → ((a : Allocation) → 0 < from_bucket (id_bucket a.id) xs → P a → Q a) → Each P xs → Each Q xs
each_map P Q [] f p = tt
each_map P Q (a ∷ xs) f p = (
  f a (omega (arith, from_here (id_bucket a.id) a xs refl)) p.0,
  each_map P Q xs (λ b l q. f b (omega (arith, l, from_less (id_bucket b.id) a xs)) q) p.1,
)

pub each_at : (P : Allocation → Type 0) (xs : List Allocation) → Each P xs → (i : ℕ) → i < length xs → P (entry xs i)
each_at P [] p i l = absurd (omega arith)
each_at P (a ∷ xs) p zero l = p.0
each_at P (a ∷ xs) p (suc i) l = each_at P xs p.1 i (omega arith)

pub each_held : (P : Allocation → Type 0) (xs : List Allocation) (id : ℕ) → Each P xs → Holds id xs → (a : Allocation) × (a.id ≡ id) × P a
each_held P [] id p h = absurd h
each_held P (a ∷ xs) id p (inl e) = (a, e, p.0)
each_held P (a ∷ xs) id p (inr h) = each_held P xs id p.1 h

pub pairs_map : (R S : Allocation → Allocation → Type 0) (xs : List Allocation) → ((a b : Allocation) → R a b → S a b) → Pairs R xs → Pairs S xs
pairs_map R S [] f p = tt
pairs_map R S (a ∷ xs) f p = (each_map (R a) (S a) xs (λ b l. f a b) p.0, pairs_map R S xs f p.1)

pub pairs_at : (R : Allocation → Allocation → Type 0) → ((a b : Allocation) → R a b → R b a) → (xs : List Allocation) → Pairs R xs → (i j : ℕ) → i < length xs
    → j < length xs → i ≢ j → R (entry xs i) (entry xs j)
pairs_at R s [] p i j li lj ne = absurd (omega arith)
pairs_at R s (a ∷ xs) p zero zero li lj ne = absurd (ne refl)
pairs_at R s (a ∷ xs) p zero (suc j) li lj ne = each_at (R a) xs p.0 j (omega arith)
pairs_at R s (a ∷ xs) p (suc i) zero li lj ne = s a (entry xs i) (each_at (R a) xs p.0 i (omega arith))
pairs_at R s (a ∷ xs) p (suc i) (suc j) li lj ne = pairs_at R s xs p.1 i j (omega arith) (omega arith) (λ e. ne (ap suc e))

-- ---- what a return leaves

pub without_here : (id : ℕ) (a : Allocation) (xs : List Allocation) → a.id ≡ id → without id (a ∷ xs) ≡ without id xs
without_here id a xs e = simp (eq-eqb a.id id e)

pub without_other : (id : ℕ) (a : Allocation) (xs : List Allocation) → a.id ≢ id → without id (a ∷ xs) ≡ a ∷ without id xs
without_other id a xs ne = simp (ne_eqb a.id id ne)

pub each_without : (P : Allocation → Type 0) (id : ℕ) (xs : List Allocation) → Each P xs → Each P (without id xs)
each_without P id [] p = tt
each_without P id (a ∷ xs) p = elim (ℕ_discrete a.id id) [
  | yes e ↦ rw (without_here id a xs e) (each_without P id xs p.1)
  | no ne ↦ rw (without_other id a xs ne) (p.0, each_without P id xs p.1)
]

pub pairs_without : (R : Allocation → Allocation → Type 0) (id : ℕ) (xs : List Allocation) → Pairs R xs → Pairs R (without id xs)
pairs_without R id [] p = tt
pairs_without R id (a ∷ xs) p = elim (ℕ_discrete a.id id) [
  | yes e ↦ rw (without_here id a xs e) (pairs_without R id xs p.1)
  | no ne ↦ rw (without_other id a xs ne) (each_without (R a) id xs p.0, pairs_without R id xs p.1)
]

-- no other bucket has one less
pub from_without : (id k : ℕ) (xs : List Allocation) → id_bucket id ≢ k → from_bucket k (without id xs) ≡ from_bucket k xs
from_without id k [] ne = refl
from_without id k (a ∷ xs) ne = elim (ℕ_discrete a.id id) [
  | yes e ↦ rw (without_here id a xs e) (from_without id k xs ne ∙ sym (from_other k a xs (λ q. ne (sym (ap id_bucket e) ∙ q))))
  | no n ↦ rw (without_other id a xs n) (let ih = from_without id k xs ne in omega arith)
]

pub without_none : (id : ℕ) (xs : List Allocation) → Each (λ (b : Allocation). b.id ≢ id) xs → without id xs ≡ xs
without_none id [] p = refl
without_none id (a ∷ xs) p = without_other id a xs p.0 ∙ ap (λ (ys : List Allocation). a ∷ ys) (without_none id xs p.1)

-- and the id's bucket one less: one entry has that id
pub from_returned : (id : ℕ) (xs : List Allocation) → Pairs (λ (a b : Allocation). a.id ≢ b.id) xs → Holds id xs
    → from_bucket (id_bucket id) (without id xs) + 1 ≡ from_bucket (id_bucket id) xs
from_returned id [] p h = absurd h
from_returned id (a ∷ xs) p h = elim (ℕ_discrete a.id id) [
  | yes e ↦
      let others : without id xs ≡ xs =
      without_none id xs (each_map (λ (b : Allocation). a.id ≢ b.id) (λ (b : Allocation). b.id ≢ id) xs (λ b l ne q. ne (e ∙ sym q)) p.0) in
      rw (without_here id a xs e) (omega (arith, ap (from_bucket (id_bucket id)) others, from_here (id_bucket id) a xs (ap id_bucket e)))
  | no ne ↦ elim h [
    | inl e ↦ absurd (ne e)
    | inr q ↦ rw (without_other id a xs ne) (let ih = from_returned id xs p.1 q in omega arith)
  ]
]
