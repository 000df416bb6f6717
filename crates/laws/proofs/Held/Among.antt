-- Lists of rectangles with one more or one less: what holds of each entry and of each two stays, wherever the one goes in; what stands among them;
-- how many there are, bucket by bucket. They know no tables; the laws are by recursion on the list.
use Prim.Native.Nat.{ℕ, zero, suc, ◌≤◌, ◌<◌}
use mathlib.Core.Path.{◌≡◌, refl, sym, ap, ◌∙◌, subst}
use mathlib.Core.Logic.{◌≢◌, ◌⊎◌, inl, inr}
use mathlib.Core.List.{List, [], ◌∷◌}
use native.Mathlib.Decide.{ℕ_discrete, dec_lt}
use native.Mathlib.Omega.{arith}
use borrow.Author.Tests.{eq-eqb, ne_eqb}
use lib.ListN.{length}
use Rattle.rules.specs.declared.Allocation.{Allocation}
use Rattle.rules.specs.Ids.{id_bucket}
use Rattle.rules.specs.Chains.{sum_to}
use Rattle.rules.specs.Held.{entry, from_bucket, insert_at, drop_at, place_of}
use Rattle.rules.specs.History.{without, Holds}
use Rattle.laws.proofs.Chains.Count.{sum_change, sum_zeros}
use Rattle.laws.proofs.Held.Each.{Each, Pairs, each_map, without_here, without_other, without_none, from_here, from_other}

-- ---- one more, at place i

pub each_insert : (P : Allocation → Type 0) (i : ℕ) (a : Allocation) (xs : List Allocation) → Each P (a ∷ xs) → Each P (insert_at i a xs)
each_insert P zero a xs p = p
each_insert P (suc i) a [] p = p
each_insert P (suc i) a (x ∷ xs) p = (p.1.0, each_insert P i a xs (p.0, p.1.1))

pub pairs_insert : (R : Allocation → Allocation → Type 0) → ((a b : Allocation) → R a b → R b a) → (i : ℕ) (a : Allocation) (xs : List Allocation)
    → Pairs R (a ∷ xs) → Pairs R (insert_at i a xs)
pairs_insert R s zero a xs p = p
pairs_insert R s (suc i) a [] p = p
pairs_insert R s (suc i) a (x ∷ xs) p =
    (each_insert (R x) i a xs (s a x p.0.0, p.1.0), pairs_insert R s i a xs (p.0.1, p.1.1))

pub from_insert : (k i : ℕ) (a : Allocation) (xs : List Allocation) → from_bucket k (insert_at i a xs) ≡ from_bucket k (a ∷ xs)
from_insert k zero a xs = refl
from_insert k (suc i) a [] = refl
from_insert k (suc i) a (x ∷ xs) = let ih = from_insert k i a xs in omega arith

-- ---- one less: a list whose ids are distinct, without the first that has the id

pub without_drop : (id : ℕ) (xs : List Allocation) → Pairs (λ (a b : Allocation). a.id ≢ b.id) xs → without id xs ≡ drop_at (place_of id xs) xs
unfolding place_of
without_drop id [] p = refl
without_drop id (a ∷ xs) p = elim (ℕ_discrete a.id id) [
  | yes e ↦
      let others : without id xs ≡ xs =
      without_none id xs (each_map (λ (b : Allocation). a.id ≢ b.id) (λ (b : Allocation). b.id ≢ id) xs (λ b l ne q. ne (e ∙ sym q)) p.0) in
      without_here id a xs e ∙ simp (eq-eqb a.id id e) others
  | no ne ↦ without_other id a xs ne ∙ simp (ne_eqb a.id id ne) (ap (λ (l : List Allocation). a ∷ l) (without_drop id xs p.1))
]

-- ---- the place of an id

pub place_most : (id : ℕ) (xs : List Allocation) → place_of id xs ≤ length xs
unfolding place_of
place_most id [] = omega arith
place_most id (a ∷ xs) = elim (ℕ_discrete a.id id) [
  | yes e ↦ simp (eq-eqb a.id id e) (omega arith)
  | no ne ↦ simp (ne_eqb a.id id ne) (let ih = place_most id xs in omega arith)
]

pub place_holds : (id : ℕ) (xs : List Allocation) → place_of id xs < length xs → Holds id xs
unfolding place_of
place_holds id [] l = absurd (omega arith)
place_holds id (a ∷ xs) l = elim (ℕ_discrete a.id id) [
  | yes e ↦ inl e
  | no ne ↦ inr (place_holds id xs (let s : place_of id (a ∷ xs) ≡ suc (place_of id xs) = simp (ne_eqb a.id id ne) in omega arith))
]

pub holds_place : (id : ℕ) (xs : List Allocation) → Holds id xs → place_of id xs < length xs
unfolding place_of
holds_place id [] h = absurd h
holds_place id (a ∷ xs) h = elim (ℕ_discrete a.id id) [
  | yes e ↦ simp (eq-eqb a.id id e) (omega arith)
  | no ne ↦ elim h [
    | inl e ↦ absurd (ne e)
    | inr q ↦ simp (ne_eqb a.id id ne) (let ih = holds_place id xs q in omega arith)
  ]
]

-- ---- what stands among them

abbrev pub Among : Allocation → List Allocation → Type 0
Among b [] = ⊥
Among b (a ∷ xs) = (a ≡ b) ⊎ Among b xs

-- the same entries, in whatever order
pub record SameEntries (xs ys : List Allocation) : Type 0 where
  pub there : (b : Allocation) → Among b xs → Among b ys
  pub back : (b : Allocation) → Among b ys → Among b xs

pub among_holds : (b : Allocation) (xs : List Allocation) → Among b xs → Holds b.id xs
among_holds b [] h = absurd h
among_holds b (a ∷ xs) (inl e) = inl (ap (λ (z : Allocation). z.id) e)
among_holds b (a ∷ xs) (inr h) = inr (among_holds b xs h)

pub holds_among : (id : ℕ) (xs : List Allocation) → Holds id xs → (b : Allocation) × (b.id ≡ id) × Among b xs
holds_among id [] h = absurd h
holds_among id (a ∷ xs) (inl e) = (a, e, inl refl)
holds_among id (a ∷ xs) (inr h) = let q = holds_among id xs h in (q.0, q.1, inr q.2)

pub same_holds : {xs ys : List Allocation} → SameEntries xs ys → (id : ℕ) → Holds id xs → Holds id ys
same_holds {xs} {ys} s id h =
    let q = holds_among id xs h in
    subst (λ (z : ℕ). Holds z ys) q.1 (among_holds q.0 ys (s.there q.0 q.2))

pub among_insert : (b : Allocation) (i : ℕ) (a : Allocation) (xs : List Allocation) → Among b (a ∷ xs) → Among b (insert_at i a xs)
among_insert b zero a xs h = h
among_insert b (suc i) a [] h = h
among_insert b (suc i) a (x ∷ xs) (inl e) = inr (among_insert b i a xs (inl e))
among_insert b (suc i) a (x ∷ xs) (inr (inl e)) = inl e
among_insert b (suc i) a (x ∷ xs) (inr (inr h)) = inr (among_insert b i a xs (inr h))

pub insert_among : (b : Allocation) (i : ℕ) (a : Allocation) (xs : List Allocation) → Among b (insert_at i a xs) → Among b (a ∷ xs)
insert_among b zero a xs h = h
insert_among b (suc i) a [] h = h
insert_among b (suc i) a (x ∷ xs) (inl e) = inr (inl e)
insert_among b (suc i) a (x ∷ xs) (inr h) = behind (insert_among b i a xs h)
  where
    behind : (a ≡ b) ⊎ Among b xs → Among b (a ∷ x ∷ xs)
    behind (inl e) = inl e
    behind (inr q) = inr (inr q)

pub among_without : (b : Allocation) (id : ℕ) (xs : List Allocation) → b.id ≢ id → Among b xs → Among b (without id xs)
among_without b id [] ne h = absurd h
among_without b id (a ∷ xs) ne h = elim (ℕ_discrete a.id id) [
  | yes e ↦ rw (without_here id a xs e) (elim h [
    | inl q ↦ absurd (ne (sym (ap (λ (z : Allocation). z.id) q) ∙ e))
    | inr q ↦ among_without b id xs ne q
  ])
  | no n ↦ rw (without_other id a xs n) (elim h [ inl q ↦ inl q | inr q ↦ inr (among_without b id xs ne q) ])
]

pub without_among : (b : Allocation) (id : ℕ) (xs : List Allocation) → Among b (without id xs) → (b.id ≢ id) × Among b xs
without_among b id [] h = absurd h
without_among b id (a ∷ xs) h = elim (ℕ_discrete a.id id) [
  | yes e ↦ let q = without_among b id xs (rw (without_here id a xs e) at h) in (q.0, inr q.1)
  | no n ↦ elim (other n) [
    | inl q ↦ (λ z. n (ap (λ (c : Allocation). c.id) q ∙ z), inl q)
    | inr q ↦ let r = without_among b id xs q in (r.0, inr r.1)
  ]
]
  where
    other : a.id ≢ id → (a ≡ b) ⊎ Among b (without id xs)
    other n = rw (without_other id a xs n) at h

pub same_insert : {xs ys : List Allocation} (i : ℕ) (a : Allocation) → SameEntries xs ys → SameEntries (insert_at i a xs) (a ∷ ys)
same_insert {xs} {ys} i a s = record {
  there = λ b h. elim (insert_among b i a xs h) [ inl e ↦ inl e | inr q ↦ inr (s.there b q) ];
  back = λ b h. among_insert b i a xs (elim h [ inl e ↦ inl e | inr q ↦ inr (s.back b q) ]);
}

pub same_without : {xs ys : List Allocation} (id : ℕ) → SameEntries xs ys → SameEntries (without id xs) (without id ys)
same_without {xs} {ys} id s = record {
  there = λ b h. let q = without_among b id xs h in among_without b id ys q.0 (s.there b q.1);
  back = λ b h. let q = without_among b id ys h in among_without b id xs q.0 (s.back b q.1);
}

pub same_refl : (xs : List Allocation) → SameEntries xs xs
same_refl xs = record { there = λ b h. h; back = λ b h. h }

-- by its place
pub among_at : (xs : List Allocation) (i : ℕ) → i < length xs → Among (entry xs i) xs
among_at [] i l = absurd (omega arith)
among_at (a ∷ xs) zero l = inl refl
among_at (a ∷ xs) (suc i) l = inr (among_at xs i (omega arith))

pub at_among : (b : Allocation) (xs : List Allocation) → Among b xs → (i : ℕ) × (i < length xs) × (entry xs i ≡ b)
at_among b [] h = absurd h
at_among b (a ∷ xs) (inl e) = (0, omega arith, e)
at_among b (a ∷ xs) (inr h) = let q = at_among b xs h in (suc q.0, omega (arith, q.1), q.2)

-- ---- what holds at every place holds of each

pub each_of : (P : Allocation → Type 0) (xs : List Allocation) → ((i : ℕ) → i < length xs → P (entry xs i)) → Each P xs
each_of P [] p = tt
each_of P (a ∷ xs) p = (p 0 (omega arith), each_of P xs (λ i l. p (suc i) (omega arith)))

pub pairs_of : (R : Allocation → Allocation → Type 0) (xs : List Allocation)
    → ((i j : ℕ) → i < length xs → j < length xs → i ≢ j → R (entry xs i) (entry xs j)) → Pairs R xs
pairs_of R [] p = tt
pairs_of R (a ∷ xs) p = (
  each_of (R a) xs (λ j l. p 0 (suc j) (omega arith) (omega arith) (λ e. omega arith)),
  pairs_of R xs (λ i j li lj ne. p (suc i) (suc j) (omega arith) (omega arith) (λ e. ne (omega arith))),
)

-- ---- how many: where no bucket from m on has one, the buckets below m have all of them

pub from_sum : (m : ℕ) (xs : List Allocation) → ((k : ℕ) → m ≤ k → from_bucket k xs ≡ 0) → sum_to m (λ k. from_bucket k xs) ≡ length xs
from_sum m [] z = sum_zeros m
from_sum m (a ∷ xs) z =
    let k : ℕ = id_bucket a.id in
    let l : k < m = elim (dec_lt k m) [ yes q ↦ q | no q ↦ absurd (omega (arith, z k (omega arith), from_here k a xs refl)) ] in
    let rest : (j : ℕ) → m ≤ j → from_bucket j xs ≡ 0 = λ j q. sym (from_other j a xs (λ e. omega arith)) ∙ z j q in
    let one = sum_change m k (λ j. from_bucket j xs) (λ j. from_bucket j (a ∷ xs)) l (λ j b ne. from_other j a xs (λ e. ne (sym e))) in
    omega (arith, one, from_here k a xs refl, from_sum m xs rest)
