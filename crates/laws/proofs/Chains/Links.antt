-- One chain: it is determined by its start, it depends on the links of its members alone, a bounded walk finds it, and it has at most n
-- members if none stands twice.
use Prim.Native.Nat.{ℕ, zero, suc, ◌≤◌, ◌<◌}
use mathlib.Core.Path.{◌≡◌, refl, sym, ap, ◌∙◌, subst, ap₂}
use mathlib.Core.Logic.{◌≢◌}
use mathlib.Core.List.{List, [], ◌∷◌}
use native.Mathlib.Decide.{ℕ_discrete, dec_lt}
use native.Mathlib.Omega.{arith}
use borrow.Author.Tests.{eq-eqb, ne_eqb}
use lib.ListN.{length}
use Rattle.rules.specs.Limits.{records_most, none}
use Rattle.rules.specs.Chains.{count, sum_to, next, hit, chain_from, chain, Linked}
use Rattle.laws.proofs.Chains.Count.{hit_same, hit_other, hit_eq, sum_le, sum_ones, sum_zeros, sum_add, sum_change}

-- the start may be replaced by an equal one
pub linked_start : (f : ℕ → ℕ) (n i j : ℕ) (xs : List ℕ) → i ≡ j → Linked f n i xs → Linked f n j xs
linked_start f n i j xs e p = subst (λ (k : ℕ). Linked f n k xs) e p

pub linked_same : (f : ℕ → ℕ) (n i : ℕ) (xs ys : List ℕ) → n ≤ none → Linked f n i xs → Linked f n i ys → xs ≡ ys
linked_same f n i [] [] hn p q = refl
linked_same f n i [] (y ∷ ys) hn p q = absurd (omega arith)
linked_same f n i (x ∷ xs) [] hn p q = absurd (omega arith)
linked_same f n i (x ∷ xs) (y ∷ ys) hn p q =
    let e : x ≡ y = omega arith in
    ap₂ (λ (z : ℕ) (zs : List ℕ). z ∷ zs) e (linked_same f n (f y) xs ys hn (linked_start f n (f x) (f y) xs (ap f e) p.2) q.2)

-- the chain depends on the links of its members alone
pub linked_frame : (f g : ℕ → ℕ) (n n' i : ℕ) (xs : List ℕ) → n ≤ n' → ((k : ℕ) → 0 < count k xs → g k ≡ f k) → Linked f n i xs → Linked g n' i xs
linked_frame f g n n' i [] h e p = p
linked_frame f g n n' i (x ∷ xs) h e p =
    let here : g x ≡ f x = e x (omega (arith, hit_same x)) in
    (p.0, omega arith, linked_start g n' (f x) (g x) xs (sym here) (linked_frame f g n n' (f x) xs h (λ k l. e k (omega arith)) p.2))

-- a store at an index that is not in it keeps it
pub linked_apart : (f g : ℕ → ℕ) (n n' i j : ℕ) (xs : List ℕ) → n ≤ n' → ((k : ℕ) → k ≢ j → g k ≡ f k) → count j xs ≡ 0 → Linked f n i xs → Linked g n' i xs
linked_apart f g n n' i j xs h e z p =
    linked_frame f g n n' i xs h (λ k l. e k (λ q. let w : count k xs ≡ count j xs = ap (λ (a : ℕ). count a xs) q in omega arith)) p

-- nothing at or past n is in it
pub linked_past : (f : ℕ → ℕ) (n i : ℕ) (xs : List ℕ) (k : ℕ) → Linked f n i xs → n ≤ k → count k xs ≡ 0
linked_past f n i [] k p h = refl
linked_past f n i (x ∷ xs) k p h = omega (arith, hit_other k x (omega arith), linked_past f n (f x) xs k p.2 h)

pub linked_below : (f : ℕ → ℕ) (n i : ℕ) (xs : List ℕ) (k : ℕ) → Linked f n i xs → 0 < count k xs → k < n
linked_below f n i xs k p h = elim (dec_lt k n) [ yes l ↦ l | no a ↦ absurd (omega (arith, linked_past f n i xs k p (omega arith))) ]

-- a walk of enough steps finds it
pub walk_is : (d : ℕ) (f : ℕ → ℕ) (n i : ℕ) (xs : List ℕ) → n ≤ none → Linked f n i xs → length xs ≤ d → chain_from d f i ≡ xs
unfolding chain_from
walk_is zero f n i [] hn p h = refl
walk_is zero f n i (x ∷ xs) hn p h = absurd (omega arith)
walk_is (suc d) f n i [] hn p h = simp (eq-eqb i none p)
walk_is (suc d) f n i (x ∷ xs) hn p h =
    let ih : chain_from d f (f x) ≡ xs = walk_is d f n (f x) xs hn p.2 (omega arith) in
    let e : i ≡ x = p.0 in
    simp (ne_eqb x none (omega arith), e, ih)

pub walk_length : (d : ℕ) (f : ℕ → ℕ) (i : ℕ) → length (chain_from d f i) ≤ d
unfolding chain_from
walk_length zero f i = omega arith
walk_length (suc d) f i = elim (ℕ_discrete i none) [
  | yes e ↦ simp (eq-eqb i none e) (omega arith)
  | no ne ↦ let ih = walk_length d f (f i) in simp (ne_eqb i none ne) (omega arith)
]

-- a chain as it is computed, one step on: what a loop over a chain turns by
pub record ChainStep (b : List ℕ) (n i : ℕ) : Type 0 where
  pub below : i < n
  pub turn : chain b i ≡ i ∷ chain b (next b i)
  pub rest : Linked (next b) n (next b i) (chain b (next b i))

step_of : (b : List ℕ) (n i : ℕ) (xs : List ℕ) → n ≤ none → i ≢ none → chain b i ≡ xs → Linked (next b) n i xs → ChainStep b n i
unfolding chain
step_of b n i [] hn ne e p = absurd (ne p)
step_of b n i (x ∷ xs) hn ne e p =
    let q : x ≡ i = sym p.0 in
    let len : suc (length xs) ≤ records_most = rw e at (walk_length records_most (next b) i) in
    let tail : Linked (next b) n (next b i) xs = linked_start (next b) n (next b x) (next b i) xs (ap (next b) q) p.2 in
    let is : chain_from records_most (next b) (next b i) ≡ xs = walk_is records_most (next b) n (next b i) xs hn tail (omega arith) in
    record {
      below = omega arith;
      turn = e ∙ ap₂ (λ (z : ℕ) (zs : List ℕ). z ∷ zs) q (sym is);
      rest = rw is tail;
    }

pub chain_step : (b : List ℕ) (n i : ℕ) → n ≤ none → Linked (next b) n i (chain b i) → i ≢ none → ChainStep b n i
chain_step b n i hn p ne = step_of b n i (chain b i) hn ne refl p

pub chain_end : (b : List ℕ) (i : ℕ) → i ≡ none → chain b i ≡ []
unfolding chain
chain_end b i e = walk_is records_most (next b) 0 i [] (omega arith) e (omega arith)

pub chain_length : (b : List ℕ) (i : ℕ) → length (chain b i) ≤ records_most
unfolding chain
chain_length b i = walk_length records_most (next b) i

pub chain_of_law : (b : List ℕ) (n i : ℕ) (xs : List ℕ) → n ≤ none → Linked (next b) n i xs → length xs ≤ records_most → chain b i ≡ xs
unfolding chain
chain_of_law b n i xs hn p l = walk_is records_most (next b) n i xs hn p l

pub chain_falls : {b : List ℕ} {n i : ℕ} → ChainStep b n i → length (chain b (next b i)) < length (chain b i)
chain_falls s = rw s.turn (omega arith)

-- ---- a chain that ends never comes back: no index stands in it twice

-- what follows a member is a chain that starts with it
linked_from : (f : ℕ → ℕ) (n i : ℕ) (xs : List ℕ) (k : ℕ) → Linked f n i xs → 0 < count k xs → (ys : List ℕ) × Linked f n k ys × (length ys ≤ length xs)
linked_from f n i [] k p h = absurd (omega arith)
linked_from f n i (x ∷ xs) k p h = elim (ℕ_discrete k x) [
  | yes e ↦ (x ∷ xs, linked_start f n i k (x ∷ xs) (omega arith) p, omega arith)
  | no ne ↦
      let r : (ys : List ℕ) × Linked f n k ys × (length ys ≤ length xs) = linked_from f n (f x) xs k p.2 (omega (arith, hit_other k x ne)) in
      (r.0, r.1, omega (arith, r.2))
]

pub linked_once : (f : ℕ → ℕ) (n i : ℕ) (xs : List ℕ) (k : ℕ) → n ≤ none → Linked f n i xs → count k xs ≤ 1
linked_once f n i [] k hn p = omega arith
linked_once f n i (x ∷ xs) k hn p =
    let ih = linked_once f n (f x) xs k hn p.2 in
    elim (ℕ_discrete k x) [
      | no ne ↦ omega (arith, hit_other k x ne)
      | yes e ↦ elim (dec_lt 0 (count k xs)) [
        | no z ↦ omega (arith, hit_eq k x e)
        | yes l ↦
            let r = linked_from f n (f x) xs k p.2 l in
            let same : r.0 ≡ x ∷ xs = linked_same f n k r.0 (x ∷ xs) hn r.1 (linked_start f n i k (x ∷ xs) (omega arith) p) in
            absurd (omega (arith, r.2, ap length same))
      ]
    ]

-- ---- the lengths

sum_hits : (n x : ℕ) → x < n → sum_to n (λ k. hit k x) ≡ 1
sum_hits n x l =
    omega (arith, sum_zeros n, hit_same x, sum_change n x (λ k. 0) (λ k. hit k x) l (λ i a b. hit_other i x b))

-- the counts of the indices below n add up to the length
pub sum_counts : (f : ℕ → ℕ) (n i : ℕ) (xs : List ℕ) → Linked f n i xs → sum_to n (λ k. count k xs) ≡ length xs
sum_counts f n i [] p = sum_zeros n
sum_counts f n i (x ∷ xs) p =
    omega (arith, sum_add n (λ k. hit k x) (λ k. count k xs), sum_hits n x p.1, sum_counts f n (f x) xs p.2)

-- the pigeons: none stands twice, so there are at most n
pub linked_length : (f : ℕ → ℕ) (n i : ℕ) (xs : List ℕ) → Linked f n i xs → ((k : ℕ) → k < n → count k xs ≤ 1) → length xs ≤ n
linked_length f n i xs p u =
    omega (arith, sum_counts f n i xs p, sum_ones n, sum_le n (λ k. count k xs) (λ k. 1) u)
