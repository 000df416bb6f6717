-- Counting: how often an index stands in a list, sums over the indices below a bound, and sums over a list.
-- An index is in a list where its count is not 0; "exactly one chain" is a sum of counts that is 1.
use Prim.Native.Nat.{ℕ, zero, suc, ◌+◌, ◌*◌, ◌≤◌, ◌<◌}
use mathlib.Core.Path.{◌≡◌, refl, sym, ap}
use mathlib.Core.Logic.{◌≢◌}
use mathlib.Core.List.{List, [], ◌∷◌, ◌++◌}
use native.Mathlib.Decide.{ℕ_discrete, dec_lt}
use native.Mathlib.Nat.{add-mul, mul-add, mul-zero, zero-mul}
use native.Mathlib.Omega.{arith}
use borrow.Author.Tests.{eq-eqb, ne_eqb}
use lib.Dec.{eqb}
use Rattle.std.specs.Prelude.{if◌then◌else◌}
use Rattle.rules.specs.Chains.{count, In, sum_to, sum_of, hit}

-- g, with v at s
unfoldable pub upd : {A : Type 0} → (ℕ → A) → ℕ → A → ℕ → A
upd g s v i = if eqb i s then v else g i

pub hit_same : (k : ℕ) → hit k k ≡ 1
unfolding hit
hit_same k = simp (eq-eqb k k refl)

pub hit_other : (k x : ℕ) → k ≢ x → hit k x ≡ 0
unfolding hit
hit_other k x ne = simp (ne_eqb k x ne)

pub hit_eq : (k x : ℕ) → k ≡ x → hit k x ≡ 1
unfolding hit
hit_eq k x e = simp (eq-eqb k x e)

pub upd_same : {A : Type 0} (g : ℕ → A) (s : ℕ) (v : A) → upd g s v s ≡ v
unfolding upd
upd_same g s v = simp (eq-eqb s s refl)

pub upd_other : {A : Type 0} (g : ℕ → A) (s : ℕ) (v : A) (i : ℕ) → i ≢ s → upd g s v i ≡ g i
unfolding upd
upd_other g s v i ne = simp (ne_eqb i s ne)

pub count_append : (k : ℕ) (xs ys : List ℕ) → count k (xs ++ ys) ≡ count k xs + count k ys
count_append k [] ys = omega arith
count_append k (x ∷ xs) ys = let ih = count_append k xs ys in omega arith

-- ---- sums

pub sum_ext : (m : ℕ) (g g' : ℕ → ℕ) → ((i : ℕ) → i < m → g i ≡ g' i) → sum_to m g ≡ sum_to m g'
sum_ext zero g g' e = refl
sum_ext (suc m) g g' e =
    let ih = sum_ext m g g' (λ i l. e i (omega arith)) in
    omega (arith, e m (omega arith))

pub sum_le : (m : ℕ) (g g' : ℕ → ℕ) → ((i : ℕ) → i < m → g i ≤ g' i) → sum_to m g ≤ sum_to m g'
sum_le zero g g' e = omega arith
sum_le (suc m) g g' e =
    let ih = sum_le m g g' (λ i l. e i (omega arith)) in
    omega (arith, e m (omega arith))

pub sum_ones : (m : ℕ) → sum_to m (λ i. 1) ≡ m
sum_ones zero = refl
sum_ones (suc m) = let ih = sum_ones m in omega arith

pub sum_zeros : (m : ℕ) → sum_to m (λ i. 0) ≡ 0
sum_zeros zero = refl
sum_zeros (suc m) = let ih = sum_zeros m in omega arith

pub sum_add : (m : ℕ) (g g' : ℕ → ℕ) → sum_to m (λ i. g i + g' i) ≡ sum_to m g + sum_to m g'
sum_add zero g g' = refl
sum_add (suc m) g g' = let ih = sum_add m g g' in omega arith

-- a term is at most the sum
pub sum_term : (m i : ℕ) (g : ℕ → ℕ) → i < m → g i ≤ sum_to m g
sum_term zero i g l = absurd (omega arith)
sum_term (suc m) i g l = elim (ℕ_discrete i m) [
  | yes e ↦ omega (arith, ap g e)
  | no ne ↦ omega (arith, sum_term m i g (omega arith))
]

-- one term changes
pub sum_change : (m s : ℕ) (g g' : ℕ → ℕ) → s < m → ((i : ℕ) → i < m → i ≢ s → g' i ≡ g i) → sum_to m g' + g s ≡ sum_to m g + g' s
sum_change zero s g g' l e = absurd (omega arith)
sum_change (suc m) s g g' l e = elim (ℕ_discrete s m) [
  | yes q ↦ omega (arith, ap g q, ap g' q, sum_ext m g g' (λ i j. sym (e i (omega arith) (omega arith))))
  | no ne ↦ omega (arith, sum_change m s g g' (omega arith) (λ i j k. e i (omega arith) k), e m (omega arith) (omega arith))
]

-- two terms are too
pub sum_two : (m i j : ℕ) (g : ℕ → ℕ) → i < j → j < m → g i + g j ≤ sum_to m g
sum_two zero i j g l h = absurd (omega arith)
sum_two (suc m) i j g l h = elim (ℕ_discrete j m) [
  | yes e ↦ omega (arith, ap g e, sum_term m i g (omega arith))
  | no ne ↦ omega (arith, sum_two m i j g l (omega arith))
]

-- a sum that is not 0 has a term that is not
pub sum_some : (m : ℕ) (g : ℕ → ℕ) → 0 < sum_to m g → (i : ℕ) × (i < m) × (0 < g i)
sum_some zero g h = absurd (omega arith)
sum_some (suc m) g h = elim (dec_lt 0 (g m)) [
  | yes l ↦ (m, omega arith, l)
  | no z ↦
      let r : (i : ℕ) × (i < m) × (0 < g i) = sum_some m g (omega arith) in
      (r.0, omega (arith, r.1), r.2)
]

-- ---- over two indices

pub sum_swap : (n m : ℕ) (a : ℕ → ℕ → ℕ) → sum_to n (λ k. sum_to m (λ i. a i k)) ≡ sum_to m (λ i. sum_to n (λ k. a i k))
sum_swap n zero a = sum_zeros n
sum_swap n (suc m) a = omega (arith, sum_add n (λ k. sum_to m (λ i. a i k)) (λ k. a m k), sum_swap n m a)

pub sum_times : (m c : ℕ) (h : ℕ → ℕ) → sum_to m (λ i. c * h i) ≡ c * sum_to m h
sum_times zero c h = sym (mul-zero c)
sum_times (suc m) c h = omega (arith, sum_times m c h, mul-add c (sum_to m h) (h m))

-- ---- sums over a list

pub sum_of_same : (g g' : ℕ → ℕ) (xs : List ℕ) → ((k : ℕ) → In k xs → g' k ≡ g k) → sum_of g' xs ≡ sum_of g xs
sum_of_same g g' [] e = refl
sum_of_same g g' (x ∷ xs) e = omega (arith, e x (omega (arith, hit_same x)), sum_of_same g g' xs (λ k l. e k (omega arith)))

pub sum_of_none : (g : ℕ → ℕ) (xs : List ℕ) → ((k : ℕ) → In k xs → g k ≡ 0) → sum_of g xs ≡ 0
sum_of_none g [] e = refl
sum_of_none g (x ∷ xs) e = omega (arith, e x (omega (arith, hit_same x)), sum_of_none g xs (λ k l. e k (omega arith)))

-- one bucket's weight changes, and it stands there once
pub sum_of_change : (g g' : ℕ → ℕ) (xs : List ℕ) (j : ℕ) → count j xs ≡ 1 → ((k : ℕ) → k ≢ j → g' k ≡ g k) → sum_of g' xs + g j ≡ sum_of g xs + g' j
sum_of_change g g' [] j c e = absurd (omega arith)
sum_of_change g g' (x ∷ xs) j c e = elim (ℕ_discrete j x) [
  | yes q ↦ omega (
    arith,
    hit_eq j x q,
    ap g q,
    ap g' q,
    sum_of_same g g' xs (λ k l. e k (λ z. let w : count k xs ≡ count j xs = ap (λ (a : ℕ). count a xs) z in omega (arith, hit_eq j x q))),
  )
  | no ne ↦ omega (arith, hit_other j x ne, e x (λ z. ne (sym z)), sum_of_change g g' xs j (omega (arith, hit_other j x ne)) e)
]

pub sum_of_append : (g : ℕ → ℕ) (xs ys : List ℕ) → sum_of g (xs ++ ys) ≡ sum_of g xs + sum_of g ys
sum_of_append g [] ys = omega arith
sum_of_append g (x ∷ xs) ys = omega (arith, sum_of_append g xs ys)

pub sum_of_times : (g : ℕ → ℕ) (c : ℕ) (xs : List ℕ) → sum_of (λ k. g k * c) xs ≡ sum_of g xs * c
sum_of_times g c [] = sym (zero-mul c)
sum_of_times g c (x ∷ xs) = omega (arith, sum_of_times g c xs, add-mul (g x) (sum_of g xs) c)

-- a member's weight is at most the sum
pub sum_of_term : (g : ℕ → ℕ) (xs : List ℕ) (k : ℕ) → In k xs → g k ≤ sum_of g xs
sum_of_term g [] k c = absurd (omega arith)
sum_of_term g (x ∷ xs) k c = elim (ℕ_discrete k x) [
  | yes e ↦ omega (arith, ap g e)
  | no ne ↦ omega (arith, sum_of_term g xs k (omega (arith, hit_other k x ne)))
]
