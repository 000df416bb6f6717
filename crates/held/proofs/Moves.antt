-- What `copy_within` makes of a list by one place up or down: what goes in and out of the first n elements.
use Prim.Native.Nat.{ℕ, zero, suc, ◌+◌, ◌-◌, ◌≤◌, ◌<◌}
use mathlib.Core.Path.{◌≡◌, refl, ap, ◌∙◌}
use mathlib.Core.List.{List, [], ◌∷◌, ◌++◌}
use native.Mathlib.Omega.{arith}
use lib.ListN.{length, get_or, set, take, drop}
use lib.Seq.{take-nil}
use Rattle.std.specs.List.{copy_within}
use Rattle.rules.specs.Held.{insert_at, drop_at, added, removed}

module _ {A : Type 0} where
  without : (i : ℕ) (xs : List A) → take i xs ++ drop (suc i) xs ≡ drop_at i xs
  without i [] = simp take-nil
  without zero (x ∷ xs) = refl
  without (suc i) (x ∷ xs) = ap (λ (l : List A). x ∷ l) (without i xs)

  opened : (i m : ℕ) (v : A) (xs : List A) → i + m < length xs
      → set ((take (suc i) xs ++ take m (drop i xs)) ++ drop (suc (i + m)) xs) i v ≡ insert_at i v (drop_at (i + m) xs)
  opened i m v [] h = absurd (omega arith)
  opened zero m v (x ∷ xs) h = let e : 0 + m ≡ m = omega arith in rw e (ap (λ (l : List A). v ∷ l) (without m (x ∷ xs)))
  opened (suc i) m v (x ∷ xs) h =
      let e : suc i + m ≡ suc (i + m) = omega arith in
      rw e (ap (λ (l : List A). x ∷ l) (opened i m v xs (omega arith)))

  pub moved_up : (n i : ℕ) (v : A) (xs : List A) → i ≤ n → n < length xs → set (copy_within xs i n (i + 1)) i v ≡ added n i v xs
  unfolding added
  moved_up n i v xs l h =
      let next : i + 1 ≡ suc i = omega arith in
      let end : suc i + (n - i) ≡ suc (i + (n - i)) = omega arith in
      let all : i + (n - i) ≡ n = omega arith in
      let e : set ((take (suc i) xs ++ take (n - i) (drop i xs)) ++ drop (suc (i + (n - i))) xs) i v ≡ insert_at i v (drop_at (i + (n - i)) xs) =
      opened i (n - i) v xs (omega arith) in
      rw (next, end) (e ∙ ap (λ (k : ℕ). insert_at i v (drop_at k xs)) all)

  shifted : (m : ℕ) (x d : A) (xs : List A) → m ≤ length xs → take m xs ++ drop m (x ∷ xs) ≡ insert_at m (get_or (x ∷ xs) m d) xs
  shifted zero x d xs h = refl
  shifted (suc m) x d [] h = absurd (omega arith)
  shifted (suc m) x d (y ∷ xs) h = ap (λ (l : List A). y ∷ l) (shifted m y d xs (omega arith))

  closed : (i m : ℕ) (d : A) (xs : List A) → i + m < length xs
      → (take i xs ++ take m (drop (suc i) xs)) ++ drop (i + m) xs ≡ insert_at (i + m) (get_or xs (i + m) d) (drop_at i xs)
  closed i m d [] h = absurd (omega arith)
  closed zero m d (x ∷ xs) h = let e : 0 + m ≡ m = omega arith in rw e (shifted m x d xs (omega arith))
  closed (suc i) m d (x ∷ xs) h =
      let e : suc i + m ≡ suc (i + m) = omega arith in
      rw e (ap (λ (l : List A). x ∷ l) (closed i m d xs (omega arith)))

  pub moved_down : (n i : ℕ) (d : A) (xs : List A) → i < n → n ≤ length xs → copy_within xs (i + 1) n i ≡ removed d n i xs
  unfolding removed
  moved_down n i d xs l h =
      let next : i + 1 ≡ suc i = omega arith in
      let end : i + (n - suc i) ≡ n - 1 = omega arith in
      rw (next, end) (rw end at (closed i (n - suc i) d xs (omega arith)))
