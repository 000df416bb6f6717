-- A lent list whose first n elements are live: what is made of the live elements where one goes in or out, and what is left past them. The elements
-- are of any type.
use Prim.Native.Nat.{ℕ, zero, suc, ◌-◌, ◌≤◌, ◌<◌}
use mathlib.Core.Path.{◌≡◌, refl, sym, ap, ◌∙◌}
use mathlib.Core.List.{List, [], ◌∷◌}
use native.Mathlib.Omega.{arith}
use lib.ListN.{length, get_or, take, drop}
use lib.Seq.{take-nil, drop-nil}
use Rattle.rules.specs.Held.{insert_at, drop_at, added, removed}

module _ {A : Type 0} where
  pub length_insert : (i : ℕ) (a : A) (xs : List A) → length (insert_at i a xs) ≡ suc (length xs)
  length_insert zero a xs = refl
  length_insert (suc i) a [] = refl
  length_insert (suc i) a (x ∷ xs) = ap suc (length_insert i a xs)

  pub length_drop_at : (i : ℕ) (xs : List A) → i < length xs → suc (length (drop_at i xs)) ≡ length xs
  length_drop_at i [] h = absurd (omega arith)
  length_drop_at zero (x ∷ xs) h = refl
  length_drop_at (suc i) (x ∷ xs) h = ap suc (length_drop_at i xs (omega arith))

  pub length_added : (n i : ℕ) (v : A) (xs : List A) → n < length xs → length (added n i v xs) ≡ length xs
  unfolding added
  length_added n i v xs h = length_insert i v (drop_at n xs) ∙ length_drop_at n xs h

  pub length_removed : (d : A) (n i : ℕ) (xs : List A) → i < length xs → length (removed d n i xs) ≡ length xs
  unfolding removed
  length_removed d n i xs h = length_insert (n - 1) _ (drop_at i xs) ∙ length_drop_at i xs h

  -- ---- what a caller wants: the live elements, before and after
  take_insert : (n i : ℕ) (a : A) (xs : List A) → i ≤ n → take (suc n) (insert_at i a xs) ≡ insert_at i a (take n xs)
  take_insert n zero a xs h = refl
  take_insert zero (suc i) a xs h = absurd (omega arith)
  take_insert (suc n) (suc i) a [] h = refl
  take_insert (suc n) (suc i) a (x ∷ xs) h = ap (λ (l : List A). x ∷ l) (take_insert n i a xs (omega arith))

  take_drop : (n : ℕ) (xs : List A) → take n (drop_at n xs) ≡ take n xs
  take_drop zero xs = refl
  take_drop (suc n) [] = refl
  take_drop (suc n) (x ∷ xs) = ap (λ (l : List A). x ∷ l) (take_drop n xs)

  pub live_added : (n i : ℕ) (v : A) (xs : List A) → i ≤ n → take (suc n) (added n i v xs) ≡ insert_at i v (take n xs)
  unfolding added
  live_added n i v xs h = take_insert n i v (drop_at n xs) h ∙ ap (insert_at i v) (take_drop n xs)

  take_insert_below : (n : ℕ) (a : A) (xs : List A) → n ≤ length xs → take n (insert_at n a xs) ≡ take n xs
  take_insert_below zero a xs h = refl
  take_insert_below (suc n) a [] h = absurd (omega arith)
  take_insert_below (suc n) a (x ∷ xs) h = ap (λ (l : List A). x ∷ l) (take_insert_below n a xs (omega arith))

  take_dropped : (m i : ℕ) (xs : List A) → i ≤ m → take m (drop_at i xs) ≡ drop_at i (take (suc m) xs)
  take_dropped m i [] h = take-nil m
  take_dropped m zero (x ∷ xs) h = refl
  take_dropped zero (suc i) (x ∷ xs) h = absurd (omega arith)
  take_dropped (suc m) (suc i) (x ∷ xs) h = ap (λ (l : List A). x ∷ l) (take_dropped m i xs (omega arith))

  pub live_removed : (d : A) (m i : ℕ) (xs : List A) → i ≤ m → m < length xs → take m (removed d (suc m) i xs) ≡ drop_at i (take (suc m) xs)
  unfolding removed
  live_removed d m i xs h l =
      let e : suc m - 1 ≡ m = omega arith in
      let z : suc (length (drop_at i xs)) ≡ length xs = length_drop_at i xs (omega arith) in
      rw e (take_insert_below m _ (drop_at i xs) (omega arith) ∙ take_dropped m i xs h)

  -- what stands past the live elements stays
  drop_insert : (n i : ℕ) (a : A) (xs : List A) → i ≤ n → drop (suc n) (insert_at i a xs) ≡ drop n xs
  drop_insert n zero a xs h = refl
  drop_insert zero (suc i) a xs h = absurd (omega arith)
  drop_insert (suc n) (suc i) a [] h = refl
  drop_insert (suc n) (suc i) a (x ∷ xs) h = drop_insert n i a xs (omega arith)

  drop_dropped : (n i : ℕ) (xs : List A) → i ≤ n → drop n (drop_at i xs) ≡ drop (suc n) xs
  drop_dropped n i [] h = drop-nil n
  drop_dropped n zero (x ∷ xs) h = refl
  drop_dropped zero (suc i) (x ∷ xs) h = absurd (omega arith)
  drop_dropped (suc n) (suc i) (x ∷ xs) h = drop_dropped n i xs (omega arith)

  pub past_added : (n i : ℕ) (v : A) (xs : List A) → i ≤ n → drop (suc n) (added n i v xs) ≡ drop (suc n) xs
  unfolding added
  past_added n i v xs h = drop_insert n i v (drop_at n xs) h ∙ drop_dropped n n xs (omega arith)

  drop_inserted : (m : ℕ) (a : A) (xs : List A) → m ≤ length xs → drop m (insert_at m a xs) ≡ a ∷ drop m xs
  drop_inserted zero a xs h = refl
  drop_inserted (suc m) a [] h = absurd (omega arith)
  drop_inserted (suc m) a (x ∷ xs) h = drop_inserted m a xs (omega arith)

  drop_next : (m : ℕ) (d : A) (xs : List A) → m < length xs → drop m xs ≡ get_or xs m d ∷ drop (suc m) xs
  drop_next m d [] h = absurd (omega arith)
  drop_next zero d (x ∷ xs) h = refl
  drop_next (suc m) d (x ∷ xs) h = drop_next m d xs (omega arith)

  -- the last of their places too: what stood there still stands there
  pub past_removed : (d : A) (m i : ℕ) (xs : List A) → i ≤ m → m < length xs → drop m (removed d (suc m) i xs) ≡ drop m xs
  unfolding removed
  past_removed d m i xs h l =
      let e : suc m - 1 ≡ m = omega arith in
      let long : suc (length (drop_at i xs)) ≡ length xs = length_drop_at i xs (omega arith) in
      rw e (drop_inserted m (get_or xs m d) (drop_at i xs) (omega arith) ∙ ap (λ (ys : List A). get_or xs m d ∷ ys) (drop_dropped m i xs h)
      ∙ sym (drop_next m d xs l))
