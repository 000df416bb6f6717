-- Lists in the form in which they are lent, as lists of entries: f is the entry that an element is, and all the entries that a list is.
use Prim.Native.Nat.{ℕ, zero, suc, ◌+◌, ◌-◌, ◌*◌, ◌/◌, ◌%◌, ◌≤◌, ◌<◌}
use mathlib.Core.Path.{◌≡◌, refl, sym, ap, ◌∙◌, subst}
use mathlib.Core.List.{List, [], ◌∷◌, map}
use native.Mathlib.Omega.{arith}
use lib.ListN.{length, get_or, set, take, length-map, get_or-map}
use Rattle.std.specs.List.{copy_within}
use Rattle.std.proofs.lemmas.List.{get_or_default, take-map, length-take, length-take-le}
use Rattle.std.proofs.lemmas.List.Folds.{length-prefix_len}
use Rattle.std.proofs.lemmas.Bool.Decides.{nat_tests}
use Rattle.std.specs.Prelude.{Bool, true, false, cond, not, if◌then◌else◌, nat_eq, nat_lt, Some, None, is_some, unwrap_or, position}
use Rattle.std.specs.List.{position_or_len}
use Rattle.rules.specs.declared.Allocation.{Allocation}
use Rattle.rules.specs.Tables.{Atlas}
use Rattle.rules.specs.Sound.{Sound}
use Rattle.rules.specs.Held.{blank, entry, entries, fits, insert_at, drop_at, added, removed, place_of}
use Rattle.entries.specs.Passes.{passed, seen, all_admitted}
use Rattle.entries.proofs.Passes.{pass_fits, admitted_fits}
use Rattle.entries.proofs.Turns.{passed_taken, seen_taken, all_taken, short_fits}
use Rattle.held.specs.Rows.{entry_of, row_of}
use Rattle.held.proofs.Moves.{moved_up, moved_down}

-- an entry comes back from its row
pub entry_row : (a : Allocation) → entry_of (row_of a) ≡ a
unfolding entry_of row_of
entry_row a =
    let e : a.id % 65536 + 65536 * (a.id / 65536) ≡ a.id = omega arith in
    ap (λ (n : ℕ). record { id = n; rectangle = a.rectangle }) e

module _ {A B : Type 0} (f : A → B) where
  map_insert : (i : ℕ) (a : A) (xs : List A) → map f (insert_at i a xs) ≡ insert_at i (f a) (map f xs)
  map_insert zero a xs = refl
  map_insert (suc i) a [] = refl
  map_insert (suc i) a (x ∷ xs) = ap (λ (l : List B). f x ∷ l) (map_insert i a xs)

  map_drop : (i : ℕ) (xs : List A) → map f (drop_at i xs) ≡ drop_at i (map f xs)
  map_drop i [] = refl
  map_drop zero (x ∷ xs) = refl
  map_drop (suc i) (x ∷ xs) = ap (λ (l : List B). f x ∷ l) (map_drop i xs)

  map_added : (n i : ℕ) (v : A) (xs : List A) → map f (added n i v xs) ≡ added n i (f v) (map f xs)
  unfolding added
  map_added n i v xs = map_insert i v (drop_at n xs) ∙ ap (insert_at i (f v)) (map_drop n xs)

  map_removed : (d : A) (e : B) (n i : ℕ) (xs : List A) → i < n → n ≤ length xs → map f (removed d n i xs) ≡ removed e n i (map f xs)
  unfolding removed
  map_removed d e n i xs l h =
      let last : get_or (map f xs) (n - 1) (f d) ≡ get_or (map f xs) (n - 1) e =
      get_or_default (map f xs) (n - 1) (f d) e (omega (arith, length-map xs f)) in
      map_insert (n - 1) (get_or xs (n - 1) d) (drop_at i xs) ∙ ap (insert_at (n - 1) (f (get_or xs (n - 1) d))) (map_drop i xs)
      ∙ ap (λ (b : B). insert_at (n - 1) b (drop_at i (map f xs))) (sym (get_or-map f xs (n - 1) d) ∙ last)

module _ {A : Type 0} (f : A → Allocation) (all : List A → List Allocation) (each : (xs : List A) → all xs ≡ map f xs) where
  pub as_long : (xs : List A) → length (all xs) ≡ length xs
  as_long xs = ap length (each xs) ∙ length-map xs f

  -- x was read at place i
  pub entry_at : (xs : List A) (i : ℕ) (x : A) → i < length xs → x ≡ get_or xs i x → f x ≡ entry (all xs) i
  entry_at xs i x l e =
      ap f e ∙ sym (get_or-map f xs i x) ∙ get_or_default (map f xs) i (f x) blank (omega (arith, length-map xs f))
      ∙ sym (ap (λ (l : List Allocation). entry l i) (each xs))

  pub first_of : (n : ℕ) (xs : List A) → all (take n xs) ≡ take n (all xs)
  first_of n xs = each (take n xs) ∙ sym (take-map f n xs) ∙ sym (ap (take n) (each xs))

  place_is : (id : ℕ) (xs : List A) → position_or_len (λ x. nat_eq (f x).id id) xs ≡ place_of id (map f xs)
  unfolding place_of
  place_is id [] = refl
  place_is id (x ∷ xs) = by (nat_eq (f x).id id) (place_is id xs)
    where
      by : (t : Bool) {k m : ℕ} → k ≡ m → cond (not t) (1 + k) 0 ≡ (if t then 0 else suc m)
      by true e = refl
      by false e = omega arith

  -- the place that `position` finds among the first n, or n
  pub place_found : (n id : ℕ) (xs : List A) → n ≤ length xs
      → unwrap_or (position (λ x. nat_eq (f x).id id) (take n xs)) n ≡ place_of id (take n (all xs))
  place_found n id xs l =
      let ys : List A = take n xs in
      let k : ℕ = position_or_len (λ x. nat_eq (f x).id id) ys in
      let long : length ys ≡ n = length-take-le n xs l in
      let within : k ≤ length ys = omega (arith, length-prefix_len (λ x. not (nat_eq (f x).id id)) ys, length-take k ys) in
      let found : unwrap_or (cond (nat_lt k (length ys)) (Some k) None) (length ys) ≡ k = by k (length ys) within in
      subst (λ (m : ℕ). unwrap_or (position (λ x. nat_eq (f x).id id) ys) m ≡ k) long found ∙ place_is id ys
      ∙ ap (place_of id) (sym (take-map f n xs) ∙ sym (ap (take n) (each xs)))
    where
      by : (k m : ℕ) → k ≤ m → unwrap_or (cond (nat_lt k m) (Some k) None) m ≡ k
      by k m h = grind (arith, nat_tests)

  -- what was seen of the first i by themselves
  pub seen_first : (xs : List A) (i : ℕ) (a : Allocation) → i ≤ length xs
      → seen (all (take i xs)) a (length (take i xs)) ≡ seen (all xs) a i
  seen_first xs i a l =
      rw (length-take-le i xs l, first_of i xs) (seen_taken (all xs) a i i (omega arith))

  -- an entry goes in, and one goes out
  pub entry_in : (n i : ℕ) (v : A) (xs : List A) → i ≤ n → n < length xs → all (set (copy_within xs i n (i + 1)) i v) ≡ added n i (f v) (all xs)
  entry_in n i v xs l h = each _ ∙ ap (map f) (moved_up n i v xs l h) ∙ map_added f n i v xs ∙ sym (ap (added n i (f v)) (each xs))

  pub entry_out : (n i : ℕ) (xs : List A) → i < n → n ≤ length xs → all (copy_within xs (i + 1) n i) ≡ removed blank n i (all xs)
  entry_out n i [] l h = absurd (omega arith)
  entry_out n i (x ∷ xs) l h =
      each _ ∙ ap (map f) (moved_down n i x (x ∷ xs) l h) ∙ map_removed f x blank n i (x ∷ xs) l h ∙ sym (ap (removed blank n i) (each (x ∷ xs)))

  -- ---- the whole test, of the first n entries by themselves
  module _ (g : Atlas) (xs : List A) (n : ℕ) (q : n ≡ entries g) where
    pub fits_short : length xs < n → false ≡ fits g (all xs)
    fits_short l = short_fits g (all xs) (omega (arith, as_long xs))

    module _ (l : n ≤ length xs) where
      pub fits_passed : Sound g → true ≡ is_some (passed g (all (take n xs)) (length (take n xs))) → true ≡ fits g (all xs)
      fits_passed s e =
          let h : true ≡ is_some (passed g (all xs) n) =
          rw (length-take-le n xs l, first_of n xs, passed_taken g (all xs) n n (omega arith)) at e in
          sym (pass_fits s (all xs) (omega (arith, as_long xs)) (rw q at (sym h)))

      pub fits_admitted : all_admitted g (all (take n xs)) (length (take n xs)) ≡ fits g (all xs)
      fits_admitted =
          rw (length-take-le n xs l, first_of n xs, all_taken g (all xs) n n (omega arith), q)
          (admitted_fits g (all xs) (omega (arith, as_long xs)))
