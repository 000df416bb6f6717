-- What the loops of the list's test turn by, one entry more, for a list of either form.
use Prim.Native.Nat.{ℕ, zero, suc, ◌+◌, ◌≤◌, ◌<◌}
use mathlib.Core.Path.{◌≡◌, refl, sym, ap, ◌∙◌, subst}
use mathlib.Core.Bool.{Bool, true, false, ◌&&◌}
use mathlib.Core.List.{List}
use native.Mathlib.Decide.{ℕ_discrete}
use native.Mathlib.Omega.{arith}
use lib.Dec.{eqb}
use lib.ListN.{length, take}
use Rattle.std.proofs.lemmas.List.{get_or-take}
use borrow.Author.Tests.{lt-leb}
use Rattle.rules.specs.declared.Allocation.{Allocation}
use Rattle.std.specs.Prelude.{if◌then◌else◌, Option, Some, None, is_some, IfSome, option_and_then}
use Rattle.rules.specs.Ids.{id_bucket}
use Rattle.rules.specs.Tables.{Atlas}
use Rattle.rules.specs.Sound.{all_to}
use Rattle.rules.specs.Held.{blank, entry, entries, clash, fits}
use Rattle.entries.specs.declared.passing.Order.{Order}
use Rattle.entries.specs.Passes.{started, step, passed, compared, seen, admitted, all_admitted}

-- ---- in order
module _ (g : Atlas) (list : List Allocation) where
  pub passed_none : (p : Order) → (p.next ≡ 0) × ((p.seen ≡ 0) × ((p.right ≡ 0) × (p.item ≡ 0))) → passed g list 0 ≡ Some p
  unfolding passed
  passed_none p e = ap Some (sym (by e.0 e.1.0 e.1.1.0 e.1.1.1))
    where
      by : {n s r i : ℕ} → n ≡ 0 → s ≡ 0 → r ≡ 0 → i ≡ 0 → ◌≡◌ {A = Order} (record { next = n; seen = s; right = r; item = i }) started
      by a b c d = rw (a, b, c, d)

  pub passed_more : (i : ℕ) {p : Order} {r : Option Order} → passed g list i ≡ Some p → r ≡ step g p (entry list i) → passed g list (i + 1) ≡ r
  unfolding passed
  passed_more i e h =
      let z : i + 1 ≡ suc i = omega arith in
      rw z (ap (option_and_then (λ p. step g p (entry list i))) e ∙ sym h)

  passed_stops : (i n : ℕ) → i ≤ n → passed g list i ≡ None → passed g list n ≡ None
  unfolding passed
  passed_stops i zero l e = let z : i ≡ 0 = omega arith in rw z at e
  passed_stops i (suc n) l e = elim (ℕ_discrete i (suc n)) [
    | yes q ↦ subst (λ (m : ℕ). passed g list m ≡ None) q e
    | no ne ↦ ap (option_and_then (λ p. step g p (entry list n))) (passed_stops i n (omega arith) e)
  ]

  -- an entry that is not in place ends it
  pub passed_not : (i n : ℕ) {p : Order} → i < n → passed g list i ≡ Some p → None ≡ step g p (entry list i) → false ≡ is_some (passed g list n)
  passed_not i n l e h = sym (ap is_some (passed_stops (i + 1) n (omega arith) (passed_more i e h)))

  -- of the first n alone
  pub passed_taken : (n i : ℕ) → i ≤ n → passed g (take n list) i ≡ passed g list i
  unfolding passed
  passed_taken n zero l = refl
  passed_taken n (suc i) l =
      let e : entry (take n list) i ≡ entry list i = get_or-take n list i blank (omega arith) in
      ap (λ (a : Allocation). option_and_then (λ p. step g p a) (passed g (take n list) i)) e
      ∙ ap (option_and_then (λ p. step g p (entry list i))) (passed_taken n i (omega arith))

-- ---- in any order
module _ (list : List Allocation) (a : Allocation) where
  pub seen_none : seen list a 0 ≡ Some 0
  unfolding seen
  seen_none = refl

  pub seen_more : (i : ℕ) {s : ℕ} {r : Option ℕ} → seen list a i ≡ Some s → r ≡ compared a s (entry list i) → seen list a (i + 1) ≡ r
  unfolding seen
  seen_more i e h =
      let z : i + 1 ≡ suc i = omega arith in
      rw z (ap (option_and_then (λ n. compared a n (entry list i))) e ∙ sym h)

  seen_stops : (i n : ℕ) → i ≤ n → seen list a i ≡ None → seen list a n ≡ None
  unfolding seen
  seen_stops i zero l e = let z : i ≡ 0 = omega arith in rw z at e
  seen_stops i (suc n) l e = elim (ℕ_discrete i (suc n)) [
    | yes q ↦ subst (λ (m : ℕ). seen list a m ≡ None) q e
    | no ne ↦ ap (option_and_then (λ m. compared a m (entry list n))) (seen_stops i n (omega arith) e)
  ]

  -- an entry that clashes ends it
  pub seen_not : (i n : ℕ) {s : ℕ} → i < n → seen list a i ≡ Some s → None ≡ compared a s (entry list i) → None ≡ seen list a n
  seen_not i n l e h = sym (seen_stops (i + 1) n (omega arith) (seen_more i e h))

  -- of the first n alone
  pub seen_taken : (n i : ℕ) → i ≤ n → seen (take n list) a i ≡ seen list a i
  unfolding seen
  seen_taken n zero l = refl
  seen_taken n (suc i) l =
      let e : entry (take n list) i ≡ entry list i = get_or-take n list i blank (omega arith) in
      ap (λ (b : Allocation). option_and_then (λ m. compared a m b) (seen (take n list) a i)) e
      ∙ ap (option_and_then (λ m. compared a m (entry list i))) (seen_taken n i (omega arith))

  -- no more are of one bucket than there are
  pub seen_few : (i : ℕ) → IfSome (seen list a i) (λ s. s ≤ i)
  unfolding seen
  seen_few zero = omega arith
  seen_few (suc i) = more (seen list a i) (seen_few i)
    where
      by : (s : ℕ) (t u : Bool) → s ≤ i → IfSome (if t then None else Some (s + (if u then 1 else 0))) (λ m. m ≤ suc i)
      by s true u h = tt
      by s false true h = omega arith
      by s false false h = omega arith

      more : (o : Option ℕ) → IfSome o (λ s. s ≤ i) → IfSome (option_and_then (λ m. compared a m (entry list i)) o) (λ s. s ≤ suc i)
      more None h = tt
      more (Some s) h = by s (clash a (entry list i)) (eqb (id_bucket (entry list i).id) (id_bucket a.id)) h

  pub few : (i : ℕ) {s : ℕ} → seen list a i ≡ Some s → s ≤ i
  few i e = rw e at (seen_few i)

all_fails : (n i : ℕ) (p : ℕ → Bool) → i < n → p i ≡ false → all_to n p ≡ false
all_fails zero i p l e = absurd (omega arith)
all_fails (suc n) i p l e = elim (ℕ_discrete i n) [
  | yes q ↦ last (all_to n p) (p n) (ap p (sym q) ∙ e)
  | no ne ↦ simp (all_fails n i p (omega arith) e)
]
  where
    last : (s t : Bool) → t ≡ false → (s && t) ≡ false
    last true t e = e
    last false t e = refl

module _ (g : Atlas) (list : List Allocation) where
  pub all_none : all_admitted g list 0 ≡ true
  unfolding all_admitted
  all_none = refl

  pub all_more : (i : ℕ) → all_admitted g list i ≡ true → admitted g (entry list i) (seen list (entry list i) i) ≡ true → all_admitted g list (i + 1) ≡ true
  unfolding all_admitted
  all_more i h e = let z : i + 1 ≡ suc i = omega arith in rw z (simp (h, e))

  pub all_not : (n i : ℕ) → i < n → admitted g (entry list i) (seen list (entry list i) i) ≡ false → false ≡ all_admitted g list n
  unfolding all_admitted
  all_not n i l e = sym (all_fails n i (λ j. admitted g (entry list j) (seen list (entry list j) j)) l e)

  -- of the first n alone
  pub all_taken : (n i : ℕ) → i ≤ n → all_admitted g (take n list) i ≡ all_admitted g list i
  unfolding all_admitted
  all_taken n zero l = refl
  all_taken n (suc i) l =
      let e : entry (take n list) i ≡ entry list i = get_or-take n list i blank (omega arith) in
      let a : Allocation = entry list i in
      ap (λ (t : Bool). t && admitted g (entry (take n list) i) (seen (take n list) (entry (take n list) i) i)) (all_taken n i (omega arith))
      ∙ ap (λ (b : Allocation). all_admitted g list i && admitted g b (seen (take n list) b i)) e
      ∙ ap (λ (s : Option ℕ). all_admitted g list i && admitted g a s) (seen_taken list a n i (omega arith))

-- ---- a list that is too short
pub short_fits : (g : Atlas) (list : List Allocation) → length list < entries g → false ≡ fits g list
unfolding fits
short_fits g list l = simp (lt-leb (entries g) (length list) l)
