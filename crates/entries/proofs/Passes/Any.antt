-- A list fits the tables exactly where each of its entries is admitted beside those before it.
use Prim.Native.Nat.{ℕ, zero, suc, ◌+◌, ◌≤◌, ◌<◌}
use mathlib.Core.Bool.{Bool, true, false, ◌&&◌, not}
use mathlib.Core.Path.{◌≡◌, refl, sym, ap, ◌∙◌}
use mathlib.Core.List.{List}
use native.Mathlib.Decide.{ℕ_discrete}
use native.Mathlib.Omega.{arith}
use lib.ListN.{length, take}
use Rattle.rules.specs.declared.Allocation.{Allocation}
use Rattle.rules.specs.Ids.{id_bucket}
use Rattle.rules.specs.Tables.{Atlas}
use Rattle.rules.specs.Chains.{hit}
use Rattle.rules.specs.Sound.{all_to}
use Rattle.rules.specs.Held.{entry, entries, from_bucket, refs_of, bucket_of, shelf_under, clash, Fits, fits}
use Rattle.laws.proofs.Tests.Tells.{Tells, tells_ltb, tells_map, tells_and, tells_to, tells_below, tells_same}
use Rattle.laws.proofs.Chains.Count.{hit_same, hit_other}
use Rattle.laws.proofs.Held.Test.{Stands, AllStand, belongs_tells, clash_tells, not_empty, fits_of, standing_of, fits_tells}
use Rattle.laws.proofs.Held.Counts.{named, from_next, from_prefix, numbered_of}
use Rattle.std.specs.Prelude.{Some, None, option_and_then, if◌then◌else◌}
use Rattle.entries.specs.Parts.{joins}
use Rattle.entries.specs.Passes.{compared, seen, admitted, all_admitted}

-- no one before clashes
abbrev clear_to : List Allocation → Allocation → ℕ → Bool
clear_to list a i = all_to i (λ j. not (clash a (entry list j)))

seen_is : (list : List Allocation) (a : Allocation) (i : ℕ) → i ≤ length list
    → seen list a i ≡ (if clear_to list a i then Some (from_bucket (id_bucket a.id) (take i list)) else None)
unfolding seen hit
seen_is list a zero l = refl
seen_is list a (suc i) l =
    ap (option_and_then (λ n. compared a n (entry list i))) (seen_is list a i (omega arith))
    ∙ by (clear_to list a i) (clash a (entry list i)) _ _ refl (from_next (id_bucket a.id) i list l)
  where
    by : (s t : Bool) (n m : ℕ) → clash a (entry list i) ≡ t → m ≡ n + hit (id_bucket (entry list i).id) (id_bucket a.id)
        → option_and_then (λ k. compared a k (entry list i)) (if s then Some n else None) ≡ (if s && not t then Some m else None)
    by true true n m e q = simp e
    by true false n m e q = simp e (ap Some (sym q))
    by false t n m e q = refl

-- what `admitted` asks of entry i, beside those before it
record Admitted (g : Atlas) (list : List Allocation) (i : ℕ) : Type 0 where
  stands : Stands g (entry list i)
  left : from_bucket (named list i) (take i list) < refs_of g (named list i)
  clear : (j : ℕ) → j < i → not (clash (entry list i) (entry list j)) ≡ true

admitted_tells : (g : Atlas) (list : List Allocation) (i : ℕ) → i < length list
    → Tells (admitted g (entry list i) (seen list (entry list i) i)) (Admitted g list i)
unfolding joins
admitted_tells g list i l =
    rw (seen_is list (entry list i) i (omega arith), by (clear_to list (entry list i) i) (from_bucket (named list i) (take i list))) (tells_map
    (tells_and _ _
    (tells_to i (λ j. not (clash (entry list i) (entry list j))) _ (λ j. record { holds = λ e. e; shown = λ e. e }))
    (tells_and _ _ (tells_and _ _
    (tells_ltb (named list i) g.head.bucket_count)
    (tells_ltb (from_bucket (named list i) (take i list)) (refs_of g (named list i))))
    (belongs_tells (bucket_of g (entry list i)) (shelf_under g (entry list i)) (entry list i))))
    (λ h. record { stands = record { named = h.1.0.0; belongs = h.1.1 }; left = h.1.0.1; clear = h.0 })
    (λ h. (h.clear, ((h.stands.named, h.left), h.stands.belongs))))
  where
    by : (s : Bool) (n : ℕ) → admitted g (entry list i) (if s then Some n else None) ≡ (s && joins g (entry list i) n)
    by true n = refl
    by false n = refl

-- no bucket has more entries than references
admitted_within : (g : Atlas) (list : List Allocation) (n : ℕ) → n ≤ length list → ((i : ℕ) → i < n → Admitted g list i)
    → (k : ℕ) → from_bucket k (take n list) ≤ refs_of g k
admitted_within g list zero l h k = omega arith
admitted_within g list (suc i) l h k = elim (ℕ_discrete (named list i) k) [
  | yes e ↦ rw (sym e) (omega (arith, from_next (named list i) i list l, hit_same (named list i), (h i (omega arith)).left))
  | no ne ↦ omega (arith, from_next k i list l, hit_other (named list i) k ne, admitted_within g list i (omega arith) (λ j m. h j (omega arith)) k)
]

fits_admitted : (g : Atlas) (list : List Allocation) → entries g ≤ length list → ((i : ℕ) → i < entries g → Admitted g list i) → Fits g list
fits_admitted g list room h = fits_of room
    (record {
      stands = λ i l. (h i l).stands;
      apart = λ i l j m.
          (clash_tells (entry list i) (entry list j) (not_empty (h i l).stands) (not_empty (h j (omega arith)).stands)).holds ((h i l).clear j m);
    })
    (numbered_of g list room (λ i l. (h i l).stands.named) (λ k l. admitted_within g list (entries g) room h k))

admitted_fit : (g : Atlas) (list : List Allocation) → Fits g list → (i : ℕ) → i < entries g → Admitted g list i
admitted_fit g list f i l =
    let s : AllStand g list (entries g) = standing_of f in
    record {
      stands = s.stands i l;
      left = omega (
        arith,
        from_next (named list i) i list (omega (arith, f.room)),
        hit_same (named list i),
        from_prefix (named list i) (suc i) (entries g) list l,
        f.counted (named list i) (f.named i l),
      );
      clear = λ j m.
          (clash_tells (entry list i) (entry list j) (not_empty (s.stands i l)) (not_empty (s.stands j (omega arith)))).shown (s.apart i l j m);
    }

pub admitted_fits : (g : Atlas) (list : List Allocation) → entries g ≤ length list → all_admitted g list (entries g) ≡ fits g list
unfolding all_admitted
admitted_fits g list room = tells_same _ _
    (tells_map (tells_below (entries g) _ (Admitted g list) (λ i l. admitted_tells g list i (omega arith))) (fits_admitted g list room) (admitted_fit g list))
    (fits_tells g list)
