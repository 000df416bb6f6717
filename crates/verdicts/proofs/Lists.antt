-- The list beside the tables, whatever its form: what a request and a return ask of it and leave of it, n being what the tests counted.
use Prim.Native.Nat.{ℕ, ◌≤◌, ◌<◌}
use mathlib.Core.Path.{◌≡◌, refl, sym, ap, ◌∙◌, subst}
use mathlib.Core.List.{List}
use lib.ListN.{length}
use lib.IntN.{ℤ}
use Rattle.std.specs.Prelude.{Ok, Err, Result, ⊤, take}
use Rattle.rules.specs.declared.Allocation.{Allocation}
use Rattle.rules.specs.declared.Refusal.{Refusal}
use Rattle.rules.specs.Ids.{id_bucket}
use Rattle.rules.specs.Tables.{Atlas, Outcome, outcome}
use Rattle.rules.specs.Calls as calls
use Rattle.rules.specs.Held.{place_of, place_for}
use Rattle.rules.specs.Listed.{holding, ended, verdict, judged, refusing, beside, enter, leave}
use Rattle.rules.specs.Listed as listed
use Rattle.laws.proofs.Results.{ok_one, err_not_ok}
use Rattle.entries.specs.Verdicts.{entered_in, left_in}
use Rattle.entries.proofs.Verdicts.{counted}
use Rattle.requests.specs.Entering.{entering}
use Rattle.requests.proofs.Entered.{Told, enters, allocate_is}
use Rattle.tested.proofs.Left.{returning, leaves, deallocate_is}

-- ---- the tests have refused

module _ (g : Atlas) (xs : List Allocation) {r : Refusal} (e : Err r ≡ verdict (holding g xs)) where
  pub allocate_refused : (w h : ℤ) → ended (Err r) (holding g xs) ≡ listed.allocate w h (holding g xs)
  unfolding listed.allocate_by
  allocate_refused w h =
      let d : Outcome (Result Allocation Refusal) = calls.allocate w h g in
      ap (judged (refusing Err (holding g xs)) (λ n. enter d.answer d.state (holding g xs))) e

  pub deallocate_refused : (id : ℕ) → ended (Err r) (holding g xs) ≡ listed.deallocate id (holding g xs)
  unfolding listed.deallocate_by
  deallocate_refused id =
      let d : Outcome (Result ⊤ Refusal) = calls.deallocate id g in
      ap (judged (refusing Err (holding g xs)) (λ n. leave id d.answer d.state (holding g xs))) e

  pub grow_refused : (w h : ℤ) → ended (Err r) (holding g xs) ≡ listed.grow w h (holding g xs)
  unfolding listed.grow_by
  grow_refused w h =
      let d : Outcome (Result ⊤ Refusal) = calls.grow w h g in
      ap (judged (refusing Err (holding g xs)) (λ n. beside d xs)) e

-- ---- the place told of a request's answer is the rule's

pub told_refused : {r : Refusal} (g : Atlas) (place : ℕ) → Told (outcome (Err r) g) place
told_refused g place a p = err_not_ok p

pub told_placed : {a : Allocation} {place : ℕ} (g : Atlas) → place ≡ place_for (id_bucket a.id) g → Told (outcome (Ok a) g) place
told_placed g e b p = e ∙ ap (λ (z : Allocation). place_for (id_bucket z.id) g) (sym (ok_one p))

-- ---- the tests have passed; the lender's form of the list has as many elements as entries

module _ (g : Atlas) (xs : List Allocation) (room n : ℕ) (many : length xs ≡ room) (v : Result ℕ Refusal) (f : v ≡ Ok n)
    (e : v ≡ verdict (holding g xs)) where
  passed : Ok n ≡ verdict (holding g xs)
  passed = sym f ∙ e

  pub room_for : n ≤ room
  room_for = subst (λ (m : ℕ). n ≤ m) many (counted g xs (Ok n) passed n refl)

  -- ---- allocate

  module _ (w h : ℤ) (place : ℕ) {o : Outcome (Result Allocation Refusal)} (q : o ≡ entering v room w h g) (told : Told o place) where
    as_counted : o ≡ entering (Ok n) (length xs) w h g
    as_counted = q ∙ ap (λ (z : Result ℕ Refusal). entering z room w h g) f ∙ ap (λ (m : ℕ). entering (Ok n) m w h g) (sym many)

    pub place_within : (a : Allocation) → o.answer ≡ Ok a → place ≤ n
    place_within a p = (enters g xs (Ok n) passed w h place as_counted told).within n a refl p

    pub place_spare : (a : Allocation) → o.answer ≡ Ok a → n < room
    place_spare a p = subst (λ (m : ℕ). n < m) many ((enters g xs (Ok n) passed w h place as_counted told).spare n a refl p)

    pub allocated_is : {ys : List Allocation} → ys ≡ entered_in (Ok n) o.answer place xs
        → ended o.answer (holding o.state ys) ≡ listed.allocate w h (holding g xs)
    allocated_is s =
        ap (λ (ys : List Allocation). ended o.answer (holding o.state ys)) s ∙ allocate_is g xs (Ok n) passed w h place as_counted told

  -- ---- deallocate

  module _ (id at : ℕ) {o : Outcome (Result ⊤ Refusal)} (q : o ≡ returning v at id g) where
    as_found : o ≡ returning (Ok n) at id g
    as_found = q ∙ ap (λ (z : Result ℕ Refusal). returning z at id g) f

    pub there_to_go : o.answer ≡ Ok tt → at < n
    there_to_go d = (leaves g xs (Ok n) passed id at as_found).found n refl d

    pub deallocated_is : {ys : List Allocation} → at ≡ place_of id (take n xs) → ys ≡ left_in (Ok n) o.answer at xs
        → ended o.answer (holding o.state ys) ≡ listed.deallocate id (holding g xs)
    deallocated_is there s =
        ap (λ (ys : List Allocation). ended o.answer (holding o.state ys)) s ∙ deallocate_is g xs (Ok n) passed id at there as_found
