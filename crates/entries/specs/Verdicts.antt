-- What is known where the tests of the lent tables and list have passed, and what the calls make of the list by their verdict. A list is here what its
-- lender's form comes to as entries.
use Rattle.rules.specs.declared.Refusal.{Refusal}
use Rattle.std.specs.Prelude.{ℕ, ◌≤◌, ◌<◌, ◌≡◌, List, take, Ok, Err, Result, ⊤}
use Rattle.rules.specs.declared.Allocation.{Allocation}
use Rattle.rules.specs.Tables.{Atlas}
use Rattle.rules.specs.Sound.{Sound}
use Rattle.rules.specs.Held.{blank, entries, added, removed, place_of}
use Rattle.rules.specs.Listed.{judged}

pub record Judged (verdict : Result ℕ Refusal) (g : Atlas) : Type 0 where
  pub sound : (n : ℕ) → verdict ≡ Ok n → Sound g
  pub count : (n : ℕ) → verdict ≡ Ok n → n ≡ entries g

-- ---- the place of an id among the entries

-- there are as many entries as were counted
abbrev pub Counted : Result ℕ Refusal → ℕ → Type 0
Counted verdict room = (n : ℕ) → verdict ≡ Ok n → n ≤ room

-- of a refusal it says nothing
abbrev pub found_by : Result ℕ Refusal → ℕ → List Allocation → ℕ
found_by verdict id list = judged (λ r. 0) (λ n. place_of id (take n list)) verdict

-- ---- the entry of a request that was placed

-- its place is one of theirs, or the one behind them, and the list has room for one more
pub record Enters (verdict : Result ℕ Refusal) (placing : Result Allocation Refusal) (place room : ℕ) : Type 0 where
  pub within : (n : ℕ) (a : Allocation) → verdict ≡ Ok n → placing ≡ Ok a → place ≤ n
  pub spare : (n : ℕ) (a : Allocation) → verdict ≡ Ok n → placing ≡ Ok a → n < room

abbrev pub entered_in : Result ℕ Refusal → Result Allocation Refusal → ℕ → List Allocation → List Allocation
entered_in (Ok n) (Ok a) place list = added n place a list
entered_in (Ok n) (Err r) place list = list
entered_in (Err r) placing place list = list

-- ---- the entry of a return that was accepted

pub record LeavesAt (verdict : Result ℕ Refusal) (reply : Result ⊤ Refusal) (at room : ℕ) : Type 0 where
  pub found : (n : ℕ) → verdict ≡ Ok n → reply ≡ (Ok tt) → at < n
  pub counted : (n : ℕ) → verdict ≡ Ok n → reply ≡ (Ok tt) → n ≤ room

abbrev pub left_in : Result ℕ Refusal → Result ⊤ Refusal → ℕ → List Allocation → List Allocation
left_in (Ok n) (Ok tt) at list = removed blank n at list
left_in (Ok n) (Err r) at list = list
left_in (Err r) reply at list = list
