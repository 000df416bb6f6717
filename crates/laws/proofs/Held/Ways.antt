-- The ways through a call with the list: what holds of a refusal and of the way past both tests holds of the call. Where the tables are sound and
-- the list fits, a call says what it says past the tests.
use Rattle.std.specs.Prelude.{Ok, Err, Result, ⊤}
use Prim.Native.Nat.{ℕ, ◌<◌}
use mathlib.Core.Path.{◌≡◌, refl}
use mathlib.Core.List.{List}
use borrow.Author.Tests.{ltb-true}
use lib.Dec.{ltb}
use lib.IntN.{ℤ}
use lib.ListN.{length, take}
use Rattle.rules.specs.declared.Allocation.{Allocation}
use Rattle.rules.specs.declared.Refusal.{Refusal}
use Rattle.rules.specs.Ids.{id_bucket}
use Rattle.rules.specs.Tables.{Atlas, Outcome}
use Rattle.rules.specs.Sound.{SoundBy, is_sound_by}
use Rattle.rules.specs.Builds.{Build}
use Rattle.rules.specs.Calls as calls
use Rattle.rules.specs.Held.{blank, entries, added, removed, place_of, place_for, Fits, fits}
use Rattle.rules.specs.Listed.{Holding, holding, Ended, ended, verdict_by, tested_by, refusing, beside, enter, leave, clear_by, grow_by, allocate_by, deallocate_by}
use Rattle.laws.proofs.Tests.Flags.{split}
use Rattle.laws.proofs.Sound.Test.{sound_test}
use Rattle.laws.proofs.Held.Test.{fits_test}

-- what passes both tests
pub record Passing (build : Build) (l : Holding) : Type 0 where
  pub sound : SoundBy build l.state
  pub fits : Fits l.state l.list

pub passing_verdict : {build : Build} {l : Holding} → Passing build l → Ok (entries l.state) ≡ verdict_by build l
unfolding verdict_by
passing_verdict {build} {l} p = simp ((sound_test l.state).1 p.sound, (fits_test l.state l.list).1 p.fits)

pub tested_same : {A : Type 0} {build : Build} (refuse : Refusal → A) (a : A) (l : Holding) → Passing build l → tested_by build refuse a l ≡ a
unfolding verdict_by
tested_same refuse a l p = simp ((sound_test l.state).1 p.sound, (fits_test l.state l.list).1 p.fits)

pub tested_ways : {A : Type 0} (build : Build) (P : A → Type 0) (refuse : Refusal → A) (a : A) (l : Holding)
    → ((r : Refusal) → P (refuse r)) → (Passing build l → P a) → P (tested_by build refuse a l)
unfolding verdict_by
tested_ways build P refuse a l no' yes' =
    split (is_sound_by build l.state) (λ e.
    split (fits l.state l.list)
    (λ f. simp (e, f) (yes' (record { sound = (sound_test l.state).0 e; fits = (fits_test l.state l.list).0 f })))
    (λ f. simp (e, f) (no' Refusal.List)))
    (λ e. simp e (no' Refusal.Tables))

-- ---- what the list says to a request that is placed, and to a return that is accepted without it

pub enter_ways : (P : Ended (Result Allocation Refusal) → Type 0) (p : Result Allocation Refusal) (g : Atlas) (l : Holding)
    → ((r : Refusal) → P (ended (Err r) l))
    → ((a : Allocation) → p ≡ Ok a → entries l.state < length l.list
    → P (ended (Ok a) (holding g (added (entries l.state) (place_for (id_bucket a.id) g) a l.list))))
    → P (enter p g l)
enter_ways P (Err r) g l no' yes' = no' r
enter_ways P (Ok a) g l no' yes' =
    split (ltb (entries l.state) (length l.list))
    (λ e. simp e (yes' a refl (ltb-true (entries l.state) (length l.list) e)))
    (λ e. simp e (no' Refusal.Full))

pub leave_ways : (P : Ended (Result ⊤ Refusal) → Type 0) (id : ℕ) (p : Result ⊤ Refusal) (g : Atlas) (l : Holding)
    → ((r : Refusal) → P (ended (Err r) l))
    → (p ≡ (Ok tt) → place_of id (take (entries l.state) l.list) < entries l.state
    → P (ended (Ok tt) (holding g (removed blank (entries l.state) (place_of id (take (entries l.state) l.list)) l.list))))
    → P (leave id p g l)
leave_ways P id (Err r) g l no' yes' = no' r
leave_ways P id (Ok tt) g l no' yes' =
    let i : ℕ = place_of id (take (entries l.state) l.list) in
    split (ltb i (entries l.state))
    (λ e. simp e (yes' refl (ltb-true i (entries l.state) e)))
    (λ e. simp e (no' Refusal.NotHeld))

-- ---- the calls that may change something: each is refused and changes nothing, or goes past the tests

module _ {g : Atlas} {xs : List Allocation} where
  pub listed_allocate_ways : (build : Build) (P : Ended (Result Allocation Refusal) → Type 0) (w h : ℤ) → ((r : Refusal) → P (ended (Err r) (holding g xs)))
      → ((a : Allocation) → (calls.allocate_by build w h g).answer ≡ Ok a → entries g < length xs
      → P (ended (Ok a) (holding (calls.allocate_by build w h g).state
      (added (entries g) (place_for (id_bucket a.id) (calls.allocate_by build w h g).state) a xs))))
      → P (allocate_by build w h (holding g xs))
  unfolding allocate_by
  listed_allocate_ways build P w h no' yes' =
      let l : Holding = holding g xs in
      let o : Outcome (Result Allocation Refusal) = calls.allocate_by build w h g in
      tested_ways build P (refusing Err l) (enter o.answer o.state l) l no' (λ p. enter_ways P o.answer o.state l no' yes')

  pub listed_deallocate_ways : (build : Build) (P : Ended (Result ⊤ Refusal) → Type 0) (id : ℕ) → ((r : Refusal) → P (ended (Err r) (holding g xs)))
      → ((calls.deallocate_by build id g).answer ≡ (Ok tt) → place_of id (take (entries g) xs) < entries g
      → P (ended (Ok tt) (holding (calls.deallocate_by build id g).state (removed blank (entries g) (place_of id (take (entries g) xs)) xs))))
      → P (deallocate_by build id (holding g xs))
  unfolding deallocate_by
  listed_deallocate_ways build P id no' yes' =
      let l : Holding = holding g xs in
      let o : Outcome (Result ⊤ Refusal) = calls.deallocate_by build id g in
      tested_ways build P (refusing Err l) (leave id o.answer o.state l) l no' (λ p. leave_ways P id o.answer o.state l no' yes')

  pub listed_grow_ways : (build : Build) (P : Ended (Result ⊤ Refusal) → Type 0) (w h : ℤ) → ((r : Refusal) → P (ended (Err r) (holding g xs)))
      → P (beside (calls.grow_by build w h g) xs) → P (grow_by build w h (holding g xs))
  unfolding grow_by
  listed_grow_ways build P w h no' yes' =
      tested_ways build P (refusing Err (holding g xs)) (beside (calls.grow_by build w h g) xs) (holding g xs) no' (λ p. yes')

  pub listed_clear_ways : (build : Build) (P : Ended (Result ⊤ Refusal) → Type 0) → ((r : Refusal) → P (ended (Err r) (holding g xs)))
      → P (beside (calls.clear_by build g) xs) → P (clear_by build (holding g xs))
  unfolding clear_by
  listed_clear_ways build P no' yes' =
      tested_ways build P (refusing Err (holding g xs)) (beside (calls.clear_by build g) xs) (holding g xs) no' (λ p. yes')
