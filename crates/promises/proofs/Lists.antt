-- What is said of a list that goes on fitting (Listing), and of the returns beside it (History).
use Rattle.std.specs.Prelude.{Ok, Err}
use Prim.Native.Nat.{ℕ, ◌≤◌}
use mathlib.Core.Path.{◌≡◌}
use mathlib.Core.List.{List}
use lib.ListN.{length, take}
use Rattle.rules.specs.declared.Allocation.{Allocation}
use Rattle.rules.specs.declared.Refusal.{Refusal}
use Rattle.rules.specs.Tables.{Atlas}
use Rattle.rules.specs.Builds.{Build}
use Rattle.rules.specs.Calls as calls
use Rattle.rules.specs.Held.{entries}
use Rattle.rules.specs.Listed.{holding, deallocate_by}
use Rattle.rules.specs.History.{Event, held, Holds}
use Rattle.laws.proofs.Held.Among.{SameEntries}
use Rattle.laws.proofs.Tied.To.{TiedTo}
use Rattle.promises.proofs.Invariant.{Invariant}

pub record Listed (build : Build) (past : List Event) (g : Atlas) (xs : List Allocation) : Type 0 where
  pub invariant : Invariant build past g
  pub room : entries g ≤ length xs
  pub tied : TiedTo (take (entries g) xs) g
  pub same : SameEntries (take (entries g) xs) (held past)

-- with the list: a held id is taken back, and no other
pub record ReturnsListed (build : Build) (past : List Event) (g : Atlas) (xs : List Allocation) (id : ℕ) : Type 0 where
  pub accepted : Holds id (held past) → (deallocate_by build id (holding g xs)).answer ≡ (Ok tt)
  -- "An accepted return is of a held id"
  pub only : (deallocate_by build id (holding g xs)).answer ≡ (Ok tt) → Holds id (held past)
  -- so of any other it is refused: as 9, 10 or 11, and where these do not come first as 20
  pub other : (Holds id (held past) → ⊥) → (calls.deallocate_by build id g).answer ≡ (Ok tt)
      → (deallocate_by build id (holding g xs)).answer ≡ Err Refusal.NotHeld
