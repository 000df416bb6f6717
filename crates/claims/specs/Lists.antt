-- T-02, the list lent beside the tables: what it has after any calls, which ids are taken back, its test, and what a refusal leaves of it.
use Rattle.std.specs.Prelude.{ℕ, true, ◌≡◌, ◌≢◌, List, ℤ, take, Ok, Err}
use Rattle.rules.specs.declared.Allocation.{Allocation}
use Rattle.rules.specs.declared.Refusal.{Refusal}
use Rattle.rules.specs.Tables.{Atlas}
use Rattle.rules.specs.Calls as calls
use Rattle.rules.specs.Builds.{Build}
use Rattle.rules.specs.Held.{entries, Fits, fits}
use Rattle.rules.specs.Listed.{Holding, holding, clear, clear_by, grow, allocate, deallocate, deallocate_by, write, picture}
use Rattle.rules.specs.History.{Event, Listing, Run, Holds, held, Exact}

-- what holds after any calls with the list
abbrev pub AfterListed : (Build → List Event → Atlas → List Allocation → Type 0) → Type 0
AfterListed P = (build : Build) (past : List Event) (g : Atlas) (xs : List Allocation) → Run build past g (Listing.lent xs) → P build past g xs

-- `listed_exact`: "After each call the list has exactly the held rectangles, as issued, with their ids."
abbrev pub ListExact : Type 0
ListExact = AfterListed (λ build past g xs. Exact (take (entries g) xs) (held past))

-- `listed_never_21`, of one call; of every build `listed_fits`
abbrev pub NeverList : Type 0
NeverList = AfterListed (λ build past g xs. (clear_by build (holding g xs)).answer ≢ Err Refusal.List)

-- `returns`: a held id is taken back, "and a return of an id that is not in it is refused"
abbrev pub ReturnsHeld : Type 0
ReturnsHeld = AfterListed (λ build past g xs. (id : ℕ)
    → (Holds id (held past) → (deallocate_by build id (holding g xs)).answer ≡ (Ok tt))
    × ((deallocate_by build id (holding g xs)).answer ≡ (Ok tt) → Holds id (held past))
    × ((Holds id (held past) → ⊥) → (calls.deallocate_by build id g).answer ≡ (Ok tt)
    → (deallocate_by build id (holding g xs)).answer ≡ Err Refusal.NotHeld))

-- `fits_test`
abbrev pub FitsTest : Type 0
FitsTest = (g : Atlas) (list : List Allocation) → (fits g list ≡ true → Fits g list) × (Fits g list → fits g list ≡ true)

-- `allocate_refused`, `deallocate_refused`, `clear_refused`, `grow_refused`, `write_refused`, `picture_refused` (ListedOutcomes): a refusal changes
-- neither list nor tables, entries past the count too; of a write or a picture not the buffer either
abbrev pub ListRefused : Type 0
ListRefused = (l : Holding) (r : Refusal)
    → ((w h : ℤ) → (allocate w h l).answer ≡ Err r → (allocate w h l).left ≡ l)
    × ((id : ℕ) → (deallocate id l).answer ≡ Err r → (deallocate id l).left ≡ l)
    × ((clear l).answer ≡ Err r → (clear l).left ≡ l)
    × ((w h : ℤ) → (grow w h l).answer ≡ Err r → (grow w h l).left ≡ l)
    × ((build : Build) (out : List ℕ) → (write build l out).written ≡ Err r → (write build l out).out ≡ out)
    × ((out : List ℕ) → (picture l out).written ≡ Err r → (picture l out).out ≡ out)
