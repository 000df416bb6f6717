-- What is told is what was answered: the numbers that a panel call hands back, read by their numbers alone, are the answer of the rules' call.
use Rattle.std.specs.Prelude.{Ok, Err, Result, ⊤}
use Prim.Native.Nat.{ℕ, ◌≤◌, ◌<◌}
use mathlib.Core.Path.{◌≡◌, refl, ap}
use mathlib.Core.Logic.{◌≢◌}
use mathlib.Core.List.{List, [], ◌∷◌}
use native.Mathlib.Nat.{zero-add}
use native.Mathlib.Omega.{arith}
use borrow.Author.Tests.{ne_eqb}
use lib.ListN.{length, get_or}
use Rattle.rules.specs.declared.Head.{Head}
use Rattle.rules.specs.declared.Allocation.{Allocation}
use Rattle.rules.specs.declared.Refusal.{Refusal}
use Rattle.rules.specs.Answers.{number}
use Rattle.laws.proofs.Tables.Stores.{sets_in}
use Rattle.promises.proofs.Exactly.{refused_not}
use Rattle.telling.specs.Header.{write_allocation}
use Rattle.telling.specs.Told.{new_told, reply_told, placing_told}
use Rattle.boundary.specs.Calls.{refusal_of, made_of, reply_of, placing_of, allocation_of}
use Rattle.boundary.proofs.Heads.{read_written}

-- ---- a refusal's number names it, and is not 0

pub refusal_of_law : (r : Refusal) → refusal_of (number r) ≡ r
unfolding refusal_of
refusal_of_law Refusal.Tables = refl
refusal_of_law Refusal.Side = refl
refusal_of_law Refusal.Options = refl
refusal_of_law Refusal.Small = refl
refusal_of_law Refusal.Large = refl
refusal_of_law Refusal.NoPlace = refl
refusal_of_law Refusal.Filler = refl
refusal_of_law Refusal.Items = refl
refusal_of_law Refusal.Unknown = refl
refusal_of_law Refusal.Stale = refl
refusal_of_law Refusal.Unheld = refl
refusal_of_law Refusal.Shrink = refl
refusal_of_law Refusal.NoAtlas = refl
refusal_of_law Refusal.Malformed = refl
refusal_of_law Refusal.Long = refl
refusal_of_law Refusal.Broken = refl
refusal_of_law Refusal.Version = refl
refusal_of_law Refusal.Buffer = refl
refusal_of_law Refusal.Full = refl
refusal_of_law Refusal.NotHeld = refl
refusal_of_law Refusal.List = refl
refusal_of_law Refusal.Wide = refl
refusal_of_law Refusal.Tall = refl
refusal_of_law Refusal.Output = refl

pub number_not_0 : (r : Refusal) → number r ≢ 0
number_not_0 r e = refused_not r ([], ap (λ (n : ℕ). n ∷ []) e)

-- ---- the out slice: id, left, top, right, bottom

pub allocation_of_law : (a : Allocation) (out : List ℕ) → 5 ≤ length out → allocation_of (write_allocation a out) ≡ a
unfolding write_allocation
allocation_of_law a out l =
    let vs : List ℕ = a.id ∷ a.rectangle.left ∷ a.rectangle.top ∷ a.rectangle.right ∷ a.rectangle.bottom ∷ [] in
    let f : (k : ℕ) → k < 5 → get_or (write_allocation a out) k 0 ≡ get_or vs k 0 = λ k lk. rw (zero-add k) at (sets_in vs out 0 k l lk) in
    rw (f 0 (omega arith), f 1 (omega arith), f 2 (omega arith), f 3 (omega arith), f 4 (omega arith))

-- ---- the answers

pub made_of_law : (m : Result Head Refusal) (x : List ℕ) → 12 ≤ length x → made_of (new_told m x) ≡ m
unfolding made_of
made_of_law (Ok h) x l = ap Ok (read_written h x l)
made_of_law (Err r) x l = simp (ne_eqb (number r) 0 (number_not_0 r), refusal_of_law r)

pub reply_of_law : (a : Result ⊤ Refusal) (h : Head) (x : List ℕ) → reply_of (reply_told a h x) ≡ a
unfolding reply_of
reply_of_law (Ok tt) h x = refl
reply_of_law (Err r) h x = simp (ne_eqb (number r) 0 (number_not_0 r), refusal_of_law r)

pub placing_of_law : (p : Result Allocation Refusal) (h : Head) (x out : List ℕ) → 5 ≤ length out → placing_of (placing_told p h x out) ≡ p
unfolding placing_of
placing_of_law (Ok a) h x out l = ap Ok (allocation_of_law a out l)
placing_of_law (Err r) h x out l = simp (ne_eqb (number r) 0 (number_not_0 r), refusal_of_law r)
