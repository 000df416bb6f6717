-- What a return with the list comes to by the verdict of the tests: its entry is there to go, and without it the list is the one that the rule leaves.
use Rattle.std.specs.Prelude.{Ok, Err, Result, ⊤}
use Rattle.rules.specs.declared.Refusal.{Refusal}
use Prim.Native.Nat.{ℕ}
use mathlib.Core.Bool.{Bool, true, false}
use mathlib.Core.Path.{◌≡◌, refl, sym, ap, ◌∙◌}
use mathlib.Core.List.{List}
use borrow.Author.Tests.{ltb-true}
use native.Mathlib.Omega.{arith}
use lib.Dec.{ltb}
use lib.ListN.{length, take}
use Rattle.rules.specs.declared.Allocation.{Allocation}
use Rattle.rules.specs.Tables.{Atlas, Outcome, outcome}
use Rattle.rules.specs.Builds.{present}
use Rattle.rules.specs.Sound.{Sound}
use Rattle.rules.specs.Calls.{return_id}
use Rattle.rules.specs.Calls as calls
use Rattle.rules.specs.Held.{entries, place_of}
use Rattle.rules.specs.Listed.{holding, Ended, ended, verdict, judged, refusing, leave}
use Rattle.rules.specs.Listed as listed
use Rattle.laws.proofs.Tests.Flags.{split}
use Rattle.laws.proofs.Sound.Test.{sound_test}
use Rattle.laws.proofs.Calls.Ways.{deallocate_ways}
use Rattle.laws.proofs.Held.Calls.{Judging, passed}
use Rattle.entries.specs.Verdicts.{found_by, LeavesAt, left_in}
use Rattle.tested.specs.Within.{withheld}

-- what a return leaves by the verdict, `at` being the place of the id
abbrev pub returning : Result ℕ Refusal → ℕ → ℕ → Atlas → Outcome (Result ⊤ Refusal)
returning v at id g =
    judged (λ q. outcome (Err q) g) (λ n. withheld (ltb at n) (return_id present id g).answer (return_id present id g).state g) v

-- ---- past the tests

-- what is left, the list being n entries and those past them
abbrev left : ℕ → ℕ → List Allocation → Outcome (Result ⊤ Refusal) → Ended (Result ⊤ Refusal)
left n at list o = ended o.answer (holding o.state (left_in (Ok n) o.answer at list))

module _ (id : ℕ) (list : List Allocation) (g : Atlas) where
  -- the answer o without the list leaves with it what the rule says
  abbrev Leave : Outcome (Result ⊤ Refusal) → Type 0
  Leave o =
      let at : ℕ = place_of id (take (entries g) list) in
      left (entries g) at list (withheld (ltb at (entries g)) o.answer o.state g) ≡ leave id o.answer o.state (holding g list)

  leave_done : (after : Atlas) → Leave (outcome (Ok tt) after)
  leave_done after = split (ltb (place_of id (take (entries g) list)) (entries g)) (λ e. simp e refl) (λ e. simp e refl)

  leave_is : Leave (calls.deallocate id g)
  leave_is = deallocate_ways present Leave id g (λ r. refl) (λ q. leave_done _)

sound_return : (id : ℕ) (g : Atlas) → Sound g → return_id present id g ≡ calls.deallocate id g
unfolding calls.deallocate_by
sound_return id g p = simp ((sound_test g).1 p)

withheld_done : (held : Bool) (r : Result ⊤ Refusal) (after g : Atlas) → (withheld held r after g).answer ≡ (Ok tt) → held ≡ true
withheld_done true r after g e = refl
withheld_done false (Ok tt) after g e = absurd (let z : ◌≡◌ {A = ℕ} 0 1 = cc in omega arith)
withheld_done false (Err r) after g e = absurd (let z : ◌≡◌ {A = ℕ} 0 1 = cc in omega arith)

-- ---- by the verdict

-- the entry is there to go
pub leaves : (g : Atlas) (list : List Allocation) (v : Result ℕ Refusal) → v ≡ verdict (holding g list) → (id at : ℕ) {o : Outcome (Result ⊤ Refusal)}
    → o ≡ returning v at id g → LeavesAt v o.answer at (length list)
leaves g list v e id at {o} q = record {
  found = λ n f d.
      let s : o ≡ withheld (ltb at n) (return_id present id g).answer (return_id present id g).state g =
      q ∙ ap (λ (z : Result ℕ Refusal). returning z at id g) f in
      ltb-true at n
      (withheld_done (ltb at n) (return_id present id g).answer (return_id present id g).state g
      (ap (λ (z : Outcome (Result ⊤ Refusal)). z.answer) (sym s) ∙ d));
  counted = λ n f d. let k : Judging n (holding g list) = passed (holding g list) e n f in omega (arith, k.count, k.passing.fits.room);
}

pub deallocate_is : (g : Atlas) (list : List Allocation) (v : Result ℕ Refusal) → v ≡ verdict (holding g list) → (id at : ℕ) {o : Outcome (Result ⊤ Refusal)}
    → at ≡ found_by v id list → o ≡ returning v at id g
    → ended o.answer (holding o.state (left_in v o.answer at list)) ≡ listed.deallocate id (holding g list)
unfolding listed.deallocate_by
deallocate_is g list (Err r) e id at there q =
    let d : Outcome (Result ⊤ Refusal) = calls.deallocate id g in
    ap (λ (z : Outcome (Result ⊤ Refusal)). ended z.answer (holding z.state list)) q
    ∙ ap (judged (refusing Err (holding g list)) (λ n. leave id d.answer d.state (holding g list))) e
deallocate_is g list (Ok n) e id at {o} there q =
    let k : Judging n (holding g list) = passed (holding g list) e n refl in
    let d : Outcome (Result ⊤ Refusal) = calls.deallocate id g in
    let found : ℕ = place_of id (take (entries g) list) in
    let at-is : at ≡ found = there ∙ ap (λ (m : ℕ). place_of id (take m list)) k.count in
    let s : o ≡ withheld (ltb found (entries g)) d.answer d.state g =
    q ∙ ap (λ (m : ℕ). withheld (ltb at m) (return_id present id g).answer (return_id present id g).state g) k.count
    ∙ ap (λ (i : ℕ). withheld (ltb i (entries g)) (return_id present id g).answer (return_id present id g).state g) at-is
    ∙ ap (λ (z : Outcome (Result ⊤ Refusal)). withheld (ltb found (entries g)) z.answer z.state g) (sound_return id g k.passing.sound) in
    ap (left n at list) s
    ∙ ap (λ (m : ℕ). left m at list (withheld (ltb found (entries g)) d.answer d.state g)) k.count
    ∙ ap (λ (i : ℕ). left (entries g) i list (withheld (ltb found (entries g)) d.answer d.state g)) at-is
    ∙ leave_is id list g
    ∙ ap (judged (refusing Err (holding g list)) (λ n. leave id d.answer d.state (holding g list))) e
