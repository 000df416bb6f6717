-- T-02: a refusal of a call with the list leaves header, tables and list as they were, past their counts too; of a write or a picture also the buffer.
use Rattle.std.specs.Prelude.{Ok, Err, Result, ⊤}
use Prim.Native.Nat.{ℕ}
use mathlib.Core.Path.{◌≡◌, refl, sym, ap}
use mathlib.Core.List.{List}
use lib.IntN.{ℤ}
use Rattle.rules.specs.declared.Allocation.{Allocation}
use Rattle.rules.specs.declared.Refusal.{Refusal}
use Rattle.rules.specs.Tables.{Atlas, Outcome}
use Rattle.rules.specs.Calls as calls
use Rattle.rules.specs.Builds.{Build, present}
use Rattle.rules.specs.Files as files
use Rattle.rules.specs.Saving.{Saved, saved}
use Rattle.rules.specs.Picture as pictures
use Rattle.rules.specs.Listed.{Holding, holding, Ended, ended, refusing, beside, tested_by, enter, leave}
use Rattle.rules.specs.Listed.{clear, clear_by, grow, grow_by, allocate, allocate_by, deallocate, deallocate_by, write, picture}
use Rattle.laws.proofs.Held.Ways.{tested_ways, enter_ways, leave_ways}
use Rattle.promises.proofs.Outcomes as bare
use Rattle.promises.proofs.Outcomes.{Unchanged}
use Rattle.promises.proofs.FilesRefused as bareFiles
use Rattle.promises.proofs.Pictures as barePictures
use Rattle.laws.proofs.Results.{err_not_ok}

-- what was lent is left where the answer is one of these refusals
pub record LeftAlone {A : Type 0} (refusal : Refusal → A) (l : Holding) (o : Ended A) : Type 0 where
  pub same : (r : Refusal) → o.answer ≡ refusal r → o.left ≡ l

module _ {A : Type 0} {refusal : Refusal → A} (l : Holding) where
  refused : (r : Refusal) → LeftAlone refusal l (ended (refusal r) l)
  refused r = record { same = λ r' e. refl }

  -- the list stays beside what the call without it leaves
  stands : (o : Outcome A) → Unchanged refusal l.state o → LeftAlone refusal l (beside o l.list)
  stands o u = record { same = λ r e. ap (λ (g : Atlas). holding g l.list) (u.same r e) }

accepted : {B : Type 0} (l l' : Holding) (x : B) → LeftAlone Err l (ended (Ok x) l')
accepted l l' x = record { same = λ r e. err_not_ok (sym e) }

pub clear_refused : (l : Holding) → LeftAlone Err l (clear l)
unfolding clear_by
clear_refused l =
    tested_ways present (LeftAlone Err l) (refusing Err l) (beside (calls.clear l.state) l.list) l (refused l)
    (λ p. stands l (calls.clear l.state) (bare.clear_refused l.state))

pub grow_refused : (width height : ℤ) (l : Holding) → LeftAlone Err l (grow width height l)
unfolding grow_by
grow_refused width height l =
    tested_ways present (LeftAlone Err l) (refusing Err l) (beside (calls.grow width height l.state) l.list) l (refused l)
    (λ p. stands l (calls.grow width height l.state) (bare.grow_refused width height l.state))

pub allocate_refused : (width height : ℤ) (l : Holding) → LeftAlone Err l (allocate width height l)
unfolding allocate_by
allocate_refused width height l =
    let o : Outcome (Result Allocation Refusal) = calls.allocate width height l.state in
    let Same : Ended (Result Allocation Refusal) → Type 0 = LeftAlone Err l in
    tested_ways present Same (refusing Err l) (enter o.answer o.state l) l (refused l)
    (λ p. enter_ways Same o.answer o.state l (refused l) (λ a e m. accepted l _ a))

pub deallocate_refused : (id : ℕ) (l : Holding) → LeftAlone Err l (deallocate id l)
unfolding deallocate_by
deallocate_refused id l =
    let o : Outcome (Result ⊤ Refusal) = calls.deallocate id l.state in
    let Same : Ended (Result ⊤ Refusal) → Type 0 = LeftAlone Err l in
    tested_ways present Same (refusing Err l) (leave id o.answer o.state l) l (refused l)
    (λ p. leave_ways Same id o.answer o.state l (refused l) (λ e m. accepted l _ tt))

-- a write and a picture change nothing but their buffer
saved_refused : (build : Build) (l : Holding) (out : List ℕ) (r : Refusal) (a : Saved) → (a.written ≡ Err r → a.out ≡ out)
    → (tested_by build (λ q. saved (Err q) out) a l).written ≡ Err r
    → (tested_by build (λ q. saved (Err q) out) a l).out ≡ out
saved_refused build l out r a own =
    tested_ways build (λ (w : Saved). w.written ≡ Err r → w.out ≡ out) (λ q. saved (Err q) out) a l (λ q e. refl) (λ p. own)

pub write_refused : (build : Build) (l : Holding) (out : List ℕ) (r : Refusal) → (write build l out).written ≡ Err r
    → (write build l out).out ≡ out
unfolding write
write_refused build l out r = saved_refused build l out r (files.write build l.state out) (bareFiles.write_refused build l.state out r)

pub picture_refused : (l : Holding) (out : List ℕ) (r : Refusal) → (picture l out).written ≡ Err r → (picture l out).out ≡ out
unfolding picture
picture_refused l out r = saved_refused present l out r (pictures.picture l.state out) (barePictures.picture_refused l.state out r)
