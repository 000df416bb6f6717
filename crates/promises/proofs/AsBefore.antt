-- T-02: what a call with the list does where the tables are sound and the list fits: what it does without it, but for 19 and 20. So every promise of
-- the calls without the list holds of these. And "An accepted call too leaves the records past its new counts as they were", of the list's entries.
use Rattle.std.specs.Prelude.{Ok, Err, Result, ⊤}
use Prim.Native.Nat.{ℕ, suc, ◌-◌, ◌≤◌, ◌<◌}
use mathlib.Core.Path.{◌≡◌, refl, ◌∙◌, subst}
use mathlib.Core.List.{List}
use native.Mathlib.Omega.{arith}
use borrow.Author.Tests.{lt-ltb}
use lib.IntN.{ℤ}
use lib.ListN.{length, take, drop}
use Rattle.rules.specs.declared.Allocation.{Allocation}
use Rattle.rules.specs.declared.Refusal.{Refusal}
use Rattle.rules.specs.Ids.{id_bucket}
use Rattle.rules.specs.Tables.{Atlas, Outcome}
use Rattle.rules.specs.Calls as calls
use Rattle.rules.specs.Builds.{present}
use Rattle.rules.specs.Files as files
use Rattle.rules.specs.Picture as pictures
use Rattle.rules.specs.Held.{blank, entries, added, removed, place_of, place_for}
use Rattle.rules.specs.Listed.{Holding, holding, ended, beside, enter, leave}
use Rattle.rules.specs.Listed.{clear, clear_by, grow, grow_by, allocate, allocate_by, deallocate, deallocate_by, size, is_empty, allocated_space}
use Rattle.rules.specs.Listed.{free_space_of, write, picture}
use Rattle.laws.proofs.Held.Lists.{past_added, past_removed}
use Rattle.laws.proofs.Held.Ways.{Passing, tested_same}

-- ---- as without the list

pub record AsBefore (l : Holding) : Type 0 where
  pub clear : clear l ≡ beside (calls.clear l.state) l.list
  pub grow : (width height : ℤ) → grow width height l ≡ beside (calls.grow width height l.state) l.list
  pub size : size l ≡ calls.size l.state
  pub is_empty : is_empty l ≡ calls.is_empty l.state
  pub allocated : allocated_space l ≡ calls.allocated_space l.state
  pub free : free_space_of l ≡ calls.free_space_of l.state
  pub write : (out : List ℕ) → write present l out ≡ files.write present l.state out
  pub picture : (out : List ℕ) → picture l out ≡ pictures.picture l.state out
  -- a request is refused as without the list; one that is placed gets its entry, where the list has room
  pub refused : (width height : ℤ) (r : Refusal) → (calls.allocate width height l.state).answer ≡ Err r
      → allocate width height l ≡ ended (Err r) l
  pub placed : (width height : ℤ) (a : Allocation) → (calls.allocate width height l.state).answer ≡ Ok a
      → entries l.state < length l.list
      → allocate width height l ≡ ended (Ok a)
      (holding (calls.allocate width height l.state).state
      (added (entries l.state) (place_for (id_bucket a.id) (calls.allocate width height l.state).state) a l.list))
  -- a return is refused as without the list; one that is accepted takes its entry out, where the id is in it
  pub unreturned : (id : ℕ) (r : Refusal) → (calls.deallocate id l.state).answer ≡ Err r → deallocate id l ≡ ended (Err r) l
  pub returned : (id : ℕ) → (calls.deallocate id l.state).answer ≡ (Ok tt)
      → place_of id (take (entries l.state) l.list) < entries l.state
      → deallocate id l ≡ ended (Ok tt)
      (holding (calls.deallocate id l.state).state (removed blank (entries l.state) (place_of id (take (entries l.state) l.list)) l.list))

-- the list's answer, of any answer without it
enter_refused : (p : Result Allocation Refusal) (g : Atlas) (l : Holding) (r : Refusal) → p ≡ Err r → enter p g l ≡ ended (Err r) l
enter_refused p g l r e = rw e refl

enter_placed : (p : Result Allocation Refusal) (g : Atlas) (l : Holding) (a : Allocation) → p ≡ Ok a → entries l.state < length l.list
    → enter p g l ≡ ended (Ok a) (holding g (added (entries l.state) (place_for (id_bucket a.id) g) a l.list))
enter_placed p g l a e m = rw e (simp (lt-ltb (entries l.state) (length l.list) m))

leave_refused : (id : ℕ) (p : Result ⊤ Refusal) (g : Atlas) (l : Holding) (r : Refusal) → p ≡ Err r → leave id p g l ≡ ended (Err r) l
leave_refused id p g l r e = rw e refl

leave_done : (id : ℕ) (p : Result ⊤ Refusal) (g : Atlas) (l : Holding) → p ≡ (Ok tt) → place_of id (take (entries l.state) l.list) < entries l.state
    → leave id p g l ≡ ended (Ok tt) (holding g (removed blank (entries l.state) (place_of id (take (entries l.state) l.list)) l.list))
leave_done id p g l e m = rw e (simp (lt-ltb (place_of id (take (entries l.state) l.list)) (entries l.state) m))

pub as_before : (l : Holding) → Passing present l → AsBefore l
unfolding clear_by grow_by size is_empty allocated_space free_space_of write picture allocate_by deallocate_by
as_before l p = record {
  clear = tested_same _ _ l p;
  grow = λ width height. tested_same _ _ l p;
  size = tested_same _ _ l p;
  is_empty = tested_same _ _ l p;
  allocated = tested_same _ _ l p;
  free = tested_same _ _ l p;
  write = λ out. tested_same _ _ l p;
  picture = λ out. tested_same _ _ l p;
  refused = λ width height r e.
      let o : Outcome (Result Allocation Refusal) = calls.allocate width height l.state in
      tested_same _ (enter o.answer o.state l) l p ∙ enter_refused o.answer o.state l r e;
  placed = λ width height a e m.
      let o : Outcome (Result Allocation Refusal) = calls.allocate width height l.state in
      tested_same _ (enter o.answer o.state l) l p ∙ enter_placed o.answer o.state l a e m;
  unreturned = λ id r e.
      let o : Outcome (Result ⊤ Refusal) = calls.deallocate id l.state in
      tested_same _ (leave id o.answer o.state l) l p ∙ leave_refused id o.answer o.state l r e;
  returned = λ id e m.
      let o : Outcome (Result ⊤ Refusal) = calls.deallocate id l.state in
      tested_same _ (leave id o.answer o.state l) l p ∙ leave_done id o.answer o.state l e m;
}

-- ---- past the entries

-- what stands behind the entries after an accepted call is what stood there before it
pub entered_past : (n i : ℕ) (a : Allocation) (list : List Allocation) → i ≤ n → drop (suc n) (added n i a list) ≡ drop (suc n) list
entered_past = past_added

pub left_past : (n i : ℕ) (list : List Allocation) → i < n → n ≤ length list → drop (n - 1) (removed blank n i list) ≡ drop (n - 1) list
left_past n i list l m =
    let e : suc (n - 1) ≡ n = omega arith in
    subst (λ (z : ℕ). drop (n - 1) (removed blank z i list) ≡ drop (n - 1) list) e (past_removed blank (n - 1) i list (omega arith) (omega arith))
