-- Tables that nothing but the calls writes are sound after each call (Sounds), so none of these calls ever answers 1 to them. A list that nothing
-- but the calls writes fits them after each call (KeptFits, and History from a fresh atlas on), so none answers 21 either. No premise on what was
-- asked before, nor on the ids handed back.
use Rattle.std.specs.Prelude.{Err, Result, ⊤}
use Prim.Native.Nat.{ℕ, ◌<◌}
use mathlib.Core.Bool.{false}
use mathlib.Core.Path.{◌≡◌, refl, sym, subst}
use mathlib.Core.Logic.{◌≢◌, inl, inr}
use mathlib.Core.List.{List, [], ◌∷◌}
use lib.Dec.{eqb}
use lib.IntN.{ℤ}
use native.Mathlib.Omega.{arith}
use Rattle.rules.specs.declared.Allocation.{Allocation}
use Rattle.rules.specs.declared.Refusal.{Refusal}
use Rattle.rules.specs.Tables.{Atlas, Outcome}
use Rattle.rules.specs.Answers.{number, made_says, reply_says, placing_says, sides_says, flag_says, figure_says, written_says}
use Rattle.rules.specs.Sound.{Sound}
use Rattle.rules.specs.Calls.{new, clear, grow, allocate, deallocate, size, is_empty, allocated_space, free_space_of}
use Rattle.rules.specs.Calls as calls
use Rattle.rules.specs.Builds.{present}
use Rattle.rules.specs.Files.{saved, write}
use Rattle.rules.specs.Picture.{picture}
use Rattle.rules.specs.Held.{Fits}
use Rattle.rules.specs.Listed as listed
use Rattle.rules.specs.Listed.{Holding, holding, Ended, refusing, beside, enter, leave}
use Rattle.rules.specs.History.{Event, Listing, Run}
use Rattle.laws.proofs.Held.Ways.{Passing, tested_same}
use Rattle.promises.proofs.Reached.{Reached}
use Rattle.promises.proofs.Sounds.{reached_sound}
use Rattle.promises.proofs.Refusals.{new_refusals, clear_refusals, grow_refusals, deallocate_refusals, reading_refusals}
use Rattle.promises.proofs.NoPlace.{allocate_refusals, never_8}
use Rattle.promises.proofs.ListedRefusals.{tested_own}
use Rattle.promises.proofs.Saving.{saved_says}
use Rattle.promises.proofs.FilesRefused.{write_refusals}
use Rattle.promises.proofs.Pictures.{picture_refusals}
use Rattle.promises.proofs.Unsaid.{new_unsaid, clear_unsaid, grow_unsaid, allocate_unsaid, deallocate_unsaid, size_unsaid, empty_unsaid}
use Rattle.promises.proofs.Unsaid.{occupied_unsaid, free_unsaid, write_unsaid, picture_unsaid, enter_unsaid, leave_unsaid}
use Rattle.promises.proofs.Listing.{passing}
use Rattle.promises.proofs.History.{stays}

-- whatever is asked next, the answer is not refusal n
pub record NeverBare (n : ℕ) (g : Atlas) : Type 0 where
  pub new : (width height align_width align_height columns : ℤ) (vertical : ℕ)
      → made_says (new width height align_width align_height columns vertical g.shelves g.buckets) ≢ n ∷ []
  pub clear : reply_says (clear g).answer ≢ n ∷ []
  pub grow : (width height : ℤ) → reply_says (grow width height g).answer ≢ n ∷ []
  pub allocate : (width height : ℤ) → placing_says (allocate width height g).answer ≢ n ∷ []
  pub deallocate : (id : ℕ) → reply_says (deallocate id g).answer ≢ n ∷ []
  pub size : sides_says (size g) ≢ n ∷ []
  pub is_empty : flag_says (is_empty g) ≢ n ∷ []
  pub allocated : figure_says (allocated_space g) ≢ n ∷ []
  pub free : figure_says (free_space_of g) ≢ n ∷ []
  pub write : (out : List ℕ) → written_says (write present g out).written ≢ n ∷ []
  pub picture : (out : List ℕ) → written_says (picture g out).written ≢ n ∷ []

abbrev pub NeverOne : Atlas → Type 0
NeverOne g = NeverBare 1 g

pub sound_never_1 : {g : Atlas} → Sound g → NeverOne g
sound_never_1 {g} p = record {
  new = λ width height align_width align_height columns vertical e.
      (new_refusals width height align_width align_height columns vertical g.shelves g.buckets).one.only e p.steady.lent;
  clear = λ e. (clear_refusals g).one.only e p;
  grow = λ width height e. (grow_refusals width height g).one.only e p;
  allocate = λ width height e. (allocate_refusals present width height g).one.only e p;
  deallocate = λ id e. (deallocate_refusals id g).one.only e p;
  size = λ e. (reading_refusals g).size.only e p;
  is_empty = λ e. (reading_refusals g).is_empty.only e p;
  allocated = λ e. (reading_refusals g).allocated.only e p;
  free = λ e. (reading_refusals g).free.only e p;
  write = λ out e. (write_refusals present g out).one.only e p;
  picture = λ out e. (picture_refusals g out).one.only e p;
}

pub never_1 : {g : Atlas} → Reached present g → NeverOne g
never_1 r = sound_never_1 (reached_sound r)

-- ---- with the list

-- whatever is asked next; new looks at no list
pub record NeverSays (n : ℕ) (l : Holding) : Type 0 where
  pub clear : reply_says (listed.clear l).answer ≢ n ∷ []
  pub grow : (width height : ℤ) → reply_says (listed.grow width height l).answer ≢ n ∷ []
  pub allocate : (width height : ℤ) → placing_says (listed.allocate width height l).answer ≢ n ∷ []
  pub deallocate : (id : ℕ) → reply_says (listed.deallocate id l).answer ≢ n ∷ []
  pub size : sides_says (listed.size l) ≢ n ∷ []
  pub is_empty : flag_says (listed.is_empty l) ≢ n ∷ []
  pub allocated : figure_says (listed.allocated_space l) ≢ n ∷ []
  pub free : figure_says (listed.free_space_of l) ≢ n ∷ []
  pub write : (out : List ℕ) → written_says (listed.write present l out).written ≢ n ∷ []
  pub picture : (out : List ℕ) → written_says (listed.picture l out).written ≢ n ∷ []

-- where n is not said by a call past the tests, it is not said by the call
abbrev Untold : ℕ → Holding → Type 1
Untold n l = (A : Type 0) (says : A → List ℕ) (refuse : Refusal → A) → ((r : Refusal) → says (refuse r) ≡ number r ∷ []) → (a : A)
    → says a ≢ n ∷ [] → says (listed.tested refuse a l) ≢ n ∷ []

-- as both tests pass
untold_passing : (n : ℕ) (l : Holding) → Passing present l → Untold n l
untold_passing n l p A says refuse is a ne = subst (λ (x : _). says x ≢ n ∷ []) (sym (tested_same refuse a l p)) ne

-- or as it is neither 1 nor 21
untold_other : (n : ℕ) (l : Holding) → eqb 1 n ≡ false → eqb 21 n ≡ false → Untold n l
untold_other n l one list A says refuse is a ne e = ((tested_own present says refuse is l a n one list (λ p. record { when = absurd; only = ne })).only e).1

-- where 19 and 20 are other numbers, a call says n only where it does without the list
module _ (n : ℕ) (full : n ≢ 19) (strange : n ≢ 20) (l : Holding) (past : Untold n l) where
  says_reply : Ended (Result ⊤ Refusal) → List ℕ
  says_reply o = reply_says o.answer

  says_placing : Ended (Result Allocation Refusal) → List ℕ
  says_placing o = placing_says o.answer

  beside_never : NeverBare n l.state → NeverSays n l
  unfolding listed.clear_by listed.grow_by listed.allocate_by listed.deallocate_by listed.size listed.is_empty listed.allocated_space
      listed.free_space_of listed.write
      listed.picture says_reply says_placing
  beside_never b = record {
    clear = past _ says_reply (refusing Err l) (λ r. refl) (beside (calls.clear l.state) l.list) b.clear;
    grow = λ width height. past _ says_reply (refusing Err l) (λ r. refl) (beside (calls.grow width height l.state) l.list)
        (b.grow width height);
    allocate = λ width height.
        let o : Outcome (Result Allocation Refusal) = calls.allocate width height l.state in
        past _ says_placing (refusing Err l) (λ r. refl) (enter o.answer o.state l)
        (enter_unsaid n full o.answer o.state l (b.allocate width height));
    deallocate = λ id.
        let o : Outcome (Result ⊤ Refusal) = calls.deallocate id l.state in
        past _ says_reply (refusing Err l) (λ r. refl) (leave id o.answer o.state l)
        (leave_unsaid n strange id o.answer o.state l (b.deallocate id));
    size = past _ sides_says Err (λ r. refl) (calls.size l.state) b.size;
    is_empty = past _ flag_says Err (λ r. refl) (calls.is_empty l.state) b.is_empty;
    allocated = past _ figure_says Err (λ r. refl) (calls.allocated_space l.state) b.allocated;
    free = past _ figure_says Err (λ r. refl) (calls.free_space_of l.state) b.free;
    write = λ out. past _ saved_says (λ r. saved (Err r) out) (λ r. refl) (write present l.state out) (b.write out);
    picture = λ out. past _ saved_says (λ r. saved (Err r) out) (λ r. refl) (picture l.state out) (b.picture out);
  }

bare_never_21 : (g : Atlas) → NeverBare 21 g
bare_never_21 g =
    let high : 12 < 21 = omega arith in
    record {
      new = λ width height align_width align_height columns vertical.
          new_unsaid 21 (inl high) width height align_width align_height columns vertical g.shelves g.buckets;
      clear = clear_unsaid 21 (inl high) g;
      grow = λ width height. grow_unsaid 21 (inl high) width height g;
      allocate = λ width height. allocate_unsaid 21 high (omega arith) width height g;
      deallocate = λ id. deallocate_unsaid 21 (inl high) id g;
      size = size_unsaid 21 (inl high) g;
      is_empty = empty_unsaid 21 (inl high) g;
      allocated = occupied_unsaid 21 (inl high) g;
      free = free_unsaid 21 (inl high) g;
      write = λ out. write_unsaid 21 (λ e. omega arith) (λ e. omega arith) present g out;
      picture = λ out. picture_unsaid 21 (λ e. omega arith) (λ e. omega arith) g out;
    }

-- ---- T-08: "8 can't arise and stays unused"

-- no call says it, whatever the tables
pub bare_never_8 : (g : Atlas) → NeverBare 8 g
bare_never_8 g = record {
  new = λ width height align_width align_height columns vertical.
      new_unsaid 8 (inr refl) width height align_width align_height columns vertical g.shelves g.buckets;
  clear = clear_unsaid 8 (inr refl) g;
  grow = λ width height. grow_unsaid 8 (inr refl) width height g;
  allocate = λ width height. never_8 width height g;
  deallocate = λ id. deallocate_unsaid 8 (inr refl) id g;
  size = size_unsaid 8 (inr refl) g;
  is_empty = empty_unsaid 8 (inr refl) g;
  allocated = occupied_unsaid 8 (inr refl) g;
  free = free_unsaid 8 (inr refl) g;
  write = λ out. write_unsaid 8 (λ e. omega arith) (λ e. omega arith) present g out;
  picture = λ out. picture_unsaid 8 (λ e. omega arith) (λ e. omega arith) g out;
}

pub listed_never_8 : (l : Holding) → NeverSays 8 l
listed_never_8 l = beside_never 8 (λ e. omega arith) (λ e. omega arith) l (untold_other 8 l refl refl) (bare_never_8 l.state)

-- ---- with the list, of what passes both tests

-- with no premise on where tables and list came from: what the calls leave from there on passes too (`step_fits`, `calls_fit`)
pub fits_never_21 : {g : Atlas} {xs : List Allocation} → Sound g → Fits g xs → NeverSays 21 (holding g xs)
fits_never_21 {g} {xs} p f =
    beside_never 21 (λ e. omega arith) (λ e. omega arith) (holding g xs) (untold_passing 21 (holding g xs) (record { sound = p; fits = f })) (bare_never_21 g)

-- a call of a run that is lent what the last one left, or a list anew that passed the test
pub listed_never_1 : {past : List Event} {g : Atlas} {xs : List Allocation} → Run present past g (Listing.lent xs) → NeverSays 1 (holding g xs)
listed_never_1 {g = g} {xs = xs} r =
    let p : Passing present (holding g xs) = passing (stays r) in
    beside_never 1 (λ e. omega arith) (λ e. omega arith) (holding g xs) (untold_passing 1 (holding g xs) p) (sound_never_1 p.sound)

pub listed_never_21 : {past : List Event} {g : Atlas} {xs : List Allocation} → Run present past g (Listing.lent xs) → NeverSays 21 (holding g xs)
listed_never_21 r = let p = passing (stays r) in fits_never_21 p.sound p.fits
