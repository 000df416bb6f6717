-- T-02: "Given exactly when", with "Order", of the calls with the list. 1 and 21 come before anything else, 21 straight after 1; what a call says past
-- both it says as without the list, but for 19 and 20.
use Rattle.std.specs.Prelude.{Ok, Err, Result, ⊤}
use Prim.Native.Nat.{ℕ, ◌≤◌, ◌<◌}
use mathlib.Core.Bool.{false, ◌||◌, not}
use mathlib.Core.Path.{◌≡◌, refl, sym, ◌∙◌}
use mathlib.Core.List.{List, [], ◌∷◌}
use native.Mathlib.Decide.{dec_lt}
use native.Mathlib.Omega.{arith}
use borrow.Author.Tests.{eqb-false}
use lib.Dec.{eqb, leb, ltb}
use lib.IntN.{ℤ}
use lib.ListN.{length, take}
use lib.Seq.{length-take-le}
use Rattle.rules.specs.declared.Allocation.{Allocation}
use Rattle.rules.specs.declared.Refusal.{Refusal}
use Rattle.rules.specs.Limits.{side_most}
use Rattle.rules.specs.Ids.{id_bucket, id_generation}
use Rattle.rules.specs.Tables.{Atlas, Outcome, bucket_at}
use Rattle.rules.specs.Answers.{number, reply_says, placing_says, sides_says, flag_says, figure_says, written_says}
use Rattle.rules.specs.Sound.{SoundBy, Sound, is_sound_by, is_sound}
use Rattle.rules.specs.Calls as calls
use Rattle.rules.specs.Calls.{natural}
use Rattle.rules.specs.Builds.{Build, present}
use Rattle.rules.specs.Saving.{Saved, saved, saving}
use Rattle.rules.specs.Files.{file_of}
use Rattle.rules.specs.Picture.{picture_of}
use Rattle.rules.specs.Held.{entries, place_of, Fits, fits}
use Rattle.rules.specs.Listed.{Holding, Ended, verdict_by, refusing, beside, tested_by, enter, leave}
use Rattle.rules.specs.Listed.{clear, clear_by, grow, grow_by, allocate, allocate_by, deallocate, deallocate_by, size, is_empty, allocated_space}
use Rattle.rules.specs.Listed.{free_space_of, write, picture}
use Rattle.rules.specs.History.{Holds}
use Rattle.laws.proofs.Tests.Flags.{split}
use Rattle.laws.proofs.Tests.Tells.{Tells, tells_ltb}
use Rattle.laws.proofs.Sound.Test.{sound_tells}
use Rattle.laws.proofs.Held.Test.{fits_tells}
use Rattle.laws.proofs.Held.Among.{place_holds, holds_place}
use Rattle.laws.proofs.Held.Ways.{Passing}
use Rattle.promises.proofs.Exactly.{Exactly, exactly_map, refused_not, other, longer, never, first, failed}
use Rattle.promises.proofs.Refusals.{SideOut, Shrinks, Unknown, Stale, Unheld, clear_refusals, grow_refusals, deallocate_refusals, reading_refusals}
use Rattle.promises.proofs.NoPlace.{Small, Large, Wide, Tall, Requested, NoPlace, Fills, Wears, aligned_width, aligned_height, allocate_refusals}
use Rattle.promises.proofs.Saving.{saved_says, SavingRefusals, saving_refusals, saving_unsaid}

-- ---- both tests

-- `says` is what the call answers, `own` what it answers past the tests
module _ {A : Type 0} (build : Build) (f : A → List ℕ) (refuse : Refusal → A)
    (refused : (r : Refusal) → f (refuse r) ≡ number r ∷ []) (l : Holding) (a : A) where
  -- "1 first"
  pub tested_1 : (f a ≡ 1 ∷ [] → SoundBy build l.state → ⊥) → Exactly 1 (f (tested_by build refuse a l)) (SoundBy build l.state → ⊥)
  unfolding verdict_by
  tested_1 ne = record {
    when = λ p. split (is_sound_by build l.state) (λ e. absurd (p ((sound_tells l.state).holds e))) (λ e. simp e (refused Refusal.Tables));
    only = λ s p. split (fits l.state l.list)
        (λ e. ne (simp ((sound_tells l.state).shown p, e) at s) p)
        (λ e. other refl (sym (refused Refusal.List) ∙ (simp ((sound_tells l.state).shown p, e) at s)));
  }

  -- "21 .. straight after 1"
  pub tested_21 : (f a ≡ 21 ∷ [] → ⊥) → Exactly 21 (f (tested_by build refuse a l)) (SoundBy build l.state × (Fits l.state l.list → ⊥))
  unfolding verdict_by
  tested_21 ne = record {
    when = λ p. split (fits l.state l.list) (λ e. absurd (p.1 ((fits_tells l.state l.list).holds e)))
        (λ e. simp ((sound_tells l.state).shown p.0, e) (refused Refusal.List));
    only = λ s. split (is_sound_by build l.state)
        (λ e. ((sound_tells l.state).holds e, λ p. ne (simp (e, (fits_tells l.state l.list).shown p) at s)))
        (λ e. absurd (other refl (sym (refused Refusal.Tables) ∙ (simp e at s))));
  }

  -- any other number is the call's own
  pub tested_own : (n : ℕ) → eqb 1 n ≡ false → eqb 21 n ≡ false → {Q : Type 0} → (Passing build l → Exactly n (f a) Q)
      → Exactly n (f (tested_by build refuse a l)) (Passing build l × Q)
  unfolding verdict_by
  tested_own n one list q = record {
    when = λ p. simp ((sound_tells l.state).shown p.0.sound, (fits_tells l.state l.list).shown p.0.fits) ((q p.0).when p.1);
    only = λ s. split (is_sound_by build l.state)
        (λ e. split (fits l.state l.list)
        (λ k.
        let p : Passing build l = record { sound = (sound_tells l.state).holds e; fits = (fits_tells l.state l.list).holds k } in
        (p, (q p).only (simp (e, k) at s)))
        (λ k. absurd (other list (sym (refused Refusal.List) ∙ (simp (e, k) at s)))))
        (λ e. absurd (other one (sym (refused Refusal.Tables) ∙ (simp e at s))));
  }

-- what a call says: of an answer with what it leaves
says_reply : Ended (Result ⊤ Refusal) → List ℕ
says_reply o = reply_says o.answer

says_placing : Ended (Result Allocation Refusal) → List ℕ
says_placing o = placing_says o.answer

-- the calls without the list never say 19 to 21
clear_not : (g : Atlas) → reply_says (calls.clear g).answer ≡ 21 ∷ [] → ⊥
unfolding calls.clear_by
clear_not g = never (λ (o : Outcome (Result ⊤ Refusal)). reply_says o.answer) 21 (is_sound g) _ _ (other refl) (other refl)

grow_not : (width height : ℤ) (g : Atlas) → reply_says (calls.grow width height g).answer ≡ 21 ∷ [] → ⊥
unfolding calls.grow_by calls.grow_to
grow_not width height g =
    let w : ℕ = natural width in
    let h : ℕ = natural height in
    let says : Outcome (Result ⊤ Refusal) → List ℕ = λ o. reply_says o.answer in
    never says 21 (is_sound g) _ _
    (never says 21 (calls.outside w side_most || calls.outside h side_most) _ _ (other refl)
    (never says 21 (ltb w g.head.width || ltb h g.head.height) _ _ (other refl) (other refl))) (other refl)

return_not : (n id : ℕ) (g : Atlas) → eqb 0 n ≡ false → eqb 1 n ≡ false → eqb 9 n ≡ false → eqb 10 n ≡ false → eqb 11 n ≡ false
    → reply_says (calls.deallocate id g).answer ≡ n ∷ [] → ⊥
unfolding calls.deallocate_by calls.return_id
return_not n id g a b c d e =
    let says : Outcome (Result ⊤ Refusal) → List ℕ = λ o. reply_says o.answer in
    never says n (is_sound g) _ _
    (never says n (leb g.head.bucket_count (id_bucket id)) _ _ (other c)
    (never says n (not (eqb (bucket_at g.buckets (id_bucket id)).generation (id_generation id))) _ _ (other d)
    (never says n (eqb (bucket_at g.buckets (id_bucket id)).refs 0) _ _ (other e) (other a)))) (other b)

-- ---- clear: 1, 21

pub record ListedClear (l : Holding) : Type 0 where
  pub done : Exactly 0 (reply_says (clear l).answer) (Passing present l × Sound l.state)
  pub one : Exactly 1 (reply_says (clear l).answer) (Sound l.state → ⊥)
  pub twenty_one : Exactly 21 (reply_says (clear l).answer) (Sound l.state × (Fits l.state l.list → ⊥))

pub listed_clear : (l : Holding) → ListedClear l
unfolding clear_by says_reply
listed_clear l =
    let g : Atlas = l.state in
    let a : Ended (Result ⊤ Refusal) = beside (calls.clear g) l.list in
    record {
      done = tested_own present says_reply (refusing Err l) (λ r. refl) l a 0 refl refl (λ p. (clear_refusals g).done);
      one = tested_1 present says_reply (refusing Err l) (λ r. refl) l a (clear_refusals g).one.only;
      twenty_one = tested_21 present says_reply (refusing Err l) (λ r. refl) l a (clear_not g);
    }

-- ---- the four reading calls: 1, 21

pub record ListedReading (l : Holding) : Type 0 where
  pub size_one : Exactly 1 (sides_says (size l)) (Sound l.state → ⊥)
  pub size_twenty_one : Exactly 21 (sides_says (size l)) (Sound l.state × (Fits l.state l.list → ⊥))
  pub empty_one : Exactly 1 (flag_says (is_empty l)) (Sound l.state → ⊥)
  pub empty_twenty_one : Exactly 21 (flag_says (is_empty l)) (Sound l.state × (Fits l.state l.list → ⊥))
  pub allocated_one : Exactly 1 (figure_says (allocated_space l)) (Sound l.state → ⊥)
  pub allocated_twenty_one : Exactly 21 (figure_says (allocated_space l)) (Sound l.state × (Fits l.state l.list → ⊥))
  pub free_one : Exactly 1 (figure_says (free_space_of l)) (Sound l.state → ⊥)
  pub free_twenty_one : Exactly 21 (figure_says (free_space_of l)) (Sound l.state × (Fits l.state l.list → ⊥))

pub listed_reading : (l : Holding) → ListedReading l
unfolding size is_empty allocated_space free_space_of calls.size calls.is_empty calls.allocated_space calls.free_space_of
listed_reading l =
    let g : Atlas = l.state in
    let r = reading_refusals g in
    record {
      size_one = tested_1 present sides_says Err (λ r. refl) l (calls.size g) r.size.only;
      size_twenty_one = tested_21 present sides_says Err (λ r. refl) l (calls.size g)
          (never sides_says 21 (is_sound g) _ _ (other refl) (other refl));
      empty_one = tested_1 present flag_says Err (λ r. refl) l (calls.is_empty g) r.is_empty.only;
      empty_twenty_one = tested_21 present flag_says Err (λ r. refl) l (calls.is_empty g)
          (never flag_says 21 (is_sound g) _ _ (other refl) (other refl));
      allocated_one = tested_1 present figure_says Err (λ r. refl) l (calls.allocated_space g) r.allocated.only;
      allocated_twenty_one = tested_21 present figure_says Err (λ r. refl) l (calls.allocated_space g)
          (never figure_says 21 (is_sound g) _ _ (other refl) (other refl));
      free_one = tested_1 present figure_says Err (λ r. refl) l (calls.free_space_of g) r.free.only;
      free_twenty_one = tested_21 present figure_says Err (λ r. refl) l (calls.free_space_of g)
          (never figure_says 21 (is_sound g) _ _ (other refl) (other refl));
    }

-- ---- grow: 1, 21, 2, 12

pub record ListedGrow (width height : ℤ) (l : Holding) : Type 0 where
  pub done : Exactly 0 (reply_says (grow width height l).answer)
      (Passing present l × (Sound l.state
      × ((SideOut (natural width) (natural height) → ⊥) × (Shrinks (natural width) (natural height) l.state.head → ⊥))))
  pub one : Exactly 1 (reply_says (grow width height l).answer) (Sound l.state → ⊥)
  pub twenty_one : Exactly 21 (reply_says (grow width height l).answer) (Sound l.state × (Fits l.state l.list → ⊥))
  pub two : Exactly 2 (reply_says (grow width height l).answer) (Passing present l × (Sound l.state × SideOut (natural width) (natural height)))
  pub twelve : Exactly 12 (reply_says (grow width height l).answer)
      (Passing present l × (Sound l.state × ((SideOut (natural width) (natural height) → ⊥) × Shrinks (natural width) (natural height) l.state.head)))

pub listed_grow : (width height : ℤ) (l : Holding) → ListedGrow width height l
unfolding grow_by says_reply
listed_grow width height l =
    let g : Atlas = l.state in
    let a : Ended (Result ⊤ Refusal) = beside (calls.grow width height g) l.list in
    let r = grow_refusals width height g in
    record {
      done = tested_own present says_reply (refusing Err l) (λ r. refl) l a 0 refl refl (λ p. r.done);
      one = tested_1 present says_reply (refusing Err l) (λ r. refl) l a r.one.only;
      twenty_one = tested_21 present says_reply (refusing Err l) (λ r. refl) l a (grow_not width height g);
      two = tested_own present says_reply (refusing Err l) (λ r. refl) l a 2 refl refl (λ p. r.two);
      twelve = tested_own present says_reply (refusing Err l) (λ r. refl) l a 12 refl refl (λ p. r.twelve);
    }

-- ---- deallocate: 1, 21, 9, 10, 11, 20

-- the id is in the list
abbrev pub Listed : ℕ → Holding → Type 0
Listed id l = Holds id (take (entries l.state) l.list)

-- 9 to 11 do not come first
abbrev pub Returnable : ℕ → Atlas → Type 0
Returnable id g = Sound g × ((Unknown id g → ⊥) × ((Stale id g → ⊥) × (Unheld id g → ⊥)))

pub record ListedDeallocate (id : ℕ) (l : Holding) : Type 0 where
  pub done : Exactly 0 (reply_says (deallocate id l).answer) (Passing present l × (Returnable id l.state × Listed id l))
  pub one : Exactly 1 (reply_says (deallocate id l).answer) (Sound l.state → ⊥)
  pub twenty_one : Exactly 21 (reply_says (deallocate id l).answer) (Sound l.state × (Fits l.state l.list → ⊥))
  pub nine : Exactly 9 (reply_says (deallocate id l).answer) (Passing present l × (Sound l.state × Unknown id l.state))
  pub ten : Exactly 10 (reply_says (deallocate id l).answer)
      (Passing present l × (Sound l.state × ((Unknown id l.state → ⊥) × Stale id l.state)))
  pub eleven : Exactly 11 (reply_says (deallocate id l).answer)
      (Passing present l × (Sound l.state × ((Unknown id l.state → ⊥) × ((Stale id l.state → ⊥) × Unheld id l.state))))
  -- "20 id not held, in return after 11"
  pub twenty : Exactly 20 (reply_says (deallocate id l).answer) (Passing present l × (Returnable id l.state × (Listed id l → ⊥)))

-- the list is asked where the return is accepted without it
module _ (id : ℕ) (after : Atlas) (l : Holding) where
  abbrev at : ℕ
  at = place_of id (take (entries l.state) l.list)

  -- of a list that fits
  module _ (f : Fits l.state l.list) where
    long : length (take (entries l.state) l.list) ≡ entries l.state
    long = length-take-le (entries l.state) l.list f.room

    listed_tells : Tells (ltb at (entries l.state)) (Listed id l)
    listed_tells = record {
      holds = λ e. place_holds id (take (entries l.state) l.list) (omega (arith, (tells_ltb at (entries l.state)).holds e, long));
      shown = λ h. (tells_ltb at (entries l.state)).shown (omega (arith, holds_place id (take (entries l.state) l.list) h, long));
    }

  -- another number than 0 and 20 is told as without the list
  leave_own : (n : ℕ) → eqb 0 n ≡ false → eqb 20 n ≡ false → (r : Result ⊤ Refusal) {Q : Type 0} → Exactly n (reply_says r) Q
      → Exactly n (reply_says (leave id r after l).answer) Q
  unfolding says_reply
  leave_own n zero twenty (Err r) q = q
  leave_own n zero twenty (Ok tt) q = record {
    when = λ h. absurd (other zero (q.when h));
    only = λ s. absurd (never says_reply n (ltb at (entries l.state)) _ _ (other zero) (other twenty) s);
  }

  leave_0 : Fits l.state l.list → (r : Result ⊤ Refusal) {Q : Type 0} → Exactly 0 (reply_says r) Q
      → Exactly 0 (reply_says (leave id r after l).answer) (Q × Listed id l)
  unfolding says_reply
  leave_0 f (Err r) q = record { when = λ h. q.when h.0; only = λ s. absurd (refused_not r ([], s)) }
  leave_0 f (Ok tt) q = exactly_map (first says_reply 0 (ltb at (entries l.state)) _ _ (listed_tells f) refl (other refl))
      (λ h. (q.only refl, h)) (λ h. h.1)

  leave_20 : Fits l.state l.list → (r : Result ⊤ Refusal) {Q : Type 0} → (reply_says r ≡ 20 ∷ [] → ⊥) → Exactly 0 (reply_says r) Q
      → Exactly 20 (reply_says (leave id r after l).answer) (Q × (Listed id l → ⊥))
  unfolding says_reply
  leave_20 f (Err r) ne q = record { when = λ h. absurd (refused_not r ([], q.when h.0)); only = λ s. absurd (ne s) }
  leave_20 f (Ok tt) ne q = exactly_map (failed says_reply 20 (ltb at (entries l.state)) _ _ (listed_tells f) (other refl) refl)
      (λ h. (q.only refl, h)) (λ h. h.1)

pub listed_deallocate : (id : ℕ) (l : Holding) → ListedDeallocate id l
unfolding deallocate_by says_reply
listed_deallocate id l =
    let g : Atlas = l.state in
    let o : Outcome (Result ⊤ Refusal) = calls.deallocate id g in
    let a : Ended (Result ⊤ Refusal) = leave id o.answer o.state l in
    let r = deallocate_refusals id g in
    record {
      done = tested_own present says_reply (refusing Err l) (λ r. refl) l a 0 refl refl
          (λ p. leave_0 id o.state l p.fits o.answer r.done);
      one = tested_1 present says_reply (refusing Err l) (λ r. refl) l a (leave_own id o.state l 1 refl refl o.answer r.one).only;
      twenty_one = tested_21 present says_reply (refusing Err l) (λ r. refl) l a
          (leave_own id o.state l 21 refl refl o.answer (record { when = absurd; only = return_not 21 id g refl refl refl refl refl })).only;
      nine = tested_own present says_reply (refusing Err l) (λ r. refl) l a 9 refl refl
          (λ p. leave_own id o.state l 9 refl refl o.answer r.nine);
      ten = tested_own present says_reply (refusing Err l) (λ r. refl) l a 10 refl refl
          (λ p. leave_own id o.state l 10 refl refl o.answer r.ten);
      eleven = tested_own present says_reply (refusing Err l) (λ r. refl) l a 11 refl refl
          (λ p. leave_own id o.state l 11 refl refl o.answer r.eleven);
      twenty = tested_own present says_reply (refusing Err l) (λ r. refl) l a 20 refl refl
          (λ p. leave_20 id o.state l p.fits o.answer (return_not 20 id g refl refl refl refl refl) r.done);
    }

-- ---- allocate: 1, 21, 4, 5, 22, 23, then 6, 7 or 8, then 19

-- the request would be placed
abbrev pub WouldPlace : ℤ → ℤ → Atlas → Type 0
WouldPlace width height g = (a : Allocation) × ((calls.allocate width height g).answer ≡ Ok a)

pub record ListedAllocate (width height : ℤ) (l : Holding) : Type 0 where
  pub one : Exactly 1 (placing_says (allocate width height l).answer) (Sound l.state → ⊥)
  pub twenty_one : Exactly 21 (placing_says (allocate width height l).answer) (Sound l.state × (Fits l.state l.list → ⊥))
  pub four : Exactly 4 (placing_says (allocate width height l).answer) (Passing present l × (Sound l.state × Small (natural width) (natural height)))
  pub five : Exactly 5 (placing_says (allocate width height l).answer)
      (Passing present l × (Sound l.state × ((Small (natural width) (natural height) → ⊥) × Large (natural width) (natural height))))
  pub twenty_two : Exactly 22 (placing_says (allocate width height l).answer)
      (Passing present l × (Sound l.state × ((Small (natural width) (natural height) → ⊥) × ((Large (natural width) (natural height) → ⊥)
      × Wide (natural width) l.state.head))))
  pub twenty_three : Exactly 23 (placing_says (allocate width height l).answer)
      (Passing present l × (Sound l.state × ((Small (natural width) (natural height) → ⊥) × ((Large (natural width) (natural height) → ⊥)
      × ((Wide (natural width) l.state.head → ⊥) × Tall (natural height) l.state.head)))))
  pub six : Exactly 6 (placing_says (allocate width height l).answer)
      (Passing present l × (Requested present (natural width) (natural height) l.state
      × NoPlace (aligned_width width l.state) (aligned_height height l.state) l.state))
  pub seven : Exactly 7 (placing_says (allocate width height l).answer)
      (Passing present l × (Requested present (natural width) (natural height) l.state
      × Fills present (aligned_width width l.state) (aligned_height height l.state) l.state))
  pub eight : Exactly 8 (placing_says (allocate width height l).answer)
      (Passing present l × (Requested present (natural width) (natural height) l.state
      × Wears (aligned_width width l.state) (aligned_height height l.state) l.state))
  -- "19 list full, in allocate after 8": only where the request would be placed
  pub nineteen : Exactly 19 (placing_says (allocate width height l).answer)
      (Passing present l × (WouldPlace width height l.state × (length l.list ≤ entries l.state)))

-- the list is asked where the request is placed without it
module _ (after : Atlas) (l : Holding) where
  enter_own : (n : ℕ) → eqb 19 n ≡ false → (p : Result Allocation Refusal) {Q : Type 0} → Exactly n (placing_says p) Q
      → Exactly n (placing_says (enter p after l).answer) Q
  unfolding says_placing
  enter_own n ne (Err r) q = q
  enter_own n ne (Ok a) q = record {
    when = λ h. absurd (longer (q.when h));
    only = λ s. absurd (never says_placing n (ltb (entries l.state) (length l.list)) _ _ longer (other ne) s);
  }

  enter_19 : (p : Result Allocation Refusal) → (placing_says p ≡ 19 ∷ [] → ⊥)
      → Exactly 19 (placing_says (enter p after l).answer) (((a : Allocation) × (p ≡ Ok a)) × (length l.list ≤ entries l.state))
  unfolding says_placing
  enter_19 (Err r) ne = record { when = λ h. absurd (let z : ◌≡◌ {A = ℕ} 0 1 = cc h.0.1 in omega arith); only = λ s. absurd (ne s) }
  enter_19 (Ok a) ne = exactly_map
      (failed says_placing 19 (ltb (entries l.state) (length l.list)) _ _ (tells_ltb (entries l.state) (length l.list)) longer refl)
      (λ h. ((a, refl), elim (dec_lt (entries l.state) (length l.list)) [ yes q ↦ absurd (h q) | no q ↦ omega arith ]))
      (λ h q. omega (arith, h.1))

pub listed_allocate : (width height : ℤ) (l : Holding) → ListedAllocate width height l
unfolding allocate_by says_placing
listed_allocate width height l =
    let g : Atlas = l.state in
    let o : Outcome (Result Allocation Refusal) = calls.allocate width height g in
    let a : Ended (Result Allocation Refusal) = enter o.answer o.state l in
    let r = allocate_refusals present width height g in
    let none = r.others in
    record {
      one = tested_1 present says_placing (refusing Err l) (λ r. refl) l a (enter_own o.state l 1 refl o.answer r.one).only;
      twenty_one = tested_21 present says_placing (refusing Err l) (λ r. refl) l a
          (enter_own o.state l 21 refl o.answer (record {
            when = absurd;
            only = none 21 (λ e. omega arith) (λ e. omega arith) (λ e. omega arith) (λ e. omega arith) (λ e. omega arith)
                (λ e. omega arith) (λ e. omega arith) (λ e. omega arith);
          })).only;
      four = tested_own present says_placing (refusing Err l) (λ r. refl) l a 4 refl refl
          (λ p. enter_own o.state l 4 refl o.answer r.four);
      five = tested_own present says_placing (refusing Err l) (λ r. refl) l a 5 refl refl
          (λ p. enter_own o.state l 5 refl o.answer r.five);
      twenty_two = tested_own present says_placing (refusing Err l) (λ r. refl) l a 22 refl refl
          (λ p. enter_own o.state l 22 refl o.answer r.twenty_two);
      twenty_three = tested_own present says_placing (refusing Err l) (λ r. refl) l a 23 refl refl
          (λ p. enter_own o.state l 23 refl o.answer r.twenty_three);
      six = tested_own present says_placing (refusing Err l) (λ r. refl) l a 6 refl refl (λ p. enter_own o.state l 6 refl o.answer r.six);
      seven = tested_own present says_placing (refusing Err l) (λ r. refl) l a 7 refl refl
          (λ p. enter_own o.state l 7 refl o.answer r.seven);
      eight = tested_own present says_placing (refusing Err l) (λ r. refl) l a 8 refl refl
          (λ p. enter_own o.state l 8 refl o.answer r.eight);
      nineteen = tested_own present says_placing (refusing Err l) (λ r. refl) l a 19 refl refl
          (λ p. enter_19 o.state l o.answer (none 19 (λ e. omega arith) (λ e. omega arith) (λ e. omega arith) (λ e. omega arith) (λ e. omega arith)
          (λ e. omega arith) (λ e. omega arith) (λ e. omega arith)));
    }

-- ---- write: 1, 21, 18; T-07, picture: 1, 21, 24

record ListedSaving (build : Build) (short : Refusal) (l : Holding) (text out : List ℕ) (w : Saved) : Type 0 where
  one : Exactly 1 (saved_says w) (SoundBy build l.state → ⊥)
  twenty_one : Exactly 21 (saved_says w) (SoundBy build l.state × (Fits l.state l.list → ⊥))
  shorter : Exactly (number short) (saved_says w) (Passing build l × (SoundBy build l.state × (length out < length text)))

listed_saving : (build : Build) (short : Refusal) → eqb 1 (number short) ≡ false → eqb 21 (number short) ≡ false → (l : Holding) (text out : List ℕ)
    → ListedSaving build short l text out (tested_by build (λ r. saved (Err r) out) (saving build short l.state text out) l)
listed_saving build short one list l text out =
    let g : Atlas = l.state in
    let refuse : Refusal → Saved = λ r. saved (Err r) out in
    let a : Saved = saving build short g text out in
    let r : SavingRefusals build short g text out = saving_refusals build short (λ e. eqb-false 1 (number short) one (sym e)) g text out in
    record {
      one = tested_1 build saved_says refuse (λ r. refl) l a r.one.only;
      twenty_one = tested_21 build saved_says refuse (λ r. refl) l a
          (saving_unsaid build short g text out 21 (λ e. omega arith) (eqb-false 21 (number short) list));
      shorter = tested_own build saved_says refuse (λ r. refl) l a (number short) one list (λ p. r.shorter);
    }

pub record ListedWrite (build : Build) (l : Holding) (out : List ℕ) : Type 0 where
  pub one : Exactly 1 (written_says (write build l out).written) (SoundBy build l.state → ⊥)
  pub twenty_one : Exactly 21 (written_says (write build l out).written) (SoundBy build l.state × (Fits l.state l.list → ⊥))
  pub eighteen : Exactly 18 (written_says (write build l out).written)
      (Passing build l × (SoundBy build l.state × (length out < length (file_of build l.state))))

pub listed_write : (build : Build) (l : Holding) (out : List ℕ) → ListedWrite build l out
unfolding write
listed_write build l out =
    let r = listed_saving build Refusal.Buffer refl refl l (file_of build l.state) out in
    record { one = r.one; twenty_one = r.twenty_one; eighteen = r.shorter }

pub record ListedPicture (l : Holding) (out : List ℕ) : Type 0 where
  pub one : Exactly 1 (written_says (picture l out).written) (Sound l.state → ⊥)
  pub twenty_one : Exactly 21 (written_says (picture l out).written) (Sound l.state × (Fits l.state l.list → ⊥))
  pub twenty_four : Exactly 24 (written_says (picture l out).written) (Passing present l × (Sound l.state × (length out < length (picture_of l.state))))

pub listed_picture : (l : Holding) (out : List ℕ) → ListedPicture l out
unfolding picture
listed_picture l out =
    let r = listed_saving present Refusal.Output refl refl l (picture_of l.state) out in
    record { one = r.one; twenty_one = r.twenty_one; twenty_four = r.shorter }
