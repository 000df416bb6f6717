-- Demand 3. After any calls from a fresh atlas whose tables, and from T-02 on whose list, nothing else writes, the held rectangles lie inside the
-- atlas, no two share a pixel, their ids are distinct, and the header's occupied figure is that of the history. The list has exactly the held
-- rectangles. Over a restart too, of whatever builds: a file read back goes on from the moment of writing (T-01), and a list lent anew then says
-- what is held (T-02). Of a build without the list its caller hands back only ids it then holds.
use Prim.Native.Nat.{ℕ, ◌≤◌, ◌<◌}
use mathlib.Core.Bool.{Bool, true, false}
use mathlib.Core.Path.{◌≡◌, refl, sym, ap, ◌∙◌, subst}
use mathlib.Core.Logic.{◌⊎◌, inl, inr}
use mathlib.Core.List.{List, [], ◌∷◌, ◌++◌}
use native.Mathlib.Decide.{dec_lt}
use native.Mathlib.Omega.{arith}
use borrow.Author.Tests.{lt-leb, eq-eqb, ne_eqb, lt-ltb, le-ltb}
use lib.ListN.{length, take}
use lib.Seq.{length-take-le, take_all}
use Rattle.rules.specs.declared.Allocation.{Allocation}
use Rattle.rules.specs.declared.Head.{Head}
use Rattle.rules.specs.declared.Refusal.{Refusal}
use Rattle.rules.specs.Ids.{id_bucket, id_generation}
use Rattle.rules.specs.Tables.{Atlas, bucket_at}
use Rattle.rules.specs.Calls as calls
use Rattle.rules.specs.Calls.{return_id}
use Rattle.rules.specs.Sound.{Lent, SoundBy}
use Rattle.std.specs.Prelude.{if◌then◌else◌, Ok, Err, Result, ⊤}
use Rattle.rules.specs.Builds.{Build, has_list, names_side}
use Rattle.rules.specs.Files.{saved, file_of, write, read_by}
use Rattle.rules.specs.Held.{entries, place_of, Fits}
use Rattle.rules.specs.Listed.{holding, Ended, leave, deallocate_by}
use Rattle.rules.specs.Listed as listed
use Rattle.rules.specs.History.{Event, without, held, Holds, from_bucket, issued_since, entry, step, Listing, listed_step}
use Rattle.rules.specs.History.{saves, file_in, read_into, unnamed, Run, Kept, Exact}
use Rattle.laws.proofs.Sound.Test.{sound_test}
use Rattle.laws.proofs.Sound.Apart.{Used}
use Rattle.laws.proofs.Files.Saving.{saving_done}
use Rattle.laws.proofs.Files.Ways.{read_done}
use Rattle.laws.proofs.Calls.Empty.{empty_new, sound_new}
use Rattle.laws.proofs.Held.Each.{each_held}
use Rattle.laws.proofs.Held.Among.{holds_place, place_holds, SameEntries, holds_among, among_holds, same_holds, without_among, among_at, at_among}
use Rattle.laws.proofs.Held.Ways.{tested_same, leave_ways}
use Rattle.promises.proofs.Invariant.{Invariant, ties_none, ties_frame}
use Rattle.laws.proofs.Files.Repaired.{AsRead, frame_read}
use Rattle.promises.proofs.Files.{read_sound_law, read_repaired}
use Rattle.promises.proofs.Figures.{figure_is}
use Rattle.laws.proofs.Tied.Fits.{UsedSpot, used_spots, inside_at, apart_at, distinct_at, tied_length, tied_fits}
use Rattle.promises.proofs.Steps.{step_keeps}
use Rattle.promises.proofs.Lists.{Listed, ReturnsListed}
use Rattle.promises.proofs.Listing.{passing, listed_step_law, listed_fresh, listed_anew}

-- ---- the invariant along a run

refused_anew : {build : Build} {past : List Event} {g : Atlas} (r r' : Refusal)
    → Invariant build (Event.allocated (Err r) ∷ past) g → Invariant build (Event.allocated (Err r') ∷ past) g
unfolding issued_since
refused_anew r r' v = record { sound = v.sound; ties = record { tied = v.ties.tied; area = v.ties.area } }

-- without the list, and with it
abbrev pub Stays : Build → List Event → Atlas → Listing → Type 0
Stays build past g Listing.none = Invariant build past g
Stays build past g (Listing.lent xs) = Listed build past g xs

-- the tables alone
pub bare : {build : Build} {past : List Event} {g : Atlas} (x : Listing) → Stays build past g x → Invariant build past g
bare Listing.none v = v
bare (Listing.lent xs) v = v.invariant

-- it speaks of the records below the counts alone, and of the unreferenced among them asks only what the build that reads them makes of them
read_keeps : {build earlier : Build} {past : List Event} {g g' : Atlas} → SoundBy build g' → AsRead build g g' → Invariant earlier past g
    → Invariant build past g'
read_keeps p d v = record { sound = p; ties = ties_frame (frame_read d v.sound.steady) v.ties }

-- what a write put into a buffer, read back over lent tables
pub back_again : (build earlier : Build) (g : Atlas) (out : List ℕ) (n : ℕ) → (write earlier g out).written ≡ Ok n → (s b : List ℕ) → Lent s b
    → ((read_by build (file_in (write earlier g out) n) s b).made ≡ Ok g.head)
    × AsRead build g (read_into g.head (read_by build (file_in (write earlier g out) n) s b))
back_again build earlier g out n e s b lent =
    let w = saving_done earlier Refusal.Buffer g (file_of earlier g) out n e in
    rw w.is (read_repaired build earlier g s b w.sound lent)

not_written : {A : Type 0} (r : Refusal) (n : ℕ) → Err r ≡ Ok n → A
not_written r n e = absurd (let z : ◌≡◌ {A = ℕ} 0 1 = cc in omega arith)

-- the write of a run that is accepted is that of the tables
saves_write : (build : Build) (past : List Event) (g : Atlas) (x : Listing) (out : List ℕ) (n : ℕ) → Stays build past g x
    → (saves build g x out).written ≡ Ok n → saves build g x out ≡ write build g out
unfolding listed.write
saves_write build past g Listing.none out n v e = unlisted (has_list build) e
  where
    unlisted : (listed : Bool) → (if listed then saved (Err Refusal.List) out else write build g out).written ≡ Ok n
        → (if listed then saved (Err Refusal.List) out else write build g out) ≡ write build g out
    unlisted true e = not_written Refusal.List n e
    unlisted false e = refl
saves_write build past g (Listing.lent xs) out n v e = tested_same (λ r. saved (Err r) out) (write build g out) (holding g xs) (passing v)

restored_keeps : (build earlier : Build) (past : List Event) (g : Atlas) (x : Listing) → Stays earlier past g x → (out : List ℕ) (n : ℕ)
    → (saves earlier g x out).written ≡ Ok n → (s b : List ℕ) (head : Head)
    → (read_by build (file_in (saves earlier g x out) n) s b).made ≡ Ok head
    → Invariant build past (read_into head (read_by build (file_in (saves earlier g x out) n) s b))
restored_keeps build earlier past g x v out n e s b head a =
    let is : saves earlier g x out ≡ write earlier g out = saves_write earlier past g x out n v e in
    let file : List ℕ = file_in (write earlier g out) n in
    let done : (write earlier g out).written ≡ Ok n = rw is at e in
    let made : (read_by build file s b).made ≡ Ok head = rw is at a in
    let k = back_again build earlier g out n done s b (read_done build file s b head made).lent in
    let same : g.head ≡ head = cc in
    rw is
    (subst (λ (h : Head). Invariant build past (read_into h (read_by build file s b))) same
    (read_keeps (read_sound_law build file s b g.head k.0) k.1 (bare x v)))

fresh_stays : {build : Build} (listed : Bool) (g : Atlas) (xs : List Allocation) → Invariant build [] g → g.head.bucket_count ≡ 0
    → Stays build [] g (if listed then Listing.lent xs else Listing.none)
fresh_stays true g xs v z = listed_fresh xs v z
fresh_stays false g xs v z = v

-- T-04: under which number a request was refused is nothing to what is held
module _ (build : Build) (past : List Event) (g : Atlas) where
  unnamed_stays : (e : Event) (x : Listing) → Stays build (e ∷ past) g x → Stays build (unnamed e ∷ past) g x
  unnamed_stays (Event.allocated (Ok a)) x v = v
  unnamed_stays (Event.allocated (Err r)) Listing.none v = refused_anew r _ v
  unnamed_stays (Event.allocated (Err r)) (Listing.lent xs) v =
      record { invariant = refused_anew r _ v.invariant; room = v.room; tied = v.tied; same = v.same }
  unnamed_stays (Event.made m) x v = v
  unnamed_stays (Event.deallocated id r) x v = v
  unnamed_stays (Event.cleared r) x v = v
  unnamed_stays (Event.grown r) x v = v
  unnamed_stays Event.read x v = v
  unnamed_stays (Event.lent ys) x v = v

  answered_stays : (names : Bool) (e : Event) (x : Listing) → Stays build (e ∷ past) g x → Stays build ((if names then e else unnamed e) ∷ past) g x
  answered_stays true e x v = v
  answered_stays false e x v = unnamed_stays e x v

pub stays : {build : Build} {past : List Event} {g : Atlas} {x : Listing} → Run build past g x → Stays build past g x
stays (Run.fresh build w h aw ah n v s b head e xs) =
    let none = (empty_new w h aw ah n v s b head e).1.buckets in
    fresh_stays (has_list build) _ xs (record { sound = sound_new w h aw ah n v s b head e; ties = ties_none refl none }) none
stays (Run.next build past g r u c l) =
    answered_stays build past (step build c g).state (names_side build) (step build c g).event Listing.none (step_keeps (stays r) c l)
stays (Run.called build past g xs r c) =
    let s = listed_step build c (holding g xs) in
    answered_stays build past s.left.state (names_side build) s.event (Listing.lent s.left.list) (listed_step_law (stays r) c)
stays (Run.restored build earlier past g x r out n e s b head a) =
    restored_keeps build earlier past g x (stays r) out n e s b head a
stays (Run.relent build past g r u xs f) = listed_anew xs (stays r) f

pub invariant : {build : Build} {past : List Event} {g : Atlas} {x : Listing} → Run build past g x → Invariant build past g
invariant {build} {past} {g} {x} r = bare x (stays r)

-- ---- the theorem

pub kept_of : {build : Build} {past : List Event} {g : Atlas} → Invariant build past g → Kept past g
kept_of p = record {
  inside = inside_at p.ties.tied p.sound.steady;
  apart = apart_at p.ties.tied p.sound.steady;
  distinct = distinct_at p.ties.tied p.sound.steady;
  occupied = figure_is p.ties p.sound.steady;
}

pub kept : (build : Build) (past : List Event) (g : Atlas) (x : Listing) → Run build past g x → Kept past g
kept build past g x r = kept_of (invariant r)

-- ---- T-02: the list

-- "After each call the list has exactly the held rectangles, as issued, with their ids."
pub listed_exact : (build : Build) (past : List Event) (g : Atlas) (xs : List Allocation) → Run build past g (Listing.lent xs)
    → Exact (take (entries g) xs) (held past)
listed_exact build past g xs r =
    let v : Listed build past g xs = stays r in
    let ys : List Allocation = take (entries g) xs in
    record {
      only = λ i l. at_among (entry ys i) (held past) (v.same.there (entry ys i) (among_at ys i l));
      all = λ j l. at_among (entry (held past) j) ys (v.same.back (entry (held past) j) (among_at (held past) j l));
      once = λ i j li lj e. distinct_at v.tied v.invariant.sound.steady i j li lj (ap (λ (a : Allocation). a.id) e);
    }

-- it fits, so that no call that is lent what the last one left answers 21
pub listed_fits : (build : Build) (past : List Event) (g : Atlas) (xs : List Allocation) → Run build past g (Listing.lent xs) → Fits g xs
listed_fits build past g xs r = (passing (stays r)).fits

-- "A fitting list exists for every state that a run reaches": the held rectangles
pub held_fits : (build : Build) (past : List Event) (g : Atlas) (x : Listing) → Run build past g x → Fits g (held past)
held_fits build past g x r =
    let v : Invariant build past g = invariant r in
    let long : length (held past) ≡ entries g = tied_length v.ties.tied in
    let whole : take (entries g) (held past) ≡ held past = take_all (entries g) (held past) (omega arith) in
    tied_fits v.sound.steady (omega arith) (rw whole v.ties.tied)

-- ---- a held id is taken back

held_done : {build : Build} {past : List Event} {g : Atlas} → Invariant build past g → (id : ℕ) → (a : Allocation) → a.id ≡ id → UsedSpot g a
    → (calls.deallocate_by build id g).answer ≡ (Ok tt)
unfolding calls.deallocate_by return_id
held_done {past} {g} p id a e q =
    let u : Used g (id_bucket id) = subst (λ (z : ℕ). Used g (id_bucket z)) e q.used in
    let generation : (bucket_at g.buckets (id_bucket id)).generation ≡ id_generation id =
    subst (λ (z : ℕ). (bucket_at g.buckets (id_bucket z)).generation ≡ id_generation z) e (sym q.spot.generation) in
    simp (
      (sound_test g).1 p.sound,
      lt-leb g.head.bucket_count (id_bucket id) u.below,
      eq-eqb (bucket_at g.buckets (id_bucket id)).generation (id_generation id) generation,
      ne_eqb (bucket_at g.buckets (id_bucket id)).refs 0 (λ z. omega (arith, u.refs)),
    )

held_taken : {build : Build} {past : List Event} {g : Atlas} → Invariant build past g → (id : ℕ) → Holds id (held past)
    → (calls.deallocate_by build id g).answer ≡ (Ok tt)
held_taken {build} {past} {g} p id h =
    let a = each_held (UsedSpot g) (held past) id (used_spots p.ties.tied p.sound.steady) h in
    held_done p id a.0 a.1 a.2

-- of a build without the list
pub held_accepted : (build : Build) (past : List Event) (g : Atlas) (x : Listing) → Run build past g x → (id : ℕ) → Holds id (held past)
    → (calls.deallocate_by build id g).answer ≡ (Ok tt)
held_accepted build past g x r id h = held_taken (invariant r) id h

module _ {build : Build} {past : List Event} {g : Atlas} {xs : List Allocation} (v : Listed build past g xs) (id : ℕ) where
  live_long : length (take (entries g) xs) ≡ entries g
  live_long = length-take-le (entries g) xs v.room

  -- past both tests
  untested : deallocate_by build id (holding g xs) ≡ leave id (calls.deallocate_by build id g).answer (calls.deallocate_by build id g).state (holding g xs)
  unfolding deallocate_by
  untested = tested_same _ (leave id (calls.deallocate_by build id g).answer (calls.deallocate_by build id g).state (holding g xs)) (holding g xs) (passing v)

  -- the list's answer to a return that is accepted without it
  leave_held : Holds id (held past) → (z : Result ⊤ Refusal) → z ≡ (Ok tt) → (leave id z (calls.deallocate_by build id g).state (holding g xs)).answer ≡ (Ok tt)
  leave_held h z e =
      let back : SameEntries (held past) (take (entries g) xs) = record { there = v.same.back; back = v.same.there } in
      let l : place_of id (take (entries g) xs) < entries g = omega (arith, holds_place id (take (entries g) xs) (same_holds back id h), live_long) in
      rw e (simp (lt-ltb (place_of id (take (entries g) xs)) (entries g) l))

  leave_other : (Holds id (held past) → ⊥) → (z : Result ⊤ Refusal) → z ≡ (Ok tt)
      → (leave id z (calls.deallocate_by build id g).state (holding g xs)).answer ≡ Err Refusal.NotHeld
  leave_other ne z e =
      let l : entries g ≤ place_of id (take (entries g) xs) = elim (dec_lt (place_of id (take (entries g) xs)) (entries g)) [
        | yes q ↦ absurd (ne (same_holds v.same id (place_holds id (take (entries g) xs) (omega (arith, live_long)))))
        | no q ↦ omega arith
      ] in
      rw e (simp (le-ltb (place_of id (take (entries g) xs)) (entries g) l))

  leave_only : (leave id (calls.deallocate_by build id g).answer (calls.deallocate_by build id g).state (holding g xs)).answer ≡ (Ok tt)
      → Holds id (held past)
  leave_only = leave_ways (λ (o : Ended (Result ⊤ Refusal)). o.answer ≡ (Ok tt) → Holds id (held past)) id (calls.deallocate_by build id g).answer
      (calls.deallocate_by build id g).state (holding g xs)
      (λ r e. absurd (let z : ◌≡◌ {A = ℕ} 0 1 = cc in omega arith))
      (λ d l e. same_holds v.same id (place_holds id (take (entries g) xs) (omega (arith, live_long))))

  answer_is : (deallocate_by build id (holding g xs)).answer
      ≡ (leave id (calls.deallocate_by build id g).answer (calls.deallocate_by build id g).state (holding g xs)).answer
  answer_is = ap (λ (o : Ended (Result ⊤ Refusal)). o.answer) untested

  returns_of : ReturnsListed build past g xs id
  returns_of = record {
    accepted = λ h. answer_is ∙ leave_held h (calls.deallocate_by build id g).answer (held_taken v.invariant id h);
    only = λ e. leave_only (sym answer_is ∙ e);
    other = λ ne e. answer_is ∙ leave_other ne (calls.deallocate_by build id g).answer e;
  }

pub returns : (build : Build) (past : List Event) (g : Atlas) (xs : List Allocation) → Run build past g (Listing.lent xs)
    → (id : ℕ) → ReturnsListed build past g xs id
returns build past g xs r id = returns_of (stays r) id

-- ---- "a second return of it is refused (20, where 9 to 11 do not come first), until the id is issued again"

-- what was returned is not held
pub returned_once : (past : List Event) (id : ℕ) → Holds id (held (Event.deallocated id (Ok tt) ∷ past)) → ⊥
returned_once past id h = gone (held past) h
  where
    gone : (xs : List Allocation) → Holds id (without id xs) → ⊥
    gone xs h = let q = holds_among id (without id xs) h in (without_among q.0 id xs q.2).0 q.1

-- the event issues the id: a rectangle is placed under it, or a list lent anew has it, "its entries standing for what was issued"
abbrev pub Issues : ℕ → Event → Type 0
Issues id (Event.allocated (Ok a)) = a.id ≡ id
Issues id (Event.allocated (Err r)) = ⊥
Issues id (Event.made m) = ⊥
Issues id (Event.deallocated returned r) = ⊥
Issues id (Event.cleared r) = ⊥
Issues id (Event.grown r) = ⊥
Issues id Event.read = ⊥
Issues id (Event.lent ys) = Holds id ys

-- one of the events does: "the id is issued again"
abbrev pub IssuedIn : ℕ → List Event → Type 0
IssuedIn id [] = ⊥
IssuedIn id (e ∷ later) = Issues id e ⊎ IssuedIn id later

pub unheld_step : (e : Event) (past : List Event) (id : ℕ) → (Holds id (held past) → ⊥) → (Issues id e → ⊥) → Holds id (held (e ∷ past)) → ⊥
unheld_step (Event.made (Ok head)) past id unheld other h = h
unheld_step (Event.made (Err r)) past id unheld other h = unheld h
unheld_step (Event.allocated (Ok a)) past id unheld other (inl e) = other e
unheld_step (Event.allocated (Ok a)) past id unheld other (inr h) = unheld h
unheld_step (Event.allocated (Err r)) past id unheld other h = unheld h
unheld_step (Event.deallocated returned (Ok tt)) past id unheld other h = unheld (left (held past) h)
  where
    left : (xs : List Allocation) → Holds id (without returned xs) → Holds id xs
    left xs h =
        let q = holds_among id (without returned xs) h in
        subst (λ (i : ℕ). Holds i xs) q.1 (among_holds q.0 xs (without_among q.0 returned xs q.2).1)
unheld_step (Event.deallocated returned (Err r)) past id unheld other h = unheld h
unheld_step (Event.cleared (Ok tt)) past id unheld other h = h
unheld_step (Event.cleared (Err r)) past id unheld other h = unheld h
unheld_step (Event.grown r) past id unheld other h = unheld h
unheld_step Event.read past id unheld other h = unheld h
unheld_step (Event.lent ys) past id unheld other h = other h

-- nor is it after any later events (the newest first) none of which issues it
pub unheld_until : (later past : List Event) (id : ℕ) → (IssuedIn id later → ⊥) → Holds id (held (later ++ Event.deallocated id (Ok tt) ∷ past)) → ⊥
unheld_until [] past id none h = returned_once past id h
unheld_until (e ∷ later) past id none h =
    unheld_step e (later ++ Event.deallocated id (Ok tt) ∷ past) id (unheld_until later past id (λ i. none (inr i))) (λ i. none (inl i)) h

-- so until then it is refused: as 9, 10 or 11, and where these do not come first as 20
pub record RefusedAgain (build : Build) (g : Atlas) (xs : List Allocation) (id : ℕ) : Type 0 where
  pub refused : (deallocate_by build id (holding g xs)).answer ≡ (Ok tt) → ⊥
  pub twenty : (calls.deallocate_by build id g).answer ≡ (Ok tt) → (deallocate_by build id (holding g xs)).answer ≡ Err Refusal.NotHeld

pub refused_until : (build : Build) (later past : List Event) (g : Atlas) (xs : List Allocation) (id : ℕ)
    → Run build (later ++ Event.deallocated id (Ok tt) ∷ past) g (Listing.lent xs) → (IssuedIn id later → ⊥) → RefusedAgain build g xs id
refused_until build later past g xs id r none =
    let v : ReturnsListed build (later ++ Event.deallocated id (Ok tt) ∷ past) g xs id = returns build _ g xs r id in
    let unheld : Holds id (held (later ++ Event.deallocated id (Ok tt) ∷ past)) → ⊥ = unheld_until later past id none in
    record { refused = λ e. unheld (v.only e); twenty = v.other unheld }

-- ---- over a restart

-- what was written of an atlas after that history, read back over lent tables by a build. The history goes on from the writing, in whatever build: what
-- was held then is held, and as each bucket is referenced as often as one of its rectangles was held, nothing else is. T-08: with the repair, of which
-- no held rectangle knows. The list before it is at an end; one lent anew that has the held rectangles fits, and so does any that passes the test.
pub record Restart (build : Build) (past : List Event) (g : Atlas) (file s b : List ℕ) : Type 0 where
  pub accepted : (read_by build file s b).made ≡ Ok g.head
  pub read : AsRead build g (read_into g.head (read_by build file s b))
  pub run : Run build past (read_into g.head (read_by build file s b)) Listing.none
  pub kept : Kept past (read_into g.head (read_by build file s b))
  pub returns : (id : ℕ) → Holds id (held past) → (calls.deallocate_by build id (read_into g.head (read_by build file s b))).answer ≡ (Ok tt)
  pub only : (k : ℕ) → k < g.head.bucket_count → (bucket_at (read_by build file s b).buckets k).refs ≡ from_bucket k (held past)
  pub fits : Fits (read_into g.head (read_by build file s b)) (held past)

pub restart : (build earlier : Build) (past : List Event) (g : Atlas) (x : Listing) → Run earlier past g x → (out : List ℕ) (n : ℕ)
    → (saves earlier g x out).written ≡ Ok n → (s b : List ℕ) → Lent s b → Restart build past g (file_in (saves earlier g x out) n) s b
restart build earlier past g x r out n e s b lent =
    let is : saves earlier g x out ≡ write earlier g out = saves_write earlier past g x out n (stays r) e in
    let k = back_again build earlier g out n (rw is at e) s b lent in
    let accepted : (read_by build (file_in (saves earlier g x out) n) s b).made ≡ Ok g.head = rw is k.0 in
    let run : Run build past (read_into g.head (read_by build (file_in (saves earlier g x out) n) s b)) Listing.none =
    Run.restored build earlier past g x r out n e s b g.head accepted in
    record {
      accepted = accepted;
      read = rw is k.1;
      run = run;
      kept = kept build past _ Listing.none run;
      returns = held_accepted build past _ Listing.none run;
      only = λ i l. sym ((invariant run).ties.tied.refs i l);
      fits = held_fits build past _ Listing.none run;
    }
