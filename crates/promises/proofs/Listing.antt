-- The list lent beside the tables along a run (T-02): it has the held rectangles and fits the tables, and every call keeps that, whatever id is
-- handed back. A list lent anew after a read, which fits, begins it.
use Rattle.std.specs.Prelude.{Ok, Err, Result, ⊤}
use Rattle.rules.specs.declared.Head.{Head}
use Rattle.rules.specs.declared.Refusal.{Refusal}
use Prim.Native.Nat.{ℕ, ◌<◌}
use mathlib.Core.Path.{◌≡◌, refl, subst}
use mathlib.Core.List.{List, [], ◌∷◌}
use lib.IntN.{ℤ}
use lib.ListN.{length, take}
use Rattle.rules.specs.declared.Allocation.{Allocation}
use Rattle.rules.specs.Ids.{id_bucket}
use Rattle.rules.specs.Tables.{Atlas, Outcome}
use Rattle.rules.specs.Grow.{cleared_head}
use Rattle.rules.specs.Builds.{Build}
use Rattle.rules.specs.Calls as calls
use Rattle.rules.specs.Held.{blank, entries, added, removed, place_of, place_for, Fits}
use Rattle.rules.specs.Listed.{holding, Ended, clear_by, grow_by, allocate_by, deallocate_by}
use Rattle.rules.specs.History.{Call, Event, held, issued_from, after_made, listed_step}
use Rattle.laws.proofs.Calls.Ways.{clear_ways}
use Rattle.laws.proofs.Calls.Empty.{empty_new, sound_new}
use Rattle.laws.proofs.Held.Among.{SameEntries, same_holds, same_insert, same_without, same_refl}
use Rattle.laws.proofs.Held.Ways.{Passing, listed_allocate_ways, listed_deallocate_ways, listed_grow_ways, listed_clear_ways}
use Rattle.promises.proofs.Sounds.{step_sound}
use Rattle.laws.proofs.Tied.To.{TiedTo}
use Rattle.laws.proofs.Tied.Fits.{fits_tied, tied_fits}
use Rattle.laws.proofs.Tied.Live.{Live, live_none, entered, left, left_holds, grown}
use Rattle.promises.proofs.Invariant.{Ties, Invariant, areas_quiet, ties_quiet}
use Rattle.promises.proofs.StepReturn.{deallocate_ties}
use Rattle.promises.proofs.Steps.{allocate_ties, clear_ties, grow_ties, new_ties}
use Rattle.promises.proofs.Lists.{Listed}

-- it passes the tests of every call
pub passing : {build : Build} {past : List Event} {g : Atlas} {xs : List Allocation} → Listed build past g xs → Passing build (holding g xs)
passing v = record { sound = v.invariant.sound; fits = tied_fits v.invariant.sound.steady v.room v.tied }

-- ---- the steps

live_listed : {build : Build} {past : List Event} {g : Atlas} {xs ys : List Allocation} → Invariant build past g → Live g xs ys → SameEntries ys (held past)
    → Listed build past g xs
live_listed v q same = record { invariant = v; room = q.room; tied = rw q.are q.tied; same = rw q.are same }

listed_none : {build : Build} {past : List Event} {g : Atlas} (xs : List Allocation) → Invariant build past g → held past ≡ [] → g.head.bucket_count ≡ 0
    → Listed build past g xs
listed_none xs v e z = live_listed v (live_none xs z) (rw e (same_refl []))

module _ {build : Build} {past : List Event} {g : Atlas} {xs : List Allocation} (v : Listed build past g xs) where
  -- a call that changes nothing
  pub listed_quiet : (e : Event) → held (e ∷ past) ≡ held past → ((k : ℕ) → issued_from k e ≡ 0) → Listed build (e ∷ past) g xs
  listed_quiet e same none = record {
    invariant = record { sound = v.invariant.sound; ties = ties_quiet e same none v.invariant.ties };
    room = v.room;
    tied = v.tied;
    same = rw same v.same;
  }

  fit : Fits g xs
  fit = (passing v).fits

  entry_in : (w h : ℤ) (a : Allocation) → (calls.allocate_by build w h g).answer ≡ Ok a → entries g < length xs
      → Listed build (Event.allocated (Ok a) ∷ past) (calls.allocate_by build w h g).state
      (added (entries g) (place_for (id_bucket a.id) (calls.allocate_by build w h g).state) a xs)
  entry_in w h a e l =
      let g' : Atlas = (calls.allocate_by build w h g).state in
      live_listed
      (record {
        sound = step_sound build (Call.allocate w h) g v.invariant.sound;
        ties = subst (λ (z : Result Allocation Refusal). Ties (Event.allocated z ∷ past) g') e (allocate_ties v.invariant w h);
      })
      (entered v.invariant.sound fit w h a e l) (same_insert (place_for (id_bucket a.id) g') a v.same)

  entry_out : (id : ℕ) → (calls.deallocate_by build id g).answer ≡ (Ok tt) → place_of id (take (entries g) xs) < entries g
      → Listed build (Event.deallocated id (Ok tt) ∷ past) (calls.deallocate_by build id g).state
      (removed blank (entries g) (place_of id (take (entries g) xs)) xs)
  entry_out id e l =
      let g' : Atlas = (calls.deallocate_by build id g).state in
      live_listed
      (record {
        sound = step_sound build (Call.deallocate id) g v.invariant.sound;
        ties = subst (λ (z : Result ⊤ Refusal). Ties (Event.deallocated id z ∷ past) g') e
            (deallocate_ties v.invariant id (same_holds v.same id (left_holds v.invariant.sound fit id l)));
      })
      (left v.invariant.sound fit id l e) (same_without id v.same)

  -- ---- the calls

  allocate_listed : (w h : ℤ) → Listed build (Event.allocated (allocate_by build w h (holding g xs)).answer ∷ past)
      (allocate_by build w h (holding g xs)).left.state (allocate_by build w h (holding g xs)).left.list
  allocate_listed w h = listed_allocate_ways build
      (λ (z : Ended (Result Allocation Refusal)). Listed build (Event.allocated z.answer ∷ past) z.left.state z.left.list) w h
      (λ r. listed_quiet (Event.allocated (Err r)) refl (λ k. refl)) (entry_in w h)

  deallocate_listed : (id : ℕ) → Listed build (Event.deallocated id (deallocate_by build id (holding g xs)).answer ∷ past)
      (deallocate_by build id (holding g xs)).left.state
      (deallocate_by build id (holding g xs)).left.list
  deallocate_listed id = listed_deallocate_ways build
      (λ (z : Ended (Result ⊤ Refusal)). Listed build (Event.deallocated id z.answer ∷ past) z.left.state z.left.list) id
      (λ r. listed_quiet (Event.deallocated id (Err r)) refl (λ k. refl)) (entry_out id)

  grow_listed : (w h : ℤ) → Listed build (Event.grown (grow_by build w h (holding g xs)).answer ∷ past) (grow_by build w h (holding g xs)).left.state
      (grow_by build w h (holding g xs)).left.list
  grow_listed w h = listed_grow_ways build
      (λ (z : Ended (Result ⊤ Refusal)). Listed build (Event.grown z.answer ∷ past) z.left.state z.left.list) w h
      (λ r. listed_quiet (Event.grown (Err r)) refl (λ k. refl))
      (live_listed (record { sound = step_sound build (Call.grow w h) g v.invariant.sound; ties = grow_ties v.invariant w h })
      (grown v.invariant.sound fit w h) v.same)

  clear_listed : Listed build (Event.cleared (clear_by build (holding g xs)).answer ∷ past) (clear_by build (holding g xs)).left.state
      (clear_by build (holding g xs)).left.list
  unfolding cleared_head
  clear_listed = listed_clear_ways build
      (λ (z : Ended (Result ⊤ Refusal)). Listed build (Event.cleared z.answer ∷ past) z.left.state z.left.list)
      (λ r. listed_quiet (Event.cleared (Err r)) refl (λ k. refl))
      (clear_ways build (λ (z : Outcome (Result ⊤ Refusal)). Invariant build (Event.cleared z.answer ∷ past) z.state
      → Listed build (Event.cleared z.answer ∷ past) z.state xs) g
      (λ r i. listed_quiet (Event.cleared (Err r)) refl (λ k. refl))
      (λ e i. listed_none xs i refl refl)
      (record { sound = step_sound build Call.clear g v.invariant.sound; ties = clear_ties v.invariant }))

  new_listed : (w h aw ah n : ℤ) (o : ℕ) (m : Result Head Refusal) → calls.new w h aw ah n o g.shelves g.buckets ≡ m
      → Listed build (Event.made m ∷ past) (after_made m g) xs
  new_listed w h aw ah n o (Ok head) e =
      listed_none xs
      (record { sound = sound_new w h aw ah n o g.shelves g.buckets head e; ties = new_ties v.invariant w h aw ah n o (Ok head) e })
      refl (empty_new w h aw ah n o g.shelves g.buckets head e).1.buckets
  new_listed w h aw ah n o (Err r) e = listed_quiet (Event.made (Err r)) refl (λ k. refl)

  pub listed_step_law : (c : Call) → Listed build ((listed_step build c (holding g xs)).event ∷ past) (listed_step build c (holding g xs)).left.state
      (listed_step build c (holding g xs)).left.list
  listed_step_law (Call.new w h aw ah n o) = new_listed w h aw ah n o (calls.new w h aw ah n o g.shelves g.buckets) refl
  listed_step_law (Call.allocate w h) = allocate_listed w h
  listed_step_law (Call.deallocate id) = deallocate_listed id
  listed_step_law Call.clear = clear_listed
  listed_step_law (Call.grow w h) = grow_listed w h
  listed_step_law Call.read = listed_quiet Event.read refl (λ k. refl)

-- ---- how it begins

pub listed_fresh : {build : Build} {g : Atlas} (xs : List Allocation) → Invariant build [] g → g.head.bucket_count ≡ 0 → Listed build [] g xs
listed_fresh xs v z = listed_none xs v refl z

-- "its entries standing for what was issued; only the areas in demand 3's figure stay those of T-01's history"
pub listed_anew : {build : Build} {past : List Event} {g : Atlas} (xs : List Allocation) → Invariant build past g → Fits g xs
    → Listed build (Event.lent (take (entries g) xs) ∷ past) g xs
listed_anew {build} {past} {g} xs v f =
    let ys : List Allocation = take (entries g) xs in
    let t : TiedTo ys g = fits_tied f in
    record {
      invariant = record {
        sound = v.sound;
        ties = record { tied = t; area = areas_quiet past (Event.lent ys) (λ k. refl) t v.ties.area };
      };
      room = f.room;
      tied = t;
      same = same_refl ys;
    }
