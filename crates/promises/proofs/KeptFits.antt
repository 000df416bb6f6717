-- A list that fits sound tables fits what the next call leaves, whatever is asked, whatever the answer and wherever tables and list came from: no
-- history is needed for it.
use Rattle.std.specs.Prelude.{Ok, Err, Result, ⊤}
use Rattle.rules.specs.declared.Head.{Head}
use Rattle.rules.specs.declared.Refusal.{Refusal}
use Prim.Native.Nat.{ℕ}
use mathlib.Core.Path.{◌≡◌, refl}
use mathlib.Core.List.{List, [], ◌∷◌}
use lib.IntN.{ℤ}
use Rattle.rules.specs.declared.Allocation.{Allocation}
use Rattle.rules.specs.Tables.{Atlas, Outcome}
use Rattle.rules.specs.Sound.{Sound}
use Rattle.rules.specs.Grow.{cleared_head}
use Rattle.rules.specs.Builds.{present}
use Rattle.rules.specs.Calls as calls
use Rattle.rules.specs.Held.{Fits}
use Rattle.rules.specs.Listed.{Holding, holding, Ended}
use Rattle.rules.specs.History.{Call, after_made, listed_step}
use Rattle.laws.proofs.Calls.Ways.{clear_ways}
use Rattle.laws.proofs.Calls.Empty.{empty_new}
use Rattle.laws.proofs.Held.Ways.{Passing, listed_allocate_ways, listed_deallocate_ways, listed_grow_ways, listed_clear_ways}
use Rattle.laws.proofs.Tied.Live.{live_fits, live_none, entered, left, grown}
use Rattle.promises.proofs.Sounds.{step_sound, listed_sound}

-- ---- one call, and any calls

module _ {g : Atlas} {xs : List Allocation} (p : Sound g) (f : Fits g xs) where
  Again : {A : Type 0} → Ended A → Type 0
  Again z = Fits z.left.state z.left.list

  clear_fits : Fits (calls.clear g).state xs
  unfolding cleared_head
  clear_fits = clear_ways present (λ (o : Outcome (Result ⊤ Refusal)). Sound o.state → Fits o.state xs) g (λ r q. f) (λ e q. live_fits q (live_none xs refl))
      (step_sound present Call.clear g p)

  new_fits : (w h aw ah n : ℤ) (o : ℕ) (m : Result Head Refusal) → calls.new w h aw ah n o g.shelves g.buckets ≡ m → Sound (after_made m g)
      → Fits (after_made m g) xs
  new_fits w h aw ah n o (Ok head) e q = live_fits q (live_none xs (empty_new w h aw ah n o g.shelves g.buckets head e).1.buckets)
  new_fits w h aw ah n o (Err r) e q = f

  pub step_fits : (c : Call) → Fits (listed_step present c (holding g xs)).left.state (listed_step present c (holding g xs)).left.list
  unfolding Again
  step_fits (Call.new w h aw ah n o) =
      new_fits w h aw ah n o (calls.new w h aw ah n o g.shelves g.buckets) refl (step_sound present (Call.new w h aw ah n o) g p)
  step_fits (Call.allocate w h) =
      listed_allocate_ways present Again w h (λ r. f) (λ a e l. live_fits (step_sound present (Call.allocate w h) g p) (entered p f w h a e l))
  step_fits (Call.deallocate id) =
      listed_deallocate_ways present Again id (λ r. f) (λ e l. live_fits (step_sound present (Call.deallocate id) g p) (left p f id l e))
  step_fits Call.clear = listed_clear_ways present Again (λ r. f) clear_fits
  step_fits (Call.grow w h) = listed_grow_ways present Again w h (λ r. f) (live_fits (step_sound present (Call.grow w h) g p) (grown p f w h))
  step_fits Call.read = f

-- what the calls leave, the first of the list first
abbrev pub left_after : List Call → Holding → Holding
left_after [] l = l
left_after (c ∷ cs) l = left_after cs (listed_step present c l).left

pub calls_fit : (cs : List Call) (l : Holding) → Passing present l → Passing present (left_after cs l)
calls_fit [] l p = p
calls_fit (c ∷ cs) l p =
    calls_fit cs (listed_step present c l).left (record { sound = listed_sound present p.sound c l.list; fits = step_fits p.sound p.fits c })
