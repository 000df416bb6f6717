-- The arms of placing: what the rule comes to where each test has led.
use Rattle.std.specs.Prelude.{Err, Result, Option, Some, None, is_some}
use Prim.Native.Nat.{ℕ, ◌-◌}
use mathlib.Core.Bool.{Bool, true, false, not}
use mathlib.Core.Path.{◌≡◌, refl, ap, sym, ◌∙◌}
use Rattle.rules.specs.declared.MergeRun.{MergeRun}
use Rattle.rules.specs.declared.Best.{Best}
use Rattle.rules.specs.declared.Allocation.{Allocation}
use Rattle.rules.specs.declared.Refusal.{Refusal}
use Rattle.rules.specs.Tables.{Atlas, Outcome, outcome, shelf_at}
use Rattle.rules.specs.Builds.{present}
use Rattle.rules.specs.NewShelf.{new_shelf, filler_ends}
use Rattle.rules.specs.Search.{can_add, searched, search}
use Rattle.rules.specs.Merging.{merge_run, merged, run_worn}
use Rattle.rules.specs.Issue.{issue}
use Rattle.rules.specs.Calls.{placed, issue_first, place_new, place_merged, place}
use Rattle.laws.proofs.Options.{split_option}
use Rattle.laws.proofs.Tests.Flags.{split}
use Rattle.place.specs.Needs.{CanPlace}
use Rattle.place.specs.Placed.{is_placed}
use Rattle.place.proofs.From.{not_worn}

-- what is issued from the first bucket of shelf i
pub first_placed : (i w : ℕ) (g : Atlas) {o : Outcome Allocation} → o ≡ issue i (shelf_at g.shelves i).first w g → placed o ≡ issue_first i w g
unfolding issue_first
first_placed i w g e = ap placed e

module _ (w h : ℕ) (g : Atlas) where
  pub add_ends : filler_ends present h g ≡ true → outcome (Err Refusal.Filler) g ≡ place_new present w h g
  unfolding place_new
  add_ends e = simp e

  pub add_done : (n : Atlas) → n ≡ new_shelf present w h g → filler_ends present h g ≡ false
      → issue_first (n.head.shelf_count - 1) w n ≡ place_new present w h g
  unfolding place_new
  add_done n q e = ap (λ (n : Atlas). issue_first (n.head.shelf_count - 1) w n) q ∙ simp e

  pub merge_none : merge_run w h g ≡ None → outcome (Err Refusal.NoPlace) g ≡ place_merged w h g
  unfolding place_merged
  merge_none e = simp e

  pub merge_done : {run : MergeRun} (g' : Atlas) → merge_run w h g ≡ Some run → run_worn run g ≡ false → g' ≡ merged run g
      → issue_first run.shelf w g' ≡ place_merged w h g
  unfolding place_merged
  merge_done g' e f p = rw p (simp (e, f))

  pub place_found : {best : Best} → search w h g ≡ Some best → placed (issue best.shelf best.bucket w g) ≡ place present w h g
  unfolding place
  place_found e = simp e

  pub place_added : search w h g ≡ None → can_add h g.head ≡ true → place_new present w h g ≡ place present w h g
  unfolding place
  place_added e f = simp (e, f)

  pub place_merged_law : search w h g ≡ None → can_add h g.head ≡ false → place_merged w h g ≡ place present w h g
  unfolding place
  place_merged_law e f = simp (e, f)

  -- the best that the search found
  pub searched_is : (add : Bool) (best : Option Best) → add ≡ can_add h g.head → best ≡ searched w h add g.shelves g.buckets g.head.shelf_count
      → best ≡ search w h g
  unfolding search
  searched_is add best e q = q ∙ ap (λ (t : Bool). searched w h t g.shelves g.buckets g.head.shelf_count) e

-- ---- whether the request would be placed

-- what is told of an outcome holds of the rule's
pub told : {o r : Outcome (Result Allocation Refusal)} → o ≡ r → is_placed o.answer ≡ is_placed r.answer
told e = ap (λ (o : Outcome (Result Allocation Refusal)). is_placed o.answer) e

module _ (w h : ℕ) (g : Atlas) where
  pub add_told : not (filler_ends present h g) ≡ is_placed (place_new present w h g).answer
  unfolding issue_first
  add_told =
      split (filler_ends present h g) (λ e. ap not e ∙ told (add_ends w h g e))
      (λ e. ap not e ∙ told (add_done w h g (new_shelf present w h g) refl e))

  pub merge_told : ((run : MergeRun) → merge_run w h g ≡ Some run → run_worn run g ≡ false)
      → is_some (merge_run w h g) ≡ is_placed (place_merged w h g).answer
  unfolding issue_first
  merge_told n = split_option (merge_run w h g) (λ e. ap is_some e ∙ told (merge_none w h g e))
      (λ run e. ap is_some e ∙ told (merge_done w h g (merged run g) e (n run e) refl))

  pub merge_placed : CanPlace w h g → is_placed (place_merged w h g).answer ≡ is_some (merge_run w h g)
  merge_placed p = sym (merge_told (λ run e. not_worn p e))
