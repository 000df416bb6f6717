-- Every call keeps the invariant: the tables stay sound (Sounds), and tied to what is held. A returned id has to be held, nothing else is asked.
use Rattle.std.specs.Prelude.{Ok, Err, Result, ⊤}
use Rattle.rules.specs.declared.Head.{Head}
use Rattle.rules.specs.declared.Allocation.{Allocation}
use Rattle.rules.specs.declared.Refusal.{Refusal}
use Prim.Native.Nat.{ℕ}
use mathlib.Core.Path.{◌≡◌, refl}
use mathlib.Core.List.{List, ◌∷◌}
use lib.IntN.{ℤ}
use Rattle.rules.specs.Tables.{Atlas, Outcome}
use Rattle.rules.specs.Issue.{issue}
use Rattle.rules.specs.Grow.{cleared_head}
use Rattle.rules.specs.Builds.{Build}
use Rattle.rules.specs.Calls as calls
use Rattle.rules.specs.History.{Call, Event, after_made, step, Legal}
use Rattle.laws.proofs.Calls.Ways.{clear_ways, grow_ways}
use Rattle.laws.proofs.Issue.Keep.{issue_facts}
use Rattle.laws.proofs.Calls.Empty.{empty_new}
use Rattle.laws.proofs.Calls.Keep.{grow_keeps}
use Rattle.laws.proofs.Calls.Frames.{frame_grown}
use Rattle.laws.proofs.Tied.Calls.{allocate_issues}
use Rattle.promises.proofs.Sounds.{step_sound}
use Rattle.promises.proofs.Invariant.{Ties, Invariant, ties_none, ties_quiet, ties_frame}
use Rattle.promises.proofs.StepIssue.{ties_issue}
use Rattle.promises.proofs.StepReturn.{deallocate_ties}

module _ {build : Build} {past : List Event} {g : Atlas} (v : Invariant build past g) where
  pub allocate_ties : (w h : ℤ)
      → Ties (Event.allocated (calls.allocate_by build w h g).answer ∷ past) (calls.allocate_by build w h g).state
  allocate_ties w h = allocate_issues (λ (o : Outcome (Result Allocation Refusal)). Ties (Event.allocated o.answer ∷ past) o.state) v.sound
      (λ n f st i k w q takes. ties_issue st i k w q (issue i k w n) (issue_facts st i k w q) (ties_frame f v.ties) takes) w h
      (λ r. ties_quiet (Event.allocated (Err r)) refl (λ k. refl) v.ties)

  pub clear_ties : Ties (Event.cleared (calls.clear_by build g).answer ∷ past) (calls.clear_by build g).state
  unfolding cleared_head
  clear_ties = clear_ways build (λ (o : Outcome (Result ⊤ Refusal)). Ties (Event.cleared o.answer ∷ past) o.state) g
      (λ r. ties_quiet (Event.cleared (Err r)) refl (λ k. refl) v.ties)
      (λ e. ties_none refl refl)

  pub grow_ties : (w h : ℤ) → Ties (Event.grown (calls.grow_by build w h g).answer ∷ past) (calls.grow_by build w h g).state
  grow_ties w h = grow_ways build (λ (o : Outcome (Result ⊤ Refusal)). Ties (Event.grown o.answer ∷ past) o.state) w h g
      (λ r. ties_quiet (Event.grown (Err r)) refl (λ k. refl) v.ties)
      (λ q. ties_frame (frame_grown v.sound.steady (grow_keeps v.sound.steady q)) (ties_quiet (Event.grown (Ok tt)) refl (λ k. refl) v.ties))

  pub new_ties : (w h aw ah n : ℤ) (o : ℕ) (m : Result Head Refusal) → calls.new w h aw ah n o g.shelves g.buckets ≡ m
      → Ties (Event.made m ∷ past) (after_made m g)
  new_ties w h aw ah n o (Ok head) e = ties_none refl (empty_new w h aw ah n o g.shelves g.buckets head e).1.buckets
  new_ties w h aw ah n o (Err r) e = ties_quiet (Event.made (Err r)) refl (λ k. refl) v.ties

  step_ties : (c : Call) → Legal c past → Ties ((step build c g).event ∷ past) (step build c g).state
  step_ties (Call.new w h aw ah n o) l = new_ties w h aw ah n o (calls.new w h aw ah n o g.shelves g.buckets) refl
  step_ties (Call.allocate w h) l = allocate_ties w h
  step_ties (Call.deallocate id) l = deallocate_ties v id l
  step_ties Call.clear l = clear_ties
  step_ties (Call.grow w h) l = grow_ties w h
  step_ties Call.read l = ties_quiet Event.read refl (λ k. refl) v.ties

  pub step_keeps : (c : Call) → Legal c past → Invariant build ((step build c g).event ∷ past) (step build c g).state
  step_keeps c l = record { sound = step_sound build c g v.sound; ties = step_ties c l }
