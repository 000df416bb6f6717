-- A list of rectangles that is tied to sound tables is tied to what a call leaves: with a request's rectangle in it where one is placed, without that of
-- a return. A request that is placed is an issue, on tables that keep the referenced buckets: those there were, or with a new shelf, or with shelves
-- merged.
use Rattle.std.specs.Prelude.{Ok, Err, Result, Some, ⊤}
use Prim.Native.Nat.{ℕ, ◌-◌}
use mathlib.Core.Bool.{true, false}
use mathlib.Core.Path.{◌≡◌}
use mathlib.Core.Logic.{inl, inr}
use mathlib.Core.List.{List}
use native.Mathlib.Omega.{arith}
use lib.IntN.{ℤ}
use Rattle.rules.specs.declared.Allocation.{Allocation}
use Rattle.rules.specs.declared.Best.{Best}
use Rattle.rules.specs.declared.MergeRun.{MergeRun}
use Rattle.rules.specs.declared.Refusal.{Refusal}
use Rattle.rules.specs.Tables.{Atlas, Outcome, outcome, bucket_at, shelf_at}
use Rattle.rules.specs.Builds.{Build}
use Rattle.rules.specs.NewShelf.{new_shelf, filler_ends}
use Rattle.rules.specs.Search.{can_add, search}
use Rattle.rules.specs.Merging.{merge_run, merged}
use Rattle.rules.specs.Issue.{issue}
use Rattle.rules.specs.Sound.{Steady, SoundBy}
use Rattle.rules.specs.Calls as calls
use Rattle.rules.specs.Calls.{placed, issue_first}
use Rattle.rules.specs.History.{Event, without, held_after, Holds}
use Rattle.laws.proofs.Issue.Keep.{Issuable, issue_facts}
use Rattle.laws.proofs.Return.Keep.{deallocate_facts}
use Rattle.laws.proofs.Merge.Keep.{MergeFacts, merge_facts}
use Rattle.laws.proofs.NewShelf.Keep.{Added}
use Rattle.laws.proofs.Calls.Found.{Found, found_takeable}
use Rattle.laws.proofs.Calls.Runs.{RunFacts, run_facts}
use Rattle.laws.proofs.Calls.Ways.{grow_ways, deallocate_ways, allocate_ways, place_ways}
use Rattle.laws.proofs.Calls.Request.{Aligned, asked_aligned}
use Rattle.laws.proofs.Calls.Keep.{found_issuable, added, added_issuable, merge_issuable, grow_keeps}
use Rattle.laws.proofs.Calls.Frames.{Frame, frame_same, frame_grown, frame_added, frame_merged}
use Rattle.laws.proofs.Tied.To.{TiedTo, tied_frame}
use Rattle.laws.proofs.Tied.Issue.{Takes, tied_issue}
use Rattle.laws.proofs.Tied.Return.{tied_return}
use Rattle.laws.proofs.Results.{err_not_ok}

-- ---- a request

-- what holds of an issue on such tables holds of a request that is placed
module _ {build : Build} (P : Outcome (Result Allocation Refusal) → Type 0) {g : Atlas} (sound : SoundBy build g)
    (yes' : (n : Atlas) → Frame g n → Steady n → (i k w : ℕ) → Issuable i k w n → Takes k n → P (placed (issue i k w n))) where
  found_way : {w h : ℕ} → Aligned w h g.head → (best : Best) → search w h g ≡ Some best → P (placed (issue best.shelf best.bucket w g))
  found_way {w} {h} a best e =
      let f : Found w h g best = found_takeable e in
      yes' g (frame_same g) sound.steady best.shelf best.bucket w (found_issuable a e) (inl f.takeable.items)

  added_way : {w h : ℕ} → Aligned w h g.head → can_add h g.head ≡ true → filler_ends build h g ≡ false
      → P (issue_first ((new_shelf build w h g).head.shelf_count - 1) w (new_shelf build w h g))
  unfolding issue_first
  added_way {w} {h} a e z =
      let n : Atlas = new_shelf build w h g in
      let i : ℕ = (new_shelf build w h g).head.shelf_count - 1 in
      let k : ℕ = (shelf_at n.shelves i).first in
      let q : Added w h g n i = added a build sound.steady e z in
      let p : Issuable i k w n = added_issuable a build sound.steady e z in
      yes' n (frame_added sound.steady q) q.steady i k w p (inr (q.unused k p.member).refs)

  merged_way : {w h : ℕ} → Aligned w h g.head → (run : MergeRun) → merge_run w h g ≡ Some run → P (issue_first run.shelf w (merged run g))
  unfolding issue_first
  merged_way {w} {h} a run e =
      let n : Atlas = merged run g in
      let i : ℕ = run.shelf in
      let k : ℕ = (shelf_at n.shelves i).first in
      let r : RunFacts w h g run = run_facts w h g e in
      let m : MergeFacts run g n = merge_facts sound.steady run r in
      let p : Issuable i k w n = merge_issuable a sound.steady e in
      let unreferenced : (bucket_at n.buckets k).refs ≡ 0 =
      rw m.buckets (r.unreferenced i (omega arith) (omega arith) k (rw (m.chains i) at p.member)) in
      yes' n (frame_merged sound.steady m) m.steady i k w p (inr unreferenced)

  pub allocate_issues : (w h : ℤ) → ((r : Refusal) → P (outcome (Err r) g)) → P (calls.allocate_by build w h g)
  allocate_issues w h no' =
      allocate_ways build P w h g no' (λ q.
      let a = asked_aligned q in
      place_ways build P _ _ g no' (found_way a) (added_way a) (λ e run d z. merged_way a run d))

-- ---- the calls that keep a list

module _ {build : Build} {g : Atlas} (p : SoundBy build g) (list : List Allocation) (t : TiedTo list g) where
  pub allocate_tied : (w h : ℤ)
      → TiedTo (held_after (Event.allocated (calls.allocate_by build w h g).answer) list) (calls.allocate_by build w h g).state
  allocate_tied w h = allocate_issues (λ (o : Outcome (Result Allocation Refusal)). TiedTo (held_after (Event.allocated o.answer) list) o.state) p
      (λ n f st i k w q takes. tied_issue st i k w q (issue i k w n) (issue_facts st i k w q) takes (tied_frame f t)) w h (λ r. t)

  pub grow_tied : (w h : ℤ) → TiedTo list (calls.grow_by build w h g).state
  grow_tied w h = grow_ways build (λ (o : Outcome (Result ⊤ Refusal)). TiedTo list o.state) w h g (λ r. t)
      (λ q. tied_frame (frame_grown p.steady (grow_keeps p.steady q)) t)

  pub deallocate_tied : (id : ℕ) → Holds id list → (calls.deallocate_by build id g).answer ≡ (Ok tt)
      → TiedTo (without id list) (calls.deallocate_by build id g).state
  deallocate_tied id h = deallocate_ways build (λ (o : Outcome (Result ⊤ Refusal)). o.answer ≡ (Ok tt) → TiedTo (without id list) o.state) id g
      (λ r e. err_not_ok e)
      (λ r e. tied_return id (deallocate_facts id g p r) t h)
