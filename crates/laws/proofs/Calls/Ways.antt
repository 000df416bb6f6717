-- The ways through each call: what holds of a refusal and of every accepted way holds of the call. Each way comes with the tests that led
-- there.
use Rattle.std.specs.Prelude.{Ok, Err, Result, Some, ⊤}
use Rattle.rules.specs.declared.Allocation.{Allocation}
use Prim.Native.Nat.{ℕ, ◌-◌, ◌≤◌}
use mathlib.Core.Bool.{true, false, ◌||◌, not}
use mathlib.Core.Path.{◌≡◌}
use mathlib.Core.Logic.{◌≢◌}
use borrow.Author.Tests.{eqb-false, ltb-false}
use lib.Dec.{eqb, leb, ltb}
use lib.IntN.{ℤ}
use Rattle.rules.specs.declared.Best.{Best}
use Rattle.rules.specs.declared.Head.{Head}
use Rattle.rules.specs.declared.MergeRun.{MergeRun}
use Rattle.rules.specs.declared.Refusal.{Refusal}
use Rattle.rules.specs.Limits.{side_most, request_most}
use Rattle.rules.specs.Rounding.{align}
use Rattle.rules.specs.Ids.{id_bucket, id_generation}
use Rattle.rules.specs.Tables.{Atlas, bucket_at, Outcome, outcome}
use Rattle.rules.specs.Builds.{Build}
use Rattle.rules.specs.NewShelf.{new_shelf, filler_ends}
use Rattle.rules.specs.Search.{can_add, search}
use Rattle.rules.specs.Merging.{merge_run, merged, run_worn}
use Rattle.rules.specs.Issue.{issue}
use Rattle.rules.specs.Return.{returned}
use Rattle.rules.specs.Grow.{grown, cleared}
use Rattle.rules.specs.Sound.{is_sound_by}
use Rattle.rules.specs.Calls.{issue_first, natural, outside, clear_by, deallocate_by, grow_by, grow_to}
use Rattle.rules.specs.Calls.{allocate_by, aligned_sides, place_sides, request, place, placed, place_new, place_merged, return_id}
use Rattle.laws.proofs.Options.{split_option}
use Rattle.laws.proofs.Tests.Flags.{split, or_l, or_r}

pub clear_ways : (build : Build) (P : Outcome (Result ⊤ Refusal) → Type 0) (g : Atlas) → ((r : Refusal) → P (outcome (Err r) g))
    → (is_sound_by build g ≡ true → P (outcome (Ok tt) (cleared g))) → P (clear_by build g)
unfolding clear_by
clear_ways build P g no' yes' = split (is_sound_by build g) (λ e. simp e (yes' e)) (λ e. simp e (no' Refusal.Tables))

-- sides that a grow accepts
pub record Grows (build : Build) (width height : ℕ) (g : Atlas) : Type 0 where
  pub sound : is_sound_by build g ≡ true
  pub sides : (outside width side_most || outside height side_most) ≡ false
  pub shrinks : (ltb width g.head.width || ltb height g.head.height) ≡ false

pub grow_ways : (build : Build) (P : Outcome (Result ⊤ Refusal) → Type 0) (width height : ℤ) (g : Atlas) → ((r : Refusal) → P (outcome (Err r) g))
    → (Grows build (natural width) (natural height) g → P (outcome (Ok tt) (grown (natural width) (natural height) g))) → P (grow_by build width height g)
unfolding grow_by grow_to
grow_ways build P width height g no' yes' =
    let w : ℕ = natural width in
    let h : ℕ = natural height in
    split (is_sound_by build g) (λ e.
    split (outside w side_most || outside h side_most) (λ f. simp (e, f) (no' Refusal.Side)) (λ f.
    split (ltb w g.head.width || ltb h g.head.height) (λ k. simp (e, f, k) (no' Refusal.Shrink)) (λ k.
    simp (e, f, k) (yes' (record { sound = e; sides = f; shrinks = k })))))
    (λ e. simp e (no' Refusal.Tables))

-- an id that a return accepts
pub record Returns (build : Build) (id : ℕ) (g : Atlas) : Type 0 where
  pub sound : is_sound_by build g ≡ true
  pub known : leb g.head.bucket_count (id_bucket id) ≡ false
  pub current : not (eqb (bucket_at g.buckets (id_bucket id)).generation (id_generation id)) ≡ false
  pub held : eqb (bucket_at g.buckets (id_bucket id)).refs 0 ≡ false

pub deallocate_ways : (build : Build) (P : Outcome (Result ⊤ Refusal) → Type 0) (id : ℕ) (g : Atlas) → ((r : Refusal) → P (outcome (Err r) g))
    → (Returns build id g → P (outcome (Ok tt) (returned build (id_bucket id) g))) → P (deallocate_by build id g)
unfolding deallocate_by return_id
deallocate_ways build P id g no' yes' =
    split (is_sound_by build g) (λ e.
    split (leb g.head.bucket_count (id_bucket id)) (λ f. simp (e, f) (no' Refusal.Unknown)) (λ f.
    split (not (eqb (bucket_at g.buckets (id_bucket id)).generation (id_generation id))) (λ k. simp (e, f, k) (no' Refusal.Stale)) (λ k.
    split (eqb (bucket_at g.buckets (id_bucket id)).refs 0) (λ z. simp (e, f, k, z) (no' Refusal.Unheld)) (λ z.
    simp (e, f, k, z) (yes' (record { sound = e; known = f; current = k; held = z }))))))
    (λ e. simp e (no' Refusal.Tables))

-- ---- allocate

-- an aligned request that finds its place: in a bucket that the search found, on a new shelf, or on merged shelves
module _ (build : Build) (P : Outcome (Result Allocation Refusal) → Type 0) (w h : ℕ) (g : Atlas) (no' : (r : Refusal) → P (outcome (Err r) g)) where
  pub place_ways : ((best : Best) → search w h g ≡ Some best → P (placed (issue best.shelf best.bucket w g)))
      → (can_add h g.head ≡ true → filler_ends build h g ≡ false → P (issue_first ((new_shelf build w h g).head.shelf_count - 1) w (new_shelf build w h g)))
      → (can_add h g.head ≡ false → (run : MergeRun) → merge_run w h g ≡ Some run → run_worn run g ≡ false → P (issue_first run.shelf w (merged run g)))
      → P (place build w h g)
  unfolding place place_new place_merged
  place_ways found added merges =
      split_option (search w h g)
      (λ e.
      split (can_add h g.head)
      (λ f. split (filler_ends build h g) (λ k. simp (e, f, k) (no' Refusal.Filler)) (λ k. simp (e, f, k) (added f k)))
      (λ f. split_option (merge_run w h g) (λ k. simp (e, f, k) (no' Refusal.NoPlace)) (λ run k.
      split (run_worn run g) (λ z. simp (e, f, k, z) (no' Refusal.Items)) (λ z. simp (e, f, k, z) (merges f run k z)))))
      (λ best e. simp e (found best e))

-- a request that is not refused as 4, 5, 22 or 23
pub record Fitting (w h : ℕ) (head : Head) : Type 0 where
  pub some : w ≢ 0
  pub low : h ≢ 0
  pub across : align head.align_width w ≤ head.column_width
  pub down : align head.align_height h ≤ head.height

pub sides_ways : (P : Result (ℕ × ℕ) Refusal → Type 0) (w h : ℕ) (head : Head) → ((r : Refusal) → P (Err r))
    → (Fitting w h head → P (Ok ((align head.align_width w), (align head.align_height h)))) → P (aligned_sides w h head)
unfolding aligned_sides
sides_ways P w h head no' yes' =
    let across : ℕ = align head.align_width w in
    let down : ℕ = align head.align_height h in
    split (eqb w 0 || eqb h 0) (λ e. simp e (no' Refusal.Small)) (λ e.
    split (ltb request_most w || ltb request_most h) (λ f. simp (e, f) (no' Refusal.Large)) (λ f.
    split (ltb head.column_width across) (λ k. simp (e, f, k) (no' Refusal.Wide)) (λ k.
    split (ltb head.height down) (λ z. simp (e, f, k, z) (no' Refusal.Tall)) (λ z.
    simp (e, f, k, z) (yes' (record {
      some = eqb-false w 0 (or_l (eqb w 0) (eqb h 0) e);
      low = eqb-false h 0 (or_r (eqb w 0) (eqb h 0) e);
      across = ltb-false head.column_width across k;
      down = ltb-false head.height down z;
    }))))))

pub request_ways : (build : Build) (P : Outcome (Result Allocation Refusal) → Type 0) (w h : ℕ) (g : Atlas) → ((r : Refusal) → P (outcome (Err r) g))
    → (Fitting w h g.head → P (place build (align g.head.align_width w) (align g.head.align_height h) g)) → P (request build w h g)
unfolding request
request_ways build P w h g no' yes' = sides_ways (λ (s : Result (ℕ × ℕ) Refusal). P (place_sides build s g)) w h g.head no' yes'

-- it gets as far as the search
pub record Asked (build : Build) (w h : ℕ) (g : Atlas) : Type 0 where
  pub sound : is_sound_by build g ≡ true
  pub fits : Fitting w h g.head

pub allocate_ways : (build : Build) (P : Outcome (Result Allocation Refusal) → Type 0) (width height : ℤ) (g : Atlas) → ((r : Refusal) → P (outcome (Err r) g))
    → (Asked build (natural width) (natural height) g
    → P (place build (align g.head.align_width (natural width)) (align g.head.align_height (natural height)) g))
    → P (allocate_by build width height g)
unfolding allocate_by
allocate_ways build P width height g no' yes' =
    split (is_sound_by build g) (λ e. simp e (request_ways build P (natural width) (natural height) g no' (λ f. yes' (record { sound = e; fits = f }))))
    (λ e. simp e (no' Refusal.Tables))
