-- An aligned request finds its place in a bucket that the search found, on a new shelf or on merged shelves: each time it can be issued there,
-- and the tables are sound after it. And grow: the sides that it accepts keep the tables sound.
use Rattle.std.specs.Prelude.{Some}
use Prim.Native.Nat.{ℕ, ◌-◌, ◌<◌}
use mathlib.Core.Bool.{true, false}
use mathlib.Core.Path.{◌≡◌, sym, subst}
use mathlib.Core.Logic.{inl, inr}
use native.Mathlib.Omega.{arith}
use borrow.Author.Tests.{ne_eqb}
use Rattle.rules.specs.declared.Best.{Best}
use Rattle.rules.specs.declared.MergeRun.{MergeRun}
use Rattle.rules.specs.Limits.{items_last}
use Rattle.rules.specs.Tables.{Atlas, bucket_at, shelf_at}
use Rattle.rules.specs.Chains.{In, first, chain_of}
use Rattle.rules.specs.Builds.{Build}
use Rattle.rules.specs.NewShelf.{new_shelf, filler_ends}
use Rattle.rules.specs.Search.{can_add, search}
use Rattle.rules.specs.Merging.{merge_run, merged, run_worn}
use Rattle.rules.specs.Issue.{issue}
use Rattle.rules.specs.Grow.{grown}
use Rattle.rules.specs.Sound.{Steady, Rested, SoundBy}
use Rattle.rules.specs.Calls.{issue_first}
use Rattle.laws.proofs.Tables.Records.{first_is}
use Rattle.laws.proofs.Sound.Lies.{first_in, member_below}
use Rattle.laws.proofs.Calls.Found.{Found, found_takeable}
use Rattle.laws.proofs.Calls.Runs.{run_facts}
use Rattle.laws.proofs.Calls.Ways.{Grows}
use Rattle.laws.proofs.Calls.Request.{Aligned, Larger, larger}
use Rattle.laws.proofs.Issue.Keep.{Issuable, sound_issue}
use Rattle.laws.proofs.Sound.Rested.{rested_new}
use Rattle.laws.proofs.Merge.Keep.{first_issuable, sound_place_merged}
use Rattle.laws.proofs.NewShelf.Keep.{Added, new_shelf_law}
use Rattle.laws.proofs.Grow.Keep.{Grown, grown_keeps, sound_grown}

module _ {w h : ℕ} {g : Atlas} (a : Aligned w h g.head) where
  -- ---- a bucket that the search found

  pub found_issuable : {best : Best} → search w h g ≡ Some best → Issuable best.shelf best.bucket w g
  found_issuable {best} e =
      let f : Found w h g best = found_takeable e in
      record {
        there = f.takeable.shelf;
        member = f.takeable.bucket;
        some = a.some;
        free = f.takeable.wide;
        high = omega (arith, f.takeable.high, a.low);
      }

  pub sound_found : {build : Build} → SoundBy build g → {best : Best} → search w h g ≡ Some best
      → SoundBy build (issue best.shelf best.bucket w g).state
  sound_found p {best} e = sound_issue p.steady best.shelf best.bucket w (found_issuable e) (inl p.last_used) p.rested

  -- ---- a new shelf

  pub added : (build : Build) → Steady g → can_add h g.head ≡ true → filler_ends build h g ≡ false
      → Added w h g (new_shelf build w h g) ((new_shelf build w h g).head.shelf_count - 1)
  added build st add ends = new_shelf_law build g st w h a.low a.within a.some a.fits a.even add ends

  pub added_issuable : (build : Build) → Steady g → can_add h g.head ≡ true → filler_ends build h g ≡ false
      → (let n : Atlas = new_shelf build w h g in let i : ℕ = n.head.shelf_count - 1 in Issuable i (shelf_at n.shelves i).first w n)
  added_issuable build st add ends =
      let n : Atlas = new_shelf build w h g in
      let i : ℕ = (new_shelf build w h g).head.shelf_count - 1 in
      let q : Added w h g n i = added build st add ends in
      let k : ℕ = first n.shelves i in
      subst (λ (k : ℕ). Issuable i k w n) (first_is n.shelves i) (record {
        there = omega (arith, q.last);
        member = q.member;
        some = a.some;
        free = omega (arith, (q.unused k q.member).free, q.wide);
        high = omega (arith, q.high, a.low);
      })

  pub sound_added : (build : Build) → SoundBy build g → can_add h g.head ≡ true → filler_ends build h g ≡ false
      → SoundBy build (issue_first ((new_shelf build w h g).head.shelf_count - 1) w (new_shelf build w h g)).state
  unfolding issue_first
  sound_added build p add ends =
      let n : Atlas = new_shelf build w h g in
      let i : ℕ = (new_shelf build w h g).head.shelf_count - 1 in
      let q : Added w h g n i = added build p.steady add ends in
      sound_issue q.steady i (shelf_at n.shelves i).first w (added_issuable build p.steady add ends) (inr (sym q.last))
      (λ e. rested_new build w h g (p.rested e))

  -- ---- merged shelves

  pub merge_issuable : Steady g → {run : MergeRun} → merge_run w h g ≡ Some run
      → Issuable run.shelf (shelf_at (merged run g).shelves run.shelf).first w (merged run g)
  merge_issuable st {run} e = first_issuable st run (run_facts w h g e) a.some a.low

  pub sound_merging : {build : Build} → SoundBy build g → {run : MergeRun} → merge_run w h g ≡ Some run
      → SoundBy build (issue_first run.shelf w (merged run g)).state
  sound_merging p {run} e = sound_place_merged p run (run_facts w h g e) a.some a.low

-- T-08: the first bucket of a run has issued nothing, so that 8 does not arise
pub run_fresh : (w h : ℕ) (g : Atlas) → Steady g → Rested g → {run : MergeRun} → merge_run w h g ≡ Some run
    → (bucket_at g.buckets (shelf_at g.shelves run.shelf).first).items ≡ 0
run_fresh w h g st r {run} e =
    let i : ℕ = run.shelf in
    let k : ℕ = first g.shelves i in
    let f = run_facts w h g e in
    let li : i < g.head.shelf_count = omega (arith, f.there) in
    let c : In k (chain_of g i) = first_in st i li in
    subst (λ (a : ℕ). (bucket_at g.buckets a).items ≡ 0) (first_is g.shelves i)
    (r k (member_below st i k li c) (f.unreferenced i (omega arith) (omega arith) k c))

pub run_not_worn : (w h : ℕ) (g : Atlas) → Steady g → Rested g → {run : MergeRun} → merge_run w h g ≡ Some run → run_worn run g ≡ false
unfolding run_worn
run_not_worn w h g st r {run} e =
    let items : ℕ = (bucket_at g.buckets (shelf_at g.shelves run.shelf).first).items in
    let z : items ≡ 0 = run_fresh w h g st r e in
    ne_eqb items items_last (λ (e : items ≡ items_last). omega (arith, z, e))

-- ---- grow

pub grow_keeps : {build : Build} {width height : ℕ} {g : Atlas} → Steady g → Grows build width height g → Grown width height g (grown width height g)
grow_keeps {build} {width} {height} {g} st r =
    let l : Larger width height g.head = larger r in
    grown_keeps g st width height l.wide l.across l.high l.down

pub sound_grows : {build : Build} {width height : ℕ} {g : Atlas} → SoundBy build g → Grows build width height g → SoundBy build (grown width height g)
sound_grows {build} {width} {height} {g} p r =
    let l : Larger width height g.head = larger r in
    sound_grown g p width height l.wide l.across l.high l.down
