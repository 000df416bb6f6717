-- Sound tables and an aligned request give what each part of placing asks for, and what a new shelf or a merge leaves gives it to the issue.
use Rattle.std.specs.Prelude.{Some}
use Prim.Native.Nat.{ℕ, ◌-◌, ◌<◌, ◌≤◌}
use mathlib.Core.Bool.{Bool, true, false}
use mathlib.Core.Path.{◌≡◌, refl, sym, subst}
use mathlib.Core.List.{List}
use native.Mathlib.Omega.{arith}
use Rattle.rules.specs.Limits.{records_most}
use Rattle.rules.specs.declared.Best.{Best}
use Rattle.rules.specs.declared.MergeRun.{MergeRun}
use Rattle.rules.specs.Tables.{Atlas, atlas, shelf_at}
use Rattle.rules.specs.Chains.{chain_of, In}
use Rattle.rules.specs.Builds.{present}
use Rattle.rules.specs.NewShelf.{new_shelf, filler_ends}
use Rattle.rules.specs.Search.{can_add, search, Takeable}
use Rattle.rules.specs.Merging.{merge_run, merged, run_worn}
use Rattle.laws.proofs.Tables.Records.{first_is}
use Rattle.laws.proofs.Sound.Lies.{first_in}
use Rattle.laws.proofs.Calls.Found.{can_add_yes, found_takeable}
use Rattle.laws.proofs.Calls.Runs.{RunFacts, run_facts}
use Rattle.laws.proofs.Calls.Request.{Aligned}
use Rattle.laws.proofs.Merge.Keep.{MergeFacts, merge_facts}
use Rattle.laws.proofs.Calls.Keep.{found_issuable, added, added_issuable, merge_issuable, run_fresh, run_not_worn}
use Rattle.measures.specs.Needs.{CanPlainShelf, CanNewShelf}
use Rattle.measures.proofs.Granted.{can_plain, can_new_shelf}
use Rattle.issue.specs.Needs.{CanIssue}
use Rattle.issue.proofs.Granted.{can_issue}
use Rattle.place.specs.Needs.{CanPlace, CanPlaceNew, CanIssueFirst}

aligned_of : {w h : ℕ} {g : Atlas} → CanPlace w h g → Aligned w h g.head
aligned_of p = record { some = p.some; fits = p.fits; even = p.even; low = p.low; within = p.within }

module _ {w h : ℕ} {g : Atlas} (p : CanPlace w h g) where
  -- the bucket that the search found
  pub can_issue_found : {best : Best} → search w h g ≡ Some best → CanIssue best.shelf best.bucket w g
  can_issue_found {best} e =
      let t : Takeable w h g best.shelf best.bucket = (found_takeable e).takeable in
      can_issue p.sound.steady best.shelf best.bucket w (found_issuable (aligned_of p) e) (omega (arith, t.items))

  -- the first bucket of a new shelf
  pub can_issue_added : can_add h g.head ≡ true → filler_ends present h g ≡ false
      → CanIssueFirst ((new_shelf present w h g).head.shelf_count - 1) w (new_shelf present w h g)
  can_issue_added add ends =
      let q = added (aligned_of p) present p.sound.steady add ends in
      let i = added_issuable (aligned_of p) present p.sound.steady add ends in
      record {
        steady = q.steady;
        there = i.there;
        some = p.some;
        free = i.free;
        high = i.high;
        items = omega (arith, (q.unused _ i.member).items);
      }

  -- the first bucket of merged shelves
  pub can_issue_merged : {run : MergeRun} → merge_run w h g ≡ Some run → CanIssueFirst run.shelf w (merged run g)
  can_issue_merged {run} e =
      let r : RunFacts w h g run = run_facts w h g e in
      let m : MergeFacts run g (merged run g) = merge_facts p.sound.steady run r in
      let i = merge_issuable (aligned_of p) p.sound.steady e in
      record {
        steady = m.steady;
        there = i.there;
        some = p.some;
        free = i.free;
        high = i.high;
        items = rw (m.buckets, m.leader) (omega (arith, run_fresh w h g p.sound.steady (p.sound.rested refl) e));
      }

-- the first bucket of shelf i
pub can_issue_first : {i w : ℕ} {g : Atlas} → CanIssueFirst i w g → CanIssue i (shelf_at g.shelves i).first w g
can_issue_first {i} {w} {g} p =
    can_issue p.steady i (shelf_at g.shelves i).first w
    (record {
      there = p.there;
      member = subst (λ (k : ℕ). In k (chain_of g i)) (first_is g.shelves i) (first_in p.steady i p.there);
      some = p.some;
      free = p.free;
      high = p.high;
    })
    p.items

module _ {w h : ℕ} {g : Atlas} (p : CanPlaceNew w h g) where
  pub few : g.head.bucket_count < records_most
  few = (can_add_yes h g p.add).buckets

  -- refusal 7 is told by the header alone
  pub ends_is : (r : Bool) → ((s b : List ℕ) → CanPlainShelf h (atlas g.head s b) → r ≡ filler_ends present h (atlas g.head s b))
      → filler_ends present h g ≡ r
  ends_is r f = sym (f g.shelves g.buckets (can_plain g p.place.sound.steady h p.place.low p.add))

  pub can_shelf : filler_ends present h g ≡ false → CanNewShelf h g
  can_shelf e = can_new_shelf g p.place.sound.steady h p.place.low p.add e

  pub can_issue_new : (n : Atlas) → n ≡ new_shelf present w h g → filler_ends present h g ≡ false → CanIssueFirst (n.head.shelf_count - 1) w n
  can_issue_new n q e =
      subst (λ (n : Atlas). CanIssueFirst (n.head.shelf_count - 1) w n) (sym q) (can_issue_added p.place p.add e)

module _ {w h : ℕ} {g : Atlas} (p : CanPlace w h g) {run : MergeRun} (e : merge_run w h g ≡ Some run) where
  -- T-08: 8 does not arise
  pub not_worn : run_worn run g ≡ false
  not_worn = run_not_worn w h g p.sound.steady (p.sound.rested refl) e

  pub can_issue_run : (n : Atlas) → n ≡ merged run g → CanIssueFirst run.shelf w n
  can_issue_run n m = rw m (can_issue_merged p e)

-- a run has a follower
pub run_followed : (w h : ℕ) (g : Atlas) {run : MergeRun} → merge_run w h g ≡ Some run → 1 ≤ run.followers
run_followed w h g e = (run_facts w h g e).some
