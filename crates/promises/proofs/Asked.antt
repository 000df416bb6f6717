-- A placed rectangle is what was asked for: "w wide and as high as the shelf", w and h being the aligned sides. "Reference and item counts rise
-- by 1, and the id carries the risen item count": so no two labels of one bucket exchange their item numbers.
use Rattle.std.specs.Prelude.{Ok, Err, Result, Some}
use Prim.Native.Nat.{ℕ, ◌+◌, ◌-◌, ◌%◌, ◌≤◌, ◌<◌}
use mathlib.Core.Bool.{true, false}
use mathlib.Core.Path.{◌≡◌, refl, ap, ◌∙◌, subst}
use native.Mathlib.Omega.{arith}
use lib.IntN.{ℤ}
use Rattle.rules.specs.declared.Head.{Head}
use Rattle.rules.specs.declared.Bucket.{Bucket}
use Rattle.rules.specs.declared.Shelf.{Shelf}
use Rattle.rules.specs.declared.Best.{Best}
use Rattle.rules.specs.declared.MergeRun.{MergeRun}
use Rattle.rules.specs.declared.Allocation.{Allocation}
use Rattle.rules.specs.declared.Refusal.{Refusal}
use Rattle.rules.specs.Rounding.{align}
use Rattle.rules.specs.Ids.{id_of, id_bucket, id_item, id_generation}
use Rattle.rules.specs.Tables.{Atlas, Outcome, outcome, bucket_at, shelf_at}
use Rattle.rules.specs.Chains.{In, chain_of}
use Rattle.rules.specs.Builds.{present}
use Rattle.rules.specs.NewShelf.{new_shelf, filler_ends}
use Rattle.rules.specs.Search.{can_add, search}
use Rattle.rules.specs.Merging.{merge_run, merged}
use Rattle.rules.specs.Issue.{issue, taken}
use Rattle.rules.specs.Sound.{Counted, Steady}
use Rattle.rules.specs.Calls.{natural, placed, issue_first, allocate}
use Rattle.laws.proofs.Numbers.Ids.{id_bucket_of, id_item_of, id_generation_of}
use Rattle.laws.proofs.Sound.Lies.{member_below}
use Rattle.laws.proofs.Issue.Keep.{Issuable, IssueFacts, issue_facts}
use Rattle.laws.proofs.Merge.Keep.{MergeFacts, merge_facts}
use Rattle.laws.proofs.NewShelf.Keep.{Added}
use Rattle.laws.proofs.Calls.Found.{Found, found_takeable}
use Rattle.laws.proofs.Calls.Runs.{RunFacts, run_facts}
use Rattle.laws.proofs.Calls.Ways.{allocate_ways, place_ways}
use Rattle.laws.proofs.Calls.Request.{Aligned, asked_aligned, asked_sound}
use Rattle.laws.proofs.Calls.Keep.{found_issuable, added, added_issuable, merge_issuable}

-- ---- the statements

-- the bucket that an id names
abbrev pub named_bucket : Allocation → Atlas → Bucket
named_bucket a g = bucket_at g.buckets (id_bucket a.id)

-- an allocation for aligned sides w and h, the tables after the call being g
pub record AsAsked (w h : ℕ) (g : Atlas) (a : Allocation) : Type 0 where
  -- the id names a bucket of a shelf's chain
  pub shelf : (named_bucket a g).shelf < g.head.shelf_count
  pub bucket : In (id_bucket a.id) (chain_of g (named_bucket a g).shelf)
  -- "The rectangle .. is w wide and as high as the shelf": that shelf's y and height
  pub wide : a.rectangle.right ≡ a.rectangle.left + w
  pub top : a.rectangle.top ≡ (shelf_at g.shelves (named_bucket a g).shelf).y
  pub bottom : a.rectangle.bottom ≡ a.rectangle.top + (shelf_at g.shelves (named_bucket a g).shelf).height
  -- "that shelf is at least h high"
  pub high : a.rectangle.top + h ≤ a.rectangle.bottom
  -- "The rectangle starts at bucket x + bucket width - free width": what is free of the bucket after it starts where it ends
  pub starts : a.rectangle.right + (named_bucket a g).free ≡ (named_bucket a g).x + (shelf_at g.shelves (named_bucket a g).shelf).width

-- the tables before the call being g, after it g'
pub record IdRisen (g g' : Atlas) (a : Allocation) : Type 0 where
  -- "Bits 0 to 11 bucket, 12 to 23 the item count modulo 4,096, 24 to 31 generation"
  pub bucket : id_bucket a.id < g'.head.bucket_count
  pub item : id_item a.id ≡ (named_bucket a g').items % 4096
  pub generation : id_generation a.id ≡ (named_bucket a g').generation
  -- "Reference and item counts rise by 1", of a bucket that was in a shelf's chain
  pub risen : (i : ℕ) → i < g.head.shelf_count → In (id_bucket a.id) (chain_of g i)
      → ((named_bucket a g').items ≡ (named_bucket a g).items + 1) × ((named_bucket a g').refs ≡ (named_bucket a g).refs + 1)
  -- one that was in none is new: "both its counts are 0", and rise too
  pub first : ((i : ℕ) → i < g.head.shelf_count → In (id_bucket a.id) (chain_of g i) → ⊥)
      → ((named_bucket a g').items ≡ 1) × ((named_bucket a g').refs ≡ 1)

-- ---- an issue

-- of w from bucket k of shelf i
module _ {g : Atlas} (st : Steady g) (i k w : ℕ) (p : Issuable i k w g) (o : Outcome Allocation) (f : IssueFacts i k w g o) where
  below : k < g.head.bucket_count
  below = member_below st i k p.there p.member

  counted : Counted i (shelf_at g.shelves i) (bucket_at g.buckets k)
  counted = (st.stocked i p.there).counted k p.member

  id_is : o.answer.id ≡ id_of k ((bucket_at g.buckets k).items + 1) (bucket_at g.buckets k).generation
  id_is = ap (λ (a : Allocation). a.id) f.answer

  low : k < 4096
  low = omega (arith, below, st.domain.buckets)

  named_is : id_bucket o.answer.id ≡ k
  named_is = rw id_is (id_bucket_of k ((bucket_at g.buckets k).items + 1) (bucket_at g.buckets k).generation low)

  named : named_bucket o.answer o.state ≡ taken (bucket_at g.buckets k) w
  named = ap (bucket_at o.state.buckets) named_is ∙ f.changes.bucket

  named_shelf : (named_bucket o.answer o.state).shelf ≡ i
  named_shelf = ap (λ (v : Bucket). v.shelf) named ∙ counted.shelf

  on_shelf : shelf_at o.state.shelves (named_bucket o.answer o.state).shelf ≡ shelf_at g.shelves i
  on_shelf = rw (named_shelf, f.shelves)

  issue_asked : (h : ℕ) → h ≤ (shelf_at g.shelves i).height → AsAsked w h o.state o.answer
  issue_asked h l = record {
    shelf = rw named_shelf (omega (arith, p.there, ap (λ (h : Head). h.shelf_count) f.head));
    bucket = rw (named_shelf, named_is, f.changes.chains i) p.member;
    wide = f.lies.right;
    top = rw on_shelf f.lies.top;
    bottom = rw on_shelf (omega (arith, f.lies.bottom, f.lies.top));
    high = omega (arith, f.lies.bottom, f.lies.top);
    starts = rw (on_shelf, named) (omega (arith, f.lies.left, f.lies.right, counted.free, p.free));
  }

  -- g₀ is what the issue's tables came from: bucket k was in a shelf's chain, and then with its counts, or is unused
  issue_risen : (g₀ : Atlas)
      → ((j : ℕ) → j < g₀.head.shelf_count → In k (chain_of g₀ j) → bucket_at g.buckets k ≡ bucket_at g₀.buckets k)
      → (((j : ℕ) → j < g₀.head.shelf_count → In k (chain_of g₀ j) → ⊥) → ((bucket_at g.buckets k).items ≡ 0) × ((bucket_at g.buckets k).refs ≡ 0))
      → IdRisen g₀ o.state o.answer
  issue_risen g₀ same unused = record {
    bucket = rw named_is (omega (arith, below, ap (λ (h : Head). h.bucket_count) f.head));
    item = rw (named, id_is) (id_item_of k ((bucket_at g.buckets k).items + 1) (bucket_at g.buckets k).generation low);
    generation = rw (named, id_is) (id_generation_of k ((bucket_at g.buckets k).items + 1) (bucket_at g.buckets k).generation low);
    risen = λ j l c.
        let e : bucket_at g.buckets k ≡ bucket_at g₀.buckets k = same j l (rw named_is at c) in
        rw (named, named_is, e) (refl, refl);
    first = λ n.
        let z = unused (λ j l c. n j l (rw named_is c)) in
        rw named (omega (arith, z.0), omega (arith, z.1));
  }

-- ---- the three ways of a request

-- what is said of an answer of a request for aligned sides w and h
pub record PlacedFor (w h : ℕ) (g g' : Atlas) (a : Allocation) : Type 0 where
  pub asked : AsAsked w h g' a
  pub id : IdRisen g g' a

abbrev Goes : ℕ → ℕ → Atlas → Outcome (Result Allocation Refusal) → Type 0
Goes w h g o = (a : Allocation) → o.answer ≡ Ok a → PlacedFor w h g o.state a

unplaced : (w h : ℕ) (g : Atlas) (r : Refusal) → Goes w h g (outcome (Err r) g)
unplaced w h g r a e = absurd (let z : ◌≡◌ {A = ℕ} 0 1 = cc in omega arith)

goes : {w h : ℕ} {g : Atlas} (o : Outcome Allocation) → PlacedFor w h g o.state o.answer → Goes w h g (placed o)
goes {w} {h} {g} o q a e = let s : o.answer ≡ a = cc in subst (PlacedFor w h g o.state) s q

module _ {w h : ℕ} {g : Atlas} (a : Aligned w h g.head) (st : Steady g) where
  goes_found : (best : Best) → search w h g ≡ Some best → Goes w h g (placed (issue best.shelf best.bucket w g))
  goes_found best e =
      let i : ℕ = best.shelf in
      let k : ℕ = best.bucket in
      let t : Found w h g best = found_takeable e in
      let p : Issuable i k w g = found_issuable a e in
      let f : IssueFacts i k w g (issue i k w g) = issue_facts st i k w p in
      goes (issue i k w g) (record {
        asked = issue_asked st i k w p (issue i k w g) f h t.takeable.high;
        id = issue_risen st i k w p (issue i k w g) f g (λ j l c. refl) (λ none. absurd (none i p.there p.member));
      })

  goes_added : can_add h g.head ≡ true → filler_ends present h g ≡ false
      → Goes w h g (issue_first ((new_shelf present w h g).head.shelf_count - 1) w (new_shelf present w h g))
  unfolding issue_first
  goes_added e z =
      let n : Atlas = new_shelf present w h g in
      let i : ℕ = (new_shelf present w h g).head.shelf_count - 1 in
      let k : ℕ = (shelf_at n.shelves i).first in
      let q : Added w h g n i = added a present st e z in
      let p : Issuable i k w n = added_issuable a present st e z in
      let f : IssueFacts i k w n (issue i k w n) = issue_facts q.steady i k w p in
      goes (issue i k w n) (record {
        asked = issue_asked q.steady i k w p (issue i k w n) f h q.high;
        id = issue_risen q.steady i k w p (issue i k w n) f g (λ j l c. q.stays.bucket j k l c)
            (λ none. ((q.unused k p.member).items, (q.unused k p.member).refs));
      })

  goes_merged : (run : MergeRun) → merge_run w h g ≡ Some run → Goes w h g (issue_first run.shelf w (merged run g))
  unfolding issue_first
  goes_merged run e =
      let n : Atlas = merged run g in
      let i : ℕ = run.shelf in
      let k : ℕ = (shelf_at n.shelves i).first in
      let r : RunFacts w h g run = run_facts w h g e in
      let m : MergeFacts run g n = merge_facts st run r in
      let p : Issuable i k w n = merge_issuable a st e in
      let f : IssueFacts i k w n (issue i k w n) = issue_facts m.steady i k w p in
      goes (issue i k w n) (record {
        asked = issue_asked m.steady i k w p (issue i k w n) f h (omega (arith, r.reaches, ap (λ (s : Shelf). s.height) m.leader));
        id = issue_risen m.steady i k w p (issue i k w n) f g (λ j l c. rw m.buckets)
            (λ none. absurd (none i (omega (arith, r.there)) (rw (m.chains i) at p.member)));
      })

-- ---- the theorems

pub placed_for : (width height : ℤ) (g : Atlas) (a : Allocation) → (allocate width height g).answer ≡ Ok a
    → PlacedFor (align g.head.align_width (natural width)) (align g.head.align_height (natural height)) g (allocate width height g).state a
placed_for width height g =
    let w : ℕ = align g.head.align_width (natural width) in
    let h : ℕ = align g.head.align_height (natural height) in
    allocate_ways present (Goes w h g) width height g (unplaced w h g) (λ r.
    let q : Aligned w h g.head = asked_aligned r in
    let st : Steady g = (asked_sound r).steady in
    place_ways present (Goes w h g) w h g (unplaced w h g) (goes_found q st) (goes_added q st) (λ e run d z. goes_merged q st run d))

-- a placed rectangle is what was asked for; "Aligning: up to the next multiple" is `rounding`
pub placed_asked : (width height : ℤ) (g : Atlas) (a : Allocation) → (allocate width height g).answer ≡ Ok a
    → AsAsked (align g.head.align_width (natural width)) (align g.head.align_height (natural height)) (allocate width height g).state a
placed_asked width height g a e = (placed_for width height g a e).asked

-- its id carries the risen item count
pub placed_id : (width height : ℤ) (g : Atlas) (a : Allocation) → (allocate width height g).answer ≡ Ok a
    → IdRisen g (allocate width height g).state a
placed_id width height g a e = (placed_for width height g a e).id

-- so of two requests placed one after the other in one bucket the second has the next item number
pub placed_next : (width height width' height' : ℤ) (g : Atlas) (a b : Allocation) → (allocate width height g).answer ≡ Ok a
    → (allocate width' height' (allocate width height g).state).answer ≡ Ok b → id_bucket b.id ≡ id_bucket a.id
    → id_item b.id ≡ (id_item a.id + 1) % 4096
placed_next width height width' height' g a b e f same =
    let g' : Atlas = (allocate width height g).state in
    let p : AsAsked _ _ g' a = placed_asked width height g a e in
    let q : IdRisen g g' a = placed_id width height g a e in
    let q' : IdRisen g' (allocate width' height' g').state b = placed_id width' height' g' b f in
    let r = q'.risen (named_bucket a g').shelf p.shelf (rw same p.bucket) in
    omega (arith, q.item, q'.item, r.0, ap (λ (k : ℕ). (bucket_at g'.buckets k).items) same)
