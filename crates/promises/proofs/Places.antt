-- Where a request is placed, said of the shelves before it and after it: in the bucket that the search picks, on a new shelf, or on the shelves
-- that the merge makes one of.
use Rattle.std.specs.Prelude.{Ok, Err, Result, Some, None}
use Rattle.std.proofs.lemmas.Option.{none-some}
use Prim.Native.Nat.{ℕ, suc, ◌+◌, ◌-◌, ◌≤◌, ◌<◌}
use mathlib.Core.Bool.{true, false, false≢true}
use mathlib.Core.Path.{◌≡◌, refl, sym, ap, ◌∙◌, subst}
use mathlib.Core.Logic.{◌≢◌, ⊎_elim}
use mathlib.Core.List.{List, ◌∷◌}
use native.Mathlib.Decide.{ℕ_discrete, dec_lt}
use native.Mathlib.Omega.{arith}
use lib.IntN.{ℤ}
use Rattle.rules.specs.declared.Allocation.{Allocation}
use Rattle.rules.specs.declared.Best.{Best}
use Rattle.rules.specs.declared.Bucket.{Bucket}
use Rattle.rules.specs.declared.Head.{Head}
use Rattle.rules.specs.declared.MergeRun.{MergeRun}
use Rattle.rules.specs.declared.Refusal.{Refusal}
use Rattle.rules.specs.declared.Shelf.{Shelf}
use Rattle.rules.specs.Tables.{Atlas, Outcome, outcome, bucket_at, put_bucket, shelf_at, with_occupied}
use Rattle.rules.specs.Builds.{present}
use Rattle.rules.specs.NewShelf.{new_shelf, filler_ends}
use Rattle.rules.specs.Search.{can_add, search, Takeable, CanAdd}
use Rattle.rules.specs.Merging.{height_of, raised, flattened, merge_run, merged}
use Rattle.rules.specs.Ids.{id_of, id_bucket, id_item}
use Rattle.rules.specs.Chains.{chain_of, first}
use Rattle.rules.specs.Issue.{taken, allocation_for, issue}
use Rattle.rules.specs.Sound.{Steady}
use Rattle.rules.specs.Calls.{placed, issue_first, place, allocate}
use Rattle.laws.proofs.Tables.Records.{at_put, at_put_other}
use Rattle.laws.proofs.Calls.Found.{can_add_yes, can_add_all, takeable_below}
use Rattle.laws.proofs.Calls.Runs.{RunIs, run_mergeable, run_facts}
use Rattle.laws.proofs.Calls.Ways.{allocate_ways, place_ways}
use Rattle.laws.proofs.Calls.Request.{Aligned, asked_sound, asked_aligned}
use Rattle.laws.proofs.Calls.Keep.{added as added-law}
use Rattle.laws.proofs.NewShelf.Laying.{Unused}
use Rattle.laws.proofs.NewShelf.Keep.{Added}
use Rattle.laws.proofs.Merge.Merged.{merged_at, merged_follower, merged_other, merged_head, merged_buckets}
use Rattle.promises.proofs.Found.{Alone}
use Rattle.promises.proofs.Picks.{waste_of, Offered, FirstIn, Picked, FirstMergeable, first_in_is, first_in_one}
use Rattle.promises.proofs.Picks.{picked_offered, picked_least, search_picks, offered_found, merge_start, merge_one}
use Rattle.promises.proofs.NoPlace.{aligned_width, aligned_height}
use Rattle.laws.proofs.Results.{ok_one, err_not_ok}
use Rattle.laws.proofs.Options.{split_option}

-- ---- in words

-- shelf i of g takes the sum of its height and that of its n followers; "the followers get height 0 and the y of its top"; no other shelf changes
pub record JoinedShelves (g after : Atlas) (i n sum : ℕ) : Type 0 where
  pub takes : shelf_at after.shelves i ≡ raised (shelf_at g.shelves i) sum
  pub followers : (j : ℕ) → i < j → j ≤ i + n → shelf_at after.shelves j ≡ flattened (shelf_at g.shelves j) ((shelf_at g.shelves i).y + sum)
  pub others : (j : ℕ) → (i ≤ j → j ≤ i + n → ⊥) → shelf_at after.shelves j ≡ shelf_at g.shelves j

-- "followed in its column by one or two unreferenced shelves such that the running sum of heights reaches h; one, if one will do". Of the header
-- the figure alone changes, and of the buckets the one that the request goes to.
pub record JoinedFor (h : ℕ) (g after : Atlas) (i : ℕ) : Type 0 where
  pub head : after.head ≡ with_occupied g.head after.head.occupied
  pub buckets : (k : ℕ) → k ≢ (shelf_at g.shelves i).first → bucket_at after.buckets k ≡ bucket_at g.buckets k
  pub one : h ≤ height_of g i + height_of g (i + 1) → JoinedShelves g after i 1 (height_of g i + height_of g (i + 1))
  pub two : height_of g i + height_of g (i + 1) < h → JoinedShelves g after i 2 (height_of g i + height_of g (i + 1) + height_of g (i + 2))

-- shelf i is new and the last, high enough, and those that were there are as they were; the request goes to its chain's first bucket, of which it is
-- the first item, "w wide and as high as the shelf"
pub record OnNewShelf (w h : ℕ) (g : Atlas) (a : Allocation) (after : Atlas) (i : ℕ) : Type 0 where
  pub last : suc i ≡ after.head.shelf_count
  pub behind : g.head.shelf_count ≤ i
  pub old : (j : ℕ) → j < g.head.shelf_count → shelf_at after.shelves j ≡ shelf_at g.shelves j
  pub high : h ≤ height_of after i
  pub bucket : id_bucket a.id ≡ (shelf_at after.shelves i).first
  pub item : id_item a.id ≡ 1
  pub left : a.rectangle.left ≡ (bucket_at after.buckets (shelf_at after.shelves i).first).x
  pub right : a.rectangle.right ≡ a.rectangle.left + w
  pub top : a.rectangle.top ≡ (shelf_at after.shelves i).y
  pub bottom : a.rectangle.bottom ≡ a.rectangle.top + height_of after i

-- an aligned request of w by h, answered by a
pub data PlacedIn (w h : ℕ) (g : Atlas) (a : Allocation) (after : Atlas) : Type 0 where
  -- "Taking from a bucket found by the search changes that bucket's record and the figure, no other record."
  found : (i k : ℕ) → Picked w h g i k → a ≡ allocation_for k (shelf_at g.shelves i) (bucket_at g.buckets k) w → Alone k g after
      → PlacedIn w h g a after
  -- a shelf can be added, and every takeable bucket is passed over
  added : CanAdd h g → ((i k : ℕ) → Takeable w h g i k → h < waste_of h g i) → (i : ℕ) → OnNewShelf w h g a after i → PlacedIn w h g a after
  -- "Only when nothing was found and can add is false. The first shelf, in order"; "The request goes to its chain's first bucket"
  joined : ((i k : ℕ) → Takeable w h g i k → ⊥) → (CanAdd h g → ⊥) → (i : ℕ) → FirstMergeable w h g i → JoinedFor h g after i
      → a ≡ allocation_for (shelf_at g.shelves i).first (shelf_at after.shelves i) (bucket_at g.buckets (shelf_at g.shelves i).first) w
      → PlacedIn w h g a after

-- ---- the three ways

abbrev Says : ℕ → ℕ → Atlas → Outcome (Result Allocation Refusal) → Type 0
Says w h g o = (a : Allocation) → o.answer ≡ Ok a → PlacedIn w h g a o.state

refuses : (w h : ℕ) (g : Atlas) (r : Refusal) → Says w h g (outcome (Err r) g)
refuses w h g r a e = err_not_ok e

-- it names the bucket, and the item
names : (k items generation : ℕ) → k < 4096 → id_bucket (id_of k items generation) ≡ k
names k items generation l = omega arith

item_one : (k items generation : ℕ) → k < 4096 → items ≡ 0 → id_item (id_of k (items + 1) generation) ≡ 1
item_one k items generation l e = rw e (omega arith)

on_new : (g n : Atlas) (w h i : ℕ) → Added w h g n i → (a : Allocation) → (issue_first i w n).answer ≡ Ok a
    → OnNewShelf w h g a (issue_first i w n).state i
unfolding first issue_first issue
on_new g n w h i q a e =
    let k : ℕ = (shelf_at n.shelves i).first in
    let v : Bucket = bucket_at n.buckets k in
    let s : Shelf = shelf_at n.shelves i in
    let b : a ≡ allocation_for k s v w = ok_one e in
    let below : k < n.head.bucket_count = q.below in
    let few : n.head.bucket_count ≤ 4095 = q.steady.domain.buckets in
    let u : Unused s.width i v = q.unused (first n.shelves i) q.member in
    let put : bucket_at (put_bucket n.buckets k (taken v w)) k ≡ taken v w = at_put n.buckets k (taken v w) (omega (arith, q.steady.lent.buckets)) in
    let left : a.rectangle.left ≡ v.x + s.width - v.free = ap (λ (a : Allocation). a.rectangle.left) b in
    let right : a.rectangle.right ≡ v.x + s.width - v.free + w = ap (λ (a : Allocation). a.rectangle.right) b in
    let top : a.rectangle.top ≡ s.y = ap (λ (a : Allocation). a.rectangle.top) b in
    let bottom : a.rectangle.bottom ≡ s.y + s.height = ap (λ (a : Allocation). a.rectangle.bottom) b in
    record {
      last = sym q.last;
      behind = q.behind;
      old = q.stays.shelf;
      high = q.high;
      bucket = ap (λ (a : Allocation). id_bucket a.id) b ∙ names k (v.items + 1) v.generation (omega arith);
      item = ap (λ (a : Allocation). id_item a.id) b ∙ item_one k v.items v.generation (omega arith) u.items;
      left = omega (arith, left, u.free, ap (λ (v : Bucket). v.x) put);
      right = omega (arith, left, right);
      top = top;
      bottom = omega (arith, top, bottom);
    }

module _ (w h : ℕ) (g : Atlas) (t : Steady g) where
  in_found : (best : Best) → search w h g ≡ Some best → Says w h g (placed (issue best.shelf best.bucket w g))
  unfolding issue
  in_found best is a e =
      PlacedIn.found best.shelf best.bucket (search_picks w h g t is) (ok_one e)
      (record { head = refl; shelves = refl; others = λ j n. at_put_other _ _ _ j n })

  -- nothing was found
  passed_by : search w h g ≡ None → (i k : ℕ) → Offered w h g i k → ⊥
  passed_by z i k o = none-some _ (sym z ∙ (offered_found w h g t i k o).1)

  in_added : Aligned w h g.head → search w h g ≡ None → can_add h g.head ≡ true → filler_ends present h g ≡ false
      → Says w h g (issue_first ((new_shelf present w h g).head.shelf_count - 1) w (new_shelf present w h g))
  in_added al z add ends a e =
      PlacedIn.added (can_add_yes h g add)
      (λ i k p. elim (dec_lt h (waste_of h g i)) [
        | yes l ↦ l
        | no n ↦ absurd (passed_by z i k (record { takeable = p; near = λ c. omega arith }))
      ])
      ((new_shelf present w h g).head.shelf_count - 1) (on_new g (new_shelf present w h g) w h _ (added-law al present t add ends) a e)

  -- the shelves of the run
  joined_run : (run : MergeRun) → merge_run w h g ≡ Some run → JoinedFor h g (merged run g) run.shelf
  unfolding merged
  joined_run run e =
      let f = run_facts w h g e in
      let is : RunIs w h g run = run_mergeable w h e in
      let is-joined : (n sum : ℕ) → run.followers ≡ n → run.height ≡ sum → JoinedShelves g (merged run g) run.shelf n sum = λ n sum en es. record {
        takes = rw (← es) (merged_at t run f);
        followers = λ j lo hi. rw (← es) (merged_follower t run f j lo (omega arith));
        others = λ j o. merged_other t run f j (λ lo hi. o lo (omega arith));
      } in
      record {
        head = refl;
        buckets = λ k n. refl;
        one = λ l. ⊎_elim (λ q. is-joined 1 _ q.0 q.1) (λ q. absurd (omega (arith, merge_one w h g e q.0))) is.reach;
        two = λ l. ⊎_elim (λ q. absurd (omega (arith, q.1, q.2))) (λ q. is-joined 2 _ q.0 q.2) is.reach;
      }

  in_joined : search w h g ≡ None → can_add h g.head ≡ false → (run : MergeRun) → merge_run w h g ≡ Some run
      → Says w h g (issue_first run.shelf w (merged run g))
  unfolding issue_first issue
  in_joined z add run is a e =
      let cannot : CanAdd h g → ⊥ = λ c. false≢true (sym add ∙ can_add_all h g c) in
      let j : JoinedFor h g (merged run g) run.shelf = joined_run run is in
      PlacedIn.joined (λ i k p. passed_by z i k (record { takeable = p; near = λ c. absurd (cannot c) })) cannot run.shelf
      (merge_start w h g is)
      (record {
        head = ap (λ (v : Head). with_occupied v (issue_first run.shelf w m).state.head.occupied) (merged_head t run (run_facts w h g is));
        buckets = λ k n. at_put_other m.buckets top.first _ k (λ z. n (z ∙ same_first))
            ∙ ap (λ (b : List ℕ). bucket_at b k) (merged_buckets t run (run_facts w h g is));
        one = λ l. (let q = j.one l in record { takes = q.takes; followers = q.followers; others = q.others });
        two = λ l. (let q = j.two l in record { takes = q.takes; followers = q.followers; others = q.others });
      })
      (ok_one e ∙ same)
    where
      m : Atlas
      m = merged run g

      first : ℕ
      first = (shelf_at g.shelves run.shelf).first

      top : Shelf
      top = shelf_at m.shelves run.shelf

      same_first : top.first ≡ first
      same_first = ap (λ (v : Shelf). v.first) (merged_at t run (run_facts w h g is))

      same : allocation_for top.first top (bucket_at m.buckets top.first) w ≡ allocation_for first top (bucket_at g.buckets first) w
      same =
          ap (λ (k : ℕ). allocation_for k top (bucket_at m.buckets k) w) same_first
          ∙ ap (λ (b : List ℕ). allocation_for first top (bucket_at b first) w) (merged_buckets t run (run_facts w h g is))

  found_only : (best : Best) → search w h g ≡ Some best → Says w h g (place present w h g)
  unfolding place
  found_only best e = simp e (in_found best e)

  places : Aligned w h g.head → Says w h g (place present w h g)
  places al = split_option (search w h g)
      (λ z. place_ways present (Says w h g) w h g (refuses w h g) in_found (in_added al z) (λ f run is k. in_joined z f run is))
      found_only

-- ---- allocate

-- where an accepted request is placed
pub allocate_places : (width height : ℤ) (g : Atlas) (a : Allocation) → (allocate width height g).answer ≡ Ok a
    → PlacedIn (aligned_width width g) (aligned_height height g) g a (allocate width height g).state
allocate_places width height g =
    allocate_ways present (Says (aligned_width width g) (aligned_height height g) g) width height g (refuses _ _ g)
    (λ r. places _ _ g (asked_sound r).steady (asked_aligned r))

high_of : (a : Allocation) (s : Shelf) → a.rectangle.top ≡ s.y → a.rectangle.bottom ≡ s.y + s.height
    → a.rectangle.bottom - a.rectangle.top ≡ s.height
high_of a s t b = omega arith

placed_low : {w h : ℕ} {g after : Atlas} {a : Allocation} → PlacedIn w h g a after → (j l : ℕ) → Offered w h g j l
    → a.rectangle.bottom - a.rectangle.top ≤ height_of g j
placed_low {w} {h} {g} {after} {a} (PlacedIn.found i k p e alone) j l o =
    omega (
      arith,
      picked_least p j l o,
      (picked_offered p).takeable.high,
      o.takeable.high,
      high_of a (shelf_at g.shelves i) (ap (λ (a : Allocation). a.rectangle.top) e) (ap (λ (a : Allocation). a.rectangle.bottom) e),
    )
placed_low (PlacedIn.added add passed i on) j l o = absurd (omega (arith, passed j l o.takeable, o.near add))
placed_low (PlacedIn.joined taken cannot i start sum e) j l o = absurd (taken j l o.takeable)

-- the rectangle is no higher than any shelf that offers a bucket
pub place_lowest : (width height : ℤ) (g : Atlas) (a : Allocation) → (allocate width height g).answer ≡ Ok a
    → (j l : ℕ) → Offered (aligned_width width g) (aligned_height height g) g j l → a.rectangle.bottom - a.rectangle.top ≤ height_of g j
place_lowest width height g a e = placed_low (allocate_places width height g a e)

-- ---- a new shelf

placed_new : {w h : ℕ} {g after : Atlas} {a : Allocation} → PlacedIn w h g a after → g.head.shelf_count < after.head.shelf_count
    → OnNewShelf w h g a after (after.head.shelf_count - 1)
placed_new (PlacedIn.found i k p e alone) l = absurd (omega (arith, ap (λ (h : Head). h.shelf_count) alone.head))
placed_new {w} {h} {g} {after} {a} (PlacedIn.added add passed i on) l =
    let e : i ≡ after.head.shelf_count - 1 = omega (arith, on.last) in
    subst (λ (m : ℕ). OnNewShelf w h g a after m) e on
placed_new (PlacedIn.joined taken cannot i start sum e) l = absurd (omega (arith, ap (λ (h : Head). h.shelf_count) sum.head))

-- a request that brings a shelf goes to the new last shelf
pub place_new : (width height : ℤ) (g : Atlas) (a : Allocation) → (allocate width height g).answer ≡ Ok a
    → g.head.shelf_count < (allocate width height g).state.head.shelf_count
    → OnNewShelf (aligned_width width g) (aligned_height height g) g a (allocate width height g).state ((allocate width height g).state.head.shelf_count - 1)
place_new width height g a e = placed_new (allocate_places width height g a e)

-- ---- what a merge raises

pub record RaisedFirst (w h : ℕ) (g after : Atlas) (j : ℕ) : Type 0 where
  pub mergeable : FirstMergeable w h g j
  pub one : h ≤ height_of g j + height_of g (j + 1) → height_of after j ≡ height_of g j + height_of g (j + 1)
  pub two : height_of g j + height_of g (j + 1) < h → height_of after j ≡ height_of g j + height_of g (j + 1) + height_of g (j + 2)

joined_raises : {g after : Atlas} (i n sum : ℕ) → JoinedShelves g after i n sum → (j : ℕ) → height_of g j < height_of after j → j ≡ i
joined_raises i n sum p j l = elim (ℕ_discrete j i) [
  | yes e ↦ e
  | no ne ↦ elim (dec_lt j i) [
    | yes s ↦ absurd (omega (arith, ap (λ (v : Shelf). v.height) (p.others j (λ lo hi. omega arith))))
    | no n₁ ↦ elim (dec_lt (i + n) j) [
      | yes s ↦ absurd (omega (arith, ap (λ (v : Shelf). v.height) (p.others j (λ lo hi. omega arith))))
      | no n₂ ↦ absurd (omega (arith, ap (λ (v : Shelf). v.height) (p.followers j (omega arith) (omega arith))))
    ]
  ]
]

placed_raises : {w h : ℕ} {g after : Atlas} {a : Allocation} → PlacedIn w h g a after → (j : ℕ) → j < g.head.shelf_count
    → height_of g j < height_of after j → RaisedFirst w h g after j
placed_raises {w} {h} {g} {after} (PlacedIn.found i k p e alone) j s l =
    absurd (omega (arith, ap (λ (t : List ℕ). (shelf_at t j).height) alone.shelves))
placed_raises (PlacedIn.added add passed i on) j s l = absurd (omega (arith, ap (λ (v : Shelf). v.height) (on.old j s)))
placed_raises {w} {h} {g} {after} (PlacedIn.joined taken cannot i start sum e) j s l =
    let here : j ≡ i = elim (dec_lt (height_of g i + height_of g (i + 1)) h) [
      | yes short ↦ joined_raises i 2 _ (sum.two short) j l
      | no n ↦ joined_raises i 1 _ (sum.one (omega arith)) j l
    ] in
    subst (λ (m : ℕ). RaisedFirst w h g after m) (sym here) (record {
      mergeable = start;
      one = λ q. ap (λ (v : Shelf). v.height) (sum.one q).takes;
      two = λ q. ap (λ (v : Shelf). v.height) (sum.two q).takes;
    })

-- a shelf that a request makes higher is the first, in order, that starts a run; "It takes the sum", of one follower "if one will do"
pub place_raises : (width height : ℤ) (g : Atlas) (a : Allocation) → (allocate width height g).answer ≡ Ok a
    → (j : ℕ) → j < g.head.shelf_count → height_of g j < height_of (allocate width height g).state j
    → RaisedFirst (aligned_width width g) (aligned_height height g) g (allocate width height g).state j
place_raises width height g a e = placed_raises (allocate_places width height g a e)

-- ---- which bucket the id names

found_names : {w h : ℕ} {g : Atlas} {a : Allocation} → Steady g → (i k : ℕ) → Takeable w h g i k
    → a ≡ allocation_for k (shelf_at g.shelves i) (bucket_at g.buckets k) w
    → (id_bucket a.id ≡ k) × ((bucket_at g.buckets k).shelf ≡ i) × (a.rectangle.bottom - a.rectangle.top ≡ height_of g i)
found_names {w} {h} {g} {a} t i k p e = (
  ap (λ (a : Allocation). id_bucket a.id) e
      ∙ names k ((bucket_at g.buckets k).items + 1) (bucket_at g.buckets k).generation (omega (arith, takeable_below t p, t.domain.buckets)),
  ((t.stocked i p.shelf).counted k p.bucket).shelf,
  high_of a (shelf_at g.shelves i) (ap (λ (a : Allocation). a.rectangle.top) e) (ap (λ (a : Allocation). a.rectangle.bottom) e),
)

module _ {w h : ℕ} {g after : Atlas} {a : Allocation} (t : Steady g) where
  placed_early : PlacedIn w h g a after → (j l : ℕ) → Offered w h g j l → a.rectangle.bottom - a.rectangle.top ≡ height_of g j → h < height_of g j
      → (bucket_at g.buckets (id_bucket a.id)).shelf ≤ j
  placed_early (PlacedIn.found i k p e alone) j l o same high =
      let n = found_names t i k (picked_offered p).takeable e in
      rw n.0 (omega (arith, n.1, early p (omega (arith, n.2))))
    where
      early : {i k : ℕ} → Picked w h g i k → height_of g i ≡ height_of g j → i ≤ j
      early {i} {k} (Picked.leading q z) z₁ = elim (dec_lt j i) [ yes s ↦ absurd (omega (arith, q.earliest j l s o)) | no n ↦ omega arith ]
      early {i} {k} (Picked.fitting i₀ k₀ q nf b between fb) z₁ = absurd (omega (arith, (first_in_is fb).waste))
  placed_early (PlacedIn.added add passed i on) j l o same high = absurd (omega (arith, passed j l o.takeable, o.near add))
  placed_early (PlacedIn.joined taken cannot i start sum e) j l o same high = absurd (taken j l o.takeable)

  placed_first : PlacedIn w h g a after → (l : ℕ) (ls : List ℕ) → chain_of g 0 ≡ l ∷ ls → Offered w h g 0 l
      → (bucket_at g.buckets (id_bucket a.id)).shelf ≡ 0 → id_bucket a.id ≡ l
  placed_first (PlacedIn.found i k p e alone) l ls ec o on =
      let n = found_names t i k (picked_offered p).takeable e in
      let here : i ≡ 0 = omega (arith, n.1, ap (λ (k : ℕ). (bucket_at g.buckets k).shelf) n.0) in
      n.0 ∙ early (subst (λ (i : ℕ). Picked w h g i k) here p)
    where
      early : {k : ℕ} → Picked w h g 0 k → k ≡ l
      early {k} (Picked.leading q z) =
          first_in_one (subst (λ (ks : List ℕ). FirstIn (Takeable w h g 0) k ks) ec q.bucket) (FirstIn.here {ks = ls} o.takeable)
      early {k} (Picked.fitting i₀ k₀ q nf b between fb) = absurd (omega arith)
  placed_first (PlacedIn.added add passed i new) l ls ec o on = absurd (omega (arith, passed 0 l o.takeable, o.near add))
  placed_first (PlacedIn.joined taken cannot i start sum e) l ls ec o on = absurd (taken 0 l o.takeable)

placed_sound : (width height : ℤ) (g : Atlas) (a : Allocation) → (allocate width height g).answer ≡ Ok a → Steady g
placed_sound width height g = allocate_ways present (λ o. (a : Allocation) → o.answer ≡ Ok a → Steady g) width height g
    (λ r a e. let z : ◌≡◌ {A = ℕ} 0 1 = cc in absurd (omega arith)) (λ r a e. (asked_sound r).steady)

-- "Shelves in order": where the waste is not 0, no earlier shelf of the same height offers a bucket
pub place_earliest : (width height : ℤ) (g : Atlas) (a : Allocation) → (allocate width height g).answer ≡ Ok a
    → (j l : ℕ) → Offered (aligned_width width g) (aligned_height height g) g j l
    → a.rectangle.bottom - a.rectangle.top ≡ height_of g j → aligned_height height g < height_of g j
    → (bucket_at g.buckets (id_bucket a.id)).shelf ≤ j
place_earliest width height g a e = placed_early (placed_sound width height g a e) (allocate_places width height g a e)

-- "its first takeable bucket ends that shelf, exact or not": a bucket of the first shelf that is taken is the first of its chain, if that is offered
pub place_first : (width height : ℤ) (g : Atlas) (a : Allocation) → (allocate width height g).answer ≡ Ok a
    → (l : ℕ) (ls : List ℕ) → chain_of g 0 ≡ l ∷ ls → Offered (aligned_width width g) (aligned_height height g) g 0 l
    → (bucket_at g.buckets (id_bucket a.id)).shelf ≡ 0 → id_bucket a.id ≡ l
place_first width height g a e = placed_first (placed_sound width height g a e) (allocate_places width height g a e)
