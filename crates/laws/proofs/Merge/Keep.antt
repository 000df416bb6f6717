-- A merge keeps the tables sound: unreferenced shelves of one column change their y and height, the first takes the sum of the heights, and
-- nothing that is referenced changes.
use Prim.Native.Nat.{ℕ, suc, ◌+◌, ◌≤◌, ◌<◌}
use mathlib.Core.Path.{◌≡◌, sym, ap, ◌∙◌, subst}
use mathlib.Core.Logic.{inl, inr}
use native.Mathlib.Omega.{arith}
use Rattle.rules.specs.declared.MergeRun.{MergeRun}
use Rattle.rules.specs.declared.Shelf.{Shelf}
use Rattle.rules.specs.Tables.{Atlas, bucket_at, shelf_at}
use Rattle.rules.specs.Chains.{In, sum_to, chain_of, first}
use Rattle.rules.specs.Merging.{merged, height_of, raised, flattened}
use Rattle.rules.specs.Return.{used_area, top_of}
use Rattle.rules.specs.Sound.{Counted, Stocked, used_on, Steady, SoundBy, LastUsed, Stacked, Columns, Occupied}
use Rattle.rules.specs.Builds.{Build}
use Rattle.rules.specs.Calls.{issue_first}
use Rattle.laws.proofs.Tables.Records.{first_is}
use Rattle.laws.proofs.Chains.Count.{sum_ext, sum_of_none}
use Rattle.laws.proofs.Chains.Ties.{chain_keeps, chains_keep}
use Rattle.laws.proofs.Sound.Lies.{first_in}
use Rattle.laws.proofs.Sound.Unreferenced.{unreferenced_area, unreferenced_area_on}
use Rattle.laws.proofs.Calls.Runs.{RunFacts}
use Rattle.laws.proofs.Issue.Keep.{Issuable, sound_issue}
use Rattle.laws.proofs.Merge.Merged.{Part, lead, tail, apart, part, run_below, run_top, run_first, run_high}
use Rattle.laws.proofs.Merge.Merged.{merged_at, merged_follower, merged_other, merged_length, merged_head, merged_buckets}
use Rattle.laws.proofs.Merge.Merged.{merged_x, merged_width, merged_links, merged_column, merged_top, new_top}

module _ {w h : ℕ} {g : Atlas} (st : Steady g) (run : MergeRun) (f : RunFacts w h g run) where
  -- a shelf that keeps its y
  stacked_keeps : (j : ℕ) → j < g.head.shelf_count → (run.shelf < j → j ≤ run.shelf + run.followers → ⊥)
      → (shelf_at (merged run g).shelves j).y ≡ (shelf_at g.shelves j).y
      → top_of (shelf_at (merged run g).shelves j) ≤ g.head.height → (shelf_at g.shelves j).height ≤ (shelf_at (merged run g).shelves j).height
      → Stacked (merged run g) j
  stacked_keeps j l n ey top high =
      let p : Stacked g j = st.stacked j l in
      record {
        x = rw (merged_x st run f j, merged_column st run f j, merged_head st run f) p.x;
        top = rw (merged_head st run f) top;
        starts = λ z. omega (arith, p.starts (omega arith));
        first = λ z. ey ∙ p.first z;
        follows = λ a e. rw (ey, merged_top st run f a (λ u v. n (omega arith) (omega arith))) (p.follows a e);
      }

  last_top : top_of (shelf_at g.shelves (run.shelf + run.followers)) ≤ g.head.height
  last_top = (st.stacked (run.shelf + run.followers) f.there).top

  stacked_by : (j : ℕ) → j < g.head.shelf_count → Part run.shelf run.followers j → Stacked (merged run g) j
  stacked_by j l (lead q) =
      let at : shelf_at (merged run g).shelves j ≡ raised (shelf_at g.shelves j) run.height =
      subst (λ (a : ℕ). shelf_at (merged run g).shelves a ≡ raised (shelf_at g.shelves a) run.height) (sym q) (merged_at st run f) in
      stacked_keeps j l (λ u v. omega arith) (ap (λ (v : Shelf). v.y) at)
      (omega (arith, ap top_of at, ap (λ (a : ℕ). (shelf_at g.shelves a).y) q, run_top st run f, last_top))
      (omega (arith, ap (λ (v : Shelf). v.height) at, ap (height_of g) q, run_first st run f))
  stacked_by j l (tail lo hi) =
      let at = merged_follower st run f j lo hi in
      record {
        x = rw (merged_x st run f j, merged_column st run f j, merged_head st run f) (st.stacked j l).x;
        top = rw (merged_head st run f) (omega (arith, new_top st run f j (tail lo hi) (omega arith) hi, run_top st run f, last_top));
        starts = λ z. absurd (omega (arith, ap (λ (v : Shelf). v.y) at, run_high st run f));
        first = λ z. absurd (omega arith);
        follows = λ a e. inr (ap (λ (v : Shelf). v.y) at ∙ sym (new_top st run f a (part run.shelf run.followers a) (omega arith) (omega arith)));
      }
  stacked_by j l (apart n) =
      let at = merged_other st run f j n in
      stacked_keeps j l (λ u v. n (omega arith) v) (ap (λ (v : Shelf). v.y) at)
      (omega (arith, ap top_of at, (st.stacked j l).top)) (omega (arith, ap (λ (v : Shelf). v.height) at))

  merged_columns : Columns (merged run g)
  merged_columns = record {
    fit = rw (merged_head st run f) st.columns.fit;
    current = rw (merged_head st run f) st.columns.current;
    empty = rw (merged_head st run f) st.columns.empty;
    last = λ i e.
        let e' : suc i ≡ g.head.shelf_count = rw (merged_head st run f) at e in
        rw (merged_head st run f, merged_column st run f i, merged_top st run f i (λ u v. omega (arith, f.there))) (st.columns.last i e');
  }

  flat_by : (j a : ℕ) → j < g.head.shelf_count → In a (chain_of g j) → Part run.shelf run.followers j
      → (shelf_at (merged run g).shelves j).height ≡ 0 → (bucket_at g.buckets a).refs ≡ 0
  flat_by j a l c (lead q) z = f.unreferenced j (omega arith) (omega arith) a c
  flat_by j a l c (tail lo hi) z = f.unreferenced j (omega arith) hi a c
  flat_by j a l c (apart n) z = ((st.stocked j l).counted a c).flat (sym (ap (λ (v : Shelf). v.height) (merged_other st run f j n)) ∙ z)

  merged_counted : (j a : ℕ) → j < g.head.shelf_count → In a (chain_of g j) → Counted j (shelf_at (merged run g).shelves j) (bucket_at g.buckets a)
  merged_counted j a l c =
      let p : Counted j (shelf_at g.shelves j) (bucket_at g.buckets a) = (st.stocked j l).counted a c in
      record {
        shelf = p.shelf;
        free = rw (merged_width st run f j) p.free;
        whole = rw (merged_width st run f j) p.whole;
        unused = rw (merged_width st run f j) p.unused;
        items = p.items;
        flat = flat_by j a l c (part run.shelf run.followers j);
      }

  merged_stocked : (j : ℕ) → j < g.head.shelf_count → Stocked (merged run g) j
  merged_stocked j l = record {
    some = rw ((merged_links st run f).first j) (st.stocked j l).some;
    ordered =
        let chain = chain_keeps (merged_links st run f) j in
        rw (chain, merged_width st run f j, merged_x st run f j, merged_head st run f, merged_buckets st run f) (st.stocked j l).ordered;
    counted = λ a c. rw (merged_buckets st run f) (merged_counted j a l (rw (chain_keeps (merged_links st run f) j) at c));
    wide = rw (merged_head st run f, merged_width st run f j) (st.stocked j l).wide;
  }

  -- the unreferenced weigh nothing, whatever their shelf's height
  used_none : (j : ℕ) → j < g.head.shelf_count → run.shelf ≤ j → j ≤ run.shelf + run.followers → used_on (merged run g) j ≡ used_on g j
  used_none j l lo hi =
      let none' : used_on (merged run g) j ≡ 0 = rw (chain_keeps (merged_links st run f) j, merged_buckets st run f)
      (sum_of_none (λ a. used_area (shelf_at (merged run g).shelves j) (bucket_at g.buckets a)) (chain_of g j)
      (λ a c. unreferenced_area j (shelf_at (merged run g).shelves j) (bucket_at g.buckets a) (merged_counted j a l c) (f.unreferenced j lo hi a c))) in
      none' ∙ sym (unreferenced_area_on st j l (f.unreferenced j lo hi))

  used_by : (j : ℕ) → j < g.head.shelf_count → Part run.shelf run.followers j → used_on (merged run g) j ≡ used_on g j
  used_by j l (lead q) = used_none j l (omega arith) (omega arith)
  used_by j l (tail lo hi) = used_none j l (omega arith) hi
  used_by j l (apart n) = rw (chain_keeps (merged_links st run f) j, merged_buckets st run f, merged_other st run f j n)

  merged_used : g.head.occupied ≡ sum_to g.head.shelf_count (used_on (merged run g))
  merged_used =
      st.occupied ∙ sym (sum_ext g.head.shelf_count (used_on (merged run g)) (used_on g) (λ j l. used_by j l (part run.shelf run.followers j)))

  merged_occupied : Occupied (merged run g)
  unfolding merged
  merged_occupied = merged_used

  pub steady_merged : Steady (merged run g)
  steady_merged = record {
    lent = record { shelves = rw (merged_length st run f) st.lent.shelves; buckets = rw (merged_buckets st run f) st.lent.buckets };
    domain = rw (merged_head st run f) st.domain;
    columns = merged_columns;
    stacked = λ j l.
        let l' : j < g.head.shelf_count = rw (merged_head st run f) at l in
        stacked_by j l' (part run.shelf run.followers j);
    chained = chains_keep (merged_links st run f) st.chained;
    stocked = λ j l. merged_stocked j (rw (merged_head st run f) at l);
    released = rw (merged_head st run f, merged_buckets st run f) st.released;
    occupied = merged_occupied;
    generations = rw (merged_head st run f, merged_buckets st run f) st.generations;
  }

  -- a shelf with a referenced bucket keeps its record
  keeps_by : (j k : ℕ) → In k (chain_of g j) → 0 < (bucket_at g.buckets k).refs → Part run.shelf run.followers j
      → shelf_at (merged run g).shelves j ≡ shelf_at g.shelves j
  keeps_by j k c r (lead q) = absurd (omega (arith, f.unreferenced j (omega arith) (omega arith) k c))
  keeps_by j k c r (tail lo hi) = absurd (omega (arith, f.unreferenced j (omega arith) hi k c))
  keeps_by j k c r (apart n) = merged_other st run f j n

  pub merged_keeps : (j k : ℕ) → In k (chain_of g j) → 0 < (bucket_at g.buckets k).refs → shelf_at (merged run g).shelves j ≡ shelf_at g.shelves j
  merged_keeps j k c r = keeps_by j k c r (part run.shelf run.followers j)

  pub merged_last : LastUsed g → LastUsed (merged run g)
  merged_last u i e =
      let r = u i (rw (merged_head st run f) at e) in
      (r.0, rw (chain_keeps (merged_links st run f) i) r.1, rw (merged_buckets st run f) r.2)

  -- the request can be issued from the merged shelf's first bucket
  pub merged_issuable : 1 ≤ w → 1 ≤ h → Issuable run.shelf (first (merged run g).shelves run.shelf) w (merged run g)
  merged_issuable lw lh =
      let i : ℕ = run.shelf in
      let k : ℕ = first (merged run g).shelves i in
      let li : i < g.head.shelf_count = run_below st run f i (omega arith) in
      let li' : i < (merged run g).head.shelf_count = rw (merged_head st run f) li in
      let c : In k (chain_of (merged run g) i) = first_in steady_merged i li' in
      let c' : In k (chain_of g i) = rw (chain_keeps (merged_links st run f) i) at c in
      let free : (bucket_at g.buckets k).free ≡ (shelf_at g.shelves i).width =
      ((st.stocked i li).counted k c').whole (f.unreferenced i (omega arith) (omega arith) k c') in
      record {
        there = li';
        member = c;
        some = lw;
        free = rw (merged_buckets st run f) (omega (arith, f.wide));
        high = omega (arith, ap (λ (v : Shelf). v.height) (merged_at st run f), f.reaches);
      }

pub sound_merged : {build : Build} {w h : ℕ} {g : Atlas} → SoundBy build g → (run : MergeRun) → RunFacts w h g run → SoundBy build (merged run g)
sound_merged p run f = record {
  steady = steady_merged p.steady run f;
  last_used = merged_last p.steady run f p.last_used;
  rested = rw (merged_head p.steady run f, merged_buckets p.steady run f) p.rested;
}

-- what there is to know of a merge
pub record MergeFacts (run : MergeRun) (g g' : Atlas) : Type 0 where
  pub steady : Steady g'
  pub head : g'.head ≡ g.head
  pub buckets : g'.buckets ≡ g.buckets
  pub chains : (j : ℕ) → chain_of g' j ≡ chain_of g j
  -- every held rectangle stays valid: a shelf with a referenced bucket keeps its record
  pub keeps : (j k : ℕ) → In k (chain_of g j) → 0 < (bucket_at g.buckets k).refs → shelf_at g'.shelves j ≡ shelf_at g.shelves j
  pub leader : shelf_at g'.shelves run.shelf ≡ raised (shelf_at g.shelves run.shelf) run.height
  pub followers : (j : ℕ) → run.shelf < j → j ≤ run.shelf + run.followers
      → shelf_at g'.shelves j ≡ flattened (shelf_at g.shelves j) ((shelf_at g.shelves run.shelf).y + run.height)
  pub others : (j : ℕ) → (run.shelf ≤ j → j ≤ run.shelf + run.followers → ⊥) → shelf_at g'.shelves j ≡ shelf_at g.shelves j

pub merge_facts : {w h : ℕ} {g : Atlas} → Steady g → (run : MergeRun) → RunFacts w h g run → MergeFacts run g (merged run g)
merge_facts st run f = record {
  steady = steady_merged st run f;
  head = merged_head st run f;
  buckets = merged_buckets st run f;
  chains = chain_keeps (merged_links st run f);
  keeps = merged_keeps st run f;
  leader = merged_at st run f;
  followers = merged_follower st run f;
  others = merged_other st run f;
}

-- the whole step: the merge, and the issue from the merged shelf's first bucket
pub first_issuable : {w h : ℕ} {g : Atlas} → Steady g → (run : MergeRun) → RunFacts w h g run → 1 ≤ w → 1 ≤ h
    → Issuable run.shelf (shelf_at (merged run g).shelves run.shelf).first w (merged run g)
first_issuable {w} {h} {g} st run f lw lh =
    subst (λ (k : ℕ). Issuable run.shelf k w (merged run g)) (first_is (merged run g).shelves run.shelf) (merged_issuable st run f lw lh)

pub sound_place_merged : {build : Build} {w h : ℕ} {g : Atlas} → SoundBy build g → (run : MergeRun) → RunFacts w h g run → 1 ≤ w → 1 ≤ h
    → SoundBy build (issue_first run.shelf w (merged run g)).state
unfolding issue_first
sound_place_merged {build} {w} {h} {g} p run f lw lh =
    let m : SoundBy build (merged run g) = sound_merged p run f in
    sound_issue m.steady run.shelf (shelf_at (merged run g).shelves run.shelf).first w (first_issuable p.steady run f lw lh) (inl m.last_used)
    m.rested
