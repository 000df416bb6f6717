-- One bucket of a shelf's chain changes its free width and its counts, and the occupied figure with it: the tables stay as they have to be.
-- An issue is such a change, and so is a returned reference.
use Prim.Native.Nat.{ℕ, ◌+◌, ◌*◌, ◌≤◌, ◌<◌}
use mathlib.Core.Path.{◌≡◌, refl, sym, ap, ◌∙◌, subst}
use mathlib.Core.Logic.{◌≢◌}
use native.Mathlib.Decide.{ℕ_discrete}
use native.Mathlib.Omega.{arith}
use lib.ListN.{length}
use Rattle.rules.specs.declared.Bucket.{Bucket}
use Rattle.rules.specs.Tables.{Atlas, atlas, bucket_at, put_bucket, shelf_at, with_occupied}
use Rattle.rules.specs.Chains.{count, In, sum_to, sum_of, chain_of, released_of, next}
use Rattle.rules.specs.Return.{used_area}
use Rattle.rules.specs.Sound.{Counted, Stocked, used_on, Steady}
use Rattle.laws.proofs.Tables.Records.{length_put, at_put, at_put_other}
use Rattle.laws.proofs.Chains.Count.{sum_ext}
use Rattle.laws.proofs.Chains.Ties.{home_one, home_not_released, tied_of, SameLinks, chain_keeps, released_keeps, chains_keep}
use Rattle.laws.proofs.Sound.Header.{domain_keeps}
use Rattle.laws.proofs.Sound.Order.{ordered_frame}
use Rattle.laws.proofs.Sound.Lies.{member_below}
use Rattle.laws.proofs.Sound.Figure.{figure_change}

-- a bucket is on one shelf alone
pub member_shelf : {g : Atlas} → Steady g → (i j k : ℕ) → i < g.head.shelf_count → j < g.head.shelf_count
    → In k (chain_of g i) → In k (chain_of g j) → i ≡ j
member_shelf {g} st i j k li lj ci cj = home_one (tied_of st.chained) k i j (member_below st i k li ci) li lj ci cj

-- its record has room
pub bucket_room : {g : Atlas} → Steady g → (k : ℕ) → k < g.head.bucket_count → 7 * k + 7 ≤ length g.buckets
bucket_room st k l = omega (arith, st.lent.buckets, st.domain.buckets)

abbrev pub changed : Atlas → ℕ → Bucket → ℕ → Atlas
changed g k v occupied = atlas (with_occupied g.head occupied) g.shelves (put_bucket g.buckets k v)

-- v keeps where the bucket is, has a generation, and is as a bucket of shelf i has to be
pub record Suits (g : Atlas) (i k : ℕ) (v : Bucket) : Type 0 where
  pub x : v.x ≡ (bucket_at g.buckets k).x
  pub next : v.next ≡ (bucket_at g.buckets k).next
  pub generation : v.generation < 256
  pub counted : Counted i (shelf_at g.shelves i) v

module _ {g : Atlas} (st : Steady g) (k : ℕ) (lk : k < g.head.bucket_count) (v : Bucket) where
  changed_at : bucket_at (put_bucket g.buckets k v) k ≡ v
  changed_at = at_put g.buckets k v (bucket_room st k lk)

  -- a number of the records that v keeps
  changed_field : (F : Bucket → ℕ) → F v ≡ F (bucket_at g.buckets k) → (j : ℕ) → F (bucket_at (put_bucket g.buckets k v) j) ≡ F (bucket_at g.buckets j)
  changed_field F q j = elim (ℕ_discrete j k) [
    | yes e ↦ subst (λ (a : ℕ). F (bucket_at (put_bucket g.buckets k v) a) ≡ F (bucket_at g.buckets a)) (sym e) (ap F changed_at ∙ q)
    | no ne ↦ ap F (at_put_other g.buckets k v j ne)
  ]

  changed_links : (occupied : ℕ) → v.next ≡ (bucket_at g.buckets k).next → SameLinks g (changed g k v occupied)
  unfolding next
  changed_links occupied e = record {
    shelf_count = refl;
    bucket_count = refl;
    released = refl;
    next = changed_field (λ (u : Bucket). u.next) e;
    first = λ i. refl;
  }

-- what there is to know of the state after
pub record Changes (g : Atlas) (k : ℕ) (v : Bucket) (g' : Atlas) : Type 0 where
  pub steady : Steady g'
  pub chains : (j : ℕ) → chain_of g' j ≡ chain_of g j
  pub released : released_of g' ≡ released_of g
  pub bucket : bucket_at g'.buckets k ≡ v
  pub others : (j : ℕ) → j ≢ k → bucket_at g'.buckets j ≡ bucket_at g.buckets j

module _ {g : Atlas} (st : Steady g) (i k : ℕ) (li : i < g.head.shelf_count) (ck : In k (chain_of g i)) (v : Bucket) (f : Suits g i k v) (occupied : ℕ)
    (area : occupied + used_area (shelf_at g.shelves i) (bucket_at g.buckets k) ≡ g.head.occupied + used_area (shelf_at g.shelves i) v) where
  below : k < g.head.bucket_count
  below = member_below st i k li ck

  links : SameLinks g (changed g k v occupied)
  links = changed_links st k below v occupied f.next

  counted_changed : (j : ℕ) → j < g.head.shelf_count → (a : ℕ) → In a (chain_of g j)
      → Counted j (shelf_at g.shelves j) (bucket_at (put_bucket g.buckets k v) a)
  counted_changed j lj a ca = elim (ℕ_discrete a k) [
    | yes e ↦
        let cj : In k (chain_of g j) = subst (λ (z : ℕ). In z (chain_of g j)) e ca in
        let ji : i ≡ j = member_shelf st i j k li lj ck cj in
        let here : Counted i (shelf_at g.shelves i) (bucket_at (put_bucket g.buckets k v) k) = rw (changed_at st k below v) f.counted in
        subst (λ (z : ℕ). Counted j (shelf_at g.shelves j) (bucket_at (put_bucket g.buckets k v) z)) (sym e)
        (subst (λ (z : ℕ). Counted z (shelf_at g.shelves z) (bucket_at (put_bucket g.buckets k v) k)) ji here)
    | no ne ↦ rw (at_put_other g.buckets k v a ne) ((st.stocked j lj).counted a ca)
  ]

  stocked_changed : (j : ℕ) → j < g.head.shelf_count → Stocked (changed g k v occupied) j
  stocked_changed j lj = record {
    some = (st.stocked j lj).some;
    ordered = rw (chain_keeps links j)
        (ordered_frame g.buckets (put_bucket g.buckets k v) (shelf_at g.shelves j).width (shelf_at g.shelves j).x
        ((shelf_at g.shelves j).x + g.head.column_width) (chain_of g j) (λ a c. changed_field st k below v (λ (u : Bucket). u.x) f.x a)
        (st.stocked j lj).ordered);
    counted = λ a ca. counted_changed j lj a (rw (chain_keeps links j) at ca);
    wide = (st.stocked j lj).wide;
  }

  occupied_changed : occupied ≡ sum_to g.head.shelf_count (used_on (changed g k v occupied))
  occupied_changed =
      let w : ℕ → ℕ → ℕ = λ j a. used_area (shelf_at g.shelves j) (bucket_at g.buckets a) in
      let w' : ℕ → ℕ → ℕ = λ j a. used_area (shelf_at g.shelves j) (bucket_at (put_bucket g.buckets k v) a) in
      let fig = figure_change (tied_of st.chained) w w' i k li below ck
      (λ j a ne. ap (used_area (shelf_at g.shelves j)) (at_put_other g.buckets k v a ne)) in
      let new : w' i k ≡ used_area (shelf_at g.shelves i) v = ap (used_area (shelf_at g.shelves i)) (changed_at st k below v) in
      let same = sum_ext g.head.shelf_count (used_on (changed g k v occupied)) (λ j. sum_of (w' j) (chain_of g j))
      (λ j a. ap (sum_of (w' j)) (chain_keeps links j)) in
      omega (arith, st.occupied)

  pub steady_changed : Steady (changed g k v occupied)
  steady_changed = record {
    lent = record { shelves = st.lent.shelves; buckets = rw (length_put g.buckets k v) st.lent.buckets };
    domain = domain_keeps st.domain _ _ _ _ _ _ st.domain.shelves st.domain.buckets;
    columns = record { fit = st.columns.fit; current = st.columns.current; empty = st.columns.empty; last = st.columns.last };
    stacked = λ j lj. record {
      x = (st.stacked j lj).x;
      top = (st.stacked j lj).top;
      starts = (st.stacked j lj).starts;
      first = (st.stacked j lj).first;
      follows = (st.stacked j lj).follows;
    };
    chained = chains_keep links st.chained;
    stocked = stocked_changed;
    released = λ a ca.
        let ca' : In a (released_of g) = rw (released_keeps links) at ca in
        elim (ℕ_discrete a k) [
          | yes e ↦ absurd (released_not a e ca')
          | no ne ↦ rw (at_put_other g.buckets k v a ne) (st.released a ca')
        ];
    occupied = occupied_changed;
    generations = λ a la. elim (ℕ_discrete a k) [
      | yes e ↦ rw (e, changed_at st k below v) f.generation
      | no ne ↦ rw (at_put_other g.buckets k v a ne) (st.generations a la)
    ];
  }
    where
      released_not : (a : ℕ) → a ≡ k → In a (released_of g) → ⊥
      released_not a e c =
          let z : count k (released_of g) ≡ 0 = home_not_released (tied_of st.chained) k i below li ck in
          omega (arith, ap (λ (y : ℕ). count y (released_of g)) e)

  pub changes : Changes g k v (changed g k v occupied)
  changes = record {
    steady = steady_changed;
    chains = chain_keeps links;
    released = released_keeps links;
    bucket = changed_at st k below v;
    others = at_put_other g.buckets k v;
  }
