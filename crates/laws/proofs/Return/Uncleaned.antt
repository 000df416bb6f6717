-- A bucket gives a reference back, and the area that then leaves the figure with it: the tables stay sound, but for "the last shelf has a
-- referenced bucket", which the cleanup restores.
use Prim.Native.Nat.{ℕ, ◌+◌, ◌-◌, ◌≤◌, ◌<◌}
use mathlib.Core.Bool.{Bool, true, false}
use mathlib.Core.Path.{◌≡◌, refl}
use mathlib.Core.Logic.{◌≢◌}
use native.Mathlib.Decide.{ℕ_discrete}
use native.Mathlib.Omega.{arith}
use borrow.Author.Tests.{eq-eqb, ne_eqb}
use Rattle.rules.specs.declared.Bucket.{Bucket}
use Rattle.rules.specs.declared.Shelf.{Shelf}
use Rattle.std.specs.Prelude.{if◌then◌else◌}
use Rattle.rules.specs.Ids.{next_generation}
use Rattle.rules.specs.Tables.{Atlas, bucket_at, shelf_at}
use Rattle.rules.specs.Chains.{In, chain_of}
use Rattle.rules.specs.Builds.{Build, renews}
use Rattle.rules.specs.Return.{used_area, emptied_items, emptied_generation, returned_bucket, freed_area, uncleaned}
use Rattle.rules.specs.Sound.{Counted, used_on, Steady}
use Rattle.laws.proofs.Chains.Count.{sum_term, sum_of_term}
use Rattle.laws.proofs.Sound.Lies.{Home, home_of}
use Rattle.laws.proofs.Issue.Change.{Suits, Changes, changes}

-- ---- a reference returned

-- the last one: the bucket is whole again
pub back_last : (build : Build) (s : Shelf) (v : Bucket) → v.refs ≡ 1 → returned_bucket build s v
    ≡ record {
      x = v.x;
      free = s.width;
      next = v.next;
      refs = 0;
      items = emptied_items build v;
      shelf = v.shelf;
      generation = emptied_generation build v;
    }
unfolding returned_bucket
back_last build s v e = simp e

-- another one
pub back_other : (build : Build) (s : Shelf) (v : Bucket) → v.refs ≢ 1 → returned_bucket build s v
    ≡ record { x = v.x; free = v.free; next = v.next; refs = v.refs - 1; items = v.items; shelf = v.shelf; generation = v.generation }
unfolding returned_bucket
back_other build s v ne = simp (ne_eqb v.refs 1 ne)

pub back_refs : (build : Build) (s : Shelf) (v : Bucket) → (returned_bucket build s v).refs ≡ v.refs - 1
unfolding returned_bucket
back_refs build s v = refl

-- the item count of an emptied bucket, in a build that renews it
pub back_items : (build : Build) → renews build ≡ true → (s : Shelf) (v : Bucket) → v.refs ≡ 1 → (returned_bucket build s v).items ≡ 0
unfolding returned_bucket
back_items build e s v one = simp (one, e)

-- a generation stays one
emptied_low : (r : Bool) (n : ℕ) → n < 256 → (if r then next_generation n else n) < 256
emptied_low true n l = omega arith
emptied_low false n l = l

back_generation : (build : Build) (s : Shelf) (v : Bucket) → v.generation < 256 → (returned_bucket build s v).generation < 256
back_generation build s v l = elim (ℕ_discrete v.refs 1) [
  | yes e ↦ rw (back_last build s v e) (emptied_low (renews build) v.generation l)
  | no ne ↦ rw (back_other build s v ne) l
]

pub freed_last : (s : Shelf) (v : Bucket) → v.refs ≡ 1 → freed_area s v ≡ used_area s v
unfolding freed_area
freed_last s v e = simp (eq-eqb v.refs 1 e)

pub freed_other : (s : Shelf) (v : Bucket) → v.refs ≢ 1 → freed_area s v ≡ 0
unfolding freed_area
freed_other s v ne = simp (ne_eqb v.refs 1 ne)

back_counted : (build : Build) (i : ℕ) (s : Shelf) (v : Bucket) → Counted i s v → 0 < v.refs → Counted i s (returned_bucket build s v)
back_counted build i s v c l = elim (ℕ_discrete v.refs 1) [
  | yes e ↦ rw (back_last build s v e) (record {
    shelf = c.shelf;
    free = omega arith;
    whole = λ z. refl;
    unused = λ z. refl;
    items = omega arith;
    flat = λ z. refl;
  })
  | no ne ↦ rw (back_other build s v ne) (record {
    shelf = c.shelf;
    free = c.free;
    whole = λ z. absurd (omega arith);
    unused = λ z. absurd (omega (arith, c.unused z));
    items = omega (arith, c.items);
    flat = λ z. omega (arith, c.flat z);
  })
]

-- what leaves the figure is what the bucket weighed more
back_area : (build : Build) (i : ℕ) (s : Shelf) (v : Bucket) (occupied : ℕ) → Counted i s v → 0 < v.refs → used_area s v ≤ occupied
    → occupied - freed_area s v + used_area s v ≡ occupied + used_area s (returned_bucket build s v)
back_area build i s v occupied c l a = elim (ℕ_discrete v.refs 1) [
  | yes e ↦
      let z : s.width - s.width ≡ 0 = omega arith in
      rw (back_last build s v e, freed_last s v e, z) (omega arith)
  | no ne ↦ rw (back_other build s v ne, freed_other s v ne) (omega arith)
]

back_fits : (build : Build) (g : Atlas) (i k : ℕ) (s : Shelf) → (bucket_at g.buckets k).generation < 256
    → Counted i (shelf_at g.shelves i) (returned_bucket build s (bucket_at g.buckets k)) → Suits g i k (returned_bucket build s (bucket_at g.buckets k))
unfolding returned_bucket
back_fits build g i k s l c =
    record { x = refl; next = refl; generation = back_generation build s (bucket_at g.buckets k) l; counted = c }

-- a bucket weighs at most the figure
pub used_occupied : {g : Atlas} → Steady g → (i k : ℕ) → i < g.head.shelf_count → In k (chain_of g i)
    → used_area (shelf_at g.shelves i) (bucket_at g.buckets k) ≤ g.head.occupied
used_occupied {g} st i k l c = omega (
  arith,
  st.occupied,
  sum_term g.head.shelf_count i (used_on g) l,
  sum_of_term (λ a. used_area (shelf_at g.shelves i) (bucket_at g.buckets a)) (chain_of g i) k c,
)

abbrev pub shelf_of : ℕ → Atlas → Shelf
shelf_of k g = shelf_at g.shelves (bucket_at g.buckets k).shelf

pub uncleaned_changes : (build : Build) {g : Atlas} → Steady g → (k : ℕ) → k < g.head.bucket_count → 0 < (bucket_at g.buckets k).refs
    → Changes g k (returned_bucket build (shelf_of k g) (bucket_at g.buckets k)) (uncleaned build k g)
unfolding uncleaned
uncleaned_changes build {g} st k lk r =
    let v : Bucket = bucket_at g.buckets k in
    let s : Shelf = shelf_of k g in
    let h : Home g k = home_of st k lk (λ z. omega arith) in
    changes st v.shelf k h.there h.member (returned_bucket build s v)
    (back_fits build g v.shelf k s (st.generations k lk) (back_counted build v.shelf s v h.counted r))
    (g.head.occupied - freed_area s v)
    (back_area build v.shelf s v g.head.occupied h.counted r (used_occupied st v.shelf k h.there h.member))

pub steady_uncleaned : (build : Build) {g : Atlas} → Steady g → (k : ℕ) → k < g.head.bucket_count → 0 < (bucket_at g.buckets k).refs
    → Steady (uncleaned build k g)
steady_uncleaned build st k lk r = (uncleaned_changes build st k lk r).steady
