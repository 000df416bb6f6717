-- Soundness speaks of the records below the counts alone: tables that agree with sound ones there, and are long enough, are sound. Buckets may
-- differ in item count and generation, as long as these are what they have to be. The chains are then the same, index by index.
use Prim.Native.Nat.{ℕ, ◌+◌, ◌≤◌, ◌<◌}
use mathlib.Core.Bool.{true}
use mathlib.Core.Path.{◌≡◌, refl, sym, ap, ◌∙◌, subst}
use mathlib.Core.List.{List}
use native.Mathlib.Omega.{arith}
use Rattle.rules.specs.declared.Bucket.{Bucket}
use Rattle.rules.specs.declared.Head.{Head}
use Rattle.rules.specs.declared.Shelf.{Shelf}
use Rattle.rules.specs.Tables.{Atlas, atlas, bucket_at, shelf_at}
use Rattle.rules.specs.Chains.{count, In, Linked, chain, chain_of, released_of, next, first}
use Rattle.rules.specs.Return.{used_area}
use Rattle.rules.specs.Builds.{Build, renews}
use Rattle.rules.specs.Sound.{Ordered, Stacked, Stocked, Columns, Chained, LastUsed, used_on, column_of, Lent, Steady, Rested, SoundBy, Sound, Counted}
use Rattle.laws.proofs.Chains.Count.{sum_ext, sum_of_same}
use Rattle.laws.proofs.Chains.Links.{linked_frame, linked_below, chain_of_law, chain_length}
use Rattle.laws.proofs.Sound.Lies.{column_alike, member_below, released_below}
use Rattle.laws.proofs.Sound.Order.{ordered_frame}

-- one header, and the records below its counts
pub record SameBelow (g g' : Atlas) : Type 0 where
  pub head : g'.head ≡ g.head
  pub shelf : (i : ℕ) → i < g.head.shelf_count → shelf_at g'.shelves i ≡ shelf_at g.shelves i
  pub bucket : (k : ℕ) → k < g.head.bucket_count → bucket_at g'.buckets k ≡ bucket_at g.buckets k

-- v' is v, but for an item count and a generation that are as they have to be if v's are
pub record SameBucket (v v' : Bucket) : Type 0 where
  pub x : v'.x ≡ v.x
  pub free : v'.free ≡ v.free
  pub next : v'.next ≡ v.next
  pub refs : v'.refs ≡ v.refs
  pub shelf : v'.shelf ≡ v.shelf
  pub items : v.refs ≤ v.items → v'.refs ≤ v'.items
  pub generation : v.generation < 256 → v'.generation < 256

pub same_equal : {v v' : Bucket} → v' ≡ v → SameBucket v v'
same_equal e = record {
  x = ap (λ (u : Bucket). u.x) e;
  free = ap (λ (u : Bucket). u.free) e;
  next = ap (λ (u : Bucket). u.next) e;
  refs = ap (λ (u : Bucket). u.refs) e;
  shelf = ap (λ (u : Bucket). u.shelf) e;
  items = rw e (λ l. l);
  generation = rw e (λ l. l);
}

same_counted : {i : ℕ} {s : Shelf} {v v' : Bucket} → SameBucket v v' → Counted i s v → Counted i s v'
same_counted p c = record {
  shelf = p.shelf ∙ c.shelf;
  free = rw p.free c.free;
  whole = rw (p.free, p.refs) c.whole;
  unused = rw (p.free, p.refs) c.unused;
  items = p.items c.items;
  flat = rw p.refs c.flat;
}

-- one header, the shelves below its count, and the buckets
pub record AlikeBelow (g g' : Atlas) : Type 0 where
  pub head : g'.head ≡ g.head
  pub shelf : (i : ℕ) → i < g.head.shelf_count → shelf_at g'.shelves i ≡ shelf_at g.shelves i
  pub bucket : (k : ℕ) → k < g.head.bucket_count → SameBucket (bucket_at g.buckets k) (bucket_at g'.buckets k)

pub alike_below : {g g' : Atlas} → SameBelow g g' → AlikeBelow g g'
alike_below d = record { head = d.head; shelf = d.shelf; bucket = λ k l. same_equal (d.bucket k l) }

-- ---- over one header

module _ (h : Head) (s b s' b' : List ℕ) (shelf : (i : ℕ) → i < h.shelf_count → shelf_at s' i ≡ shelf_at s i)
    (bucket : (k : ℕ) → k < h.bucket_count → SameBucket (bucket_at b k) (bucket_at b' k)) (p : Steady (atlas h s b)) where
  same_linked : (i : ℕ) (xs : List ℕ) → Linked (next b) h.bucket_count i xs → Linked (next b') h.bucket_count i xs
  unfolding next
  same_linked i xs q =
      linked_frame (next b) (next b') h.bucket_count h.bucket_count i xs (omega arith)
      (λ k c. (bucket k (linked_below (next b) h.bucket_count i xs k q c)).next) q

  same_chain : (i : ℕ) → Linked (next b) h.bucket_count i (chain b i) → chain b' i ≡ chain b i
  same_chain i q = chain_of_law b' h.bucket_count i (chain b i) (omega (arith, p.domain.buckets)) (same_linked i (chain b i) q) (chain_length b i)

  same_first : (i : ℕ) → i < h.shelf_count → first s' i ≡ first s i
  unfolding first
  same_first i l = ap (λ (v : Shelf). v.first) (shelf i l)

  same_chain_of : (i : ℕ) → i < h.shelf_count → chain_of (atlas h s' b') i ≡ chain_of (atlas h s b) i
  same_chain_of i l = rw (same_first i l) (same_chain (first s i) (p.chained.shelf i l))

  same_released : released_of (atlas h s' b') ≡ released_of (atlas h s b)
  same_released = same_chain h.released p.chained.released

  same_chained : Chained (atlas h s' b')
  same_chained = record {
    shelf = λ i l. rw (same_chain_of i l, same_first i l) (same_linked (first s i) (chain_of (atlas h s b) i) (p.chained.shelf i l));
    released = rw same_released (same_linked h.released (released_of (atlas h s b)) p.chained.released);
    once = λ k l. omega (
      arith,
      p.chained.once k l,
      ap (count k) same_released,
      sum_ext h.shelf_count (λ i. count k (chain_of (atlas h s' b') i)) (λ i. count k (chain_of (atlas h s b) i))
          (λ i a. ap (count k) (same_chain_of i a)),
    );
  }

  same_column : (i : ℕ) → i < h.shelf_count → column_of s' i ≡ column_of s i
  same_column i l = column_alike s s' i (λ j a. ap (λ (v : Shelf). v.y) (shelf j (omega arith)))

  same_columns : Columns (atlas h s' b')
  same_columns = record {
    fit = p.columns.fit;
    current = p.columns.current;
    empty = p.columns.empty;
    last = λ i e. rw (same_column i (omega arith), shelf i (omega arith)) (p.columns.last i e);
  }

  same_stacked : (i : ℕ) → i < h.shelf_count → Stacked (atlas h s' b') i
  same_stacked i l =
      let q : Stacked (atlas h s b) i = p.stacked i l in
      record {
        x = rw (shelf i l, same_column i l) q.x;
        top = rw (shelf i l) q.top;
        starts = rw (shelf i l) q.starts;
        first = rw (shelf i l) q.first;
        follows = λ j e. rw (shelf i l, shelf j (omega arith)) (q.follows j e);
      }

  -- a member of a shelf's chain, where it was and as it was
  member : (i k : ℕ) → i < h.shelf_count → In k (chain_of (atlas h s b) i) → SameBucket (bucket_at b k) (bucket_at b' k)
  member i k l c = bucket k (member_below p i k l c)

  same_stocked : (i : ℕ) → i < h.shelf_count → Stocked (atlas h s' b') i
  same_stocked i l =
      let q : Stocked (atlas h s b) i = p.stocked i l in
      let v : Shelf = shelf_at s i in
      let o : Ordered b' v.width v.x (v.x + h.column_width) (chain_of (atlas h s b) i) =
      ordered_frame b b' v.width v.x (v.x + h.column_width) (chain_of (atlas h s b) i)
      (λ k c. (member i k l c).x) q.ordered in
      record {
        some = rw (same_first i l) q.some;
        ordered = rw (same_chain_of i l, shelf i l) o;
        counted = λ k c.
            let c₀ : In k (chain_of (atlas h s b) i) = rw (same_chain_of i l) at c in
            rw (shelf i l) (same_counted (member i k l c₀) (q.counted k c₀));
        wide = rw (shelf i l) q.wide;
      }

  same_used : (i : ℕ) → i < h.shelf_count → used_on (atlas h s' b') i ≡ used_on (atlas h s b) i
  same_used i l =
      rw (same_chain_of i l)
      (sum_of_same (λ k. used_area (shelf_at s i) (bucket_at b k)) (λ k. used_area (shelf_at s' i) (bucket_at b' k)) (chain_of (atlas h s b) i)
      (λ k c. rw (shelf i l, (member i k l c).free)))

  same_steady : Lent s' b' → Steady (atlas h s' b')
  same_steady lent = record {
    lent = lent;
    domain = p.domain;
    columns = same_columns;
    stacked = same_stacked;
    chained = same_chained;
    stocked = same_stocked;
    released = λ k c.
        let c₀ : In k (released_of (atlas h s b)) = rw same_released at c in
        (bucket k (released_below p k c₀)).refs ∙ p.released k c₀;
    occupied = p.occupied ∙ sym (sum_ext h.shelf_count (used_on (atlas h s' b')) (used_on (atlas h s b)) same_used);
    generations = λ k l. (bucket k l).generation (p.generations k l);
  }

  same_last : LastUsed (atlas h s b) → LastUsed (atlas h s' b')
  same_last u i e =
      let r = u i e in
      (r.0, rw (same_chain_of i (omega arith)) r.1, rw (member i r.0 (omega arith) r.1).refs r.2)

-- ---- the atlas

-- T-08: what the present build takes for sound, every build did
pub sound_earlier : {build : Build} {g : Atlas} → Sound g → SoundBy build g
sound_earlier p = record { steady = p.steady; last_used = p.last_used; rested = λ e. p.rested refl }

-- what a build asks besides is shown apart
pub sound_alike : {build earlier : Build} {g g' : Atlas} → AlikeBelow g g' → Lent g'.shelves g'.buckets → SoundBy earlier g
    → (renews build ≡ true → Rested g') → SoundBy build g'
sound_alike {build} {earlier} {g} {g'} d lent p rested =
    let h : Head = g.head in
    let s : List ℕ = g.shelves in
    let b : List ℕ = g.buckets in
    record {
      steady = subst (λ (h : Head). Steady (atlas h g'.shelves g'.buckets)) (sym d.head)
          (same_steady h s b g'.shelves g'.buckets d.shelf d.bucket p.steady lent);
      last_used = subst (λ (h : Head). LastUsed (atlas h g'.shelves g'.buckets)) (sym d.head)
          (same_last h s b g'.shelves g'.buckets d.shelf d.bucket p.steady p.last_used);
      rested = rested;
    }

pub sound_below : {build : Build} {g g' : Atlas} → SameBelow g g' → Lent g'.shelves g'.buckets → SoundBy build g → SoundBy build g'
sound_below {build} {g} {g'} d lent p =
    sound_alike (alike_below d) lent p (λ e k l z.
    let l₀ : k < g.head.bucket_count = rw d.head at l in
    rw (d.bucket k l₀) (p.rested e k l₀ (rw (d.bucket k l₀) at z)))
