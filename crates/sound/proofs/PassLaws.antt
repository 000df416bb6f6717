-- The pass over the shelves: one shelf more, the end, and what stands against sound tables where it stops.
use Prim.Native.Nat.{ℕ, zero, suc, ◌+◌, ◌-◌, ◌*◌, ◌≤◌, ◌<◌}
use mathlib.Core.Path.{◌≡◌, refl, sym, ap, ◌∙◌, subst}
use mathlib.Core.Logic.{◌≢◌}
use mathlib.Core.List.{List, [], ◌∷◌}
use native.Mathlib.Decide.{ℕ_discrete, dec_lt}
use native.Mathlib.Numerals.{add-one}
use native.Mathlib.Omega.{arith}
use native.Mathlib.Nat.{mul-le-mul}
use lib.ListN.{length, replicate, length-replicate, get_or-replicate}
use Rattle.rules.specs.declared.Shelf.{Shelf}
use Rattle.rules.specs.declared.Bucket.{Bucket}
use Rattle.rules.specs.Limits.{records_most}
use Rattle.rules.specs.Tables.{Atlas, bucket_at, shelf_at}
use Rattle.rules.specs.Chains.{next, first, chain_of, released_of, count, In, sum_to, sum_of, Linked}
use Rattle.rules.specs.Return.{top_of, used_area}
use Rattle.rules.specs.Sound.{column_of, Stacked, Counted, Stocked, used_on, Sound}
use Rattle.laws.proofs.Chains.Count.{hit_same, sum_ext, sum_le, sum_ones, sum_add, sum_some, sum_swap, sum_of_term}
use Rattle.laws.proofs.Chains.Links.{sum_counts, linked_below}
use Rattle.laws.proofs.Sound.Lies.{column_below, lengths}
use Rattle.asked.specs.declared.buckets.Tally.{Tally}
use Rattle.asked.specs.Buckets.{Serving}
use Rattle.standing.specs.declared.ending.Pass.{Pass}
use Rattle.standing.specs.Header.{Headed}
use Rattle.standing.specs.Rows.{Standing, row_next}
use Rattle.standing.specs.Ending.{Ends}
use Rattle.walks.specs.Walks.{ShelfYes, ShelfNo, FreeYes, FreeNo}
use Rattle.sound.specs.Rows.{RowAt}
use Rattle.sound.specs.Pass.{Given, Unmarked, Passed}
use Rattle.sound.proofs.RowLaws.{fits_stacked, stacked_fits, row_more}
use Rattle.walks.proofs.WalkLaws.{members_ordered, members_counted, members_serving, members_of}

-- ---- marks that are all 0

count_zeros : (n : ℕ) → count 0 (replicate n 0) ≡ n
count_zeros zero = refl
count_zeros (suc n) = omega (arith, count_zeros n, hit_same 0)

pub unmarked : (n size : ℕ) → n ≤ size → size ≤ records_most → Unmarked n (replicate size 0)
unmarked n size l h = record {
  long = omega (arith, length-replicate {A = ℕ} size 0);
  none = λ k q. get_or-replicate size k 0 0 (omega arith);
  room = omega (arith, count_zeros size);
}

-- ---- one shelf more

-- what is said of each shelf below t and of t is said of each below t + 1
upto : (P : ℕ → Type 0) (t : ℕ) → ((i : ℕ) → i < t → P i) → P t → (i : ℕ) → i < suc t → P i
upto P t f p i l = elim (ℕ_discrete i t) [ yes e ↦ subst P (sym e) p | no ne ↦ f i (omega arith) ]

sum_upto : (t u : ℕ) (f : ℕ → ℕ) → t ≤ u → sum_to t f ≤ sum_to u f
sum_upto t zero f l = let e : t ≡ 0 = omega arith in omega (arith, ap (λ (a : ℕ). sum_to a f) e)
sum_upto t (suc u) f l = elim (ℕ_discrete t (suc u)) [
  | yes e ↦ omega (arith, ap (λ (a : ℕ). sum_to a f) e)
  | no ne ↦ omega (arith, sum_upto t u f (omega arith))
]

sound_serving : {g : Atlas} → Sound g → (k : ℕ) → k < g.head.bucket_count → Serving (bucket_at g.buckets k)
sound_serving q k l = record { generation = q.steady.generations k l; rested = q.rested refl k l }

module _ {g : Atlas} {t : ℕ} {m : List ℕ} {a : Pass} (p : Passed g t m a) where
  pub passed_more : {m' : List ℕ} {y' : Tally} → Standing g.head a.row (shelf_at g.shelves t)
      → ShelfYes g.buckets g.head.bucket_count t (shelf_at g.shelves t) ((shelf_at g.shelves t).x + g.head.column_width) m m' a.tally y'
      → Passed g (t + 1) m' (record { row = row_next g.head a.row (shelf_at g.shelves t); before = a.tally.pixels; tally = y' })
  unfolding first
  passed_more {m'} {y'} f w =
      let s : Shelf = shelf_at g.shelves t in
      rw (add-one t) (record {
        stacked = upto (Stacked g) t p.stacked (fits_stacked p.row f.fits);
        links = upto (λ i. Linked (next g.buckets) g.head.bucket_count (first g.shelves i) (chain_of g i)) t p.links w.walked.links;
        stocked = upto (Stocked g) t p.stocked (record {
          some = f.some;
          ordered = members_ordered g.buckets t s (s.x + g.head.column_width) (chain_of g t) w.members;
          counted = members_counted g.buckets t s (s.x + g.head.column_width) (chain_of g t) w.members;
          wide = f.wide;
        });
        serving = upto (λ i. (k : ℕ) → In k (chain_of g i) → Serving (bucket_at g.buckets k)) t p.serving
            (members_serving g.buckets t s (s.x + g.head.column_width) (chain_of g t) w.members);
        counts = λ k l. omega (arith, p.counts k l, w.walked.counts k l);
        marked = w.walked.marked;
        seen = omega (arith, p.seen, w.walked.seen);
        pixels = omega (arith, p.pixels, w.pixels);
        before = λ i e. let q : t ≡ i = omega arith in p.pixels ∙ ap (λ (i : ℕ). sum_to i (used_on g)) q;
        row = row_more p.row f.fits;
      })

  -- ---- where it stops, the tables are not sound

  pub stops_shelf : t < g.head.shelf_count → (Standing g.head a.row (shelf_at g.shelves t) → ⊥) → Sound g → ⊥
  unfolding first
  stops_shelf l bad q = bad (record {
    some = (q.steady.stocked t l).some;
    wide = (q.steady.stocked t l).wide;
    fits = stacked_fits p.row (q.steady.stacked t l) (column_below q.steady t l);
  })

  pub stops_walk : t < g.head.shelf_count
      → ShelfNo g.buckets g.head.bucket_count t (shelf_at g.shelves t) ((shelf_at g.shelves t).x + g.head.column_width) m → Sound g → ⊥
  unfolding first
  stops_walk l w q =
      let s : Shelf = shelf_at g.shelves t in
      let links : Linked (next g.buckets) g.head.bucket_count (first g.shelves t) (chain_of g t) = q.steady.chained.shelf t l in
      let each : (k : ℕ) → In k (chain_of g t) → Serving (bucket_at g.buckets k) =
      λ k c. sound_serving q k (linked_below (next g.buckets) g.head.bucket_count (first g.shelves t) (chain_of g t) k links c) in
      let x = w.twice links
      (members_of g.buckets t s (s.x + g.head.column_width) (chain_of g t) (q.steady.stocked t l).ordered (q.steady.stocked t l).counted each) in
      omega (
        arith,
        x.2,
        p.counts x.0 x.1,
        q.steady.chained.once x.0 x.1,
        sum_upto (suc t) g.head.shelf_count (λ i. count x.0 (chain_of g i)) l,
      )

-- ---- the end

-- n numbers of at most 1 that add up to n are all 1
pigeons : (n : ℕ) (c : ℕ → ℕ) → ((k : ℕ) → k < n → c k ≤ 1) → sum_to n c ≡ n → (k : ℕ) → k < n → c k ≡ 1
pigeons zero c low e k l = absurd (omega arith)
pigeons (suc n) c low e k l =
    let most = sum_le n c (λ i. 1) (λ i h. low i (omega arith)) in
    let ones = sum_ones n in
    elim (ℕ_discrete k n) [
      | yes q ↦ omega (arith, ap c q, low n (omega arith))
      | no ne ↦ pigeons n c (λ i h. low i (omega arith)) (omega (arith, low n (omega arith))) k (omega arith)
    ]

sum_of_some : (f : ℕ → ℕ) (xs : List ℕ) → 0 < sum_of f xs → (k : ℕ) × In k xs × (0 < f k)
sum_of_some f [] l = absurd (omega arith)
sum_of_some f (x ∷ xs) l = elim (dec_lt 0 (f x)) [
  | yes h ↦ (x, omega (arith, hit_same x), h)
  | no z ↦
      let r = sum_of_some f xs (omega arith) in
      (r.0, omega (arith, r.1), r.2)
]

-- a bucket is referenced exactly where some of its area is used
used_held : (i : ℕ) (s : Shelf) (v : Bucket) → Counted i s v → 0 < used_area s v → 0 < v.refs
used_held i s v c u = elim (ℕ_discrete v.refs 0) [
  | yes e ↦
      let w : s.width - v.free ≡ 0 = omega (arith, c.whole e) in
      absurd (omega (arith, u, ap (λ (a : ℕ). a * s.height) w))
  | no ne ↦ omega arith
]

held_used : (i : ℕ) (s : Shelf) (v : Bucket) → Counted i s v → 0 < v.refs → 0 < used_area s v
held_used i s v c l =
    let ne : v.free ≢ s.width = λ e. omega (arith, c.unused e) in
    let nz : s.height ≢ 0 = λ e. omega (arith, c.flat e) in
    let w : 1 ≤ s.width - v.free = omega (arith, c.free) in
    let h : 1 ≤ s.height = omega arith in
    omega (arith, mul-le-mul w h)

module _ {g : Atlas} (v : Given g) {m : List ℕ} {a : Pass} (p : Passed g g.head.shelf_count m a) where
  last_row : (i : ℕ) → suc i ≡ g.head.shelf_count → (a.row.opened ≡ column_of g.shelves i + 1) × (a.row.top ≡ top_of (shelf_at g.shelves i))
  last_row i e =
      let at : RowAt g (suc i) a.row = subst (λ (t : ℕ). RowAt g t a.row) (sym e) p.row in
      (at.opened, at.top)

  last_figure : (i : ℕ) → suc i ≡ g.head.shelf_count → a.tally.pixels ≡ a.before + used_on g i
  last_figure i e = omega (arith, p.pixels, p.before i e, ap (λ (t : ℕ). sum_to t (used_on g)) e)

  -- sound tables end so
  pub sound_ends : Sound g → Ends g.head a
  sound_ends s =
      let j : ℕ = g.head.shelf_count - 1 in
      let last : g.head.shelf_count ≢ 0 → suc j ≡ g.head.shelf_count = λ ne. omega arith in
      record {
        occupied = s.steady.occupied ∙ sym p.pixels;
        empty = s.steady.columns.empty;
        column = λ ne. omega (arith, (last_row j (last ne)).0, (s.steady.columns.last j (last ne)).0);
        room = λ ne. omega (arith, (last_row j (last ne)).1, (s.steady.columns.last j (last ne)).1);
        used = λ ne.
            let u = s.last_used j (last ne) in
            let c : Counted j (shelf_at g.shelves j) (bucket_at g.buckets u.0) = (s.steady.stocked j (omega arith)).counted u.0 u.1 in
            omega (
              arith,
              last_figure j (last ne),
              held_used j (shelf_at g.shelves j) (bucket_at g.buckets u.0) c u.2,
              sum_of_term (λ k. used_area (shelf_at g.shelves j) (bucket_at g.buckets k)) (chain_of g j) u.0 u.1,
            );
      }

  pub stops_released : FreeNo g.buckets g.head.bucket_count g.head.released m → Sound g → ⊥
  stops_released w s =
      let links = s.steady.chained.released in
      let x = w.twice links (λ k c.
      let l = linked_below (next g.buckets) g.head.bucket_count g.head.released (released_of g) k links c in
      let z = s.steady.released k c in
      record { refs = z; items = s.rested refl k l z; generation = s.steady.generations k l }) in
      omega (arith, x.2, p.counts x.0 x.1, s.steady.chained.once x.0 x.1)

  module _ {m' : List ℕ} {y' : Tally} (w : FreeYes g.buckets g.head.bucket_count g.head.released m m' a.tally y') where
    seen_all : y'.seen ≡ sum_to g.head.shelf_count (λ i. length (chain_of g i)) + length (released_of g)
    seen_all = omega (arith, w.walked.seen, p.seen)

    pub stops_seen : y'.seen ≢ g.head.bucket_count → Sound g → ⊥
    stops_seen ne s = ne (seen_all ∙ lengths s.steady)

    once_all : y'.seen ≡ g.head.bucket_count → (k : ℕ) → k < g.head.bucket_count
        → sum_to g.head.shelf_count (λ i. count k (chain_of g i)) + count k (released_of g) ≡ 1
    once_all e =
        let n : ℕ = g.head.bucket_count in
        let t : ℕ = g.head.shelf_count in
        pigeons n (λ k. sum_to t (λ i. count k (chain_of g i)) + count k (released_of g))
        (λ k l. omega (arith, p.counts k l, w.walked.counts k l, w.walked.marked.low k l))
        (omega (
          arith,
          e,
          seen_all,
          sum_add n (λ k. sum_to t (λ i. count k (chain_of g i))) (λ k. count k (released_of g)),
          sum_swap n t (λ i k. count k (chain_of g i)),
          sum_ext t (λ i. sum_to n (λ k. count k (chain_of g i))) (λ i. length (chain_of g i))
              (λ i l. sum_counts (next g.buckets) n (first g.shelves i) (chain_of g i) (p.links i l)),
          sum_counts (next g.buckets) n g.head.released (released_of g) w.walked.links,
        ))

    -- each is in a shelf's chain or released
    all_serving : y'.seen ≡ g.head.bucket_count → (k : ℕ) → k < g.head.bucket_count → Serving (bucket_at g.buckets k)
    all_serving e k l = elim (dec_lt 0 (count k (released_of g))) [
      | yes c ↦ record { generation = (w.freed k c).generation; rested = λ z. (w.freed k c).items }
      | no z ↦
          let h = sum_some g.head.shelf_count (λ i. count k (chain_of g i)) (omega (arith, once_all e k l)) in
          p.serving h.0 h.1 k h.2
    ]

    pub ends_sound : y'.seen ≡ g.head.bucket_count → Ends g.head a → Sound g
    ends_sound e d = record {
      steady = record {
        lent = v.lent;
        domain = v.headed.domain;
        columns = record {
          fit = v.headed.fit;
          current = v.headed.current;
          empty = d.empty;
          last = λ i l. (
            omega (arith, (last_row i l).0, d.column (omega arith)),
            omega (arith, (last_row i l).1, d.room (omega arith)),
          );
        };
        stacked = p.stacked;
        chained = record { shelf = p.links; released = w.walked.links; once = once_all e };
        stocked = p.stocked;
        released = λ k c. (w.freed k c).refs;
        occupied = d.occupied ∙ p.pixels;
        generations = λ k l. (all_serving e k l).generation;
      };
      last_used = λ i l.
          let u = sum_of_some (λ k. used_area (shelf_at g.shelves i) (bucket_at g.buckets k)) (chain_of g i)
          (omega (arith, d.used (omega arith), last_figure i l)) in
          (u.0, u.1, used_held i (shelf_at g.shelves i) (bucket_at g.buckets u.0) ((p.stocked i (omega arith)).counted u.0 u.1) u.2);
      rested = λ r k l. (all_serving e k l).rested;
    }

pub sound_headed : {g : Atlas} → Sound g → Headed g.head
sound_headed s = record { domain = s.steady.domain; fit = s.steady.columns.fit; current = s.steady.columns.current }
