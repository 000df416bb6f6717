-- A shelf of k buckets on the room of the current column, which may just have been opened: the tables stay sound, and what was in a shelf's
-- chain is as it was.
use Prim.Native.Nat.{ℕ, zero, suc, ◌+◌, ◌-◌, ◌*◌, ◌≤◌, ◌<◌}
use mathlib.Core.Path.{◌≡◌, refl, sym, ap, ◌∙◌, subst, ap₂}
use mathlib.Core.Logic.{◌≢◌, ◌⊎◌, inl, inr, ⊎_elim}
use mathlib.Core.List.{List, []}
use native.Mathlib.Decide.{ℕ_discrete}
use native.Mathlib.Numerals.{add-one}
use native.Mathlib.Omega.{arith}
use lib.ListN.{length, length-append}
use Rattle.rules.specs.declared.Head.{Head}
use Rattle.rules.specs.declared.Shelf.{Shelf}
use Rattle.rules.specs.Limits.{records_most, none}
use Rattle.rules.specs.Tables.{Atlas, atlas, bucket_at, shelf_at, put_shelf, with_store, with_room, with_shelves}
use Rattle.rules.specs.Chains.{count, In, chain_of}
use Rattle.rules.specs.Store.{Lay, laying, lay_many}
use Rattle.rules.specs.NewShelf.{bucket_width, column_left, shelf_for, pushed, laid_shelf}
use Rattle.rules.specs.Return.{top_of}
use Rattle.rules.specs.Sound.{Stocked, used_on, Steady, Chained, column_of, Stacked}
use Rattle.laws.proofs.Tables.Records.{length_put_s, at_s_put, at_s_put_other, first_put_s, first_put_s_other}
use Rattle.laws.proofs.Tables.Beyond.{Beyond}
use Rattle.laws.proofs.Chains.Count.{count_append, sum_ext}
use Rattle.laws.proofs.Numbers.BucketCount.{buckets_fit}
use Rattle.laws.proofs.Sound.Header.{with_tables, domain_keeps}
use Rattle.laws.proofs.Sound.Lies.{column_same, column_next, column_zero, column_alike, shelves_few}
use Rattle.laws.proofs.NewShelf.Laying.{Unused}
use Rattle.laws.proofs.NewShelf.Laid.{Laid, more_new, laid_new}
use Rattle.laws.proofs.NewShelf.Buckets.{Alike, alike_same, stacked_keep, released_laid, used_other, used_mine, stocked_other, stocked_mine}

-- ---- the column that a shelf goes to

-- the header takes up the column c with the room r
abbrev pub in_column : ℕ → ℕ → Atlas → Atlas
in_column c r g = atlas (with_room g.head c r) g.shelves g.buckets

-- sound tables whose current column may just have been opened: in the column that they had, with its room, they are sound
pub record Opened (g : Atlas) : Type 0 where
  pub column : ℕ
  pub room : ℕ
  pub before : Steady (in_column column room g)
  pub current : g.head.column < g.head.columns
  pub low : g.head.room ≤ g.head.height
  pub empty : g.head.shelf_count ≡ 0 → (g.head.column ≡ 0) × (g.head.room ≡ g.head.height)
  pub last : (i : ℕ) → suc i ≡ g.head.shelf_count
      → ((column_of g.shelves i ≡ g.head.column) × (g.head.room + top_of (shelf_at g.shelves i) ≡ g.head.height))
      ⊎ ((column_of g.shelves i + 1 ≡ g.head.column) × (g.head.room ≡ g.head.height))

pub room_low : {g : Atlas} → Steady g → g.head.room ≤ g.head.height
room_low {g} p = elim (ℕ_discrete g.head.shelf_count 0) [
  | yes e ↦ omega (arith, (p.columns.empty e).1)
  | no ne ↦ omega (arith, (p.columns.last (g.head.shelf_count - 1) (omega arith)).1)
]

pub opened_now : {g : Atlas} → Steady g → Opened g
opened_now {g} p = record {
  column = g.head.column;
  room = g.head.room;
  before = p;
  current = p.columns.current;
  low = room_low p;
  empty = p.columns.empty;
  last = λ i e. inl (p.columns.last i e);
}

pub opened_next : {g : Atlas} → Steady g → g.head.room ≡ 0 → g.head.column + 1 < g.head.columns
    → Opened (in_column (g.head.column + 1) g.head.height g)
opened_next {g} p e l = record {
  column = g.head.column;
  room = g.head.room;
  before = p;
  current = l;
  low = omega arith;
  empty = λ z. absurd (omega (arith, (p.columns.empty z).1, p.domain.height.0));
  last = λ i z. inr (ap (λ (n : ℕ). n + 1) (p.columns.last i z).0, refl);
}

-- no chain knows the column
opened_chained : {g : Atlas} → Opened g → Chained g
opened_chained p = let c = p.before.chained in record { shelf = c.shelf; released = c.released; once = c.once }

opened_stocked : {g : Atlas} → Opened g → (i : ℕ) → i < g.head.shelf_count → Stocked g i
opened_stocked p i l =
    let q = p.before.stocked i l in
    record { some = q.some; ordered = q.ordered; counted = q.counted; wide = q.wide }

-- ---- the record of the shelf

-- the header h with a shelf of that height on the room of its column, and the buckets of h'
abbrev pub risen_head : ℕ → Head → Head → Head
risen_head height h h' = with_tables h h.column (h.room - height) (suc h.shelf_count) h'.bucket_count h'.released

-- g with shelf m of that height on the room of the current column, its buckets having been laid
abbrev risen : ℕ → ℕ → Lay → Atlas → Atlas
risen height w l g =
    atlas
    (risen_head height g.head l.state.head)
    (put_shelf g.shelves g.head.shelf_count (shelf_for g.head height w l.first))
    l.state.buckets

pushed_is : (g : Atlas) (height w : ℕ) (l : Lay) → l.state.head ≡ with_store g.head l.state.head.bucket_count l.state.head.released
    → l.state.shelves ≡ g.shelves → pushed g.head height w l ≡ risen height w l g
unfolding pushed
pushed_is g height w l e es =
    rw add-one
    (ap₂ (λ (h : Head) (s : List ℕ). atlas (with_shelves (with_room h g.head.column (g.head.room - height)) (suc g.head.shelf_count))
    (put_shelf s g.head.shelf_count (shelf_for g.head height w l.first)) l.state.buckets) e es)

-- every shelf of g, its chain and the buckets in it are in n as they were
pub record Untouched (g n : Atlas) : Type 0 where
  pub shelf : (j : ℕ) → j < g.head.shelf_count → shelf_at n.shelves j ≡ shelf_at g.shelves j
  pub chain : (j : ℕ) → j < g.head.shelf_count → chain_of n j ≡ chain_of g j
  pub bucket : (j k : ℕ) → j < g.head.shelf_count → In k (chain_of g j) → bucket_at n.buckets k ≡ bucket_at g.buckets k
  pub more : g.head.bucket_count ≤ n.head.bucket_count
  pub beyond : Beyond g n

-- n is g with one shelf more, of that height and bucket width: what was in a shelf's chain is as it was, and the shelf's buckets are unused
pub record LaidShelf (g n : Atlas) (height w k : ℕ) : Type 0 where
  pub steady : Steady n
  pub head : n.head ≡ risen_head height g.head n.head
  pub stays : Untouched g n
  pub many : length (chain_of n g.head.shelf_count) ≡ k
  pub unused : (j : ℕ) → In j (chain_of n g.head.shelf_count) → Unused w g.head.shelf_count (bucket_at n.buckets j)
  pub high : (shelf_at n.shelves g.head.shelf_count).height ≡ height
  pub wide : (shelf_at n.shelves g.head.shelf_count).width ≡ w

module _ (g : Atlas) (p : Opened g) (height w k : ℕ) (l : Lay) (el : l ≡ lay_many k w g.head.shelf_count (laying g (column_left g.head) none))
    (low : 1 ≤ height) (fits : height ≤ g.head.room) (some : 1 ≤ k) (room : g.head.bucket_count + k ≤ records_most)
    (narrow : k * w ≤ g.head.column_width) (wide : g.head.columns ≡ 1 → 1 ≤ w) where
  shelf_room : 5 * g.head.shelf_count + 5 ≤ length g.shelves
  shelf_room = omega (arith, shelves_few p.before, p.before.lent.shelves)

  shelf_new : shelf_at (risen height w l g).shelves g.head.shelf_count ≡ shelf_for g.head height w l.first
  shelf_new = at_s_put g.shelves g.head.shelf_count (shelf_for g.head height w l.first) shelf_room

  shelf_old : (i : ℕ) → i ≢ g.head.shelf_count → shelf_at (risen height w l g).shelves i ≡ shelf_at g.shelves i
  shelf_old i ne = at_s_put_other g.shelves g.head.shelf_count (shelf_for g.head height w l.first) i ne

  risen_laid : Laid g (risen height w l g) g.head.shelf_count w [] (column_left g.head) k
  risen_laid =
      laid_new g (opened_chained p) p.before.lent.buckets p.before.generations w (column_left g.head) k room
      (risen height w l g).head (risen height w l g).shelves l el refl refl refl
      (first_put_s g.shelves g.head.shelf_count (shelf_for g.head height w l.first) shelf_room)
      (λ i li. first_put_s_other g.shelves g.head.shelf_count (shelf_for g.head height w l.first) i (omega arith))

  alike : (i : ℕ) → i < g.head.shelf_count → Alike (shelf_at (risen height w l g).shelves i) (shelf_at g.shelves i)
  alike i li = alike_same (shelf_old i (omega arith))

  top_some : (i : ℕ) → i < g.head.shelf_count → 1 ≤ top_of (shelf_at g.shelves i)
  top_some i li = elim (ℕ_discrete (shelf_at g.shelves i).y 0) [
    | yes e ↦ omega (arith, (p.before.stacked i li).starts e)
    | no ne ↦ omega arith
  ]

  -- y is 0 exactly where a column starts
  column_new : (m : ℕ) → m ≡ g.head.shelf_count → column_of (risen height w l g).shelves m ≡ g.head.column
  column_new zero e = column_zero (risen height w l g).shelves ∙ sym (p.empty (sym e)).0
  column_new (suc i) e =
      let s' : List ℕ = (risen height w l g).shelves in
      let y : (shelf_at s' (suc i)).y ≡ g.head.height - g.head.room = rw e (ap (λ (v : Shelf). v.y) shelf_new) in
      let before : column_of s' i ≡ column_of g.shelves i = column_alike g.shelves s' i (λ j lj. ap (λ (v : Shelf). v.y) (shelf_old j (omega arith))) in
      ⊎_elim
      (λ c. column_same s' i (omega (arith, c.1, top_some i (omega arith))) ∙ before ∙ c.0)
      (λ c. column_next s' i (omega (arith, c.1)) ∙ ap (λ (n : ℕ). n + 1) before ∙ c.0)
      (p.last i e)

  risen_stacked : (i : ℕ) → i < suc g.head.shelf_count → Stacked (risen height w l g) i
  risen_stacked i li = elim (ℕ_discrete i g.head.shelf_count) [
    | no ne ↦ stacked_keep _ (risen height w l g) i (λ j lj. alike j (omega arith)) refl (omega arith) (p.before.stacked i (omega arith))
    | yes e ↦ subst (λ (i : ℕ). Stacked (risen height w l g) i) (sym e) (record {
      x = rw (shelf_new, column_new g.head.shelf_count refl) refl;
      top = rw shelf_new (omega (arith, p.low));
      starts = rw shelf_new (λ z. low);
      first = λ z. rw shelf_new (omega (arith, (p.empty z).1));
      follows = λ j z. rw (shelf_new, shelf_old j (omega arith))
          (⊎_elim (λ c. inr (omega (arith, c.1))) (λ c. inl (omega (arith, c.1))) (p.last j (sym z)));
    })
  ]

  risen_stocked : (i : ℕ) → i < suc g.head.shelf_count → Stocked (risen height w l g) i
  risen_stocked i li = elim (ℕ_discrete i g.head.shelf_count) [
    | no ne ↦
        let first = first_put_s_other g.shelves g.head.shelf_count (shelf_for g.head height w l.first) i ne in
        stocked_other risen_laid alike i (omega arith) ne first (omega arith) (λ z. z) (opened_stocked p i (omega arith))
    | yes e ↦ subst (λ (i : ℕ). Stocked (risen height w l g) i) (sym e)
        (let x : (shelf_at (risen height w l g).shelves g.head.shelf_count).x ≡ column_left g.head = ap (λ (v : Shelf). v.x) shelf_new in
        stocked_mine risen_laid alike
        (omega (arith, ap length risen_laid.mine, length-append risen_laid.new [], risen_laid.long))
        (ap (λ (v : Shelf). v.width) shelf_new) (omega arith) (omega arith) tt (λ j c. absurd (omega arith)) wide)
  ]

  risen_steady : Steady (risen height w l g)
  risen_steady =
      let m : ℕ = g.head.shelf_count in
      let d : Laid g (risen height w l g) m w [] (column_left g.head) k = risen_laid in
      record {
        lent = record {
          shelves = omega (arith, p.before.lent.shelves, length_put_s g.shelves m (shelf_for g.head height w l.first));
          buckets = omega (arith, p.before.lent.buckets, d.table);
        };
        domain = domain_keeps p.before.domain _ _ _ _ _ _ (omega (arith, shelves_few p.before)) (omega (arith, d.greatest));
        columns = record {
          fit = p.before.columns.fit;
          current = p.current;
          empty = λ z. absurd (omega arith);
          last = λ i z.
              let e : i ≡ m = omega arith in
              rw e (column_new m refl, rw shelf_new (omega (arith, p.low)));
        };
        stacked = risen_stacked;
        chained = d.chained;
        stocked = risen_stocked;
        released = released_laid d alike p.before.released;
        occupied = omega (
          arith,
          p.before.occupied,
          sum_ext m (used_on (risen height w l g)) (used_on g) (λ i li. used_other d alike i li (omega arith)),
          used_mine d alike (ap (λ (v : Shelf). v.width) shelf_new),
        );
        generations = d.generations;
      }

  risen_plain : LaidShelf g (risen height w l g) height w k
  risen_plain =
      let m : ℕ = g.head.shelf_count in
      let d : Laid g (risen height w l g) m w [] (column_left g.head) k = risen_laid in
      record {
        steady = risen_steady;
        head = refl;
        stays = record {
          shelf = λ j lj. shelf_old j (omega arith);
          chain = λ j lj. d.others j lj (omega arith);
          bucket = λ i j li c. d.kept i j li c;
          more = d.fewest;
          beyond = record {
            shelves = λ j lj. shelf_old j (omega arith);
            buckets = d.past;
            shelf_table = length_put_s g.shelves m (shelf_for g.head height w l.first);
            bucket_table = d.table;
          };
        };
        many = omega (arith, ap length d.mine, length-append d.new [], d.long);
        unused = λ j c. d.unused j (omega (arith, ap (count j) d.mine, count_append j d.new []));
        high = ap (λ (v : Shelf). v.height) shelf_new;
        wide = ap (λ (v : Shelf). v.width) shelf_new;
      }

-- a shelf of k buckets on the room of the current column
pub plain_laid : (g : Atlas) → Opened g → (height k : ℕ) → 1 ≤ height → height ≤ g.head.room → 1 ≤ k → g.head.bucket_count + k ≤ records_most
    → (g.head.columns ≡ 1 → 1 ≤ bucket_width g.head k) → LaidShelf g (laid_shelf height k g) height (bucket_width g.head k) k
unfolding laid_shelf
plain_laid g p height k low fits some room wide =
    let w : ℕ = bucket_width g.head k in
    let l : Lay = lay_many k w g.head.shelf_count (laying g (column_left g.head) none) in
    let q = more_new g (opened_chained p) p.before.lent.buckets p.before.generations w (column_left g.head) k room in
    rw (pushed_is g height w l q.store q.shelves)
    (risen_plain g p height w k l refl low fits some room (buckets_fit g.head k) wide)
