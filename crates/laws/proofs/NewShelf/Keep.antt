-- A new shelf keeps the tables sound, but for "the last shelf has a referenced bucket", which the issue on it restores; and what the issue
-- needs of that shelf.
use Prim.Native.Nat.{ℕ, suc, ◌+◌, ◌-◌, ◌%◌, ◌≤◌, ◌<◌}
use mathlib.Core.Bool.{true, false}
use mathlib.Core.Path.{◌≡◌, refl, sym, ap, ◌∙◌, subst}
use mathlib.Core.Logic.{◌≢◌, ◌⊎◌, inl, inr, ⊎_elim}
use native.Mathlib.Decide.{dec_le, ℕ_discrete}
use native.Mathlib.Omega.{arith}
use borrow.Author.Tests.{eq-eqb, ne_eqb, lt-ltb, le-ltb, eqb-false}
use lib.Dec.{eqb}
use lib.ListN.{length}
use Rattle.rules.specs.declared.Bucket.{Bucket}
use Rattle.rules.specs.declared.Head.{Head}
use Rattle.rules.specs.Limits.{records_most}
use Rattle.rules.specs.Rounding.{shelf_height}
use Rattle.rules.specs.Tables.{Atlas, bucket_at, shelf_at, with_room}
use Rattle.rules.specs.Chains.{In, chain_of, first}
use Rattle.rules.specs.Builds.{Build}
use Rattle.rules.specs.BucketCount.{bucket_count}
use Rattle.rules.specs.NewShelf.{bucket_width, another_column, new_shelf, filler_ends, short, opened, tall, laid_shelf, count_for, plain_shelf, filled}
use Rattle.rules.specs.Search.{can_add, CanAdd}
use Rattle.rules.specs.Sound.{Steady}
use Rattle.laws.proofs.Tables.Beyond.{beyond_none, beyond_tables, beyond_then}
use Rattle.laws.proofs.Numbers.Rounding.{shelf_height_not_below}
use Rattle.laws.proofs.Numbers.BucketCount.{bucket_count_room, bucket_count_some, bucket_wide_enough}
use Rattle.laws.proofs.Sound.Header.{with_tables}
use Rattle.laws.proofs.Sound.Lies.{first_below, first_in}
use Rattle.laws.proofs.Calls.Found.{can_add_yes}
use Rattle.laws.proofs.NewShelf.Laying.{Unused}
use Rattle.laws.proofs.NewShelf.Plain.{in_column, Opened, opened_now, opened_next, Untouched, LaidShelf, plain_laid}

-- ---- the step that lays a shelf, a filler or the one asked for

-- the header's numbers that no shelf changes
pub record SameSides (h h' : Head) : Type 0 where
  pub width : h'.width ≡ h.width
  pub height : h'.height ≡ h.height
  pub align_width : h'.align_width ≡ h.align_width
  pub align_height : h'.align_height ≡ h.align_height
  pub columns : h'.columns ≡ h.columns
  pub column_width : h'.column_width ≡ h.column_width
  pub occupied : h'.occupied ≡ h.occupied

sides_tables : (h : Head) (column room shelves buckets released : ℕ) → SameSides h (with_tables h column room shelves buckets released)
sides_tables h column room shelves buckets released = record {
  width = refl;
  height = refl;
  align_width = refl;
  align_height = refl;
  columns = refl;
  column_width = refl;
  occupied = refl;
}

pub sides_then : {a b c : Head} → SameSides a b → SameSides b c → SameSides a c
sides_then p q = record {
  width = q.width ∙ p.width;
  height = q.height ∙ p.height;
  align_width = q.align_width ∙ p.align_width;
  align_height = q.align_height ∙ p.align_height;
  columns = q.columns ∙ p.columns;
  column_width = q.column_width ∙ p.column_width;
  occupied = q.occupied ∙ p.occupied;
}

-- shelf i of n has module 2's count of buckets, for a request w wide, its final height and so many buckets in the table
abbrev pub Many : Build → ℕ → ℕ → Head → Atlas → ℕ → Type 0
Many build w buckets h n i = length (chain_of n i) ≡ bucket_count build h.column_width w (shelf_at n.shelves i).height buckets

-- n is g with one shelf more for a request w by height, in the column c that has the room r
pub record OneMore (build : Build) (c r w height : ℕ) (g n : Atlas) : Type 0 where
  pub steady : Steady n
  pub sides : SameSides g.head n.head
  pub count : n.head.shelf_count ≡ suc g.head.shelf_count
  pub column : n.head.column ≡ c
  pub room : n.head.room + (shelf_at n.shelves g.head.shelf_count).height ≡ r
  pub stays : Untouched g n
  pub unused : (k : ℕ) → In k (chain_of n g.head.shelf_count)
      → Unused (shelf_at n.shelves g.head.shelf_count).width g.head.shelf_count (bucket_at n.buckets k)
  pub high : height ≤ (shelf_at n.shelves g.head.shelf_count).height
  pub wide : 1 ≤ w → w ≤ g.head.column_width → w % g.head.align_width ≡ 0 → w ≤ (shelf_at n.shelves g.head.shelf_count).width
  pub many : Many build w g.head.bucket_count g.head n g.head.shelf_count

tall_enough : (height : ℕ) (h : Head) → height ≤ h.room → (height ≤ tall height h) × (tall height h ≤ h.room)
unfolding tall
tall_enough height h l = let s : height ≤ shelf_height height = shelf_height_not_below height in (omega arith, omega arith)

step_in : (build : Build) (g : Atlas) (c r w height : ℕ) → Opened (in_column c r g) → g.head.bucket_count < records_most → 1 ≤ height → height ≤ r
    → (g.head.columns ≡ 1 → (1 ≤ w) × (w ≤ g.head.column_width) × (w % g.head.align_width ≡ 0))
    → OneMore build c r w height g (laid_shelf (tall height (in_column c r g).head) (count_for build w height (in_column c r g).head) (in_column c r g))
step_in build g c r w height p few low fits wide =
    let o : Atlas = in_column c r g in
    let t : ℕ = tall height o.head in
    let k : ℕ = count_for build w height o.head in
    let n : Atlas = laid_shelf t k o in
    let ht : (height ≤ t) × (t ≤ r) = tall_enough height o.head fits in
    let some : 1 ≤ k = bucket_count_some build g.head.column_width w t g.head.bucket_count few in
    let room : k ≤ records_most - g.head.bucket_count = bucket_count_room build g.head.column_width w t g.head.bucket_count in
    let enough : 1 ≤ w → w ≤ g.head.column_width → w % g.head.align_width ≡ 0 → w ≤ bucket_width o.head k =
    λ a b e. bucket_wide_enough build o.head w t g.head.bucket_count p.before.domain.align_width.0 e a b some in
    let q : LaidShelf o n t (bucket_width o.head k) k = plain_laid o p t k (omega arith) (omega arith) some (omega arith)
    (λ z. omega (arith, wide z, enough (wide z).0 (wide z).1 (wide z).2)) in
    record {
      steady = q.steady;
      sides = subst (SameSides g.head) (sym q.head) (sides_tables g.head _ _ _ _ _);
      count = ap (λ (h : Head). h.shelf_count) q.head;
      column = ap (λ (h : Head). h.column) q.head;
      room = omega (arith, ap (λ (h : Head). h.room) q.head, q.high);
      stays = record {
        shelf = q.stays.shelf;
        chain = q.stays.chain;
        bucket = q.stays.bucket;
        more = q.stays.more;
        beyond = beyond_tables q.stays.beyond;
      };
      unused = λ j cj. rw q.wide (q.unused j cj);
      high = omega (arith, q.high);
      wide = λ a b e. omega (arith, q.wide, enough a b e);
      many = rw q.high q.many;
    }

pub opened_stays : (h : Head) → h.room ≢ 0 → opened h ≡ h
unfolding opened
opened_stays h ne = simp (ne_eqb h.room 0 ne)

pub opened_steps : (h : Head) → h.room ≡ 0 → h.column + 1 < h.columns → opened h ≡ with_room h (h.column + 1) h.height
unfolding opened another_column
opened_steps h e l = simp (eq-eqb h.room 0 e, lt-ltb (h.column + 1) h.columns l)

module _ (build : Build) (g : Atlas) (p : Steady g) (w height : ℕ) (few : g.head.bucket_count < records_most) (low : 1 ≤ height)
    (wide : g.head.columns ≡ 1 → (1 ≤ w) × (w ≤ g.head.column_width) × (w % g.head.align_width ≡ 0)) where
  -- where the column has room
  pub step_stays : height ≤ g.head.room → OneMore build g.head.column g.head.room w height g (plain_shelf build w height g)
  unfolding plain_shelf
  step_stays fits = rw (opened_stays g.head (omega arith)) (step_in build g g.head.column g.head.room w height (opened_now p) few low fits wide)

  -- where it has none, and the next is opened
  pub step_opens : g.head.room ≡ 0 → g.head.column + 1 < g.head.columns → height ≤ g.head.height
      → OneMore build (g.head.column + 1) g.head.height w height g (plain_shelf build w height g)
  unfolding plain_shelf
  step_opens e l fits =
      rw (opened_steps g.head e l) (step_in build g (g.head.column + 1) g.head.height w height (opened_next p e l) few low fits wide)

-- ---- the filler

short_true : (height : ℕ) (h : Head) → h.room ≢ 0 → h.room < height → h.column + 1 < h.columns → short height h ≡ true
unfolding short another_column
short_true height h ne l c = simp (ne_eqb h.room 0 ne, lt-ltb h.room height l, lt-ltb (h.column + 1) h.columns c)

short_zero : (height : ℕ) (h : Head) → h.room ≡ 0 → short height h ≡ false
unfolding short
short_zero height h e = simp (eq-eqb h.room 0 e)

short_room : (height : ℕ) (h : Head) → 1 ≤ height → height ≤ h.room → short height h ≡ false
unfolding short
short_room height h some l = simp (ne_eqb h.room 0 (omega arith), le-ltb h.room height l)

filled_no : (build : Build) (height : ℕ) (g : Atlas) → short height g.head ≡ false → filled build height g ≡ g
unfolding filled
filled_no build height g e = simp e

filled_yes : (build : Build) (height : ℕ) (g : Atlas) → short height g.head ≡ true → filled build height g ≡ plain_shelf build 0 g.head.room g
unfolding filled
filled_yes build height g e = simp e

ends_not : (build : Build) (height : ℕ) (g : Atlas) → short height g.head ≡ true → filler_ends build height g ≡ false
    → (plain_shelf build 0 g.head.room g).head.bucket_count ≢ records_most
unfolding filler_ends
ends_not build height g e z =
    let z₁ : eqb (filled build height g).head.bucket_count records_most ≡ false = simp e at z in
    eqb-false (plain_shelf build 0 g.head.room g).head.bucket_count records_most (rw (filled_yes build height g e) at z₁)

-- f is g with the filler that a height may need: the column then has room for it, or none at all and another column is left
pub record Filled (build : Build) (height : ℕ) (g f : Atlas) : Type 0 where
  pub steady : Steady f
  pub sides : SameSides g.head f.head
  pub goes : (height ≤ f.head.room) ⊎ ((f.head.room ≡ 0) × (f.head.column + 1 < f.head.columns))
  pub few : f.head.bucket_count < records_most
  pub behind : g.head.shelf_count ≤ f.head.shelf_count
  pub stays : Untouched g f
  pub unreferenced : (j k : ℕ) → g.head.shelf_count ≤ j → j < f.head.shelf_count → In k (chain_of f j) → (bucket_at f.buckets k).refs ≡ 0
  pub many : (j : ℕ) → g.head.shelf_count ≤ j → j < f.head.shelf_count → Many build 0 g.head.bucket_count g.head f j

untouched_none : (g : Atlas) → Untouched g g
untouched_none g = record { shelf = λ j l. refl; chain = λ j l. refl; bucket = λ j k l c. refl; more = omega arith; beyond = beyond_none g }

untouched_then : {g f n : Atlas} → Untouched g f → Untouched f n → g.head.shelf_count ≤ f.head.shelf_count
    → f.head.shelf_count ≤ n.head.shelf_count → Untouched g n
untouched_then p q behind last = record {
  shelf = λ j l. q.shelf j (omega arith) ∙ p.shelf j l;
  chain = λ j l. q.chain j (omega arith) ∙ p.chain j l;
  bucket = λ j k l c. q.bucket j k (omega arith) (rw (p.chain j l) c) ∙ p.bucket j k l c;
  more = omega (arith, p.more, q.more);
  beyond = beyond_then p.beyond q.beyond last q.more;
}

filled_none : (build : Build) (height : ℕ) (g : Atlas) → Steady g → g.head.bucket_count < records_most
    → (height ≤ g.head.room) ⊎ ((g.head.room ≡ 0) × (g.head.column + 1 < g.head.columns)) → Filled build height g g
filled_none build height g p few goes = record {
  steady = p;
  sides = sides_tables g.head _ _ _ _ _;
  goes = goes;
  few = few;
  behind = omega arith;
  stays = untouched_none g;
  unreferenced = λ j k a b c. absurd (omega arith);
  many = λ j a b. absurd (omega arith);
}

filled_one : (build : Build) (height : ℕ) (g f : Atlas) → OneMore build g.head.column g.head.room 0 g.head.room g f
    → g.head.column + 1 < g.head.columns → f.head.bucket_count < records_most → Filled build height g f
filled_one build height g f q another few = record {
  steady = q.steady;
  sides = q.sides;
  goes = inr (omega (arith, q.room, q.high), omega (arith, q.column, q.sides.columns));
  few = few;
  behind = omega (arith, q.count);
  stays = q.stays;
  unreferenced = λ j k a b c.
      let z : j ≡ g.head.shelf_count = omega (arith, q.count) in
      (q.unused k (subst (λ (j : ℕ). In k (chain_of f j)) z c)).refs;
  many = λ j a b.
      let z : j ≡ g.head.shelf_count = omega (arith, q.count) in
      subst (Many build 0 g.head.bucket_count g.head f) (sym z) q.many;
}

pub filled_keeps : (build : Build) (g : Atlas) → Steady g → (height : ℕ) → 1 ≤ height → can_add height g.head ≡ true → filler_ends build height g ≡ false
    → Filled build height g (filled build height g)
filled_keeps build g p height low add ends =
    let can : CanAdd height g = can_add_yes height g add in
    elim (dec_le height g.head.room) [
      | yes l ↦ rw (filled_no build height g (short_room height g.head low l)) (filled_none build height g p can.buckets (inl l))
      | no n ↦
          let another : g.head.column + 1 < g.head.columns = ⊎_elim (λ a. absurd (n a)) (λ b. b) can.room in
          elim (ℕ_discrete g.head.room 0) [
            | yes e ↦ rw (filled_no build height g (short_zero height g.head e)) (filled_none build height g p can.buckets (inr (e, another)))
            | no ne ↦
                let f : Atlas = plain_shelf build 0 g.head.room g in
                let needed : short height g.head ≡ true = short_true height g.head ne (omega arith) another in
                let q : OneMore build g.head.column g.head.room 0 g.head.room g f =
                step_stays build g p 0 g.head.room can.buckets (omega arith) (λ z. absurd (omega arith)) (omega arith) in
                rw (filled_yes build height g needed)
                (filled_one build height g f q another (omega (arith, q.steady.domain.buckets, ends_not build height g needed ends)))
          ]
    ]

-- ---- a new shelf

-- n is g with a new last shelf i for a request w by height, and perhaps a filler before it: what the issue on shelf i needs, and what stays
pub record Added (w height : ℕ) (g n : Atlas) (i : ℕ) : Type 0 where
  pub steady : Steady n
  pub sides : SameSides g.head n.head
  pub last : n.head.shelf_count ≡ suc i
  pub behind : g.head.shelf_count ≤ i
  pub below : first n.shelves i < n.head.bucket_count
  pub member : In (first n.shelves i) (chain_of n i)
  pub unused : (k : ℕ) → In k (chain_of n i) → Unused (shelf_at n.shelves i).width i (bucket_at n.buckets k)
  pub high : height ≤ (shelf_at n.shelves i).height
  pub wide : w ≤ (shelf_at n.shelves i).width
  pub stays : Untouched g n
  pub unreferenced : (j k : ℕ) → g.head.shelf_count ≤ j → j < n.head.shelf_count → In k (chain_of n j) → (bucket_at n.buckets k).refs ≡ 0

-- the filler, if any, and then the shelf
added_of : (build : Build) (c r w height : ℕ) (g f n : Atlas) → Filled build height g f → OneMore build c r w height f n
    → 1 ≤ w → w ≤ f.head.column_width → w % f.head.align_width ≡ 0 → Added w height g n f.head.shelf_count
added_of build c r w height g f n p q some fits even =
    let m : ℕ = f.head.shelf_count in
    record {
      steady = q.steady;
      sides = sides_then p.sides q.sides;
      last = q.count;
      behind = p.behind;
      below = first_below q.steady m (omega (arith, q.count));
      member = first_in q.steady m (omega (arith, q.count));
      unused = q.unused;
      high = q.high;
      wide = q.wide some fits even;
      stays = untouched_then p.stays q.stays p.behind (omega (arith, q.count));
      unreferenced = λ j k a b c. elim (ℕ_discrete j m) [
        | yes z ↦ (q.unused k (subst (λ (j : ℕ). In k (chain_of n j)) z c)).refs
        | no ne ↦
            let lj : j < m = omega (arith, q.count) in
            let c₀ : In k (chain_of f j) = rw (q.stays.chain j lj) at c in
            ap (λ (v : Bucket). v.refs) (q.stays.bucket j k lj c₀) ∙ p.unreferenced j k a lj c₀
      ];
    }

module _ (build : Build) (g : Atlas) (p : Steady g) (w height : ℕ) (low : 1 ≤ height) (within : height ≤ g.head.height)
    (some : 1 ≤ w) (fits : w ≤ g.head.column_width) (even : w % g.head.align_width ≡ 0)
    (add : can_add height g.head ≡ true) (ends : filler_ends build height g ≡ false) where
  -- the request is as wide as it was, behind the filler too
  narrow : (w ≤ (filled build height g).head.column_width) × (w % (filled build height g).head.align_width ≡ 0)
  narrow = let s = (filled_keeps build g p height low add ends).sides in (rw s.column_width fits, rw s.align_width even)

  -- the shelf behind the filler, in the column c that has the room r
  pub laid_behind : (c : ℕ) × (r : ℕ) × OneMore build c r w height (filled build height g) (new_shelf build w height g)
  unfolding new_shelf
  laid_behind =
      let f : Atlas = filled build height g in
      let q : Filled build height g f = filled_keeps build g p height low add ends in
      ⊎_elim
      (λ l. (f.head.column, f.head.room, step_stays build f q.steady w height q.few low (λ z. (some, narrow.0, narrow.1)) l))
      (λ o. (
        f.head.column + 1,
        f.head.height,
        step_opens build f q.steady w height q.few low (λ z. (some, narrow.0, narrow.1)) o.0 o.1 (omega (arith, q.sides.height)),
      ))
      q.goes

  -- it is the last
  pub new_last : (new_shelf build w height g).head.shelf_count - 1 ≡ (filled build height g).head.shelf_count
  new_last = omega (arith, laid_behind.2.count)

  pub new_shelf_law : Added w height g (new_shelf build w height g) ((new_shelf build w height g).head.shelf_count - 1)
  new_shelf_law =
      rw new_last (added_of build _ _ w height g _ _ (filled_keeps build g p height low add ends) laid_behind.2 some narrow.0 narrow.1)
