-- Growing keeps the tables sound, and every record of an old bucket in a shelf's chain, every shelf's place and size as they were.
-- With one column the shelves get buckets on the width that is added; with more there is room for further columns.
use Prim.Native.Nat.{ℕ, ◌+◌, ◌-◌, ◌*◌, ◌/◌, ◌≤◌, ◌<◌}
use mathlib.Core.Path.{◌≡◌, refl, sym, ap, ◌∙◌}
use mathlib.Core.Logic.{◌≢◌}
use native.Mathlib.Decide.{ℕ_discrete}
use native.Mathlib.Nat.{div-mul-le_self, le-div_iff_mul-le, zero-mul, one-mul, div-le_self}
use native.Mathlib.Omega.{arith}
use borrow.Author.Tests.{eq-eqb, ne_eqb}
use Rattle.rules.specs.declared.Head.{Head}
use Rattle.rules.specs.Limits.{side_most, option_most}
use Rattle.rules.specs.Tables.{Atlas, atlas, bucket_at, shelf_at, with_sides}
use Rattle.rules.specs.Chains.{In, chain_of}
use Rattle.rules.specs.Builds.{Build}
use Rattle.rules.specs.Grow.{grown, grown_head, widened_to}
use Rattle.rules.specs.Sound.{Stocked, Steady, SoundBy, column_of}
use Rattle.laws.proofs.Tables.Beyond.{beyond_tables}
use Rattle.laws.proofs.Sound.Order.{Along, along_right}
use Rattle.laws.proofs.Sound.Lies.{column_below}
use Rattle.laws.proofs.Sound.Rested.{rested_grown}
use Rattle.laws.proofs.NewShelf.Buckets.{alike_same, stacked_keep}
use Rattle.laws.proofs.Grow.Widened.{Keeps, Wider, wider_none, widened_to_keeps}

-- ---- the header first: sides, room, and the columns with their width

abbrev pub resized : ℕ → ℕ → ℕ → ℕ → Atlas → Atlas
resized width height columns column_width g =
    atlas (with_sides g.head width height (g.head.room + (height - g.head.height)) columns column_width) g.shelves g.buckets

module _ (g : Atlas) (p : Steady g) (width height columns column_width : ℕ)
    (wl : g.head.width ≤ width) (wm : width ≤ side_most) (hl : g.head.height ≤ height) (hm : height ≤ side_most)
    (cl : 1 ≤ columns) (cm : columns ≤ option_most) (fit : columns * column_width ≤ width)
    (current : g.head.column < columns) (wider : g.head.column_width ≤ column_width)
    (same : (i : ℕ) → i < g.head.shelf_count → column_of g.shelves i * g.head.column_width ≡ column_of g.shelves i * column_width)
    (one : columns ≡ 1 → g.head.columns ≡ 1) where
  resized_steady : Steady (resized width height columns column_width g)
  resized_steady = record {
    lent = p.lent;
    domain = record {
      width = (omega (arith, p.domain.width), wm);
      height = (omega (arith, p.domain.height), hm);
      align_width = p.domain.align_width;
      align_height = p.domain.align_height;
      columns = (cl, cm);
      column_width = omega (arith, p.domain.column_width);
      shelves = p.domain.shelves;
      buckets = p.domain.buckets;
    };
    columns = record {
      fit = fit;
      current = current;
      empty = λ e. ((p.columns.empty e).0, omega (arith, (p.columns.empty e).1));
      last = λ i e. ((p.columns.last i e).0, omega (arith, (p.columns.last i e).1));
    };
    stacked = λ i l. stacked_keep g (resized width height columns column_width g) i (λ j lj. alike_same refl) (same i l) hl (p.stacked i l);
    chained = record { shelf = p.chained.shelf; released = p.chained.released; once = p.chained.once };
    stocked = λ i l.
        let q : Stocked g i = p.stocked i l in
        let x : ℕ = (shelf_at g.shelves i).x in
        record {
          some = q.some;
          ordered = along_right g i (x + g.head.column_width) (x + column_width) (omega arith) q.ordered;
          counted = q.counted;
          wide = λ e. q.wide (one e);
        };
    released = p.released;
    occupied = p.occupied;
    generations = p.generations;
  }

-- ---- grow

-- n is g grown to that size: every shelf where it was and as large, every bucket that was in a shelf's chain as it was
pub record Grown (w h : ℕ) (g n : Atlas) : Type 0 where
  pub steady : Steady n
  pub width : n.head.width ≡ w
  pub height : n.head.height ≡ h
  pub align_width : n.head.align_width ≡ g.head.align_width
  pub align_height : n.head.align_height ≡ g.head.align_height
  pub occupied : n.head.occupied ≡ g.head.occupied
  pub shelves : n.head.shelf_count ≡ g.head.shelf_count
  pub keeps : Keeps g n

grown_of : (g n : Atlas) (width height columns column_width k : ℕ) → Wider (resized width height columns column_width g) n k → Grown width height g n
grown_of g n width height columns column_width k q = record {
  steady = q.steady;
  width = ap (λ (h : Head). h.width) q.head;
  height = ap (λ (h : Head). h.height) q.head;
  align_width = ap (λ (h : Head). h.align_width) q.head;
  align_height = ap (λ (h : Head). h.align_height) q.head;
  occupied = ap (λ (h : Head). h.occupied) q.head;
  shelves = ap (λ (h : Head). h.shelf_count) q.head;
  keeps = record {
    alike = q.keeps.alike;
    member = q.keeps.member;
    bucket = q.keeps.bucket;
    unreferenced = q.keeps.unreferenced;
    more = q.keeps.more;
    beyond = beyond_tables q.keeps.beyond;
  };
}

module _ (g : Atlas) (p : Steady g) (width height : ℕ)
    (wl : g.head.width ≤ width) (wm : width ≤ side_most) (hl : g.head.height ≤ height) (hm : height ≤ side_most) where
  -- with one column every shelf is in column 0
  one_column : g.head.columns ≡ 1 → (i : ℕ) → i < g.head.shelf_count → column_of g.shelves i ≡ 0
  one_column e i l = omega (arith, column_below p i l, p.columns.current)

  left_zero : g.head.columns ≡ 1 → (i : ℕ) → i < g.head.shelf_count → (shelf_at g.shelves i).x ≡ 0
  left_zero e i l = (p.stacked i l).x ∙ ap (λ (c : ℕ). c * g.head.column_width) (one_column e i l) ∙ zero-mul g.head.column_width

  narrower : g.head.columns ≡ 1 → g.head.column_width ≤ width
  narrower e = omega (arith, p.columns.fit, ap (λ (c : ℕ). c * g.head.column_width) e, one-mul g.head.column_width)

  -- the header is set first; then the loop, after k shelves
  pub grown_upto : g.head.columns ≡ 1 → (k : ℕ) → k ≤ g.head.shelf_count
      → Wider (resized width height 1 width g) (widened_to g.head.column_width (width - g.head.column_width) k (resized width height 1 width g)) k
  grown_upto e k lk =
      let narrow : g.head.column_width ≤ width = narrower e in
      let left : (i : ℕ) → i < g.head.shelf_count → (shelf_at g.shelves i).x ≡ 0 = left_zero e in
      let cw : ℕ = g.head.column_width in
      let q : Steady (resized width height 1 width g) =
      resized_steady g p width height 1 width wl wm hl hm (omega arith) (omega arith) (omega (arith, one-mul width)) (omega (arith, p.columns.current)) narrow
      (λ i l. rw (one_column e i l) (zero-mul cw ∙ sym (zero-mul width))) (λ a. e) in
      let below : (i : ℕ) → i < g.head.shelf_count → Along g i cw =
      λ i l. along_right g i ((shelf_at g.shelves i).x + cw) cw (omega (arith, left i l)) (p.stocked i l).ordered in
      widened_to_keeps (resized width height 1 width g) q cw (width - cw) left (omega arith) below k lk

  grown_one : g.head.columns ≡ 1 → Grown width height g (grown width height g)
  unfolding grown grown_head
  grown_one e =
      let m : ℕ = g.head.shelf_count in
      simp (eq-eqb g.head.columns 1 e) (grown_of g _ width height 1 width m (grown_upto e m (omega arith)))

  grown_more : g.head.columns ≢ 1 → Grown width height g (grown width height g)
  unfolding grown grown_head
  grown_more ne =
      let cw : ℕ = g.head.column_width in
      let c : ℕ = width / cw in
      let many : g.head.columns ≤ c = (le-div_iff_mul-le p.domain.column_width).1 (omega (arith, p.columns.fit)) in
      let q : Steady (resized width height c cw g) =
      resized_steady g p width height c cw wl wm hl hm (omega (arith, p.domain.columns)) (omega (arith, div-le_self width cw)) (div-mul-le_self width cw)
      (omega (arith, p.columns.current)) (omega arith) (λ i l. refl) (λ a. absurd (omega (arith, p.domain.columns))) in
      simp (ne_eqb g.head.columns 1 ne) (grown_of g _ width height c cw 0 (wider_none (resized width height c cw g) q))

  pub grown_keeps : Grown width height g (grown width height g)
  grown_keeps = elim (ℕ_discrete g.head.columns 1) [ yes e ↦ grown_one e | no ne ↦ grown_more ne ]

pub sound_grown : {build : Build} (g : Atlas) → SoundBy build g → (width height : ℕ) → g.head.width ≤ width → width ≤ side_most
    → g.head.height ≤ height → height ≤ side_most → SoundBy build (grown width height g)
sound_grown g p width height wl wm hl hm =
    let q : Grown width height g (grown width height g) = grown_keeps g p.steady width height wl wm hl hm in
    record {
      steady = q.steady;
      last_used = λ i e.
          let u : (k : ℕ) × In k (chain_of g i) × (0 < (bucket_at g.buckets k).refs) = p.last_used i (e ∙ q.shelves) in
          let li : i < g.head.shelf_count = omega (arith, q.shelves) in
          (u.0, q.keeps.member i u.0 li u.1, rw (q.keeps.bucket i u.0 li u.1) u.2);
      rested = λ e. rested_grown width height g (p.rested e);
    }
