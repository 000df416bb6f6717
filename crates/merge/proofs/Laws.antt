-- The sums of a run fit, and where the `requires` come from.
use Rattle.std.specs.Prelude.{Some}
use Prim.Native.Nat.{ℕ, suc, ◌+◌, ◌*◌, ◌≤◌, ◌<◌}
use mathlib.Core.Path.{◌≡◌, refl, sym, ◌∙◌}
use mathlib.Core.Logic.{◌≢◌, inl, inr}
use mathlib.Core.Bool.{true}
use mathlib.Core.List.{List}
use native.Mathlib.Nat.{add-mul, one-mul}
use native.Mathlib.Numerals.{add-one}
use native.Mathlib.Omega.{arith}
use Rattle.rules.specs.declared.Head.{Head}
use Rattle.rules.specs.declared.MergeRun.{MergeRun}
use Rattle.rules.specs.Tables.{Atlas, atlas, shelf_at}
use Rattle.rules.specs.Return.{top_of}
use Rattle.rules.specs.Merging.{follows, merge_run}
use Rattle.rules.specs.Sound.{Steady, column_of}
use Rattle.laws.proofs.Sound.Lies.{column_next}
use Rattle.laws.proofs.Calls.Runs.{run_mergeable, follows_yes, follows_all}
use Rattle.chains.proofs.Laws.{steady_shelves}
use Rattle.merge.specs.Needs.{CanScan, At, RunFits}

-- the sums fit
module _ (head : Head) (s b : List ℕ) (i : ℕ) (a : At s b head.shelf_count i) where
  pub two_top : follows (atlas head s b) i (i + 1) ≡ true → (shelf_at s i).y + (shelf_at s i).height + (shelf_at s (i + 1)).height ≤ 65535
  two_top e =
      let f = follows_yes {g = atlas head s b} i (i + 1) e in
      omega (arith, a.scan.next i f.there f.column, a.scan.top (i + 1) f.there)

  pub three_top : follows (atlas head s b) i (i + 1) ≡ true → follows (atlas head s b) i (i + 2) ≡ true
      → (shelf_at s i).y + (shelf_at s i).height + (shelf_at s (i + 1)).height + (shelf_at s (i + 2)).height ≤ 65535
  three_top e d =
      let f = follows_yes {g = atlas head s b} i (i + 1) e in
      let k = follows_yes {g = atlas head s b} i (i + 2) d in
      let q : i + 1 + 1 ≡ i + 2 = omega arith in
      let n : (shelf_at s (i + 2)).x ≡ (shelf_at s (i + 1)).x → (shelf_at s (i + 2)).y ≡ top_of (shelf_at s (i + 1)) =
      rw q at (a.scan.next (i + 1) (omega (arith, k.there))) in
      omega (arith, a.scan.next i f.there f.column, n (k.column ∙ sym f.column), a.scan.top (i + 2) k.there)

-- ---- where the requires come from

module _ {g : Atlas} (t : Steady g) where
  -- a next column starts at another x
  apart : (i : ℕ) → suc i < g.head.shelf_count → (shelf_at g.shelves (suc i)).y ≡ 0
      → (shelf_at g.shelves (suc i)).x ≢ (shelf_at g.shelves i).x
  apart i l z e =
      let c : ℕ = column_of g.shelves i in
      let w : ℕ = g.head.column_width in
      let q : column_of g.shelves (suc i) * w ≡ c * w = sym (t.stacked (suc i) l).x ∙ e ∙ (t.stacked i (omega arith)).x in
      let r : (c + 1) * w ≡ c * w = rw (column_next g.shelves i z) at q in
      omega (arith, add-mul c 1 w, one-mul w, t.domain.column_width)

  on_top : (i : ℕ) → suc i < g.head.shelf_count → (shelf_at g.shelves (suc i)).x ≡ (shelf_at g.shelves i).x
      → (shelf_at g.shelves (suc i)).y ≡ top_of (shelf_at g.shelves i)
  on_top i l e = elim ((t.stacked (suc i) l).follows i refl) [
    | inl z ↦ absurd (apart i l z e)
    | inr q ↦ q
  ]

  pub steady_scan : CanScan g.shelves g.buckets g.head.shelf_count
  steady_scan = record {
    walk = steady_shelves t;
    top = λ i l. omega (arith, (t.stacked i l).top, t.domain.height.1);
    next = λ i l e. rw (add-one i) (on_top i (omega arith) (rw (add-one i) at e));
  }

  pub steady_fits : (w h : ℕ) {run : MergeRun} → merge_run w h g ≡ Some run → RunFits g.shelves run
  steady_fits w h {run} e =
      let r = run_mergeable w h e in
      let i : ℕ = run.shelf in
      let m = r.mergeable in
      let a : At g.shelves g.buckets g.head.shelf_count i = record { scan = steady_scan; there = m.there } in
      elim r.reach [
        | inl p ↦ record {
          there = omega (arith, p.0, m.next.there, t.domain.shelves, t.lent.shelves);
          top = omega (arith, p.1, two_top g.head g.shelves g.buckets i a (follows_all i (i + 1) m.next));
        }
        | inr p ↦ record {
          there = omega (arith, p.0, p.1.there, t.domain.shelves, t.lent.shelves);
          top = omega (arith, p.2, three_top g.head g.shelves g.buckets i a (follows_all i (i + 1) m.next) (follows_all i (i + 2) p.1));
        }
      ]
