use Prim.Native.Nat.{ℕ, ◌≤◌}
use mathlib.Core.Logic.{◌≢◌}
use native.Mathlib.Omega.{arith}
use borrow.Author.Tests.{eq-eqb, ne_eqb, lt-ltb, le-ltb}
use Rattle.requests.proofs.Sides.{Plain, small_w, small_h, large_w, large_h, wide, tall, aligned}
use Rattle.requests.proofs.aligned_sides.Goals as goal

pub returns-then-w-eq0 : goal.returns-then-w-eq0
returns-then-w-eq0 c = elim c.then-w-eq0.branch [
  | goal.then-w-eq0-via-then-w-eq0 w ↦ small_w _ _ _ w.if-w-eq0.true
  | goal.then-w-eq0-via-else-w-eq0+then-h-eq0 w ↦ small_h _ _ _ w.if-w-eq0.false (eq-eqb _ _ w.if-h-eq0.true)
]

pub returns-then-w-gt-REQUEST_MOST : goal.returns-then-w-gt-REQUEST_MOST
returns-then-w-gt-REQUEST_MOST c = elim c.then-w-gt-REQUEST_MOST.branch [
  | goal.then-w-gt-REQUEST_MOST-via-then-w-gt-REQUEST_MOST w ↦
      large_w _ _ _ c.if-w-eq0.false (ne_eqb _ _ c.if-h-eq0.false) w.if-w-gt-REQUEST_MOST.true
  | goal.then-w-gt-REQUEST_MOST-via-else-w-gt-REQUEST_MOST+then-h-gt-REQUEST_MOST w ↦
      large_h _ _ _ c.if-w-eq0.false (ne_eqb _ _ c.if-h-eq0.false) w.if-w-gt-REQUEST_MOST.false (lt-ltb _ _ w.if-h-gt-REQUEST_MOST.true)
]

-- neither refused as 4 nor as 5
plain : (w h : ℕ) → w ≢ 0 → h ≢ 0 → w ≤ 65535 → h ≤ 65535 → Plain w h
plain w h some low few few' = record { some = some; low = ne_eqb h 0 low; few = few; few' = le-ltb 65535 h few' }

pub returns-then-head-across : goal.returns-then-head-across
returns-then-head-across c =
    wide _ _ _ (plain _ _ c.if-w-eq0.false c.if-h-eq0.false c.if-w-gt-REQUEST_MOST.false c.if-h-gt-REQUEST_MOST.false)
    (rw c.align_up-across.ensures at c.if-head-across.true)

pub returns-then-head-down : goal.returns-then-head-down
returns-then-head-down c =
    let p = plain _ _ c.if-w-eq0.false c.if-h-eq0.false c.if-w-gt-REQUEST_MOST.false c.if-h-gt-REQUEST_MOST.false in
    grind (arith, tall _ _ c.args.head p)

pub returns : goal.returns
returns c =
    rw (c.align_up-down.ensures, c.align_up-across.ensures)
    (aligned _ _ _ (plain _ _ c.if-w-eq0.false c.if-h-eq0.false c.if-w-gt-REQUEST_MOST.false c.if-h-gt-REQUEST_MOST.false)
    (rw c.align_up-across.ensures at c.if-head-across.false)
    (rw c.align_up-down.ensures at c.if-head-down.false))
