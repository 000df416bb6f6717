use mathlib.Core.Path.{refl, sym, ◌∙◌}
use native.Mathlib.Omega.{arith}
use Rattle.search.proofs.Laws.{goes_on, passed_over, looked_at, exact_stays}
use Rattle.search.proofs.search.Goals as goal
use Rattle.search.proofs.search.Goals.{then-not-skips+in-First, then-not-skips+in-Nothing, else-not-skips}

pub returns-in-Exact : goal.returns-in-Exact
returns-in-Exact c =
    let i = c.loop-i.invariant in
    let s = c.shelf_at-shelf.ensures in
    let e = looked_at _ _ _ _ _ _ (rw i.0 at (goes_on c.loop-i.least c.loop-i.found))
    (rw (s, i.1, i.0) at (sym c.skips.ensures ∙ c.if-not-skips.true)) _
    (rw (s, i.1, i.0) at (sym c.pick_in.ensures ∙ c.in-Exact.is)) in
    rw s (e ∙ exact_stays _ _ _ _ _ _ _ (omega arith) (rw (sym e) refl))

pub loop-i-preserved : goal.loop-i-preserved
loop-i-preserved c =
    let i = c.loop-i.invariant in
    let s = c.shelf_at-shelf.ensures in
    let o = rw i.0 at (goes_on c.loop-i.least c.loop-i.found) in
    elim c.if-not-skips.branch [
      | then-not-skips+in-First w ↦ (
        rw (w.found-is, w.least-is, s) (looked_at _ _ _ _ _ _ o (rw (s, i.1, i.0) at (sym c.skips.ensures ∙ w.if-not-skips.true)) _
            (rw (s, i.1, i.0) at (sym w.pick_in.ensures ∙ w.in-First.is))),
        rw (w.found-is, w.least-is) refl,
        omega arith,
      )
      | then-not-skips+in-Nothing w ↦ (
        rw (w.found-is, w.least-is, i.0) (looked_at _ _ _ _ _ _ o (rw (s, i.1, i.0) at (sym c.skips.ensures ∙ w.if-not-skips.true)) _
            (rw (s, i.1, i.0) at (sym w.pick_in.ensures ∙ w.in-Nothing.is))),
        rw (w.found-is, w.least-is) i.1,
        omega arith,
      )
      | else-not-skips w ↦ (
        rw (w.found-is, w.least-is, i.0) (passed_over _ _ _ _ _ _ o (rw (s, i.1, i.0) at (sym c.skips.ensures ∙ w.if-not-skips.false))),
        rw (w.found-is, w.least-is) i.1,
        omega arith,
      )
    ]
