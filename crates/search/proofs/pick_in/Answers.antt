use mathlib.Core.Path.{sym, ◌∙◌}
use native.Mathlib.Omega.{arith}
use borrow.Author.Tests.{lt-ltb, le-ltb}
use Rattle.rules.specs.Chains.{next}
use Rattle.laws.proofs.Chains.Links.{chain_falls}
use Rattle.chains.proofs.Laws.{walk_step, walk_rest, walk_room}
use Rattle.search.proofs.Laws.{pick_end, pick_pass, pick_exact, pick_first, pick_on}
use Rattle.search.proofs.pick_in.Goals as goal

pub bucket_at-bucket-requires : goal.bucket_at-bucket-requires
bucket_at-bucket-requires c = walk_room c.loop-k.invariant.0 (walk_step c.loop-k.invariant.0 c.loop-k-test.true)

pub loop-k-smaller-then-not-takes : goal.loop-k-smaller-then-not-takes
unfolding next
loop-k-smaller-then-not-takes c = rw c.bucket_at-bucket.ensures (chain_falls (walk_step c.loop-k.invariant.0 c.loop-k-test.true))

pub loop-k-preserved-then-not-takes : goal.loop-k-preserved-then-not-takes
unfolding next
loop-k-preserved-then-not-takes c =
    let s = walk_step c.loop-k.invariant.0 c.loop-k-test.true in
    let e = c.bucket_at-bucket.ensures in
    let i = c.loop-k.invariant in (
      rw e (walk_rest i.0 s),
      rw e (pick_pass _ _ _ _ s (rw e at (sym c.takes.ensures ∙ c.if-not-takes.true)) ∙ i.1),
      omega arith,
    )

pub returns-then-is_exact : goal.returns-then-is_exact
returns-then-is_exact c =
    let e = c.bucket_at-bucket.ensures in
    pick_exact _ _ _ _ (walk_step c.loop-k.invariant.0 c.loop-k-test.true)
    (rw e at (sym c.takes.ensures ∙ c.if-not-takes.false))
    (rw e at (sym c.is_exact.ensures ∙ c.if-is_exact.true))
    ∙ c.loop-k.invariant.1

pub returns-then-waste-best : goal.returns-then-waste-best
returns-then-waste-best c =
    let e = c.bucket_at-bucket.ensures in
    pick_first _ _ _ _ (walk_step c.loop-k.invariant.0 c.loop-k-test.true)
    (rw e at (sym c.takes.ensures ∙ c.if-not-takes.false))
    (rw e at (sym c.is_exact.ensures ∙ c.if-is_exact.false))
    (lt-ltb _ _ c.if-waste-best.true)
    ∙ c.loop-k.invariant.1

pub loop-k-smaller : goal.loop-k-smaller
unfolding next
loop-k-smaller c = rw c.bucket_at-bucket.ensures (chain_falls (walk_step c.loop-k.invariant.0 c.loop-k-test.true))

pub loop-k-preserved : goal.loop-k-preserved
unfolding next
loop-k-preserved c =
    let s = walk_step c.loop-k.invariant.0 c.loop-k-test.true in
    let e = c.bucket_at-bucket.ensures in
    let i = c.loop-k.invariant in (
      rw e (walk_rest i.0 s),
      rw e (pick_on _ _ _ _ s (rw e at (sym c.takes.ensures ∙ c.if-not-takes.false))
          (rw e at (sym c.is_exact.ensures ∙ c.if-is_exact.false))
          (le-ltb _ _ c.if-waste-best.false) ∙ i.1),
      omega arith,
    )

pub returns : goal.returns
returns c = sym (pick_end _ _ _ _ _ c.loop-k-test.false) ∙ c.loop-k.invariant.1
