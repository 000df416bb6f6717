use mathlib.Core.Path.{sym, ◌∙◌}
use native.Mathlib.Omega.{arith}
use Rattle.rules.specs.Chains.{next}
use Rattle.laws.proofs.Chains.Links.{chain_falls}
use Rattle.chains.proofs.Laws.{walk_step, walk_rest, walk_room, unreferenced_end, unreferenced_turn, unreferenced_stop}
use Rattle.chains.proofs.is_unreferenced.Goals as goal

pub bucket_at-bucket-requires : goal.bucket_at-bucket-requires
bucket_at-bucket-requires c = walk_room c.loop-k.invariant.0 (walk_step c.loop-k.invariant.0 c.loop-k-test.true)

pub returns-then-bucket-ne0 : goal.returns-then-bucket-ne0
returns-then-bucket-ne0 c =
    unreferenced_stop (walk_step c.loop-k.invariant.0 c.loop-k-test.true) (rw c.bucket_at-bucket.ensures at c.if-bucket-ne0.true)
    ∙ c.loop-k.invariant.1

pub loop-k-smaller : goal.loop-k-smaller
unfolding next
loop-k-smaller c = rw c.bucket_at-bucket.ensures (chain_falls (walk_step c.loop-k.invariant.0 c.loop-k-test.true))

pub loop-k-preserved : goal.loop-k-preserved
unfolding next
loop-k-preserved c =
    let s = walk_step c.loop-k.invariant.0 c.loop-k-test.true in
    let e = c.bucket_at-bucket.ensures in
    let i = c.loop-k.invariant in
    (rw e (walk_rest i.0 s), rw e (unreferenced_turn s (rw e at c.if-bucket-ne0.false) ∙ i.1), omega arith)

pub returns : goal.returns
returns c = sym (unreferenced_end _ _ c.loop-k-test.false) ∙ c.loop-k.invariant.1
