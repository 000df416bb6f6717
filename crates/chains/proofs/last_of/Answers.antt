use mathlib.Core.Path.{sym, ap, ◌∙◌}
use native.Mathlib.Omega.{arith}
use Rattle.rules.specs.Chains.{next, last_of}
use Rattle.laws.proofs.Chains.Links.{chain_falls, chain_end}
use Rattle.chains.proofs.Laws.{walk_step, walk_rest, walk_room}
use Rattle.chains.proofs.last_of.Goals as goal

pub bucket_at-bucket-requires : goal.bucket_at-bucket-requires
bucket_at-bucket-requires c = walk_room c.loop-k.invariant.0 (walk_step c.loop-k.invariant.0 c.loop-k-test.true)

pub loop-k-smaller : goal.loop-k-smaller
unfolding next
loop-k-smaller c = rw c.bucket_at-bucket.ensures (chain_falls (walk_step c.loop-k.invariant.0 c.loop-k-test.true))

pub loop-k-preserved : goal.loop-k-preserved
unfolding next
loop-k-preserved c =
    let s = walk_step c.loop-k.invariant.0 c.loop-k-test.true in
    let e = c.bucket_at-bucket.ensures in
    let i = c.loop-k.invariant in
    (rw e (walk_rest i.0 s), rw e (sym (ap (last_of c.loop-k.last) s.turn) ∙ i.1), omega arith)

pub returns : goal.returns
returns c = sym (ap (last_of c.loop-k.last) (chain_end _ _ c.loop-k-test.false)) ∙ c.loop-k.invariant.1
