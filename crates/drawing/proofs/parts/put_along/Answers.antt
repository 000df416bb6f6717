use native.Mathlib.Omega.{arith}
use Rattle.rules.specs.Tables.{bucket_at}
use Rattle.rules.specs.Chains.{next}
use Rattle.rules.specs.Picture.{parts, lines_of}
use Rattle.laws.proofs.Chains.Links.{chain_falls}
use Rattle.chains.proofs.Laws.{walk_step, walk_room}
use Rattle.drawing.proofs.Buckets.{going_room, going_turn, going_end}
use Rattle.drawing.proofs.Buckets.{lines_from, from_end, from_turn, drawable_here, drawable_rest}
use Rattle.drawing.proofs.parts.put_along.Goals as goal

pub bucket_at-bucket-requires : goal.bucket_at-bucket-requires
bucket_at-bucket-requires c = walk_room c.loop-k.invariant.0.walk (walk_step c.loop-k.invariant.0.walk c.loop-k-test.true)

pub put_parts-end-requires : goal.put_parts-end-requires
put_parts-end-requires c =
    let s = c.args.shelf in
    let b = c.args.buckets.now in
    let k = c.loop-k.k in
    let t = walk_step c.loop-k.invariant.0.walk c.loop-k-test.true in
    let i = c.loop-k.invariant in
    rw c.bucket_at-bucket.ensures (
      drawable_here s t i.0,
      going_room (lines_of (parts s (bucket_at b k))) (lines_from b s (next b k)) (rw (from_turn s t) at i.1) c.requires.1,
    )

pub loop-k-smaller : goal.loop-k-smaller
unfolding next
loop-k-smaller c = rw c.bucket_at-bucket.ensures (chain_falls (walk_step c.loop-k.invariant.0.walk c.loop-k-test.true))

pub loop-k-preserved : goal.loop-k-preserved
unfolding next
loop-k-preserved c =
    let s = c.args.shelf in
    let t = walk_step c.loop-k.invariant.0.walk c.loop-k-test.true in
    let e = c.bucket_at-bucket.ensures in
    let i = c.loop-k.invariant in (
      rw e (drawable_rest s t i.0),
      rw e (going_turn _ _ (rw (from_turn s t) at i.1) (rw e at c.put_parts-end.ensures)),
      omega arith,
    )

pub returns : goal.returns
returns c = going_end (rw (from_end _ c.args.shelf _ c.loop-k-test.false) at c.loop-k.invariant.1)
