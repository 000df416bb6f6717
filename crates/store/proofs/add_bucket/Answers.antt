use native.Mathlib.Omega.{arith}
use Rattle.store.proofs.Adding.{add_end, add_again, released_below}
use Rattle.store.proofs.add_bucket.Goals as goal

pub returns-then-head-eq-NONE : goal.returns-then-head-eq-NONE
returns-then-head-eq-NONE c = λ s.
    rw (c.put_bucket.ensures, c.fresh_bucket.ensures) (add_end _ _ _ _ _ c.if-head-eq-NONE.true)

pub bucket_at-old-requires : goal.bucket_at-old-requires
bucket_at-old-requires c = omega (arith, released_below _ _ _ c.requires c.if-head-eq-NONE.false)

pub put_bucket-requires-2 : goal.put_bucket-requires-2
put_bucket-requires-2 c =
    omega (arith, released_below _ _ _ c.requires c.if-head-eq-NONE.false)

pub returns : goal.returns
returns c = λ s.
    rw (c.put_bucket-2.ensures, c.fresh_bucket-2.ensures, c.next_generation-generation.ensures, c.bucket_at-old.ensures)
    (add_again _ _ _ _ _ c.if-head-eq-NONE.false)
