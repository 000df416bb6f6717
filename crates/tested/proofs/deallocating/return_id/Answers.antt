use Rattle.std.specs.Prelude.{Ok}
use mathlib.Core.Path.{ap, ◌∙◌}
use native.Mathlib.Omega.{arith}
use Rattle.rules.specs.Tables.{outcome}
use Rattle.returning.proofs.Granted.{can_return}
use Rattle.tested.proofs.Arms.{return_unknown, return_stale, return_unheld, return_done, before_20, not_held, is_held}
use Rattle.tested.proofs.deallocating.return_id.Goals as goal

pub returns-then-index-head : goal.returns-then-index-head
returns-then-index-head c =
    let id = c.id_bucket-index.ensures in
    before_20 _ _ _ (return_unknown _ _ (rw id at c.if-index-head.true))

pub returns-then-bucket-id_generation : goal.returns-then-bucket-id_generation
returns-then-bucket-id_generation c =
    let id = c.id_bucket-index.ensures in
    let bucket = c.bucket_at-bucket.ensures in
    before_20 _ _ _ (return_stale _ _ (rw id at c.if-index-head.false) (rw (c.id_generation.ensures, bucket, id) at c.if-bucket-id_generation.true))

pub returns-then-bucket-eq0 : goal.returns-then-bucket-eq0
returns-then-bucket-eq0 c =
    let id = c.id_bucket-index.ensures in
    let bucket = c.bucket_at-bucket.ensures in
    before_20 _ _ _
    (return_unheld _ _ (rw id at c.if-index-head.false) (rw (c.id_generation.ensures, bucket, id) at c.if-bucket-id_generation.false)
    (rw (bucket, id) at c.if-bucket-eq0.true))

pub returns-then-not-held : goal.returns-then-not-held
returns-then-not-held c =
    let id = c.id_bucket-index.ensures in
    let bucket = c.bucket_at-bucket.ensures in
    not_held _ _ _
    (return_done _ _ (rw id at c.if-index-head.false) (rw (c.id_generation.ensures, bucket, id) at c.if-bucket-id_generation.false)
    (rw (bucket, id) at c.if-bucket-eq0.false))
    c.if-not-held.true-raw

pub return_reference-requires : goal.return_reference-requires
return_reference-requires c =
    can_return c.requires.steady _ c.if-index-head.false
    (omega (arith, rw c.bucket_at-bucket.ensures at c.if-bucket-eq0.false))

pub returns : goal.returns
returns c =
    let id = c.id_bucket-index.ensures in
    let bucket = c.bucket_at-bucket.ensures in
    ap (outcome (Ok tt)) (rw id at c.return_reference.ensures)
    ∙ is_held _ _ _
    (return_done _ _ (rw id at c.if-index-head.false) (rw (c.id_generation.ensures, bucket, id) at c.if-bucket-id_generation.false)
    (rw (bucket, id) at c.if-bucket-eq0.false))
    c.if-not-held.false-raw
