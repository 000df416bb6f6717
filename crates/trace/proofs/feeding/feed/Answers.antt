use mathlib.Core.Path.{sym, ◌∙◌}
use Rattle.trace.proofs.Fed.{feed_short, feed_over, feed_done}
use Rattle.trace.proofs.feeding.feed.Goals as goal

pub returns-then-is_short : goal.returns-then-is_short
returns-then-is_short c = feed_short _ _ _ _ _ _ (sym c.is_short.ensures ∙ c.if-is_short.true)

pub returns-then-pause : goal.returns-then-pause
returns-then-pause c = feed_over _ _ _ _ _ _ (sym c.is_short.ensures ∙ c.if-is_short.false) c.if-pause.true

pub returns : goal.returns
returns c =
    let long = sym c.is_short.ensures ∙ c.if-is_short.false in
    feed_done _ _ _ _ _ _ long c.if-pause.false c.records-walk.ensures (c.left_over.ensures _ _ _)
