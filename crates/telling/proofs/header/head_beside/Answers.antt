use mathlib.Core.Path.{◌∙◌}
use Rattle.telling.proofs.Numbers.{beside_yes, beside_no}
use Rattle.telling.proofs.header.head_beside.Goals as goal

pub returns-then-room-out : goal.returns-then-room-out
returns-then-room-out c = c.head_in.ensures ∙ beside_yes _ _ _ c.if-room-out.true

pub returns : goal.returns
returns c = beside_no _ _ _ c.if-room-out.false
