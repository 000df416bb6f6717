use Rattle.std.specs.Prelude.{Some}
use mathlib.Core.Path.{sym, ap, ◌∙◌}
use Rattle.telling.specs.Header.{head_in}
use Rattle.telling.proofs.Numbers.{head_yes}
use Rattle.telling.proofs.header.head_in.Goals as goal

pub read_head-requires : goal.read_head-requires
read_head-requires c = head_yes _ c.is_head.ensures c.if-is_head.true

pub returns-then-is_head : goal.returns-then-is_head
unfolding head_in
returns-then-is_head c = simp (sym c.is_head.ensures ∙ c.if-is_head.true) (ap Some c.read_head.ensures)

pub returns : goal.returns
unfolding head_in
returns c = simp (sym c.is_head.ensures ∙ c.if-is_head.false)
