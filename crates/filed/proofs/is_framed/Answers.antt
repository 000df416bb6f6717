use Rattle.filed.proofs.Framed.{framed_kind, framed_not}
use Rattle.filed.proofs.is_framed.Goals as goal

pub returns-then-u16_at-kind : goal.returns-then-u16_at-kind
returns-then-u16_at-kind c = rw c.u16_at-then-u16_at-kind.ensures (framed_kind _ _ _ _ (rw c.u16_at.ensures at c.if-u16_at-kind.true))

pub returns-else-u16_at-kind : goal.returns-else-u16_at-kind
returns-else-u16_at-kind c = rw c.u16_at.ensures (framed_not _ _ _ _ (rw c.u16_at.ensures at c.if-u16_at-kind.false))
