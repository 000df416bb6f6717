use mathlib.Core.Path.{sym}
use mathlib.Core.Logic.{inl, inr}
use Rattle.laws.proofs.Files.Repaired.{repaired_worn, repaired_used, repaired_rested}
use Rattle.filed.proofs.repaired.Goals as goal

pub returns-then-bucket-ne0 : goal.returns-then-bucket-ne0
returns-then-bucket-ne0 c = elim c.then-bucket-ne0.either [ inl n ↦ sym (repaired_used _ n) | inr e ↦ sym (repaired_rested _ e.0 e.1) ]

pub returns : goal.returns
returns c = rw c.risen.ensures (sym (repaired_worn _ c.if-bucket-ne0.false c.if-bucket-eq0.false))
