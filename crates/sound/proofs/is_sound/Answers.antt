use mathlib.Core.Path.{sym, ◌∙◌}
use Rattle.laws.proofs.Tests.Tells.{tells_same}
use Rattle.laws.proofs.Sound.Test.{sound_tells}
use Rattle.asked.proofs.Answers.{short, told}
use Rattle.sound.proofs.PassLaws.{sound_headed}
use Rattle.sound.proofs.is_sound.Goals as goal
use Rattle.sound.proofs.is_sound.Goals.{then-is_lent, else-is_lent}

pub returns-then-is_head : goal.returns-then-is_head
returns-then-is_head c = tells_same _ _ c.are_sound.ensures (sound_tells _)

pub returns-else-is_head : goal.returns-else-is_head
returns-else-is_head c = elim c.if-is_lent.branch [
  | then-is_lent w ↦
      let n = short w.is_head.ensures (sym w.value-is ∙ c.if-is_head.false) sound_headed in
      tells_same _ _ (told w.value-is n) (sound_tells _)
  | else-is_lent w ↦ tells_same _ _ (told w.value-is (short c.is_lent.ensures w.if-is_lent.false (λ s. s.steady.lent))) (sound_tells _)
]
