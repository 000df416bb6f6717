use mathlib.Core.Path.{refl}
use Rattle.asked.proofs.Answers.{short}
use Rattle.sound.proofs.PassLaws.{sound_headed}
use Rattle.inspect.proofs.InspectLaws.{readable, told_any}
use Rattle.inspect.proofs.is_sound.Goals as goal

pub are_sound-requires : goal.are_sound-requires
are_sound-requires c = readable c.requires (c.is_head.ensures.holds c.if-is_head.true) refl

pub returns-then-is_head : goal.returns-then-is_head
returns-then-is_head c = told_any c.requires c.are_sound.ensures

pub returns-else-is_head : goal.returns-else-is_head
returns-else-is_head c = told_any c.requires (short c.is_head.ensures c.if-is_head.false sound_headed)
