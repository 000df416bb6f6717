use lib.Seq.{sets}
use lib.ListN.{take}
use Rattle.std.specs.Prelude.{◌≡◌}
use Rattle.rules.specs.Files.{words}
use Rattle.writing.proofs.put_words.Given as goal

abbrev pub invariant-loop-i : goal.invariant-loop-i
invariant-loop-i l = l.out ≡ sets l.initial.out l.at (words (take l.i l.numbers))
