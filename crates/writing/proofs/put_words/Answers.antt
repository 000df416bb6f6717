use native.Mathlib.Omega.{arith}
use Rattle.writing.proofs.Words.{words_turn}
use Rattle.writing.proofs.put_words.Goals as goal

pub loop-i-preserved : goal.loop-i-preserved
loop-i-preserved c =
    words_turn _ c.args.numbers.now c.args.at c.loop-i.i c.loop-i.invariant c.loop-i-test.true c.requires
    (omega (arith, c.type_inv.numbers c.loop-i.i)) (omega arith)
    (rw c.to_le_bytes.ensures at c.copy_from_slice.ensures.after)
