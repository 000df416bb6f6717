use mathlib.Core.Path.{◌∙◌}
use native.Mathlib.Omega.{arith}
use Rattle.writing.proofs.Words.{long_word_is}
use Rattle.writing.proofs.Records.{head_put}
use Rattle.writing.proofs.put_head.Goals as goal

pub returns : goal.returns
returns c =
    let occupied = c.args.head.occupied in
    head_put c.args.head _ c.requires c.put_words.ensures (c.copy_from_slice.ensures.after ∙ long_word_is occupied (omega arith) c.to_le_bytes.ensures)
