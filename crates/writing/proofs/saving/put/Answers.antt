use native.Mathlib.Omega.{arith}
use Rattle.writing.proofs.Answers.{short_buffer, file_written}
use Rattle.writing.proofs.saving.put.Goals as goal

pub returns-then-out-length : goal.returns-then-out-length
returns-then-out-length c = short_buffer _ _ c.requires (omega (arith, c.length_of-length.ensures, c.if-out-length.true))

pub returns : goal.returns
returns c =
    file_written _ _ c.requires (omega (arith, c.length_of-length.ensures, c.if-out-length.false))
    c.length_of-length.ensures c.put_file.ensures
