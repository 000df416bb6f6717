use native.Mathlib.Omega.{arith}
use Rattle.rules.specs.Trace.{spaced}
use Rattle.lines.proofs.Puts.{put_then, put_pair}
use Rattle.lines.proofs.Digits.{pair_length}
use Rattle.lines.proofs.pair_line.Goals as goal

pub put_text-requires : goal.put_text-requires
put_text-requires c =
    let a = c.args in
    omega (arith, c.put_pair-after.ensures.ends, pair_length a.first a.second)

pub returns : goal.returns
returns c =
    put_then (put_pair (spaced _) (spaced _) c.put_text-start.ensures c.put_pair-after.ensures)
    c.put_text.ensures
