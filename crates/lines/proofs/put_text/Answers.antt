use mathlib.Core.Path.{refl}
use native.Mathlib.Omega.{arith}
use Rattle.laws.proofs.Files.Puts.{text_fitted}
use Rattle.lines.proofs.put_text.Goals as goal

pub returns : goal.returns
returns c =
    let a = c.args in
    record { ends = refl; is = text_fitted a.out.now a.text.now _ a.at _ _ (omega arith) c.min-last.ensures c.copy_from_slice.ensures.after }
