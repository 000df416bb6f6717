use lib.Seq.{sets}
use Rattle.std.specs.Prelude.{◌≡◌}
use Rattle.rules.specs.Files.{in_order}
use Rattle.writing.proofs.rows.put_rows.Given as goal

abbrev pub invariant-loop-i : goal.invariant-loop-i
invariant-loop-i g l = l.out ≡ sets l.initial.out l.at (in_order l.i (λ k. g.R.Row.bytes (g.R.Row.row_at l.table k)))
