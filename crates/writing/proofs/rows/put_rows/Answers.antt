use Prim.Native.Nat.{ℕ}
use Rattle.writing.proofs.Records.{rows_turn}
use Rattle.writing.proofs.rows.put_rows.Goals as goal

pub loop-i-preserved : goal.loop-i-preserved
loop-i-preserved g c =
    let r = g.R.Row in
    rows_turn (λ (k : ℕ). r.bytes (r.row_at c.args.table.now k)) r.BYTES _ c.args.at c.loop-i.i (λ k. g.met.R.Row.long _) c.loop-i.invariant
    (rw (c.BYTES.ensures, c.read.ensures) at c.put.ensures)
