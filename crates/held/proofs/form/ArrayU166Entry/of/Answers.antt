use mathlib.Core.Path.{refl}
use Rattle.held.specs.Rows.{row_of}
use Rattle.held.proofs.Forms.{entry_row}
use Rattle.held.proofs.form.ArrayU166Entry.of.Goals as goal

pub returns-clause-row : goal.returns-clause-row
unfolding row_of
returns-clause-row c = refl

pub returns-clause-same : goal.returns-clause-same
unfolding row_of
returns-clause-same c = entry_row c.args.held
