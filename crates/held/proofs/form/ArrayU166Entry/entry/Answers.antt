use mathlib.Core.Path.{refl}
use Rattle.held.specs.Rows.{entry_of}
use Rattle.held.proofs.form.ArrayU166Entry.entry.Goals as goal

pub returns : goal.returns
unfolding entry_of
returns c = refl
