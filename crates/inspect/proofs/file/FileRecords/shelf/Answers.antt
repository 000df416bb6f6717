use mathlib.Core.Path.{◌∙◌}
use Rattle.inspect.proofs.InspectLaws.{shelf_is}
use Rattle.inspect.proofs.file.FileRecords.shelf.Goals as goal

pub returns : goal.returns
returns c = let p = c.requires in c.shelf_from.ensures ∙ shelf_is _ _ _ p.most p.below
