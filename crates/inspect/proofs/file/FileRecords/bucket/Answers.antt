use mathlib.Core.Path.{◌∙◌}
use Rattle.inspect.proofs.InspectLaws.{bucket_is}
use Rattle.inspect.proofs.file.FileRecords.bucket.Goals as goal

pub returns : goal.returns
returns c = let p = c.requires in c.bucket_read.ensures ∙ bucket_is _ p.at p.most p.below
