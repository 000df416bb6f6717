use mathlib.Core.Path.{◌∙◌}
use Rattle.rules.specs.NewShelf.{laid_shelf}
use Rattle.measures.proofs.Shelving.{stand_lay}
use Rattle.shelf.proofs.lay_shelf.Goals as goal

pub lay_many-laid-requires : goal.lay_many-laid-requires
lay_many-laid-requires c = rw c.bucket_width-width.ensures (stand_lay _ _ _ c.requires)

pub returns : goal.returns
unfolding laid_shelf
returns c =
    c.push_shelf.ensures _ ∙ rw (c.lay_many-laid.ensures _, c.bucket_width-width.ensures)
