use mathlib.Core.Path.{◌∙◌}
use Rattle.rules.specs.NewShelf.{plain_shelf}
use Rattle.measures.proofs.Shelving.{plain_count, plain_stand}
use Rattle.shelf.proofs.plain_shelf.Goals as goal

pub count_for-count-requires : goal.count_for-count-requires
count_for-count-requires c =
    rw (c.tall_for-high.ensures, c.open_column-open.ensures) (plain_count c.args.w _ _ c.requires)

pub lay_shelf-requires : goal.lay_shelf-requires
lay_shelf-requires c =
    rw (c.count_for-count.ensures, c.tall_for-high.ensures, c.open_column-open.ensures) (plain_stand _ _ _ c.requires)

pub returns : goal.returns
unfolding plain_shelf
returns c =
    c.lay_shelf.ensures ∙ rw (c.count_for-count.ensures, c.tall_for-high.ensures, c.open_column-open.ensures)
