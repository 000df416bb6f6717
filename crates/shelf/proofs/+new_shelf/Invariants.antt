-- a filler takes the whole room, so it needs no filler itself
use lib.Dec.{eqb}
use Rattle.std.specs.Prelude.{if◌then◌else◌}
use Rattle.shelf.proofs.+new_shelf.Given as goal

abbrev pub decreases-new_shelf : goal.decreases-new_shelf
decreases-new_shelf l = if eqb l.head.room l.height then 0 else 1
