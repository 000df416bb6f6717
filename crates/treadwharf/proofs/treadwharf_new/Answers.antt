use mir.Facts.{to_z-of_z}
use Rattle.treadwharf.proofs.Ways.{new_short, new_told_law}
use Rattle.treadwharf.proofs.treadwharf_new.Goals as goal

pub returns-then-header-lt12 : goal.returns-then-header-lt12
returns-then-header-lt12 c = rw c.from.ensures
    (new_short _ _ _ _ _ _ _ _ _ c.if-header-lt12.true)

pub returns : goal.returns
returns c = new_told_law _ _ _ _ _ _ _ _ _ _ _ c.if-header-lt12.false
    (rw (
      to_z-of_z c.ranges.width,
      to_z-of_z c.ranges.height,
      to_z-of_z c.ranges.align_width,
      to_z-of_z c.ranges.align_height,
      to_z-of_z c.ranges.columns,
    ) at c.new-made.ensures)
    c.tell_head.ensures
