use Rattle.treadwharf.proofs.Ways.{read_short, read_told}
use Rattle.treadwharf.proofs.treadwharf_read.Goals as goal

pub returns-then-header-lt12 : goal.returns-then-header-lt12
returns-then-header-lt12 c = rw c.from.ensures
    (read_short _ _ _ _ c.if-header-lt12.true)

pub returns : goal.returns
returns c = read_told _ _ _ _ _ _ _ _ c.if-header-lt12.false c.read-made.ensures c.tell_head.ensures
