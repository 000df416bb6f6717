use Rattle.requests.proofs.Arms.{placeable}
use Rattle.requests.proofs.allocate.Goals as goal

pub entering-requires : goal.entering-requires
entering-requires c =
    placeable (c.requires.sound _ c.in_ok-count.was) _ _ _ _ _ _ c.in_ok-issued.ensures
