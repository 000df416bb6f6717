use Rattle.sound.proofs.PassLaws.{unmarked}
use Rattle.sound.proofs.are_marked.Goals as goal

pub are_tables-requires : goal.are_tables-requires
are_tables-requires g c = let p = c.requires in (p.0, unmarked _ _ p.1 p.2)
