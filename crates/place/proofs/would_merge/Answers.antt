use Rattle.merge.proofs.Laws.{steady_scan}
use Rattle.place.proofs.would_merge.Goals as goal

pub merge_run-requires : goal.merge_run-requires
merge_run-requires c = steady_scan c.requires.sound.steady
