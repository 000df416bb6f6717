use Rattle.rules.specs.Chains.{count}
use Rattle.walks.proofs.WalkLaws.{Loosely}
use Rattle.sound.proofs.released.walk_released.Given as goal

abbrev pub invariant-loop-here : goal.invariant-loop-here
invariant-loop-here g l = Loosely (g.R.Records.buckets l.records) l.count l.first l.initial.marks l.marks l.from l.here l.seen

abbrev pub decreases-loop-here : goal.decreases-loop-here
decreases-loop-here g l = count 0 l.marks
