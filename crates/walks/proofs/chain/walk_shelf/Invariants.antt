use Rattle.rules.specs.Chains.{count}
use Rattle.walks.proofs.WalkLaws.{Along}
use Rattle.walks.proofs.chain.walk_shelf.Given as goal

-- what is fixed, and the way so far
abbrev pub invariant-loop-here : goal.invariant-loop-here
invariant-loop-here g l =
    Along (g.R.Records.buckets l.records) l.count l.i l.shelf l.right l.initial.marks l.marks l.from l.here l.edge l.seen l.free

abbrev pub decreases-loop-here : goal.decreases-loop-here
decreases-loop-here g l = count 0 l.marks
