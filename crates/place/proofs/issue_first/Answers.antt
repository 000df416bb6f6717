use Rattle.place.proofs.From.{can_issue_first}
use Rattle.place.proofs.issue_first.Goals as goal

pub issue-requires : goal.issue-requires
issue-requires c = rw c.shelf_at-shelf.ensures (can_issue_first c.requires)
