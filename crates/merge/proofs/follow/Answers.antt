use mathlib.Core.Path.{◌∙◌, sym}
use native.Mathlib.Omega.{arith}
use Rattle.laws.proofs.Calls.Runs.{follows_yes}
use Rattle.merge.proofs.Laws.{two_top, three_top}
use Rattle.merge.proofs.follow.Goals as goal

pub shelf_at-second-requires : goal.shelf_at-second-requires
shelf_at-second-requires c =
    omega (arith, (follows_yes _ _ (sym c.follows.ensures ∙ c.if-not-follows.false)).there, c.requires.scan.walk.room)

pub overflow_add-two : goal.overflow_add-two
overflow_add-two c =
    rw (c.shelf_at-second.ensures, c.shelf_at-start.ensures) (omega (arith, two_top _ _ _ _ c.requires (sym c.follows.ensures ∙ c.if-not-follows.false)))

pub shelf_at-third-requires : goal.shelf_at-third-requires
shelf_at-third-requires c =
    omega (arith, (follows_yes _ _ (sym c.follows-2.ensures ∙ c.if-not-follows-2.false)).there, c.requires.scan.walk.room)

pub overflow_add-three : goal.overflow_add-three
overflow_add-three c =
    rw (c.shelf_at-third.ensures, c.shelf_at-second.ensures, c.shelf_at-start.ensures)
    (omega (arith, three_top _ _ _ _ c.requires (sym c.follows.ensures ∙ c.if-not-follows.false) (sym c.follows-2.ensures ∙ c.if-not-follows-2.false)))
