use borrow.Author.Tests.{eqb-true, eqb-false}
use Rattle.asked.proofs.Answers.{tell, tells_no, refuted}
use Rattle.sound.proofs.PassLaws.{sound_ends, stops_released, stops_seen, ends_sound}
use Rattle.sound.proofs.are_tables.Goals as goal

pub returns-then-not-is_ended : goal.returns-then-not-is_ended
returns-then-not-is_ended g c =
    tells_no (λ y. refuted c.is_ended.ensures c.if-not-is_ended.true (sound_ends c.requires.0.given c.in-Some.ensures y))

pub returns-in_default-walk_released : goal.returns-in_default-walk_released
returns-in_default-walk_released g c = tells_no (stops_released c.requires.0.given c.in-Some.ensures c.in_default-walk_released.ensures)

pub returns : goal.returns
returns g c =
    let v = c.requires.0.given in
    let p = c.in-Some.ensures in
    let w = c.in-Some-walk_released.ensures in
    let ends = c.is_ended.ensures.holds c.if-not-is_ended.false in
    tell _ (λ q. ends_sound v p w (eqb-true _ _ q) ends) (λ q. stops_seen v p w (eqb-false _ _ q))
