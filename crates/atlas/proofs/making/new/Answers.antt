use mir.Facts.{to_z-of_z}
use mathlib.Core.Path.{◌∙◌}
use Rattle.atlas.proofs.Calls.{new_no, new_yes}
use Rattle.atlas.proofs.making.new.Goals as goal

pub returns-then-not-is_lent : goal.returns-then-not-is_lent
returns-then-not-is_lent c = new_no _ _ _ _ _ _ _ _ _ c.is_lent.ensures c.if-not-is_lent.true-raw

pub returns : goal.returns
returns c =
    let fits = c.ranges in
    c.made.ensures
    ∙ rw (
      c.natural-5.ensures,
      c.natural-4.ensures,
      c.natural-3.ensures,
      c.natural-2.ensures,
      c.natural.ensures,
      to_z-of_z fits.width,
      to_z-of_z fits.height,
      to_z-of_z fits.align_width,
      to_z-of_z fits.align_height,
      to_z-of_z fits.columns,
    )
    (new_yes _ _ _ _ _ _ _ _ _ c.is_lent.ensures c.if-not-is_lent.false-raw)
