use native.Mathlib.Omega.{arith}
use Rattle.rules.specs.declared.Refusal.{Refusal}
use Rattle.rules.specs.Tables.{Atlas, atlas}
use Rattle.rules.specs.Picture.{picture_of}
use Rattle.laws.proofs.Files.Saving.{saving_short, saving_whole}
use Rattle.laws.proofs.Picture.Most.{picture_most_law}
use Rattle.drawing.proofs.showing.put.Goals as goal

pub returns-then-out-length : goal.returns-then-out-length
returns-then-out-length c =
    let g : Atlas = atlas c.args.head c.args.shelves.now c.args.buckets.now in
    saving_short Refusal.Output (picture_of g) _ c.requires (omega (arith, c.length_of-length.ensures, c.if-out-length.true))

pub overflow_cast-result : goal.overflow_cast-result
overflow_cast-result c =
    let g : Atlas = atlas c.args.head c.args.shelves.now c.args.buckets.now in
    omega (arith, c.length_of-length.ensures, picture_most_law g c.requires)

pub returns : goal.returns
returns c =
    let g : Atlas = atlas c.args.head c.args.shelves.now c.args.buckets.now in
    let long = c.length_of-length.ensures in
    saving_whole Refusal.Output (picture_of g) _ c.requires (omega (arith, long, c.if-out-length.false)) long c.put_picture.ensures.is
