use mathlib.Core.Bool.{not}
use mathlib.Core.Path.{ap}
use native.Mathlib.Omega.{arith}
use Rattle.laws.proofs.Calls.Arms.{sound_of}
use Rattle.entries.proofs.Verdicts.{verdict_tables, verdict_list, verdict_fits}
use Rattle.held.proofs.judging.test.Goals as goal

pub returns-then-not-is_sound : goal.returns-then-not-is_sound
returns-then-not-is_sound g c = verdict_tables _ _ _ c.is_sound.ensures (ap not c.if-not-is_sound.true)

pub fits-requires : goal.fits-requires
fits-requires g c = sound_of _ c.is_sound.ensures (ap not c.if-not-is_sound.false)

pub returns-then-not-fits : goal.returns-then-not-fits
returns-then-not-fits g c =
    verdict_list _ _ _ c.is_sound.ensures (ap not c.if-not-is_sound.false) _ c.fits.ensures (ap not c.if-not-fits.true)

pub entries-requires : goal.entries-requires
entries-requires g c =
    let st = (sound_of _ c.is_sound.ensures (ap not c.if-not-is_sound.false)).steady in
    (omega (arith, st.domain.buckets), omega (arith, st.domain.buckets, st.lent))

pub returns : goal.returns
returns g c =
    verdict_fits _ _ _ c.is_sound.ensures (ap not c.if-not-is_sound.false) _ c.fits.ensures (ap not c.if-not-fits.false) _
    (c.entries.ensures c.args.shelves.now)
