use mathlib.Core.List.{[]}
use native.Mathlib.Omega.{arith}
use Rattle.trace.specs.Chunk.{all_of}
use Rattle.trace.proofs.Pieces.{gathered, first_room, first_trod, stopped_first, waited_first, second_room, second_place, left_second}
use Rattle.trace.proofs.feeding.records.Goals as goal

pub slice_bounds-seam-end : goal.slice_bounds-seam-end
slice_bounds-seam-end c =
    omega (arith, (gathered (all_of c.args.pause c.args.chunk.now) c.gather-n.ensures).few)

pub slice_bounds-run-end : goal.slice_bounds-run-end
slice_bounds-run-end c =
    (gathered (all_of c.args.pause c.args.chunk.now) c.gather-n.ensures).counted

pub run-first-requires : goal.run-first-requires
run-first-requires c =
    let p = c.args.pause in
    let held = c.well_formed.0.1.1.1.1.1.1.0.1.0.1 in
    let g = gathered (all_of p c.args.chunk.now) c.gather-n.ensures in
    (first_room c.requires.0 held c.args.verdict [] [] [] g c.opened.ensures, rw c.opened.ensures c.requires.1)

pub returns-then-first : goal.returns-then-first
returns-then-first c =
    let p = c.args.pause in
    let v = c.args.verdict in
    let held = c.well_formed.0.1.1.1.1.1.1.0.1.0.1 in
    let g = gathered (all_of p c.args.chunk.now) c.gather-n.ensures in
    let trod = first_trod c.requires.0 held v _ _ _ g c.opened.ensures c.run-first.ensures.0 in
    stopped_first c.requires.0 held v _ _ _ trod c.if-first.true

pub returns-then-first-pause : goal.returns-then-first-pause
returns-then-first-pause c =
    let p = c.args.pause in
    let v = c.args.verdict in
    let held = c.well_formed.0.1.1.1.1.1.1.0.1.0.1 in
    let g = gathered (all_of p c.args.chunk.now) c.gather-n.ensures in
    let trod = first_trod c.requires.0 held v _ _ _ g c.opened.ensures c.run-first.ensures.0 in
    waited_first c.requires.0 held v _ _ _ trod c.if-first.false c.if-first-pause.true

pub run-second-requires : goal.run-second-requires
run-second-requires c =
    let p = c.args.pause in
    let v = c.args.verdict in
    let held = c.well_formed.0.1.1.1.1.1.1.0.1.0.1 in
    let g = gathered (all_of p c.args.chunk.now) c.gather-n.ensures in
    let trod = first_trod c.requires.0 held v _ _ _ g c.opened.ensures c.run-first.ensures.0 in
    let room = second_room c.requires.0 held v _ _ _ trod c.if-first.false c.if-first-pause.false in
    (room, c.run-first.ensures.1)

pub overflow_add-result : goal.overflow_add-result
overflow_add-result c =
    let p = c.args.pause in
    let v = c.args.verdict in
    let held = c.well_formed.0.1.1.1.1.1.1.0.1.0.1 in
    let g = gathered (all_of p c.args.chunk.now) c.gather-n.ensures in
    let trod = first_trod c.requires.0 held v _ _ _ g c.opened.ensures c.run-first.ensures.0 in
    let place = second_place c.requires.0 held v _ _ _ trod c.if-first.false c.if-first-pause.false c.run-second.ensures.0 in
    omega (arith, place, c.requires.0.few, c.well_formed.1.1.0)

pub returns : goal.returns
returns c =
    let p = c.args.pause in
    let v = c.args.verdict in
    let held = c.well_formed.0.1.1.1.1.1.1.0.1.0.1 in
    let g = gathered (all_of p c.args.chunk.now) c.gather-n.ensures in
    let trod = first_trod c.requires.0 held v _ _ _ g c.opened.ensures c.run-first.ensures.0 in
    left_second c.requires.0 held v _ _ _ trod c.if-first.false c.if-first-pause.false c.run-second.ensures.0
