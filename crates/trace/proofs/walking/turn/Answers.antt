use native.Mathlib.Omega.{arith}
use Rattle.trace.proofs.Turns.{rest_is, waits, left_settled, stop_room, stops, left_whole, within, counts, went}
use Rattle.trace.proofs.walking.turn.Goals as goal

pub returns-then-is_unfinished : goal.returns-then-is_unfinished
returns-then-is_unfinished c =
    (waits c.requires.0 c.is_unfinished.ensures c.if-is_unfinished.true _ _ _, c.requires.1)

pub is_misframed-requires : goal.is_misframed-requires
is_misframed-requires c =
    rw (rest_is _ _) (left_settled c.requires.0 c.is_unfinished.ensures c.if-is_unfinished.false).head

pub stopped-requires : goal.stopped-requires
stopped-requires c =
    stop_room c.requires.0 c.is_unfinished.ensures c.if-is_unfinished.false

pub returns-then-is_misframed : goal.returns-then-is_misframed
returns-then-is_misframed c =
    let stop = c.stopped.ensures _ _ _ in
    let whole = c.if-is_unfinished.false in (
      stops c.requires.0 c.is_unfinished.ensures c.is_misframed.ensures whole c.if-is_misframed.true _ _ _ stop.0,
      stop.1 c.requires.1,
    )

pub u16_at-length-requires : goal.u16_at-length-requires
u16_at-length-requires c =
    let settled = left_settled c.requires.0 c.is_unfinished.ensures c.if-is_unfinished.false in
    rw (rest_is _ _) (omega (arith, settled.head))

pub one_record-stand-requires : goal.one_record-stand-requires
one_record-stand-requires c =
    let told = c.is_misframed.ensures in
    let whole = left_whole c.requires.0 c.is_unfinished.ensures told c.if-is_unfinished.false c.if-is_misframed.false in
    rw (rest_is _ _) (whole, c.requires.1)

pub overflow_add-result-3 : goal.overflow_add-result-3
overflow_add-result-3 c =
    let top = within c.requires.0 c.is_unfinished.ensures c.is_misframed.ensures c.if-is_unfinished.false c.if-is_misframed.false in
    omega (arith, top)

pub overflow_add-result-4 : goal.overflow_add-result-4
overflow_add-result-4 c =
    let top = within c.requires.0 c.is_unfinished.ensures c.is_misframed.ensures c.if-is_unfinished.false c.if-is_misframed.false in
    omega (arith, counts c.args.bytes.now c.args.walk top c.u16_at-length.ensures)

pub returns : goal.returns
returns c =
    let one-record = c.one_record-stand.ensures in (
      went c.requires.0 c.is_unfinished.ensures c.is_misframed.ensures c.if-is_unfinished.false c.if-is_misframed.false _ _ _
          c.u16_at-length.ensures one-record.0,
      one-record.1,
    )
