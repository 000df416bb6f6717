use mathlib.Core.Path.{sym, ◌∙◌}
use Rattle.filed.proofs.Whole.{short, cut, unheaded, flagged, recorded}
use Rattle.filed.proofs.is_file.Goals as goal

pub returns-then-file : goal.returns-then-file
returns-then-file c = short _ c.if-file.true

pub returns-then-file-shelves : goal.returns-then-file-shelves
returns-then-file-shelves c = cut (record { shelves = c.u16_at-shelves.ensures; buckets = c.u16_at-buckets.ensures }) c.if-file-shelves.true

pub returns-then-not-is_framed : goal.returns-then-not-is_framed
returns-then-not-is_framed c =
    unheaded (record { shelves = c.u16_at-shelves.ensures; buckets = c.u16_at-buckets.ensures })
    c.if-file-shelves.false (sym c.is_framed.ensures ∙ c.if-not-is_framed.true)

pub returns-then-file-eq0 : goal.returns-then-file-eq0
returns-then-file-eq0 c =
    c.are_records.ensures
    ∙ recorded (record { shelves = c.u16_at-shelves.ensures; buckets = c.u16_at-buckets.ensures })
    c.if-file-shelves.false (sym c.is_framed.ensures ∙ c.if-not-is_framed.false) c.if-file-eq0.true

pub returns-else-file-eq0 : goal.returns-else-file-eq0
returns-else-file-eq0 c =
    flagged (record { shelves = c.u16_at-shelves.ensures; buckets = c.u16_at-buckets.ensures })
    c.if-file-shelves.false (sym c.is_framed.ensures ∙ c.if-not-is_framed.false) c.if-file-eq0.false
