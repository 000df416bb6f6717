-- Trace replay: records in, lines out. Bytes are numbers below 256; what follows a record's length is its kind and its payload.
use Rattle.std.specs.Prelude.{ℕ, zero, suc, ◌+◌, ◌-◌, Bool, true, false, ◌||◌, not, List, [], ◌∷◌, ◌++◌, eqb, ltb, length, get_or, take, drop, if◌then◌else◌, Ok, Err, Result, ⊤}
use Rattle.rules.specs.declared.Head.{Head}
use Rattle.rules.specs.declared.Allocation.{Allocation}
use Rattle.rules.specs.declared.Refusal.{Refusal}
use Rattle.rules.specs.Limits.{offset_most, none}
use Rattle.rules.specs.Tables.{Atlas, atlas}
use Rattle.rules.specs.Text.{bytes}
pub use Rattle.rules.specs.Text.{newline}
unfoldable pub use Rattle.rules.specs.Text.{digits, decimal}
pub use Rattle.rules.specs.Numbers.{u16_at, u32_at, i32_at}
unfoldable pub use Rattle.rules.specs.Numbers.{signed}
use Rattle.rules.specs.Answers.{number}
use Rattle.rules.specs.Calls as calls
use Rattle.rules.specs.Listed.{Holding, holding, Ended}
use Rattle.rules.specs.Listed as listed

-- ---- lines out

-- a space, and a number
abbrev pub spaced : ℕ → List ℕ
spaced n = 32 ∷ decimal n

-- `refused N`
abbrev pub refused_line : Refusal → List ℕ
refused_line r = bytes "refused" ++ spaced (number r) ++ newline

-- `stop N OFFSET`
abbrev pub stop_line : Refusal → ℕ → List ℕ
stop_line r offset = bytes "stop" ++ spaced (number r) ++ spaced offset ++ newline

-- `alloc ID LEFT TOP RIGHT BOTTOM`
abbrev pub alloc_line : Allocation → List ℕ
alloc_line a =
    bytes "alloc" ++ spaced a.id ++ spaced a.rectangle.left ++ spaced a.rectangle.top ++ spaced a.rectangle.right
    ++ spaced a.rectangle.bottom ++ newline

-- `space OCCUPIED FREE`
abbrev pub space_line : ℕ → ℕ → List ℕ
space_line occupied free = bytes "space" ++ spaced occupied ++ spaced free ++ newline

-- ---- the bench: an atlas once one is made, the tables lent to it, and from T-02 on the list

pub record Bench : Type 0 where
  pub made : Bool
  pub state : Atlas
  pub list : List Allocation

abbrev pub bench : Bool → Holding → Bench
bench made l = record { made = made; state = l.state; list = l.list }

abbrev pub lying : Bench → Holding
lying t = holding t.state t.list

-- what a record writes, and the bench after it
pub record Turn : Type 0 where
  pub line : List ℕ
  pub after : Bench

abbrev pub turn : List ℕ → Bench → Turn
turn line after = record { line = line; after = after }

-- "A refused new keeps the old atlas"
abbrev pub after_new : Result Head Refusal → Bench → Turn
after_new (Ok head) t = turn (bytes "new ok\n") (bench true (holding (atlas head t.state.shelves t.state.buckets) t.list))
after_new (Err r) t = turn (refused_line r) t

abbrev pub reply_line : List ℕ → Result ⊤ Refusal → List ℕ
reply_line line (Ok tt) = line
reply_line line (Err r) = refused_line r

abbrev pub after_reply : List ℕ → Ended (Result ⊤ Refusal) → Turn
after_reply line o = turn (reply_line line o.answer) (bench true o.left)

abbrev pub placing_line : Result Allocation Refusal → List ℕ
placing_line (Ok a) = alloc_line a
placing_line (Err r) = refused_line r

abbrev pub after_placing : Ended (Result Allocation Refusal) → Turn
after_placing o = turn (placing_line o.answer) (bench true o.left)

abbrev pub report_line : Result ℕ Refusal → Result ℕ Refusal → List ℕ
report_line (Ok occupied) (Ok free) = space_line occupied free
report_line (Ok occupied) (Err r) = refused_line r
report_line (Err r) free = refused_line r

-- "1 new (width, height, two alignments, columns, all i32 here and below, vertical as a byte), 23"
unfoldable pub new_turn : List ℕ → Bench → Turn
new_turn p t =
    after_new (calls.new (i32_at p 0) (i32_at p 4) (i32_at p 8) (i32_at p 12) (i32_at p 16) (get_or p 20 0) t.state.shelves t.state.buckets) t

-- "2 allocate (width, height), 10"
unfoldable pub allocate_turn : List ℕ → Bench → Turn
allocate_turn p t = after_placing (listed.allocate (i32_at p 0) (i32_at p 4) (lying t))

-- "3 deallocate (u32 id), 6"
unfoldable pub deallocate_turn : List ℕ → Bench → Turn
deallocate_turn p t = after_reply (bytes "dealloc ok\n") (listed.deallocate (u32_at p 0) (lying t))

-- "4 clear, 2"
unfoldable pub clear_turn : Bench → Turn
clear_turn t = after_reply (bytes "clear ok\n") (listed.clear (lying t))

-- "5 grow (width, height), 10"
unfoldable pub grow_turn : List ℕ → Bench → Turn
grow_turn p t = after_reply (bytes "grow ok\n") (listed.grow (i32_at p 0) (i32_at p 4) (lying t))

-- "6 report, 2"
unfoldable pub report_turn : Bench → Turn
report_turn t = turn (report_line (listed.allocated_space (lying t)) (listed.free_space_of (lying t))) t

-- the length that a kind has; 0 for an unknown kind
unfoldable pub length_of : ℕ → ℕ
length_of kind =
    if eqb kind 1 then 23 else if eqb kind 2 then 10 else if eqb kind 3 then 6 else if eqb kind 4 then 2
    else if eqb kind 5 then 10 else if eqb kind 6 then 2 else 0

-- a call on the atlas that was made
unfoldable pub call_turn : ℕ → List ℕ → Bench → Turn
call_turn kind p t =
    if eqb kind 2 then allocate_turn p t else if eqb kind 3 then deallocate_turn p t else if eqb kind 4 then clear_turn t
    else if eqb kind 5 then grow_turn p t else report_turn t

-- "any other well-formed record before an accepted new gives 13"
unfoldable pub record_turn : ℕ → List ℕ → Bench → Turn
record_turn kind p t =
    if eqb kind 1 then new_turn p t
    else if t.made then call_turn kind p t
    else turn (refused_line Refusal.NoAtlas) t

-- ---- the trace

-- "A record is a u16 length (of what follows it), a u16 kind, a payload"; "an unknown kind, a wrong length", and T-05: "Offsets count to
-- 4,294,967,295; a record that would end past that is 14": what the first four bytes tell of the record at an offset
unfoldable pub misframed : ℕ → List ℕ → Bool
misframed offset left =
    eqb (length_of (u16_at left 2)) 0 || not (eqb (u16_at left 0) (length_of (u16_at left 2))) || ltb offset_most (offset + 2 + u16_at left 0)

-- "or a cut record": what is left of the trace, at its start, is no whole record
unfoldable pub malformed : ℕ → List ℕ → Bool
malformed offset left = ltb (length left) 4 || misframed offset left || ltb (length left) (2 + u16_at left 0)

-- "the payload is handed on as the part starting at byte 4"
abbrev pub payload : List ℕ → List ℕ
payload left = take (u16_at left 0 - 2) (drop 4 left)

-- the lines of the records that are left from offset on, at most d of them, and the bench after the last; "14 writes `stop 14 ` and the
-- record's offset and ends"
unfoldable pub replay_from : ℕ → ℕ → List ℕ → Bench → Turn
replay_from zero offset left t = turn [] t
replay_from (suc d) offset left t =
    if eqb (length left) 0 then turn [] t
    else if malformed offset left then turn (stop_line Refusal.Malformed offset) t
    else (
    let now : Turn = record_turn (u16_at left 2) (payload left) t in
    let rest : Turn = replay_from d (offset + 2 + u16_at left 0) (drop (2 + u16_at left 0) left) now.after in
    turn (now.line ++ rest.line) rest.after)

-- the whole trace, of whatever length (T-05: "15 is not given any more"). "An empty trace writes nothing."
unfoldable pub replay : List ℕ → Bench → Turn
replay trace t = replay_from (length trace) 0 trace t

-- ---- where a replay starts

-- no call is made on this header: no atlas has been made
abbrev pub blank_head : Head
blank_head = record {
  width = 0;
  height = 0;
  align_width = 0;
  align_height = 0;
  columns = 0;
  column_width = 0;
  column = 0;
  room = 0;
  shelf_count = 0;
  bucket_count = 0;
  released = none;
  occupied = 0;
}

abbrev pub unmade : List ℕ → List ℕ → List Allocation → Bench
unmade shelves buckets list = bench false (holding (atlas blank_head shelves buckets) list)
