-- T-05, day-long traces: "Take it in whatever chunks come, records split across them too, holding over at most one unfinished record." The whole
-- records of what was held over and of the chunk are answered, and what is left is held over; the end of input tells what a cut record gives.
-- "Output, offsets and final tables are those of the trace read whole": `chunks_whole` (promises/proofs/Chunks.antt), by `replay` of Trace.antt.
use Rattle.std.specs.Prelude.{ℕ, zero, suc, ◌+◌, ◌-◌, ◌*◌, Bool, true, false, ◌&&◌, ◌||◌, not, List, [], ◌∷◌, ◌++◌, eqb, ltb, length, take, drop, replicate, if◌then◌else◌, Ok, Err, Result}
use Rattle.std.proofs.lemmas.List.Edits.{sets}
use Rattle.rules.specs.declared.Allocation.{Allocation}
use Rattle.rules.specs.declared.Pause.{Pause}
use Rattle.rules.specs.declared.Refusal.{Refusal}
use Rattle.rules.specs.Limits.{held_most, stop_most}
use Rattle.rules.specs.Tables.{atlas}
use Rattle.rules.specs.Listed.{holding}
use Rattle.rules.specs.Trace.{u16_at, stop_line, Bench, bench, Turn, turn, record_turn, misframed, payload, blank_head}

-- a replay between two chunks: whether a stop was told, where the next record starts, the bytes of it that came, and the bench
pub record Stream : Type 0 where
  pub over : Bool
  pub offset : ℕ
  pub held : List ℕ
  pub bench : Bench

abbrev pub stream : Bool → ℕ → List ℕ → Bench → Stream
stream over offset held t = record { over = over; offset = offset; held = held; bench = t }

-- the lines of a chunk, and the replay behind it
pub record Fed : Type 0 where
  pub line : List ℕ
  pub after : Stream

abbrev pub fed : List ℕ → Stream → Fed
fed line after = record { line = line; after = after }

-- what came of a record is not the whole of it, and may still become one
unfoldable pub unfinished : ℕ → List ℕ → Bool
unfinished offset left = ltb (length left) 4 || (not (misframed offset left) && ltb (length left) (2 + u16_at left 0))

-- the whole records that are there, at most d of them, and what is held over; "14 .. ends"
unfoldable pub feed_from : ℕ → ℕ → List ℕ → Bench → Fed
feed_from zero offset left t = fed [] (stream false offset left t)
feed_from (suc d) offset left t =
    if unfinished offset left then fed [] (stream false offset left t)
    else if misframed offset left then fed (stop_line Refusal.Malformed offset) (stream true offset [] t)
    else (
    let now : Turn = record_turn (u16_at left 2) (payload left) t in
    let rest : Fed = feed_from d (offset + 2 + u16_at left 0) (drop (2 + u16_at left 0) left) now.after in
    fed (now.line ++ rest.line) rest.after)

-- a chunk, of any length
unfoldable pub feed : List ℕ → Stream → Fed
feed chunk s =
    if s.over then fed [] s else feed_from (length (s.held ++ chunk)) s.offset (s.held ++ chunk) s.bench

-- "An end of input inside a record is 14 at that record's offset, told only at the end.": of what is held over
unfoldable pub cut_line : Bool → ℕ → List ℕ → List ℕ
cut_line over offset held = if over || eqb (length held) 0 then [] else stop_line Refusal.Malformed offset

abbrev pub finish : Stream → List ℕ
finish s = cut_line s.over s.offset s.held

-- before the first chunk
abbrev pub started : Bench → Stream
started t = stream false 0 [] t

-- ---- chunk after chunk, and the end

-- the bytes of the chunks, one behind the other
abbrev pub joined : List (List ℕ) → List ℕ
joined [] = []
joined (chunk ∷ chunks) = chunk ++ joined chunks

abbrev pub feeds : List (List ℕ) → Stream → Fed
feeds [] s = fed [] s
feeds (chunk ∷ chunks) s =
    let now : Fed = feed chunk s in
    let rest : Fed = feeds chunks now.after in
    fed (now.line ++ rest.line) rest.after

-- all the lines, and the bench after the last
abbrev pub chunked : List (List ℕ) → Stream → Turn
chunked chunks s =
    let all : Fed = feeds chunks s in
    turn (all.line ++ finish all.after) all.after.bench

-- ---- into a lent buffer, and the replay by value

-- before the first chunk
abbrev pub unfed : Pause
unfed = record { over = false; made = false; offset = 0; count = 0; held = replicate held_most 0; head = blank_head }

-- the replay that a pause is, over the lent tables and the list
abbrev pub resumed : Pause → List ℕ → List ℕ → List Allocation → Stream
resumed p shelves buckets list =
    stream p.over p.offset (take p.count p.held) (bench p.made (holding (atlas p.head shelves buckets) list))

-- behind the bytes that are held over stand zeros
abbrev pub paused : Stream → Pause
paused s = record {
  over = s.over;
  made = s.bench.made;
  offset = s.offset;
  count = length s.held;
  held = s.held ++ replicate (held_most - length s.held) 0;
  head = s.bench.state.head;
}

-- what was written, the buffer, the pause, and the tables and the list that are lent
pub record Pushed : Type 0 where
  pub lines : Result ℕ Refusal
  pub out : List ℕ
  pub pause : Pause
  pub shelves : List ℕ
  pub buckets : List ℕ
  pub list : List Allocation

abbrev pub pushed : Result ℕ Refusal → List ℕ → Pause → List ℕ → List ℕ → List Allocation → Pushed
pushed lines out p shelves buckets list =
    record { lines = lines; out = out; pause = p; shelves = shelves; buckets = buckets; list = list }

-- the lines stand from the buffer's start on, and what is behind them is as it was
abbrev pub pushed_fed : List ℕ → Fed → Pushed
pushed_fed out f =
    pushed (Ok (length f.line)) (sets out 0 f.line) (paused f.after)
    f.after.bench.state.shelves f.after.bench.state.buckets f.after.bench.list

-- "1: lent room too short": where the buffer might not hold every line, and where a pause holds over more than is ever held over, nothing is done;
-- nor behind a stop
unfoldable pub feed_into : List ℕ → List ℕ → Pause → List ℕ → List ℕ → List Allocation → Pushed
feed_into chunk out p shelves buckets list =
    if ltb held_most p.count || ltb (length out) (7 * (p.count + length chunk))
    then pushed (Err Refusal.Tables) out p shelves buckets list
    else if p.over then pushed (Ok 0) out p shelves buckets list
    else pushed_fed out (feed chunk (resumed p shelves buckets list))

-- what the end writes, and the buffer
pub record Ending : Type 0 where
  pub lines : Result ℕ Refusal
  pub out : List ℕ

abbrev pub ending : Result ℕ Refusal → List ℕ → Ending
ending lines out = record { lines = lines; out = out }

unfoldable pub finish_into : List ℕ → Pause → Ending
finish_into out p =
    if ltb held_most p.count || ltb (length out) stop_most then ending (Err Refusal.Tables) out
    else (
    let line : List ℕ = cut_line p.over p.offset (take p.count p.held) in
    ending (Ok (length line)) (sets out 0 line))
