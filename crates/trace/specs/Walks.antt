-- A replay in the bytes at hand, record by record: what a record needs, where the replay is behind it, and behind all that start before a place.
use Rattle.std.specs.Prelude.{ℕ, zero, suc, ◌+◌, ◌-◌, ◌*◌, ◌≤◌, ◌<◌, ◌≡◌, Bool, true, false, List, [], ◌++◌, leb, length, drop, if◌then◌else◌}
use Rattle.rules.specs.declared.Allocation.{Allocation}
use Rattle.rules.specs.declared.Refusal.{Refusal}
use Rattle.rules.specs.Trace.{u16_at, length_of, stop_line, Bench, Turn, misframed, payload, record_turn}
use Rattle.rules.specs.Chunks.{unfinished}
use Rattle.lines.specs.Put.{Put}
use Rattle.turns.specs.Turns.{bench_of}
use Rattle.trace.specs.declared.walking.Walk.{Walk}

-- ---- what is needed

-- what is left starts with a whole record, and there is room for its line
pub record Whole (left : List ℕ) (at : ℕ) (out : List ℕ) : Type 0 where
  pub least : 2 ≤ u16_at left 0
  pub long : u16_at left 0 ≡ length_of (u16_at left 2)
  pub whole : 2 + u16_at left 0 ≤ length left
  pub room : at + 7 * (2 + u16_at left 0) ≤ length out

-- the lines are at most 7 times as long as the bytes that are left
pub record Room (bytes : List ℕ) (w : Walk) (out : List ℕ) : Type 0 where
  pub within : w.until ≤ length bytes
  pub room : w.stand.at + 7 * (length bytes - w.place) ≤ length out

pub record Unread (bytes : List ℕ) (w : Walk) (out : List ℕ) : Type 0 where
  pub inside : w.place < w.until
  pub roomy : Room bytes w out

-- ---- where the replay is

pub record Path : Type 0 where
  pub place : ℕ
  pub until : ℕ
  pub over : Bool
  pub offset : ℕ
  pub bench : Bench

abbrev pub path : ℕ → ℕ → Bool → ℕ → Bench → Path
path place until over offset t = record { place = place; until = until; over = over; offset = offset; bench = t }

-- over the two lent tables and the list
abbrev pub path_of : Walk → List ℕ → List ℕ → List Allocation → Path
path_of w shelves buckets list = path w.place w.until w.over w.offset (bench_of w.stand shelves buckets list)

-- lines, and where the replay is behind them
pub record Stretch : Type 0 where
  pub line : List ℕ
  pub path : Path

abbrev pub stepped : List ℕ → Path → Stretch
stepped line p = record { line = line; path = p }

-- the lines stand in the buffer from `at` on, and `w` is where the replay is
pub record Trod (before after : List ℕ) (at : ℕ) (w : Walk) (shelves buckets : List ℕ) (list : List Allocation) (x : Stretch) : Type 0 where
  pub put : Put before after at w.stand.at x.line
  pub path : path_of w shelves buckets list ≡ x.path

-- ---- record by record

abbrev pub stop_at : Path → Stretch
stop_at p = stepped (stop_line Refusal.Malformed p.offset) (path p.place p.place true p.offset p.bench)

abbrev pub wait_at : Path → Stretch
wait_at p = stepped [] (path p.place p.place false p.offset p.bench)

-- of the record that starts there
abbrev pub go_on : List ℕ → Path → Stretch
go_on left p =
    let now : Turn = record_turn (u16_at left 2) (payload left) p.bench in
    stepped now.line (path (p.place + 2 + u16_at left 0) p.until false (p.offset + 2 + u16_at left 0) now.after)

unfoldable pub step : List ℕ → Path → Stretch
step bytes p =
    if unfinished p.offset (drop p.place bytes) then wait_at p
    else if misframed p.offset (drop p.place bytes) then stop_at p
    else go_on (drop p.place bytes) p

-- those that start before `until`, at most d of them
unfoldable pub walked : ℕ → List ℕ → Path → Stretch
walked zero bytes p = stepped [] p
walked (suc d) bytes p =
    if leb p.until p.place then stepped [] p
    else (
    let now : Stretch = step bytes p in
    let rest : Stretch = walked d bytes now.path in
    stepped (now.line ++ rest.line) rest.path)
