-- What a replay in chunks does: the whole trace's lines and tables, what is held over, when 14 is told, the last offset, and a buffer too short.
use Rattle.std.specs.Prelude.{ℕ, ◌+◌, ◌*◌, ◌≤◌, ◌<◌, true, false, ◌≡◌, List, [], ◌∷◌, ◌++◌, length}
use Rattle.rules.specs.declared.Allocation.{Allocation}
use Rattle.rules.specs.declared.Pause.{Pause}
use Rattle.rules.specs.Text.{bytes}
use Rattle.rules.specs.Answers.{lines_says}
use Rattle.rules.specs.Trace.{decimal, newline, Bench, replay}
use Rattle.rules.specs.Chunks.{Stream, stream, fed, feed, finish, started, joined, feeds, chunked, feed_into, finish_into}
use Rattle.claims.specs.Traces.{report}

-- `chunks_whole`
abbrev pub ChunksWhole : Type 0
ChunksWhole = (chunks : List (List ℕ)) (t : Bench) → chunked chunks (started t) ≡ replay (joined chunks) t

-- `held_over`
abbrev pub HeldLess : Type 0
HeldLess = (chunks : List (List ℕ)) (t : Bench) → length (feeds chunks (started t)).after.held ≤ 24

-- `cut_waits`, `cut_told`, of what is shorter than a length and a kind
abbrev pub CutAtEnd : Type 0
CutAtEnd = (chunk : List ℕ) (t : Bench) → 0 < length chunk → length chunk < 4
    → ((feed chunk (started t)).line ≡ []) × (finish (feed chunk (started t)).after ≡ bytes "stop 14 0\n")

-- `over_silent`
abbrev pub OverStill : Type 0
OverStill = (chunk : List ℕ) (s : Stream) → s.over ≡ true → (feed chunk s ≡ fed [] s) × (finish s ≡ [])

-- "Offsets count to 4,294,967,295; a record that would end past that is 14", of a report, which has 4 bytes
abbrev pub UpToOffset : Type 0
UpToOffset = (offset : ℕ) (t : Bench) → offset ≤ 4294967291 → t.made ≡ false
    → feed report (stream false offset [] t) ≡ fed (bytes "refused 13\n") (stream false (offset + 4) [] t)

abbrev pub PastOffset : Type 0
PastOffset = (offset : ℕ) (t : Bench) → 4294967291 < offset
    → feed report (stream false offset [] t) ≡ fed (bytes "stop 14 " ++ decimal offset ++ newline) (stream true offset [] t)

-- `feed_into_law`, `finish_into_law`
abbrev pub BufferShort : Type 0
BufferShort = (chunk out : List ℕ) (p : Pause) (shelves buckets : List ℕ) (list : List Allocation) → length out < 7 * (p.count + length chunk)
    → (lines_says (feed_into chunk out p shelves buckets list).lines ≡ 1 ∷ []) × ((feed_into chunk out p shelves buckets list).out ≡ out)
    × ((feed_into chunk out p shelves buckets list).pause ≡ p)

abbrev pub EndShort : Type 0
EndShort = (out : List ℕ) (p : Pause) → length out < 27 → (lines_says (finish_into out p).lines ≡ 1 ∷ []) × ((finish_into out p).out ≡ out)
