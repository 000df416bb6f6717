-- A chunk behind what is held over: the bytes of both, what a feed needs, and where the replay is behind it.
use Rattle.rules.specs.declared.Refusal.{Refusal}
use Rattle.std.specs.Prelude.{ℕ, ◌+◌, ◌*◌, ◌≤◌, ◌≡◌, false, true, List, [], ◌++◌, length, take, drop, if◌then◌else◌, Result}
use Rattle.rules.specs.declared.Allocation.{Allocation}
use Rattle.rules.specs.declared.Pause.{Pause}
use Rattle.rules.specs.Limits.{held_most}
use Rattle.rules.specs.Chunks.{Stream, stream, Fed}
use Rattle.lines.specs.Put.{Put}
use Rattle.turns.specs.Turns.{bench_of}
use Rattle.trace.specs.declared.walking.Walk.{Walk}

-- what is held over, and the chunk
abbrev pub all_of : Pause → List ℕ → List ℕ
all_of p chunk = take p.count p.held ++ chunk

-- the same replay at another place
abbrev pub moved_to : Walk → ℕ → ℕ → Walk
moved_to w place until = record { place = place; until = until; over = w.over; offset = w.offset; stand = w.stand }

-- where the replay goes on
abbrev pub opened_of : Pause → Result ℕ Refusal → Walk
opened_of p verdict = record {
  place = 0;
  until = p.count;
  over = false;
  offset = p.offset;
  stand = record { at = 0; made = p.made; head = p.head; verdict = verdict };
}

-- a pause that a feed left, no stop told, and room for the lines
pub record Fit (p : Pause) (chunk out : List ℕ) : Type 0 where
  pub few : p.count ≤ held_most
  pub going : p.over ≡ false
  pub room : 7 * (p.count + length chunk) ≤ length out

-- the replay behind the records; place is the place of what is left among all the bytes
abbrev pub stream_of : Walk → List ℕ → List ℕ → List ℕ → List Allocation → Stream
stream_of w all shelves buckets list =
    if w.over then stream true w.offset [] (bench_of w.stand shelves buckets list)
    else stream false w.offset (drop w.place all) (bench_of w.stand shelves buckets list)

-- no more is left than is ever held over
pub record LeftFew (p : Pause) (chunk : List ℕ) (w : Walk) : Type 0 where
  pub held : p.count ≤ held_most
  pub within : w.place ≤ length (all_of p chunk)
  pub few : w.over ≡ false → length (all_of p chunk) ≤ w.place + held_most

pub record Behind (before after all : List ℕ) (w : Walk) (shelves buckets : List ℕ) (list : List Allocation) (f : Fed) : Type 0 where
  pub put : Put before after 0 w.stand.at f.line
  pub leaves : stream_of w all shelves buckets list ≡ f.after
  -- what is left is held over
  pub within : w.place ≤ length all
  pub few : w.over ≡ false → length all ≤ w.place + held_most
