-- What a turn writes, and what it needs.
use Rattle.rules.specs.declared.Head.{Head}
use Rattle.std.specs.Prelude.{ℕ, ◌+◌, ◌*◌, ◌≤◌, ◌≡◌, List, length, Ok, Err, Result}
use Rattle.rules.specs.declared.Allocation.{Allocation}
use Rattle.rules.specs.declared.Refusal.{Refusal}
use Rattle.rules.specs.Tables.{atlas}
use Rattle.rules.specs.Listed.{holding}
use Rattle.rules.specs.Trace.{Bench, bench, Turn, length_of}
use Rattle.lines.specs.Put.{Put}
use Rattle.verdicts.specs.Next.{Tested}
use Rattle.turns.specs.declared.Stand.{Stand}

-- the bench of the rules, over the two lent tables and the list
abbrev pub bench_of : Stand → List ℕ → List ℕ → List Allocation → Bench
bench_of stand shelves buckets list = bench stand.made (holding (atlas stand.head shelves buckets) list)

-- the refusal of an answer that is one
abbrev pub refusal_of : {A : Type 0} → Result A Refusal → Refusal
refusal_of (Ok a) = Refusal.NoPlace
refusal_of (Err r) = r

-- what the tests say after a new, by its answer: "where nothing is referenced, no entry is"
abbrev pub anew : Result Head Refusal → Result ℕ Refusal → Result ℕ Refusal
anew (Ok head) verdict = Ok 0
anew (Err r) verdict = verdict

-- the verdict where the replay stands is that of the tests on tables and list
abbrev pub TestedAt : Stand → List ℕ → List ℕ → List Allocation → Type 0
TestedAt stand shelves buckets list = Tested stand.verdict stand.head shelves buckets list

-- a turn's line stands in the buffer from `at` on, and `stand` is where the replay stands behind it
pub record Wrote (before after : List ℕ) (at : ℕ) (stand : Stand) (shelves buckets : List ℕ) (list : List Allocation) (t : Turn) : Type 0 where
  pub put : Put before after at stand.at t.line
  pub bench : bench_of stand shelves buckets list ≡ t.after

-- a payload as long as its kind says was handed on, and there is room for the record's line
pub record Handed (kind at : ℕ) (payload out : List ℕ) : Type 0 where
  pub long : length payload + 2 ≡ length_of kind
  pub room : at + 28 + 7 * length payload ≤ length out
