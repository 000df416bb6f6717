-- What a replay does: stop 14, 13 before an atlas is made, the call that a record is, and numbers in and out.
use Rattle.std.specs.Prelude.{ℕ, zero, suc, ◌+◌, ◌*◌, ◌≤◌, ◌<◌, true, false, ◌≡◌, ◌≢◌, List, [], ◌∷◌, ◌++◌, negsuc, length, get_or, Ok, Err, Result}
use Rattle.rules.specs.declared.Head.{Head}
use Rattle.rules.specs.declared.Refusal.{Refusal}
use Rattle.rules.specs.Tables.{atlas}
use Rattle.rules.specs.Text.{bytes}
use Rattle.rules.specs.Answers.{number}
use Rattle.rules.specs.Calls.{new}
use Rattle.rules.specs.Listed.{holding, clear, grow}
use Rattle.rules.specs.Trace.{u16_at, u32_at, i32_at, decimal, newline, Bench, bench, lying, turn, record_turn, replay}

-- ---- stops

-- `stop_14`, of a trace that starts with what is no whole record: the stop alone, and the bench as it was
abbrev pub StopsAtOnce : List ℕ → Bench → Type 0
StopsAtOnce trace t = 0 < length trace → replay trace t ≡ turn (bytes "stop 14 0\n") t

-- "an unknown kind, a wrong length or a cut record"; "6 report, 2"
abbrev pub UnknownStops : Type 0
UnknownStops = (trace : List ℕ) (t : Bench) → 6 < u16_at trace 2 → StopsAtOnce trace t

abbrev pub LengthStops : Type 0
LengthStops = (trace : List ℕ) (t : Bench) → u16_at trace 2 ≡ 6 → u16_at trace 0 ≢ 2 → StopsAtOnce trace t

abbrev pub CutStops : Type 0
CutStops = (trace : List ℕ) (t : Bench) → length trace < 2 + u16_at trace 0 → StopsAtOnce trace t

-- `never_15`
abbrev pub NeverFifteen : Type 0
NeverFifteen = (trace : List ℕ) (t : Bench) (more : List ℕ) → (replay trace t).line ≢ bytes "stop 15 " ++ more

-- ---- records

-- a report, which needs no payload
abbrev pub report : List ℕ
report = 2 ∷ 0 ∷ 6 ∷ 0 ∷ []

-- `no_atlas_13`, of a report
abbrev pub ReportThirteen : Type 0
ReportThirteen = (rest : List ℕ) (t : Bench)
    → (t.made ≡ false → (more : List ℕ) × ((replay (report ++ rest) t).line ≡ bytes "refused 13\n" ++ more))
    × ((more : List ℕ) → (replay (report ++ rest) t).line ≡ bytes "refused 13\n" ++ more → t.made ≡ false)

abbrev pub times : ℕ → List ℕ → List ℕ
times zero xs = []
times (suc n) xs = xs ++ times n xs

-- `replay_ends`, of reports
abbrev pub EveryReport : Type 0
EveryReport = (n : ℕ) (t : Bench) → 4 * n ≤ 4294967295 → t.made ≡ false → (replay (times n report) t).line ≡ times n (bytes "refused 13\n")

-- the new of a payload, over the tables of the bench
abbrev pub new_of : List ℕ → Bench → Result Head Refusal
new_of p t = new (i32_at p 0) (i32_at p 4) (i32_at p 8) (i32_at p 12) (i32_at p 16) (get_or p 20 0) t.state.shelves t.state.buckets

-- `new_keeps`
abbrev pub NewKept : Type 0
NewKept = (p : List ℕ) (t : Bench) (r : Refusal) → new_of p t ≡ Err r
    → record_turn 1 p t ≡ turn (bytes "refused " ++ decimal (number r) ++ newline) t

abbrev pub NewTaken : Type 0
NewTaken = (p : List ℕ) (t : Bench) (head : Head) → new_of p t ≡ Ok head
    → record_turn 1 p t ≡ turn (bytes "new ok\n") (bench true (holding (atlas head t.state.shelves t.state.buckets) t.list))

-- `record_turn_law`, of a clear and of a grow
abbrev pub ClearDone : Type 0
ClearDone = (p : List ℕ) (t : Bench) → t.made ≡ true → lying (record_turn 4 p t).after ≡ (clear (lying t)).left

abbrev pub GrowDone : Type 0
GrowDone = (p : List ℕ) (t : Bench) → t.made ≡ true → lying (record_turn 5 p t).after ≡ (grow (i32_at p 0) (i32_at p 4) (lying t)).left

-- ---- numbers

-- `decimal_10`
abbrev pub DecimalReads : Type 0
DecimalReads = (m n : ℕ) → m < 10000000000 → n < 10000000000 → decimal m ≡ decimal n → m ≡ n

abbrev pub DecimalLeads : Type 0
DecimalLeads = (n : ℕ) → n < 10000000000 → get_or (decimal n) 0 48 ≡ 48 → decimal n ≡ 48 ∷ []

-- `number_in`
abbrev pub LittleEndian : Type 0
LittleEndian = (p : List ℕ) (i : ℕ)
    → u32_at p i ≡ get_or p i 0 + 256 * get_or p (i + 1) 0 + 65536 * get_or p (i + 2) 0 + 16777216 * get_or p (i + 3) 0

abbrev pub Negative : Type 0
Negative = (p : List ℕ) (i : ℕ) → 2147483648 ≤ u32_at p i → u32_at p i < 4294967296 → (m : ℕ) × (i32_at p i ≡ negsuc m)
