-- The kinds of records, each with document 01's number of it.
use Rattle.std.specs.Prelude.{ℕ, ◌≡◌, Ok, Err, Result}
use Rattle.rules.specs.declared.Refusal.{Refusal}
use Rattle.rules.specs.Trace.{length_of}
use Rattle.framing.specs.declared.kind.RecordKind.{RecordKind}

-- "1 new .., 2 allocate .., 3 deallocate .., 4 clear, 2; 5 grow .., 6 report"
abbrev pub number_of : RecordKind → ℕ
number_of RecordKind.New = 1
number_of RecordKind.Allocate = 2
number_of RecordKind.Deallocate = 3
number_of RecordKind.Clear = 4
number_of RecordKind.Grow = 5
number_of RecordKind.Report = 6

-- what reading a number as a kind gives: the kind of that number, or 14 where no kind has it
abbrev pub Read : ℕ → Result RecordKind Refusal → Type 0
Read n (Ok kind) = number_of kind ≡ n
Read n (Err refusal) = (refusal ≡ Refusal.Malformed) × (length_of n ≡ 0)
