-- What a call of the code leaves, as an outcome of the rules. The header goes in and comes back by value: a refusal leaves the one that went in.
use Rattle.std.specs.Prelude.{ℕ, List, Ok, Err, Result, ⊤}
use Rattle.rules.specs.declared.Head.{Head}
use Rattle.rules.specs.declared.Allocation.{Allocation}
use Rattle.rules.specs.declared.Issued.{Issued}
use Rattle.rules.specs.declared.Refusal.{Refusal}
use Rattle.rules.specs.Tables.{atlas, Outcome, outcome}

-- the tables are those after the call
abbrev pub left_by : Head → List ℕ → List ℕ → Result Head Refusal → Outcome (Result ⊤ Refusal)
left_by head shelves buckets (Ok after) = outcome (Ok tt) (atlas after shelves buckets)
left_by head shelves buckets (Err r) = outcome (Err r) (atlas head shelves buckets)

abbrev pub issued_by : Head → List ℕ → List ℕ → Result Issued Refusal → Outcome (Result Allocation Refusal)
issued_by head shelves buckets (Ok i) = outcome (Ok i.allocation) (atlas i.head shelves buckets)
issued_by head shelves buckets (Err r) = outcome (Err r) (atlas head shelves buckets)
