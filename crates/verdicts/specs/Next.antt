-- The verdict of the tests on what is lent, and on what a call leaves, by its answer.
use Rattle.rules.specs.declared.Refusal.{Refusal}
use Rattle.std.specs.Prelude.{ℕ, ◌+◌, ◌-◌, ◌≤◌, ◌<◌, ◌≡◌, List, Ok, Err, Result, ⊤}
use Rattle.rules.specs.declared.Allocation.{Allocation}
use Rattle.rules.specs.declared.Head.{Head}
use Rattle.rules.specs.Tables.{atlas}
use Rattle.rules.specs.Listed.{holding, Ended, ended}
use Rattle.verdicts.specs.declared.Changed.{Changed}
use Rattle.verdicts.specs.declared.Placed.{Placed}
use Rattle.rules.specs.Listed as listed

-- the verdict is that of the tests on header, tables and list
abbrev pub Tested : Result ℕ Refusal → Head → List ℕ → List ℕ → List Allocation → Type 0
Tested verdict head shelves buckets list = verdict ≡ listed.verdict (holding (atlas head shelves buckets) list)

-- ---- what a call leaves, and the verdict on it: that on what was lent, where the call was refused

abbrev pub changed_by : Head → List ℕ → List ℕ → List Allocation → Result Changed Refusal → Ended (Result ⊤ Refusal)
changed_by head shelves buckets list (Ok k) = ended (Ok tt) (holding (atlas k.head shelves buckets) list)
changed_by head shelves buckets list (Err r) = ended (Err r) (holding (atlas head shelves buckets) list)

abbrev pub TestedChanged : Result ℕ Refusal → Head → List ℕ → List ℕ → List Allocation → Result Changed Refusal → Type 0
TestedChanged verdict head shelves buckets list (Ok k) = Tested (Ok k.count) k.head shelves buckets list
TestedChanged verdict head shelves buckets list (Err r) = Tested verdict head shelves buckets list

abbrev pub placed_by : Head → List ℕ → List ℕ → List Allocation → Result Placed Refusal → Ended (Result Allocation Refusal)
placed_by head shelves buckets list (Ok p) = ended (Ok p.allocation) (holding (atlas p.head shelves buckets) list)
placed_by head shelves buckets list (Err r) = ended (Err r) (holding (atlas head shelves buckets) list)

abbrev pub TestedPlaced : Result ℕ Refusal → Head → List ℕ → List ℕ → List Allocation → Result Placed Refusal → Type 0
TestedPlaced verdict head shelves buckets list (Ok p) = Tested (Ok p.count) p.head shelves buckets list
TestedPlaced verdict head shelves buckets list (Err r) = Tested verdict head shelves buckets list

-- ---- after a request

-- one entry more is a number of 32 bits
abbrev pub CountsOn : Result ℕ Refusal → Type 0
CountsOn verdict = (n : ℕ) → verdict ≡ Ok n → n + 1 < 4294967296

abbrev pub one_more : Result ℕ Refusal → Result Allocation Refusal → Result ℕ Refusal
one_more (Ok n) (Ok a) = Ok (n + 1)
one_more (Ok n) (Err r) = Ok n
one_more (Err q) placing = Err q

-- ---- after a return

abbrev pub one_less : Result ℕ Refusal → Result ⊤ Refusal → Result ℕ Refusal
one_less (Ok n) (Ok tt) = Ok (n - 1)
one_less (Ok n) (Err r) = Ok n
one_less (Err q) reply = Err q

-- ---- after a clear

abbrev pub none_left : Result ℕ Refusal → Result ⊤ Refusal → Result ℕ Refusal
none_left verdict (Ok tt) = Ok 0
none_left verdict (Err r) = verdict
