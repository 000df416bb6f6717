-- Whether an answer is a rectangle.
use Rattle.rules.specs.declared.Allocation.{Allocation}
use Rattle.rules.specs.declared.Refusal.{Refusal}
use Rattle.std.specs.Prelude.{Bool, true, false, Ok, Err, Result}

abbrev pub is_placed : Result Allocation Refusal → Bool
is_placed (Ok a) = true
is_placed (Err r) = false
