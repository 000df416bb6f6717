-- A return with the list beside the tables, once it is known whether the id is in it.
use Rattle.std.specs.Prelude.{Bool, if◌then◌else◌, Ok, Err, Result, ⊤}
use Rattle.rules.specs.declared.Refusal.{Refusal}
use Rattle.rules.specs.Tables.{Atlas, Outcome, outcome}

-- "20 id not held, in return after 11": of the answer without the list, with the state after it and the one before
abbrev pub withheld : Bool → Result ⊤ Refusal → Atlas → Atlas → Outcome (Result ⊤ Refusal)
withheld held (Ok tt) after g = if held then outcome (Ok tt) after else outcome (Err Refusal.NotHeld) g
withheld held (Err r) after g = outcome (Err r) after
