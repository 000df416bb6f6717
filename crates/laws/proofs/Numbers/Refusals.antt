-- Refusal numbers: none is 0, which is acceptance.
use Prim.Native.Nat.{◌≤◌}
use native.Mathlib.Omega.{arith}
use Rattle.rules.specs.declared.Refusal.{Refusal}
use Rattle.rules.specs.Answers.{number}

pub number_some : (r : Refusal) → 1 ≤ number r
number_some Refusal.Tables = omega arith
number_some Refusal.Side = omega arith
number_some Refusal.Options = omega arith
number_some Refusal.Small = omega arith
number_some Refusal.Large = omega arith
number_some Refusal.NoPlace = omega arith
number_some Refusal.Filler = omega arith
number_some Refusal.Items = omega arith
number_some Refusal.Unknown = omega arith
number_some Refusal.Stale = omega arith
number_some Refusal.Unheld = omega arith
number_some Refusal.Shrink = omega arith
number_some Refusal.NoAtlas = omega arith
number_some Refusal.Malformed = omega arith
number_some Refusal.Long = omega arith
number_some Refusal.Broken = omega arith
number_some Refusal.Version = omega arith
number_some Refusal.Buffer = omega arith
number_some Refusal.Full = omega arith
number_some Refusal.NotHeld = omega arith
number_some Refusal.List = omega arith
number_some Refusal.Wide = omega arith
number_some Refusal.Tall = omega arith
number_some Refusal.Output = omega arith
