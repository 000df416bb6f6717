-- Numbers of a trace: the length of a kind, and a signed number that is handed on.
use Prim.Native.Nat.{ℕ, ◌<◌, ◌≤◌, ◌^◌}
use mathlib.Core.Path.{◌≡◌, refl, ◌∙◌}
use mathlib.Core.Logic.{◌≢◌}
use mathlib.Core.Bool.{Bool, true, false}
use native.Mathlib.Omega.{arith}
use mir.Syntax.{w32}
use mir.Val.{hbits, to_z, of_z}
use mir.Facts.{to_z-of_z}
use lib.Dec.{eqb}
use lib.IntN.{ℤ}
use lib.Signed.{mag}
use Rattle.std.specs.Prelude.{if◌then◌else◌}
use Rattle.rules.specs.Trace.{length_of}
use Rattle.framing.specs.declared.kind.RecordKind.{RecordKind}
use Rattle.framing.specs.Kinds.{number_of}

-- a signed number that was handed on
pub through : {z y : ℤ} → z ≡ y → mag z < 2 ^ hbits w32 → to_z w32 (of_z w32 z) ≡ y
through e f = to_z-of_z {w = w32} (record { sfits = f }) ∙ e

-- a kind has a length
pub known : (kind : RecordKind) → length_of (number_of kind) ≢ 0
unfolding length_of
known RecordKind.New = omega arith
known RecordKind.Allocate = omega arith
known RecordKind.Deallocate = omega arith
known RecordKind.Clear = omega arith
known RecordKind.Grow = omega arith
known RecordKind.Report = omega arith

-- no kind's length is below 2
long_if : (c : Bool) (a b : ℕ) → 2 ≤ a → (b ≢ 0 → 2 ≤ b) → (if c then a else b) ≢ 0 → 2 ≤ (if c then a else b)
long_if true a b h f n = h
long_if false a b h f n = f n

pub length_least : (kind : ℕ) → length_of kind ≢ 0 → 2 ≤ length_of kind
unfolding length_of
length_least kind =
    long_if (eqb kind 1) 23 _ (omega arith) (long_if (eqb kind 2) 10 _ (omega arith) (long_if (eqb kind 3) 6 _ (omega arith)
    (long_if (eqb kind 4) 2 _ (omega arith) (long_if (eqb kind 5) 10 _ (omega arith)
    (long_if (eqb kind 6) 2 0 (omega arith) (λ n. absurd (n refl)))))))
