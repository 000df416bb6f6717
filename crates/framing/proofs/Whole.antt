-- What came of a record: the tests of it in order; and what a whole record is known by, and its payload.
use Prim.Native.Nat.{ℕ, ◌+◌, ◌-◌, ◌≤◌}
use mathlib.Core.Path.{◌≡◌, ap}
use mathlib.Core.Bool.{false}
use mathlib.Core.List.{List}
use native.Mathlib.Omega.{arith}
use lib.ListN.{length, drop, take, length-drop}
use lib.Seq.{length-take-le}
use Rattle.rules.specs.Trace.{u16_at, length_of, misframed, payload}
use Rattle.rules.specs.Chunks.{unfinished}
use Rattle.laws.proofs.Trace.Came.{WellFramed, framed, Settled, settled}
use Rattle.framing.proofs.Numbers.{length_least}

pub record Well (left : List ℕ) : Type 0 where
  pub head : 4 ≤ length left
  pub least : 2 ≤ u16_at left 0
  pub long : u16_at left 0 ≡ length_of (u16_at left 2)
  pub whole : 2 + u16_at left 0 ≤ length left

pub well : (offset : ℕ) (left : List ℕ) → unfinished offset left ≡ false → misframed offset left ≡ false → Well left
well offset left u m =
    let r : Settled offset left = settled offset left u in
    let f : WellFramed offset left = framed offset left m in
    record { head = r.head; least = rw f.long (length_least (u16_at left 2) f.known); long = f.long; whole = r.whole m }

-- the payload is the part from byte 4 to the record's end
pub payload_is : (left : List ℕ) → Well left → take (2 + u16_at left 0 - 4) (drop 4 left) ≡ payload left
payload_is left w = let e : 2 + u16_at left 0 - 4 ≡ u16_at left 0 - 2 = omega (arith, w.least) in ap (λ (n : ℕ). take n (drop 4 left)) e

pub payload_length : (left : List ℕ) → Well left → length (payload left) + 2 ≡ u16_at left 0
payload_length left w =
    omega (arith, length-take-le (u16_at left 0 - 2) (drop 4 left) (rw length-drop (omega (arith, w.whole))), w.least)
