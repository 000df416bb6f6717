-- The test of a file's records: one by its two numbers, so many of them one after another, and the shelves, the buckets and the end in turn.
use Prim.Native.Nat.{ℕ, zero, suc, ◌+◌, ◌<◌}
use mathlib.Core.Path.{◌≡◌, refl, sym}
use mathlib.Core.Logic.{◌≢◌}
use mathlib.Core.Bool.{Bool, true, false, ◌&&◌}
use mathlib.Core.List.{List}
use native.Mathlib.Omega.{arith}
use native.Mathlib.Decide.{ℕ_discrete}
use borrow.Author.Tests.{eq-eqb, ne_eqb}
use lib.Dec.{eqb}
use Rattle.rules.specs.Trace.{u16_at}
use Rattle.rules.specs.Sound.{all_to}
use Rattle.rules.specs.Files.{is_framed}

-- ---- one record

pub framed_kind : (file : List ℕ) (at size kind : ℕ) → u16_at file at ≡ size → eqb (u16_at file (at + 2)) kind ≡ is_framed file at size kind
unfolding is_framed
framed_kind file at size kind e = simp (eq-eqb (u16_at file at) size e)

pub framed_not : (file : List ℕ) (at size kind : ℕ) → u16_at file at ≢ size → eqb (u16_at file at) size ≡ is_framed file at size kind
unfolding is_framed
framed_not file at size kind n = simp (ne_eqb (u16_at file at) size n)

-- ---- so many, one behind another

-- one that fails is enough
and_false : (b : Bool) → (b && false) ≡ false
and_false true = refl
and_false false = refl

pub all_false : (n : ℕ) (p : ℕ → Bool) (i : ℕ) → i < n → p i ≡ false → false ≡ all_to n p
all_false zero p i h e = absurd (omega arith)
all_false (suc n) p i h e = elim (ℕ_discrete i n) [
  | yes q ↦ let z : p n ≡ false = rw (sym q) e in sym (rw z (and_false (all_to n p)))
  | no d ↦ let z : all_to n p ≡ false = sym (all_false n p i (omega arith) e) in rw z refl
]
