-- A record's line is at most 7 times as long as the record.
use Rattle.rules.specs.declared.Head.{Head}
use Prim.Native.Nat.{ℕ, ◌+◌, ◌*◌, ◌≤◌}
use mathlib.Core.Path.{◌≡◌, ap, ◌∙◌}
use mathlib.Core.Bool.{Bool, true, false}
use mathlib.Core.List.{List, ◌++◌}
use native.Mathlib.Omega.{arith}
use native.Mathlib.Decide.{ℕ_discrete}
use borrow.Author.Tests.{ne_eqb}
use lib.Dec.{eqb}
use lib.ListN.{length, get_or, length-append}
use Rattle.std.specs.Prelude.{if◌then◌else◌, Ok, Err, Result, ⊤}
use Rattle.rules.specs.declared.Allocation.{Allocation}
use Rattle.rules.specs.declared.Refusal.{Refusal}
use Rattle.rules.specs.Calls as calls
use Rattle.rules.specs.Listed as listed
use Rattle.rules.specs.Text.{bytes}
use Rattle.rules.specs.Answers.{number}
use Rattle.rules.specs.Trace.{u32_at, i32_at, decimal, spaced, newline, refused_line, stop_line, alloc_line, space_line, Bench, lying, Turn}
use Rattle.rules.specs.Trace.{after_new, reply_line, placing_line, report_line, length_of, call_turn, record_turn}
use Rattle.rules.specs.Trace.{new_turn, allocate_turn, deallocate_turn, clear_turn, grow_turn, report_turn}
use Rattle.laws.proofs.Numbers.Decimal.{decimal_length}

-- ---- lengths of lines

refused_short : (r : Refusal) → length (refused_line r) ≤ 19
refused_short r = omega (arith, length-append (decimal (number r)) newline, decimal_length (number r))

-- a word's end, two numbers and the newline
two_short : (m n : ℕ) → length (decimal m ++ spaced n ++ newline) ≤ 22
two_short m n =
    omega (arith, length-append (decimal m ++ spaced n) newline, length-append (decimal m) (spaced n), decimal_length m, decimal_length n)

pub stop_short : (r : Refusal) (n : ℕ) → length (stop_line r n) ≤ 27
stop_short r n = omega (arith, two_short (number r) n)

space_short : (m n : ℕ) → length (space_line m n) ≤ 28
space_short m n = omega (arith, two_short m n)

-- five numbers
five_short : (i x y z w : ℕ) → length (decimal i ++ spaced x ++ spaced y ++ spaced z ++ spaced w ++ newline) ≤ 55
five_short i x y z w =
    omega (
      arith,
      length-append (decimal i ++ spaced x ++ spaced y ++ spaced z ++ spaced w) newline,
      length-append (decimal i ++ spaced x ++ spaced y ++ spaced z) (spaced w),
      length-append (decimal i ++ spaced x ++ spaced y) (spaced z),
      length-append (decimal i ++ spaced x) (spaced y),
      length-append (decimal i) (spaced x),
      decimal_length i,
      decimal_length x,
      decimal_length y,
      decimal_length z,
      decimal_length w,
    )

alloc_short : (a : Allocation) → length (alloc_line a) ≤ 61
alloc_short a = omega (arith, five_short a.id a.rectangle.left a.rectangle.top a.rectangle.right a.rectangle.bottom)

new_short : (m : Result Head Refusal) (t : Bench) → length (after_new m t).line ≤ 19
new_short (Ok h) t = omega arith
new_short (Err r) t = refused_short r

reply_short : (line : List ℕ) (r : Result ⊤ Refusal) → length line ≤ 19 → length (reply_line line r) ≤ 19
reply_short line (Ok tt) h = h
reply_short line (Err r) h = refused_short r

placing_short : (p : Result Allocation Refusal) → length (placing_line p) ≤ 61
placing_short (Ok a) = alloc_short a
placing_short (Err r) = omega (arith, refused_short r)

report_short : (o f : Result ℕ Refusal) → length (report_line o f) ≤ 28
report_short (Ok m) (Ok n) = space_short m n
report_short (Ok m) (Err r) = omega (arith, refused_short r)
report_short (Err r) f = omega (arith, refused_short r)

-- ---- a record's line is at most 7 times as long as the record

short_if : (c : Bool) (x y : Turn) {n : ℕ} → length x.line ≤ n → length y.line ≤ n → length (if c then x else y).line ≤ n
short_if true x y p q = p
short_if false x y p q = q

call_short : (kind : ℕ) (p : List ℕ) (t : Bench) → length p + 2 ≡ length_of kind → length (call_turn kind p t).line ≤ 28 + 7 * length p
unfolding length_of call_turn allocate_turn deallocate_turn clear_turn grow_turn report_turn
call_short kind p t long = elim (ℕ_discrete kind 2) [
  | yes e ↦
      let l : length p + 2 ≡ 10 = long ∙ ap length_of e in
      rw e (omega (arith, placing_short (listed.allocate (i32_at p 0) (i32_at p 4) (lying t)).answer))
  | no n ↦
      simp (ne_eqb kind 2 n) (
      let id : Result ⊤ Refusal = (listed.deallocate (u32_at p 0) (lying t)).answer in
      let cleared : Result ⊤ Refusal = (listed.clear (lying t)).answer in
      let grown : Result ⊤ Refusal = (listed.grow (i32_at p 0) (i32_at p 4) (lying t)).answer in
      short_if (eqb kind 3) _ _ (omega (arith, reply_short (bytes "dealloc ok\n") id (omega arith)))
      (short_if (eqb kind 4) _ _ (omega (arith, reply_short (bytes "clear ok\n") cleared (omega arith)))
      (short_if (eqb kind 5) _ _ (omega (arith, reply_short (bytes "grow ok\n") grown (omega arith)))
      (omega (arith, report_short (listed.allocated_space (lying t)) (listed.free_space_of (lying t)))))))
]

pub record_short : (kind : ℕ) (p : List ℕ) (t : Bench) → length p + 2 ≡ length_of kind → length (record_turn kind p t).line ≤ 28 + 7 * length p
unfolding record_turn new_turn
record_short kind p t long =
    let m : Result Head Refusal =
    calls.new (i32_at p 0) (i32_at p 4) (i32_at p 8) (i32_at p 12) (i32_at p 16) (get_or p 20 0) t.state.shelves t.state.buckets in
    short_if (eqb kind 1) _ _ (omega (arith, new_short m t))
    (short_if t.made _ _ (call_short kind p t long) (omega (arith, refused_short Refusal.NoAtlas)))
