-- The whole trace record by record: nothing is left, what is left stops the replay, or it starts with a whole record, whatever fuel there is enough of.
use Prim.Native.Nat.{ℕ, zero, suc, ◌+◌, ◌≤◌, ◌<◌}
use mathlib.Core.Bool.{true, false}
use mathlib.Core.Path.{◌≡◌, refl, sym, ap, ◌∙◌}
use mathlib.Core.List.{List, [], ◌++◌}
use native.Mathlib.Omega.{arith}
use native.Mathlib.Decide.{ℕ_discrete}
use borrow.Author.Tests.{eq-eqb, ne_eqb}
use lib.ListN.{length, length-drop}
use Rattle.rules.specs.declared.Refusal.{Refusal}
use Rattle.rules.specs.Trace.{u16_at, stop_line, Bench, Turn, turn, malformed, replay_from}
use Rattle.laws.proofs.Tests.Flags.{split}
use Rattle.laws.proofs.Trace.Feeding.{here, behind}

-- lines in front of those of a turn
abbrev pub before : List ℕ → Turn → Turn
before line x = turn (line ++ x.line) x.after

none_left : (d offset : ℕ) (left : List ℕ) (t : Bench) → length left ≡ 0 → replay_from d offset left t ≡ turn [] t
unfolding replay_from
none_left zero offset left t e = refl
none_left (suc d) offset left t e = simp (eq-eqb (length left) 0 e)

stops : (d offset : ℕ) (left : List ℕ) (t : Bench) → 0 < length left → malformed offset left ≡ true
    → replay_from (suc d) offset left t ≡ turn (stop_line Refusal.Malformed offset) t
unfolding replay_from
stops d offset left t some m = simp (ne_eqb (length left) 0 (λ e. omega arith), m)

goes : (d offset : ℕ) (left : List ℕ) (t : Bench) → 0 < length left → malformed offset left ≡ false
    → replay_from (suc d) offset left t
    ≡ before (here left t).line (replay_from d (offset + 2 + u16_at left 0) (behind left) (here left t).after)
unfolding replay_from
goes d offset left t some m = simp (ne_eqb (length left) 0 (λ e. omega arith), m)

fuel : (d e offset : ℕ) (left : List ℕ) (t : Bench) → length left ≤ d → length left ≤ e → replay_from d offset left t ≡ replay_from e offset left t
fuel zero e offset left t h k =
    let z : length left ≡ 0 = omega arith in
    none_left zero offset left t z ∙ sym (none_left e offset left t z)
fuel (suc d) zero offset left t h k =
    let z : length left ≡ 0 = omega arith in
    none_left (suc d) offset left t z ∙ sym (none_left zero offset left t z)
fuel (suc d) (suc e) offset left t h k = elim (ℕ_discrete (length left) 0) [
  | yes z ↦ none_left (suc d) offset left t z ∙ sym (none_left (suc e) offset left t z)
  | no n ↦
      let some : 0 < length left = omega arith in
      split (malformed offset left)
      (λ m. stops d offset left t some m ∙ sym (stops e offset left t some m))
      (λ m.
      goes d offset left t some m
      ∙ ap (before (here left t).line) (fuel d e (offset + 2 + u16_at left 0) (behind left) (here left t).after
      (omega (arith, length-drop (2 + u16_at left 0) left)) (omega (arith, length-drop (2 + u16_at left 0) left)))
      ∙ sym (goes e offset left t some m))
]

-- with a turn for each byte
abbrev pub replaying : ℕ → List ℕ → Bench → Turn
replaying offset left t = replay_from (length left) offset left t

pub replaying_stops : (offset : ℕ) (left : List ℕ) (t : Bench) → 0 < length left → malformed offset left ≡ true
    → replaying offset left t ≡ turn (stop_line Refusal.Malformed offset) t
replaying_stops offset left t some m =
    fuel (length left) (suc (length left)) offset left t (omega arith) (omega arith) ∙ stops (length left) offset left t some m

pub replaying_goes : (offset : ℕ) (left : List ℕ) (t : Bench) → 0 < length left → malformed offset left ≡ false
    → replaying offset left t ≡ before (here left t).line (replaying (offset + 2 + u16_at left 0) (behind left) (here left t).after)
replaying_goes offset left t some m =
    fuel (length left) (suc (length left)) offset left t (omega arith) (omega arith) ∙ goes (length left) offset left t some m
    ∙ ap (before (here left t).line)
    (fuel (length left) (length (behind left)) (offset + 2 + u16_at left 0) (behind left) (here left t).after
    (omega (arith, length-drop (2 + u16_at left 0) left)) (omega arith))
