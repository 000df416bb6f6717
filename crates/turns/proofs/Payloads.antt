-- What a kind asks of its payload, and the turn that it is.
use Prim.Native.Nat.{ℕ, ◌+◌, ◌*◌, ◌≤◌}
use mathlib.Core.Path.{◌≡◌, refl, ap, ◌∙◌}
use mathlib.Core.Logic.{◌≢◌}
use mathlib.Core.Bool.{true, false}
use mathlib.Core.List.{List}
use native.Mathlib.Omega.{arith}
use borrow.Author.Tests.{ne_eqb}
use lib.ListN.{length}
use Rattle.rules.specs.declared.Refusal.{Refusal}
use Rattle.rules.specs.Trace.{refused_line, Bench, turn, length_of, call_turn, record_turn}
use Rattle.rules.specs.Trace.{new_turn, allocate_turn, deallocate_turn, clear_turn, grow_turn, report_turn}
use Rattle.turns.specs.Turns.{Handed}

-- the payload of kind k has n bytes, and its line at most `most`
pub fits : (k n most : ℕ) → length_of k ≡ n + 2 → most ≤ 28 + 7 * n → {kind at : ℕ} {payload out : List ℕ}
    → Handed kind at payload out → kind ≡ k → (n ≤ length payload) × (at + most ≤ length out)
fits k n most l m {payload = payload} f e =
    let h : length payload + 2 ≡ n + 2 = f.long ∙ ap length_of e ∙ l in
    (omega arith, omega arith)

module _ (kind : ℕ) (payload : List ℕ) (t : Bench) where
  pub call_allocate : kind ≡ 2 → call_turn kind payload t ≡ allocate_turn payload t
  unfolding call_turn
  call_allocate e = rw e refl

  pub call_deallocate : kind ≡ 3 → call_turn kind payload t ≡ deallocate_turn payload t
  unfolding call_turn
  call_deallocate e = rw e refl

  pub call_clear : kind ≡ 4 → call_turn kind payload t ≡ clear_turn t
  unfolding call_turn
  call_clear e = rw e refl

  pub call_grow : kind ≡ 5 → call_turn kind payload t ≡ grow_turn payload t
  unfolding call_turn
  call_grow e = rw e refl

  pub call_report : kind ≢ 2 → kind ≢ 3 → kind ≢ 4 → kind ≢ 5 → call_turn kind payload t ≡ report_turn t
  unfolding call_turn
  call_report n₂ n₃ n₄ n₅ = simp (ne_eqb kind 2 n₂, ne_eqb kind 3 n₃, ne_eqb kind 4 n₄, ne_eqb kind 5 n₅)

  pub record_new : kind ≡ 1 → record_turn kind payload t ≡ new_turn payload t
  unfolding record_turn
  record_new e = rw e refl

  pub record_call : kind ≢ 1 → t.made ≡ true → record_turn kind payload t ≡ call_turn kind payload t
  unfolding record_turn
  record_call n e = simp (ne_eqb kind 1 n, e)

  pub record_none : kind ≢ 1 → t.made ≡ false → record_turn kind payload t ≡ turn (refused_line Refusal.NoAtlas) t
  unfolding record_turn
  record_none n e = simp (ne_eqb kind 1 n, e)
