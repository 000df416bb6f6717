-- `find_map` over a range from 0, by a call that answers h and changes nothing: the first answer that is there.
use Rattle.std.specs.Prelude.{Option, Some, None, MatchOption, IsSomeAnd, IsTrue}
use Rattle.std.specs.Option.{option_map, option_or}
use Rattle.std.specs.Fn.{Called}
use Rattle.std.specs.Iterator.Runs.{Run, SomeRun, CallKeepsClosure, AllItemsGive, IsFirstToGive}
use Rattle.std.proofs.iter.Yields.{nat_range_steps}
use Rattle.std.proofs.iter.runs.Sources.{range_runs}
use Rattle.std.specs.declared.ops.Range.{Range}
use denote.Param.Members.{Mut}
use Prim.Native.Nat.{ℕ, zero, suc, ◌+◌, ◌<◌}
use mathlib.Core.Path.{◌≡◌, refl, sym, ap, ◌∙◌}
use native.Mathlib.Decide.{ℕ_discrete}
use native.Mathlib.Omega.{arith}

same_map : {T : Type 0} (o : Option T) → option_map (λ y. y) o ≡ o
same_map None = refl
same_map (Some x) = refl

module _ {F B : Type 0} (g : Mut F (ℕ × Unit {0}) (Option B)) (f : F) (first h : ℕ → Option B) (begins : first 0 ≡ None)
    (more : (k : ℕ) → first (suc k) ≡ option_or (first k) (h k)) (keeps : CallKeepsClosure g f)
    (says : (x : ℕ) (r : Option B) → Called g f (x, tt) r f → r ≡ h x) where
  none_below : (n : ℕ) → ((k : ℕ) → k < n → None ≡ h k) → first n ≡ None
  none_below zero a = begins
  none_below (suc n) a = more n ∙ ap (λ o. option_or o (h n)) (none_below n (λ k l. a k (omega arith))) ∙ sym (a n (omega arith))

  stays : (y : B) (i n : ℕ) → i < n → first (suc i) ≡ Some y → first n ≡ Some y
  stays y i zero l e = absurd (omega arith)
  stays y i (suc n) l e = elim (ℕ_discrete i n) [
    | yes q ↦ rw q at e
    | no ne ↦ more n ∙ ap (λ o. option_or o (h n)) (stays y i n (omega arith) e)
  ]

  at_is : (p : Run nat_range_steps) → p.from.start ≡ 0 → (k : ℕ) → k < p.len → p.at k ≡ Some k
  at_is p e k l =
      let s : p.from.start + k ≡ k = omega (arith, e) in
      sym (same_map (p.at k)) ∙ (range_runs p p.seen).3 k l ∙ ap Some s

  told : {o : Option ℕ} {k : ℕ} {r : Option B} → IsSomeAnd o (λ x. Called g f (x, tt) r f) → o ≡ Some k → r ≡ h k
  told q e = says _ _ (rw e at q)

  pub first_found : (s : Range ℕ) (n : ℕ) → s ≡ record { start = 0; end = n } → (r : Option B)
      → SomeRun nat_range_steps s (λ p. MatchOption r (IsTrue p.whole × AllItemsGive p g f None)
      (λ y. (i : ℕ) × (i < p.len) × (p.len ≡ i + 1) × IsFirstToGive p g f (Some y) None i))
      → r ≡ first n
  first_found s n e None (p, from, q) =
      let start : p.from.start ≡ 0 = ap (λ (k : Range ℕ). k.start) (from ∙ e) in
      let end : p.from.end ≡ n = ap (λ (k : Range ℕ). k.end) (from ∙ e) in
      let long : p.len ≡ n = omega (arith, (range_runs p p.seen).1 q.0, start, end) in
      sym (none_below n (λ k l. says k None (rw (at_is p start k (omega arith)) at (q.1 keeps k))))
  first_found s n e (Some y) (p, from, q) =
      let start : p.from.start ≡ 0 = ap (λ (k : Range ℕ). k.start) (from ∙ e) in
      let end : p.from.end ≡ n = ap (λ (k : Range ℕ). k.end) (from ∙ e) in
      let i : ℕ = q.0 in
      let below : i < n = omega (arith, q.1, (range_runs p p.seen).0, start, end) in
      let none : first i ≡ None = none_below i (λ k l. told ((q.3 keeps).1 k l) (at_is p start k (omega (arith, q.1)))) in
      sym (stays y i n below (more i ∙ ap (λ o. option_or o (h i)) none ∙ sym (told (q.3 keeps).0 (at_is p start i q.1))))
