-- A turn is what stands behind its call's answer, and the verdict where it stands is that of the tests on what the call left.
use Rattle.std.specs.Prelude.{Ok, Err, Result}
use Rattle.rules.specs.declared.Head.{Head}
use Rattle.rules.specs.declared.Refusal.{Refusal}
use Prim.Native.Nat.{ℕ}
use mathlib.Core.Path.{◌≡◌, sym, ap, ap₂, ◌∙◌, subst}
use mathlib.Core.List.{List}
use lib.IntN.{ℤ}
use Rattle.rules.specs.declared.Allocation.{Allocation}
use Rattle.rules.specs.Calls as calls
use Rattle.rules.specs.Listed.{Holding, verdict}
use Rattle.rules.specs.Trace.{Bench, lying, Turn, after_new}
use Rattle.verdicts.proofs.Next.{new_next}
use Rattle.turns.specs.declared.Stand.{Stand}
use Rattle.turns.specs.Turns.{bench_of, anew, Wrote, TestedAt}

module _ {before after : List ℕ} {at : ℕ} {stand : Stand} {s b : List ℕ} {l : List Allocation} where
  -- what was written for a turn was written for any that is the same
  pub turn_is : {t u : Turn} → t ≡ u → Wrote before after at stand s b l u → Wrote before after at stand s b l t
  turn_is e w = subst (λ (t : Turn). Wrote before after at stand s b l t) (sym e) w

  -- as by an answer that is the same
  pub turn_by : {A : Type 0} (f : A → Turn) {x y : A} → x ≡ y → Wrote before after at stand s b l (f y) → Wrote before after at stand s b l (f x)
  turn_by f e w = turn_is (ap f e) w

  -- tested is the bench that the turn leaves
  pub tested_by : {t : Turn} → Wrote before after at stand s b l t → stand.verdict ≡ verdict (lying t.after) → TestedAt stand s b l
  tested_by w e = e ∙ ap (λ (t : Bench). verdict (lying t)) (sym w.bench)

-- a call by an id, and one by two sides
pub id_by : {A : Type 0} (call : ℕ → Holding → A) {i j : ℕ} {l : Holding} {o : A} → o ≡ call i l → i ≡ j → call j l ≡ o
id_by call {l = l} e x = sym (e ∙ ap (λ (i : ℕ). call i l) x)

pub sides_by : {A : Type 0} (call : ℤ → ℤ → Holding → A) {w w' h h' : ℤ} {l : Holding} {o : A} → o ≡ call w h l → w ≡ w' → h ≡ h'
    → call w' h' l ≡ o
sides_by call {l = l} e x y = sym (e ∙ ap₂ (λ (w h : ℤ). call w h l) x y)

pub new_by : (t : Bench) {m n : (Result Head Refusal)} → m ≡ n → after_new n t ≡ after_new m t
new_by t e = sym (ap (λ (m : Result Head Refusal). after_new m t) e)

pub made_by : {m : (Result Head Refusal)} {w w' h h' x x' y y' n n' : ℤ} (v : ℕ) (s b : List ℕ) → m ≡ calls.new w h x y n v s b
    → w ≡ w' → h ≡ h' → x ≡ x' → y ≡ y' → n ≡ n' → m ≡ calls.new w' h' x' y' n' v s b
made_by v s b e i j k l o = cc

pub new_tested : (m : Result Head Refusal) (w h x y n : ℤ) (v : ℕ) (s b : List ℕ) → m ≡ calls.new w h x y n v s b → (stand : Stand) (l : List Allocation)
    → TestedAt stand s b l → anew m stand.verdict ≡ verdict (lying (after_new m (bench_of stand s b l)).after)
new_tested (Ok head) w h x y n v s b e stand l p = new_next w h x y n v s b head l (sym e)
new_tested (Err r) w h x y n v s b e stand l p = p
