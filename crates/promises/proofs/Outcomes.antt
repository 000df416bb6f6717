-- Each call has one outcome: whatever answer, header, tables and list meet its statement are the same, a replay's lines too. And a refusal of a
-- call without the list leaves the state as it was; ListedOutcomes has the calls with it.
use Rattle.std.specs.Prelude.{Ok, Err}
use Prim.Native.Nat.{ℕ}
use mathlib.Core.Path.{◌≡◌, refl, sym, ap, ◌∙◌}
use mathlib.Core.List.{List}
use lib.IntN.{ℤ}
use Rattle.rules.specs.declared.Head.{Head}
use Rattle.rules.specs.declared.Refusal.{Refusal}
use Rattle.rules.specs.declared.Allocation.{Allocation}
use Rattle.rules.specs.Tables.{Atlas, atlas, Outcome, outcome}
use Rattle.rules.specs.Builds.{present}
use Rattle.rules.specs.Calls.{clear, grow, allocate, issue_first, deallocate}
use Rattle.rules.specs.Listed.{holding, Ended, ended}
use Rattle.laws.proofs.Calls.Ways.{clear_ways, grow_ways, deallocate_ways, allocate_ways, place_ways}
use Rattle.laws.proofs.Results.{err_not_ok}

-- ---- one outcome

-- The statement of new, of the reading calls and of the tables test is an equation of the answer with a rule.
pub one_answer : {A : Type 0} (rule a a' : A) → a ≡ rule → a' ≡ rule → a ≡ a'
one_answer rule a a' p q = p ∙ sym q

-- That of clear, grow, allocate and deallocate is one of answer, header, tables and list.
pub record Same {A : Type 0} (a a' : A) (h h' : Head) (s s' b b' : List ℕ) (x x' : List Allocation) : Type 0 where
  pub answer : a ≡ a'
  pub head : h ≡ h'
  pub shelves : s ≡ s'
  pub buckets : b ≡ b'
  pub list : x ≡ x'

pub one_outcome : {A : Type 0} (rule : Ended A) (a a' : A) (h h' : Head) (s s' b b' : List ℕ) (x x' : List Allocation)
    → ended a (holding (atlas h s b) x) ≡ rule → ended a' (holding (atlas h' s' b') x') ≡ rule → Same a a' h h' s s' b b' x x'
one_outcome rule a a' h h' s s' b b' x x' p q =
    let e : ended a (holding (atlas h s b) x) ≡ ended a' (holding (atlas h' s' b') x') = one_answer rule _ _ p q in
    record {
      answer = ap (λ (o : Ended _). o.answer) e;
      head = ap (λ (o : Ended _). o.left.state.head) e;
      shelves = ap (λ (o : Ended _). o.left.state.shelves) e;
      buckets = ap (λ (o : Ended _). o.left.state.buckets) e;
      list = ap (λ (o : Ended _). o.left.list) e;
    }

-- ---- refusals change nothing

-- the state is g where the answer is one of these refusals
pub record Unchanged {A : Type 0} (refusal : Refusal → A) (g : Atlas) (o : Outcome A) : Type 0 where
  pub same : (r : Refusal) → o.answer ≡ refusal r → o.state ≡ g

refused : {A : Type 0} {refusal : Refusal → A} (g : Atlas) (r : Refusal) → Unchanged refusal g (outcome (refusal r) g)
refused g r = record { same = λ r' e. refl }

accepted : {B : Type 0} (g g' : Atlas) (x : B) → Unchanged Err g (outcome (Ok x) g')
accepted g g' x = record { same = λ r e. err_not_ok (sym e) }

pub clear_refused : (g : Atlas) → Unchanged Err g (clear g)
clear_refused g = clear_ways present (Unchanged Err g) g (refused g) (λ e. accepted g _ _)

pub grow_refused : (w h : ℤ) (g : Atlas) → Unchanged Err g (grow w h g)
grow_refused w h g = grow_ways present (Unchanged Err g) w h g (refused g) (λ e. accepted g _ _)

pub deallocate_refused : (id : ℕ) (g : Atlas) → Unchanged Err g (deallocate id g)
deallocate_refused id g = deallocate_ways present (Unchanged Err g) id g (refused g) (λ e. accepted g _ _)

pub allocate_refused : (w h : ℤ) (g : Atlas) → Unchanged Err g (allocate w h g)
unfolding issue_first
allocate_refused w h g =
    allocate_ways present (Unchanged Err g) w h g (refused g) (λ e.
    place_ways present (Unchanged Err g) _ _ g (refused g) (λ best f. accepted g _ _) (λ f k. accepted g _ _) (λ f run k z. accepted g _ _))
