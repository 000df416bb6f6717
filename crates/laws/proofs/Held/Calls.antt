-- A call with the list, from the verdict of the tests: what is known where it says that the list fits, and what each call comes to by it. v is
-- what the tests said of g and the list; what a call past them leaves is told as an outcome o, with the list beside it.
use Rattle.std.specs.Prelude.{Ok, Err, Result, ⊤}
use Prim.Native.Nat.{ℕ}
use mathlib.Core.Path.{◌≡◌, refl, sym, ap, ◌∙◌}
use mathlib.Core.List.{List}
use lib.Dec.{eqb}
use lib.IntN.{ℤ}
use Rattle.rules.specs.declared.Allocation.{Allocation}
use Rattle.rules.specs.declared.Refusal.{Refusal}
use Rattle.rules.specs.Tables.{Atlas, Outcome, outcome}
use Rattle.rules.specs.Builds.{present}
use Rattle.rules.specs.Sound.{is_sound}
use Rattle.rules.specs.Grow.{cleared, free_space}
use Rattle.rules.specs.Calls.{natural, grow_to}
use Rattle.rules.specs.Calls as calls
use Rattle.rules.specs.Held.{entries, fits}
use Rattle.rules.specs.Listed.{Holding, holding, verdict, judged, tested, refusing, beside}
use Rattle.rules.specs.Listed as listed
use Rattle.laws.proofs.Tests.Flags.{split}
use Rattle.laws.proofs.Sound.Test.{sound_test}
use Rattle.laws.proofs.Held.Test.{fits_test}
use Rattle.laws.proofs.Held.Ways.{Passing}
use Rattle.laws.proofs.Results.{ok_one, err_not_ok}

-- ---- what the verdict tells

-- the tests passed, and n entries were counted
pub record Judging (n : ℕ) (l : Holding) : Type 0 where
  pub passing : Passing present l
  pub count : n ≡ entries l.state

pub passed : {v : (Result ℕ Refusal)} (l : Holding) → v ≡ verdict l → (n : ℕ) → v ≡ Ok n → Judging n l
unfolding listed.verdict_by
passed l e n f = told (sym e ∙ f)
  where
    told : verdict l ≡ Ok n → Judging n l
    told =
        split (is_sound l.state) (λ s.
        split (fits l.state l.list)
        (λ t. simp (s, t) (λ q. record {
          passing = record { sound = (sound_test l.state).0 s; fits = (fits_test l.state l.list).0 t };
          count = ok_one q;
        }))
        (λ t. simp (s, t) err_not_ok))
        (λ s. simp s err_not_ok)

-- ---- what a call comes to

-- said of a list that fits: f n, which is a
pub judged_is : {A : Type 0} (refuse : Refusal → A) (f : ℕ → A) (a : A) (l : Holding) (v : Result ℕ Refusal) → v ≡ verdict l
    → ((n : ℕ) → Judging n l → f n ≡ a) → judged refuse f v ≡ tested refuse a l
judged_is refuse f a l (Ok n) e same = same n (passed l e n refl) ∙ ap (judged refuse (λ n. a)) e
judged_is refuse f a l (Err r) e same = ap (judged refuse (λ n. a)) e

-- the same of what is left
judged_of : {A B : Type 0} (h : A → B) (refuse : Refusal → A) (f : ℕ → A) (v : Result ℕ Refusal)
    → h (judged refuse f v) ≡ judged (λ q. h (refuse q)) (λ n. h (f n)) v
judged_of h refuse f (Ok n) = refl
judged_of h refuse f (Err r) = refl

-- with the list as it was
beside_is : (f : ℕ → Outcome (Result ⊤ Refusal)) (c : Outcome (Result ⊤ Refusal)) (g : Atlas) (list : List Allocation) (v : Result ℕ Refusal)
    {o : Outcome (Result ⊤ Refusal)}
    → v ≡ verdict (holding g list) → o ≡ judged (λ q. outcome (Err q) g) f v → ((n : ℕ) → Judging n (holding g list) → f n ≡ c)
    → beside o list ≡ tested (refusing Err (holding g list)) (beside c list) (holding g list)
beside_is f c g list v e q same =
    ap (λ (o : Outcome (Result ⊤ Refusal)). beside o list) q ∙ judged_of (λ (o : Outcome (Result ⊤ Refusal)). beside o list) _ f v
    ∙ judged_is _ (λ n. beside (f n) list) _ (holding g list) v e (λ n p. ap (λ (o : Outcome (Result ⊤ Refusal)). beside o list) (same n p))

module _ (g : Atlas) (list : List Allocation) (v : Result ℕ Refusal) (e : v ≡ verdict (holding g list)) where
  -- ---- clear, grow

  pub clear_is : {o : Outcome (Result ⊤ Refusal)} → o ≡ judged (λ q. outcome (Err q) g) (λ n. outcome (Ok tt) (cleared g)) v
      → beside o list ≡ listed.clear (holding g list)
  unfolding listed.clear_by calls.clear_by
  clear_is q = beside_is _ (calls.clear g) g list v e q (λ n p. simp ((sound_test g).1 p.passing.sound))

  pub grow_is : (w h : ℤ) {o : Outcome (Result ⊤ Refusal)} → o ≡ judged (λ q. outcome (Err q) g) (λ n. grow_to (natural w) (natural h) g) v
      → beside o list ≡ listed.grow w h (holding g list)
  unfolding listed.grow_by calls.grow_by
  grow_is w h q = beside_is _ (calls.grow w h g) g list v e q (λ n p. simp ((sound_test g).1 p.passing.sound))

  -- ---- the four reading calls

  pub size_is : judged Err (λ n. Ok (g.head.width, g.head.height)) v ≡ listed.size (holding g list)
  unfolding listed.size calls.size
  size_is = judged_is _ _ (calls.size g) (holding g list) v e (λ n p. simp ((sound_test g).1 p.passing.sound))

  pub empty_is : judged Err (λ n. Ok (eqb g.head.shelf_count 0)) v ≡ listed.is_empty (holding g list)
  unfolding listed.is_empty calls.is_empty
  empty_is = judged_is _ _ (calls.is_empty g) (holding g list) v e (λ n p. simp ((sound_test g).1 p.passing.sound))

  pub allocated_is : judged Err (λ n. Ok g.head.occupied) v ≡ listed.allocated_space (holding g list)
  unfolding listed.allocated_space calls.allocated_space
  allocated_is = judged_is _ _ (calls.allocated_space g) (holding g list) v e (λ n p. simp ((sound_test g).1 p.passing.sound))

  pub free_is : judged Err (λ n. Ok (free_space g.head)) v ≡ listed.free_space_of (holding g list)
  unfolding listed.free_space_of calls.free_space_of
  free_is = judged_is _ _ (calls.free_space_of g) (holding g list) v e (λ n p. simp ((sound_test g).1 p.passing.sound))
