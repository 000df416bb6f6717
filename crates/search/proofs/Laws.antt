-- The search's rules, one turn at a time.
use Prim.Native.Nat.{ℕ, suc, ◌+◌, ◌-◌, ◌≤◌}
use mathlib.Core.Path.{◌≡◌, refl, sym, ◌∙◌}
use mathlib.Core.Bool.{Bool, true, false, ◌&&◌}
use mathlib.Core.List.{List}
use Rattle.std.specs.Prelude.{Option, Some, None}
use Rattle.rules.specs.declared.Best.{Best}
use native.Mathlib.Numerals.{add-one}
use native.Mathlib.Decide.{le_ind}
use lib.Dec.{eqb, ltb}
use Rattle.rules.specs.declared.Pick.{Pick}
use Rattle.rules.specs.Limits.{records_most, none}
use Rattle.rules.specs.Tables.{bucket_at, shelf_at}
use Rattle.rules.specs.Chains.{next, chain}
use Rattle.rules.specs.Search.{skipped, takes, pick_in, best_of, least_waste, is_over, considered, searched}
use Rattle.laws.proofs.Chains.Links.{ChainStep, chain_end}

-- ---- one chain

module _ (b : List ℕ) (w waste best : ℕ) where
  pub pick_end : (i : ℕ) → i ≡ none → pick_in b w waste best (chain b i) ≡ Pick.Nothing
  unfolding pick_in
  pick_end i e = rw (chain_end b i e) refl

  pub pick_pass : {i : ℕ} → ChainStep b records_most i → takes w (bucket_at b i) ≡ false
      → pick_in b w waste best (chain b (next b i)) ≡ pick_in b w waste best (chain b i)
  unfolding pick_in
  pick_pass s t = rw s.turn (simp t)

  module _ {i : ℕ} (s : ChainStep b records_most i) (t : takes w (bucket_at b i) ≡ true) where
    pub pick_exact : (eqb waste 0 && eqb (bucket_at b i).free w) ≡ true → Pick.Exact i ≡ pick_in b w waste best (chain b i)
    unfolding pick_in
    pick_exact e = rw s.turn (simp (t, e))

    pub pick_first : (eqb waste 0 && eqb (bucket_at b i).free w) ≡ false → ltb waste best ≡ true → Pick.First i ≡ pick_in b w waste best (chain b i)
    unfolding pick_in
    pick_first e l = rw s.turn (simp (t, e, l))

    pub pick_on : (eqb waste 0 && eqb (bucket_at b i).free w) ≡ false → ltb waste best ≡ false
        → pick_in b w waste best (chain b (next b i)) ≡ pick_in b w waste best (chain b i)
    unfolding pick_in
    pick_on e l = rw s.turn (simp (t, e, l))

-- ---- all shelves

-- the best of which the loop keeps the waste beside shelf and bucket: no exact fit
abbrev pub best_at : ℕ → Option (ℕ × ℕ) → Option Best
best_at waste None = None
best_at waste (Some p) = Some (record { waste = waste; shelf = p.0; bucket = p.1; exact = false })

pub goes_on : (waste : ℕ) (found : Option (ℕ × ℕ)) → is_over (best_at waste found) ≡ false
goes_on waste None = refl
goes_on waste (Some p) = refl

module _ (w h : ℕ) (add : Bool) (s b : List ℕ) where
  pub passed_over : (k : ℕ) → is_over (searched w h add s b k) ≡ false → skipped w h add (least_waste (searched w h add s b k)) (shelf_at s k) ≡ true
      → searched w h add s b k ≡ searched w h add s b (k + 1)
  unfolding searched considered
  passed_over k o e = rw (add-one k) (simp (o, e))

  pub looked_at : (k : ℕ) → is_over (searched w h add s b k) ≡ false → skipped w h add (least_waste (searched w h add s b k)) (shelf_at s k) ≡ false
      → (p : Pick) → pick_in b w ((shelf_at s k).height - h) (least_waste (searched w h add s b k)) (chain b (shelf_at s k).first) ≡ p
      → best_of p ((shelf_at s k).height - h) k (searched w h add s b k) ≡ searched w h add s b (k + 1)
  unfolding searched considered
  looked_at k o e p q = rw (add-one k) (simp (o, e, q))

  stays_one : (k : ℕ) → is_over (searched w h add s b k) ≡ true → searched w h add s b (suc k) ≡ searched w h add s b k
  unfolding searched
  stays_one k e = simp e

  pub exact_stays : (k n : ℕ) → k ≤ n → is_over (searched w h add s b k) ≡ true → searched w h add s b k ≡ searched w h add s b n
  exact_stays k n l e = le_ind (λ (m : ℕ). searched w h add s b k ≡ searched w h add s b m) refl
      (λ m _ q. q ∙ sym (stays_one m (rw q at e))) n l
