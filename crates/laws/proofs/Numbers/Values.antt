-- A constant table of a rule: the list of its values at 0, 1, 2 .., and that each entry is the rule's.
use Prim.Native.Nat.{ℕ, zero, suc, ◌+◌, ◌<◌}
use mathlib.Core.Path.{◌≡◌, sym, ap, ◌∙◌}
use mathlib.Core.List.{List, [], ◌∷◌}
use native.Mathlib.Nat.{add-zero, zero-add, add-suc, suc-add, le_of_suc-le-suc, not-suc-le-zero}
use lib.ListN.{get_or}

-- n values of f, that at i first
unfoldable pub values_from : (ℕ → ℕ) → ℕ → ℕ → List ℕ
values_from f i zero = []
values_from f i (suc n) = f i ∷ values_from f (suc i) n

entry_from : (f : ℕ → ℕ) (n i k : ℕ) → k < n → get_or (values_from f i n) k 0 ≡ f (i + k)
unfolding values_from
entry_from f zero i k h = absurd (not-suc-le-zero h)
entry_from f (suc n) i zero h = ap f (sym (add-zero i))
entry_from f (suc n) i (suc k) h = entry_from f n (suc i) k (le_of_suc-le-suc h) ∙ ap f (suc-add i k ∙ sym (add-suc i k))

-- a table that is the rule's first n values, which is computed once over the whole of it, has the rule's value at each place
pub tabled_at : (f : ℕ → ℕ) (n : ℕ) (table : List ℕ) → table ≡ values_from f 0 n → (k : ℕ) → k < n → get_or table k 0 ≡ f k
tabled_at f n table agrees k h = ap (λ (t : List ℕ). get_or t k 0) agrees ∙ entry_from f n 0 k h ∙ ap f (zero-add k)
