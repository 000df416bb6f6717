-- A run of stores from an index, `sets` of `lib.Seq`: what stands in it, and what stands outside it, below or above.
-- Shared by both tables.
use Prim.Native.Nat.{ℕ, zero, suc, ◌+◌, ◌≤◌, ◌<◌}
use mathlib.Core.Path.{◌≡◌, refl, ◌∙◌}
use mathlib.Core.Logic.{◌⊎◌, ⊎_elim}
use mathlib.Core.List.{List, [], ◌∷◌}
use native.Mathlib.Nat.{add-zero}
use native.Mathlib.Omega.{arith}
use lib.ListN.{length, get_or, set, length-set}
use lib.Seq.{sets, get_or-set_same, get_or-set_other}

sets_below : (vs l : List ℕ) (i k : ℕ) → k < i → get_or (sets l i vs) k 0 ≡ get_or l k 0
sets_below [] l i k h = refl
sets_below (a ∷ vs) l i k h = sets_below vs (set l i a) (suc i) k (omega arith) ∙ get_or-set_other l i k a 0 (omega arith)

sets_above : (vs l : List ℕ) (i k : ℕ) → i + length vs ≤ k → get_or (sets l i vs) k 0 ≡ get_or l k 0
sets_above [] l i k h = refl
sets_above (a ∷ vs) l i k h = sets_above vs (set l i a) (suc i) k (omega arith) ∙ get_or-set_other l i k a 0 (omega arith)

pub sets_outside : (vs l : List ℕ) (i k : ℕ) → (k < i) ⊎ (i + length vs ≤ k) → get_or (sets l i vs) k 0 ≡ get_or l k 0
sets_outside vs l i k = ⊎_elim (sets_below vs l i k) (sets_above vs l i k)

pub sets_in : (vs l : List ℕ) (i k : ℕ) → i + length vs ≤ length l → k < length vs → get_or (sets l i vs) (i + k) 0 ≡ get_or vs k 0
sets_in [] l i k h hk = absurd (let z : 0 < 0 = omega arith in omega arith)
sets_in (a ∷ vs) l i zero h hk =
    rw (add-zero i) (sets_below vs (set l i a) (suc i) i (omega arith) ∙ get_or-set_same l i a 0 (omega arith))
sets_in (a ∷ vs) l i (suc k) h hk =
    let e : i + suc k ≡ suc i + k = omega arith in
    rw e (sets_in vs (set l i a) (suc i) k (simp length-set (omega arith)) (omega arith))
