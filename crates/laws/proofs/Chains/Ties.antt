-- The chains of an atlas are those that a walk finds: `Chained` is `Tied` of them. Where a bucket is, and what a store that keeps the links leaves.
use Prim.Native.Nat.{ℕ, ◌≤◌, ◌<◌}
use mathlib.Core.Path.{◌≡◌, sym, ap, ◌∙◌, fun_ext}
use mathlib.Core.Logic.{◌⊎◌, inl, inr}
use mathlib.Core.List.{List}
use native.Mathlib.Decide.{dec_lt}
use native.Mathlib.Omega.{arith}
use Rattle.rules.specs.Limits.{records_most}
use Rattle.rules.specs.Tables.{Atlas}
use Rattle.rules.specs.Chains.{count, chain_of, released_of, next, first, chain_from, chain}
use Rattle.rules.specs.Sound.{Chained}
use Rattle.laws.proofs.Chains.Count.{sum_ext, sum_term, sum_two, sum_some}
use Rattle.laws.proofs.Chains.Links.{linked_start, chain_of_law}
use Rattle.laws.proofs.Chains.Moves.{Tied, tied_length, tied_released_length}

-- ---- where a bucket is

module _ {f : ℕ → ℕ} {n m : ℕ} {h : ℕ → ℕ} {r : ℕ} {ch : ℕ → List ℕ} {rs : List ℕ} (t : Tied f n m h r ch rs) where
  -- a bucket is in a shelf's chain, or else in the released one
  pub home : (k : ℕ) → k < n → ((i : ℕ) × (i < m) × (0 < count k (ch i))) ⊎ (0 < count k rs)
  home k l = elim (dec_lt 0 (count k rs)) [
    | yes p ↦ inr p
    | no z ↦ inl (sum_some m (λ i. count k (ch i)) (omega (arith, t.once k l)))
  ]

  -- in one only
  pub home_one : (k i j : ℕ) → k < n → i < m → j < m → 0 < count k (ch i) → 0 < count k (ch j) → i ≡ j
  home_one k i j l li lj ci cj = elim (dec_lt i j) [
    | yes a ↦ absurd (omega (arith, t.once k l, sum_two m i j (λ i. count k (ch i)) a lj))
    | no a ↦ elim (dec_lt j i) [
      | yes b ↦ absurd (omega (arith, t.once k l, sum_two m j i (λ i. count k (ch i)) b li))
      | no b ↦ omega arith
    ]
  ]

  pub home_not_released : (k i : ℕ) → k < n → i < m → 0 < count k (ch i) → count k rs ≡ 0
  home_not_released k i l li ci = omega (arith, t.once k l, sum_term m i (λ i. count k (ch i)) li)

-- ---- equal starts and equal chains; the chains that a walk finds

pub tied_same : {f : ℕ → ℕ} {n m : ℕ} {h : ℕ → ℕ} {r : ℕ} {ch : ℕ → List ℕ} {rs : List ℕ} → Tied f n m h r ch rs
    → (h' : ℕ → ℕ) → ((i : ℕ) → i < m → h' i ≡ h i) → (ch' : ℕ → List ℕ) → ((i : ℕ) → i < m → ch' i ≡ ch i) → (rs' : List ℕ) → rs' ≡ rs
    → Tied f n m h' r ch' rs'
tied_same {f} {n} {m} {h} {r} {ch} {rs} t h' eh ch' ec rs' er = record {
  shelf = λ i l. rw (ec i l) (linked_start f n (h i) (h' i) (ch i) (sym (eh i l)) (t.shelf i l));
  released = rw er t.released;
  once = λ k l. omega (arith, t.once k l, ap (count k) er, sum_ext m (λ i. count k (ch' i)) (λ i. count k (ch i)) (λ i a. ap (count k) (ec i a)));
}

-- the chains of which `Tied` speaks are those that a walk finds
pub chain_is : (b : List ℕ) {n m : ℕ} {h : ℕ → ℕ} {r : ℕ} {ch : ℕ → List ℕ} {rs : List ℕ} → n ≤ records_most → Tied (next b) n m h r ch rs
    → (i : ℕ) → i < m → chain b (h i) ≡ ch i
chain_is b {n} {m} {h} {r} {ch} {rs} hn t i l =
    let len = tied_length t i l in
    chain_of_law b n (h i) (ch i) (omega arith) (t.shelf i l) (omega arith)

pub released_is : (b : List ℕ) {n m : ℕ} {h : ℕ → ℕ} {r : ℕ} {ch : ℕ → List ℕ} {rs : List ℕ} → n ≤ records_most → Tied (next b) n m h r ch rs
    → chain b r ≡ rs
released_is b {n} {m} {h} {r} {ch} {rs} hn t =
    let len = tied_released_length t in
    chain_of_law b n r rs (omega arith) t.released (omega arith)

abbrev pub TiedOf : Atlas → Type 0
TiedOf g = Tied (next g.buckets) g.head.bucket_count g.head.shelf_count (first g.shelves) g.head.released (chain_of g) (released_of g)

pub tied_of : {g : Atlas} → Chained g → TiedOf g
tied_of p = record { shelf = p.shelf; released = p.released; once = p.once }

chained : (g : Atlas) → TiedOf g → Chained g
chained g t = record { shelf = t.shelf; released = t.released; once = t.once }

-- whatever chains are tied at the shelves' starts, the tables' chains are sound
pub chained_of : (g : Atlas) {h : ℕ → ℕ} {ch : ℕ → List ℕ} {rs : List ℕ} → g.head.bucket_count ≤ records_most
    → Tied (next g.buckets) g.head.bucket_count g.head.shelf_count h g.head.released ch rs
    → ((i : ℕ) → i < g.head.shelf_count → first g.shelves i ≡ h i) → Chained g
chained_of g hn t e = chained g (
    tied_same t (first g.shelves) e (chain_of g) (λ i l. ap (chain g.buckets) (e i l) ∙ chain_is g.buckets hn t i l)
    (released_of g) (released_is g.buckets hn t)
    )

-- ---- stores that keep the links: a bucket's other numbers, a shelf's y and height

pub chain_same : (b b' : List ℕ) → ((k : ℕ) → next b' k ≡ next b k) → (i : ℕ) → chain b' i ≡ chain b i
unfolding chain
chain_same b b' e i = ap (λ (f : ℕ → ℕ). chain_from records_most f i) (fun_ext e)

-- every `next` and the first of every shelf are as they were
pub record SameLinks (g g' : Atlas) : Type 0 where
  pub shelf_count : g'.head.shelf_count ≡ g.head.shelf_count
  pub bucket_count : g'.head.bucket_count ≡ g.head.bucket_count
  pub released : g'.head.released ≡ g.head.released
  pub next : (k : ℕ) → next g'.buckets k ≡ next g.buckets k
  pub first : (i : ℕ) → first g'.shelves i ≡ first g.shelves i

-- so the chains are too
pub chain_keeps : {g g' : Atlas} → SameLinks g g' → (i : ℕ) → chain_of g' i ≡ chain_of g i
chain_keeps {g} {g'} p i = rw (p.first i) (chain_same g.buckets g'.buckets p.next (first g.shelves i))

pub released_keeps : {g g' : Atlas} → SameLinks g g' → released_of g' ≡ released_of g
released_keeps {g} {g'} p = rw p.released (chain_same g.buckets g'.buckets p.next g.head.released)

pub chains_keep : {g g' : Atlas} → SameLinks g g' → Chained g → Chained g'
chains_keep {g} {g'} p c =
    let en : next g'.buckets ≡ next g.buckets = fun_ext p.next in
    record {
      shelf = λ i l. rw (chain_keeps p i, p.first i, p.bucket_count, en) (c.shelf i (rw p.shelf_count at l));
      released = rw (released_keeps p, p.released, p.bucket_count, en) c.released;
      once = λ k l.
          let each = sum_ext g.head.shelf_count (λ i. count k (chain_of g' i)) (λ i. count k (chain_of g i)) (λ i a. ap (count k) (chain_keeps p i)) in
          rw (p.shelf_count, released_keeps p) (omega (arith, each, c.once k (rw p.bucket_count at l)));
    }
