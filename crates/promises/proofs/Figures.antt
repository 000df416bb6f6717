-- The figure worked out from the history is the sum over the shelves' chains: every bucket below the count is in one chain, and what was
-- issued from a released bucket, or from one past the count, since it had none is 0.
use Prim.Native.Nat.{ℕ, zero, suc, ◌+◌, ◌-◌, ◌*◌, ◌≤◌, ◌<◌}
use mathlib.Core.Path.{◌≡◌, sym, ap, ◌∙◌, subst}
use mathlib.Core.List.{List, [], ◌∷◌}
use native.Mathlib.Decide.{ℕ_discrete, dec_lt}
use native.Mathlib.Omega.{arith}
use native.Mathlib.Nat.{mul-add, mul-one, mul-zero}
use Rattle.rules.specs.Tables.{Atlas, bucket_at, shelf_at}
use Rattle.rules.specs.Chains.{hit, count, In, sum_to, sum_of, chain_of, released_of}
use Rattle.rules.specs.Return.{used_area}
use Rattle.rules.specs.Sound.{Counted, used_on, Steady}
use Rattle.rules.specs.History.{Event, figure, issued_since}
use Rattle.laws.proofs.Chains.Count.{hit_same, hit_other, sum_ext, sum_zeros, sum_add, sum_change, sum_swap, sum_times, sum_of_same}
use Rattle.laws.proofs.Sound.Lies.{member_below}
use Rattle.laws.proofs.Sound.Unreferenced.{unreferenced_area}
use Rattle.laws.proofs.Return.Uncleaned.{shelf_of}
use Rattle.promises.proofs.Invariant.{Ties, since_none}

-- ---- sums

-- what is 0 from n on adds nothing
sum_tail : (n d : ℕ) (f : ℕ → ℕ) → ((k : ℕ) → n ≤ k → f k ≡ 0) → sum_to (n + d) f ≡ sum_to n f
sum_tail n zero f z = let e : n + 0 ≡ n = omega arith in rw e
sum_tail n (suc d) f z = let e : n + suc d ≡ suc (n + d) = omega arith in rw e (omega (arith, sum_tail n d f z, z (n + d) (omega arith)))

sum_hit : (n x : ℕ) (f : ℕ → ℕ) → x < n → sum_to n (λ k. f k * hit k x) ≡ f x
sum_hit n x f l = omega (
  arith,
  sum_change n x (λ k. 0) (λ k. f k * hit k x) l (λ k a ne. rw (hit_other k x ne) (mul-zero (f k))),
  sum_zeros n,
  ap (λ (c : ℕ). f x * c) (hit_same x),
  mul-one (f x),
)

-- the sum over a list is the sum over all, each as often as it stands there
sum_list : (n : ℕ) (f : ℕ → ℕ) (xs : List ℕ) → ((k : ℕ) → In k xs → k < n) → sum_of f xs ≡ sum_to n (λ k. f k * count k xs)
sum_list n f [] b = sym (sum_ext n (λ k. f k * 0) (λ k. 0) (λ k l. mul-zero (f k)) ∙ sum_zeros n)
sum_list n f (x ∷ xs) b =
    omega (
      arith,
      sum_list n f xs (λ k c. b k (omega arith)),
      sum_hit n x f (b x (omega (arith, hit_same x))),
      sum_add n (λ k. f k * hit k x) (λ k. f k * count k xs),
      sum_ext n (λ k. f k * (hit k x + count k xs)) (λ k. f k * hit k x + f k * count k xs) (λ k l. mul-add (f k) (hit k x) (count k xs)),
    )

-- ---- the figure

module _ {past : List Event} {g : Atlas} (t : Ties past g) (st : Steady g) where
  abbrev since : ℕ → ℕ
  since k = issued_since k past

  -- what is unreferenced, or past the count, has none
  since_unreferenced : (k : ℕ) → k < g.head.bucket_count → (bucket_at g.buckets k).refs ≡ 0 → since k ≡ 0
  since_unreferenced k l z = since_none k past (t.tied.refs k l ∙ z)

  since_past : (k : ℕ) → g.head.bucket_count ≤ k → since k ≡ 0
  since_past k l = since_none k past (t.tied.none k l)

  -- of a bucket in a shelf's chain it is the used area
  since_used : (i k : ℕ) → i < g.head.shelf_count → In k (chain_of g i) → used_area (shelf_at g.shelves i) (bucket_at g.buckets k) ≡ since k
  since_used i k li ck =
      let c : Counted i (shelf_at g.shelves i) (bucket_at g.buckets k) = (st.stocked i li).counted k ck in
      let l : k < g.head.bucket_count = member_below st i k li ck in
      elim (ℕ_discrete (bucket_at g.buckets k).refs 0) [
        | yes z ↦ unreferenced_area i (shelf_at g.shelves i) (bucket_at g.buckets k) c z ∙ sym (since_unreferenced k l z)
        | no ne ↦
            let home : shelf_of k g ≡ shelf_at g.shelves i = ap (shelf_at g.shelves) c.shelf in
            sym (rw home at (t.area k l (omega arith)))
      ]

  chain_since : (i : ℕ) → i < g.head.shelf_count → used_on g i ≡ sum_to g.head.bucket_count (λ k. since k * count k (chain_of g i))
  chain_since i li =
      sum_of_same since (λ k. used_area (shelf_at g.shelves i) (bucket_at g.buckets k)) (chain_of g i) (λ k c. since_used i k li c)
      ∙ sum_list g.head.bucket_count since (chain_of g i) (λ k c. member_below st i k li c)

  -- every bucket is in one chain; a released one has none
  once : (k : ℕ) → k < g.head.bucket_count → sum_to g.head.shelf_count (λ i. since k * count k (chain_of g i)) ≡ since k
  once k l =
      let m : ℕ = g.head.shelf_count in
      let all = sum_times m (since k) (λ i. count k (chain_of g i)) in
      elim (dec_lt 0 (count k (released_of g))) [
        | yes r ↦ all ∙ rw (since_unreferenced k l (st.released k r)) (omega arith)
        | no n ↦
            let one : sum_to m (λ i. count k (chain_of g i)) ≡ 1 = omega (arith, st.chained.once k l) in
            all ∙ ap (λ (c : ℕ). since k * c) one ∙ mul-one (since k)
      ]

  pub figure_is : g.head.occupied ≡ figure past
  unfolding figure
  figure_is =
      let n : ℕ = g.head.bucket_count in
      let m : ℕ = g.head.shelf_count in
      let e : n + (4096 - n) ≡ 4096 = omega (arith, st.domain.buckets) in
      let whole : sum_to 4096 since ≡ sum_to n since = subst (λ (z : ℕ). sum_to z since ≡ sum_to n since) e (sum_tail n (4096 - n) since since_past) in
      st.occupied
      ∙ sum_ext m (used_on g) (λ i. sum_to n (λ k. since k * count k (chain_of g i))) chain_since
      ∙ sym (sum_swap n m (λ i k. since k * count k (chain_of g i)))
      ∙ sum_ext n (λ k. sum_to m (λ i. since k * count k (chain_of g i))) since once
      ∙ sym whole
