-- A shelf popped: its chain goes in front of the released one, the other chains are as they were, and every bucket is in exactly one chain
-- still. Of the records only the last of the popped chain changes, and of it only the link.
use Prim.Native.Nat.{ℕ, suc, ◌+◌, ◌*◌, ◌≤◌, ◌<◌}
use mathlib.Core.Path.{◌≡◌, ap}
use mathlib.Core.Logic.{◌≢◌}
use mathlib.Core.List.{List, ◌∷◌, ◌++◌}
use native.Mathlib.Omega.{arith}
use lib.ListN.{length}
use Rattle.rules.specs.Limits.{records_most, none}
use Rattle.rules.specs.Tables.{Atlas, bucket_at, put_bucket}
use Rattle.rules.specs.Chains.{count, chain_of, released_of, next, first, chain, Linked, last_of}
use Rattle.rules.specs.Return.{relinked, popped, released_table}
use Rattle.rules.specs.Sound.{Chained}
use Rattle.laws.proofs.Tables.Records.{length_put, at_put, at_put_other, next_put, next_put_other}
use Rattle.laws.proofs.Chains.Count.{sum_ext}
use Rattle.laws.proofs.Chains.Links.{linked_below, ChainStep, chain_step}
use Rattle.laws.proofs.Chains.Moves.{Tied, last_in, splice, last_below, last_apart}
use Rattle.laws.proofs.Chains.Ties.{chain_is, released_is}

-- ---- the last of a chain

pub last_at : (b : List ℕ) (n i : ℕ) → n ≤ records_most → Linked (next b) n i (chain b i) → i ≢ none → last_of i (chain b i) < n
last_at b n i hn p ne =
    let st = chain_step b n i (omega arith) p ne in
    let q : Linked (next b) n i (i ∷ chain b (next b i)) = rw st.turn at p in
    let l : last_of i (chain b (next b i)) < n = linked_below (next b) n i (i ∷ chain b (next b i)) _ q (last_in i (chain b (next b i))) in
    rw st.turn l

-- the last of shelf m's chain
abbrev pub last_on : ℕ → Atlas → ℕ
last_on m g = last_of (first g.shelves m) (chain_of g m)

-- ---- the pop of shelf m, the last

pub record Pops (m : ℕ) (g : Atlas) : Type 0 where
  pub chained : Chained (popped m g)
  pub others : (i : ℕ) → i < m → chain_of (popped m g) i ≡ chain_of g i
  pub released : released_of (popped m g) ≡ chain_of g m ++ released_of g
  pub below : last_on m g < g.head.bucket_count
  pub apart : (i : ℕ) → i < m → count (last_on m g) (chain_of g i) ≡ 0
  pub link : bucket_at (popped m g).buckets (last_on m g) ≡ relinked (bucket_at g.buckets (last_on m g)) g.head.released
  pub records : (k : ℕ) → k ≢ last_on m g → bucket_at (popped m g).buckets k ≡ bucket_at g.buckets k
  pub table : length (popped m g).buckets ≡ length g.buckets

-- over any chains: `chain b (first s m)` is x and then xs
pop_tied : (s b : List ℕ) (m n r : ℕ) → n ≤ records_most → 7 * n ≤ length b
    → Tied (next b) n (suc m) (first s) r (λ i. chain b (first s i)) (chain b r)
    → (xs : List ℕ) → chain b (first s m) ≡ first s m ∷ xs
    → Tied (next (released_table b (first s m) r)) n m (first s) (first s m) (λ i. chain b (first s i)) (chain b (first s m) ++ chain b r)
unfolding released_table
pop_tied s b m n r hn hb p xs e =
    let l : last_of (first s m) xs < n = last_below p (first s m) xs e in
    let b' : List ℕ = put_bucket b (last_of (first s m) xs) (relinked (bucket_at b (last_of (first s m) xs)) r) in
    rw e
    (splice p (first s m) xs e (next b') (next_put b (last_of (first s m) xs) _ (omega arith))
    (λ k ne. next_put_other b (last_of (first s m) xs) _ k ne))

pop_apart : (s b : List ℕ) (m n r : ℕ) → Tied (next b) n (suc m) (first s) r (λ i. chain b (first s i)) (chain b r)
    → ChainStep b n (first s m) → (i : ℕ) → i < m → count (last_of (first s m) (chain b (first s m))) (chain b (first s i)) ≡ 0
pop_apart s b m n r t st i l = rw st.turn (last_apart t (first s m) _ st.turn i l)

pop_link : (b : List ℕ) (i r : ℕ) → 7 * last_of i (chain b i) + 7 ≤ length b
    → bucket_at (released_table b i r) (last_of i (chain b i)) ≡ relinked (bucket_at b (last_of i (chain b i))) r
unfolding released_table
pop_link b i r l = at_put b (last_of i (chain b i)) _ l

pop_records : (b : List ℕ) (i r k : ℕ) → k ≢ last_of i (chain b i) → bucket_at (released_table b i r) k ≡ bucket_at b k
unfolding released_table
pop_records b i r k a = at_put_other b (last_of i (chain b i)) _ k a

pop_length : (b : List ℕ) (i r : ℕ) → length (released_table b i r) ≡ length b
unfolding released_table
pop_length b i r = length_put b (last_of i (chain b i)) _

pub pop : (m : ℕ) (g : Atlas) → g.head.shelf_count ≡ suc m → g.head.bucket_count ≤ records_most → 7 * g.head.bucket_count ≤ length g.buckets
    → first g.shelves m ≢ none → Chained g → Pops m g
unfolding popped
pop m g em hn hb ne p =
    let n : ℕ = g.head.bucket_count in
    let b : List ℕ = g.buckets in
    let s : List ℕ = g.shelves in
    let r : ℕ = g.head.released in
    let b' : List ℕ = released_table b (first s m) r in
    let st : ChainStep b n (first s m) = chain_step b n (first s m) (omega arith) (p.shelf m (omega arith)) ne in
    let t : Tied (next b) n (suc m) (first s) r (λ i. chain b (first s i)) (chain b r) =
    record { shelf = λ i l. p.shelf i (omega arith); released = p.released; once = λ k l. rw em at (p.once k l) } in
    let q : Tied (next b') n m (first s) (first s m) (λ i. chain b (first s i)) (chain b (first s m) ++ chain b r) =
    pop_tied s b m n r hn hb t (chain b (next b (first s m))) st.turn in
    let same : (i : ℕ) → i < m → chain b' (first s i) ≡ chain b (first s i) = λ i l. chain_is b' hn q i l in
    let new : chain b' (first s m) ≡ chain b (first s m) ++ chain b r = released_is b' hn q in
    let low : last_on m g < n = last_at b n (first s m) hn (p.shelf m (omega arith)) ne in
    record {
      chained = record {
        shelf = λ i l. rw (same i l) (q.shelf i l);
        released = rw new q.released;
        once = λ k l. omega (
          arith,
          q.once k l,
          ap (count k) new,
          sum_ext m (λ i. count k (chain b' (first s i))) (λ i. count k (chain b (first s i))) (λ i a. ap (count k) (same i a)),
        );
      };
      others = same;
      released = new;
      below = low;
      apart = λ i l. pop_apart s b m n r t st i l;
      link = pop_link b (first s m) r (omega arith);
      records = λ k a. pop_records b (first s m) r k a;
      table = pop_length b (first s m) r;
    }
