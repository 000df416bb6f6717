-- A bucket added: the two ways, and what is left for the next one.
use Prim.Native.Nat.{ℕ, suc, ◌+◌, ◌-◌, ◌≤◌, ◌<◌}
use mathlib.Core.Path.{◌≡◌, ap}
use mathlib.Core.Logic.{◌≢◌}
use mathlib.Core.List.{List}
use native.Mathlib.Omega.{arith}
use native.Mathlib.Decide.{ℕ_discrete}
use borrow.Author.Tests.{eq-eqb, ne_eqb}
use lib.ListN.{length}
use Rattle.rules.specs.declared.Head.{Head}
use Rattle.rules.specs.declared.Bucket.{Bucket}
use Rattle.rules.specs.Limits.{none}
use Rattle.rules.specs.Ids.{next_generation}
use Rattle.rules.specs.Tables.{Atlas, atlas, bucket_at, put_bucket, with_store}
use Rattle.rules.specs.Chains.{next, chain, released_of, count, Linked}
use Rattle.rules.specs.Store.{fresh, new_index, new_generation, new_store, add_bucket}
use Rattle.laws.proofs.Tables.Records.{length_put, next_put_other}
use Rattle.laws.proofs.Chains.Count.{hit_same}
use Rattle.laws.proofs.Chains.Links.{ChainStep, chain_step, chain_end, chain_of_law, chain_length, linked_apart, linked_once}
use Rattle.store.specs.Needs.{RoomFor}

-- how many buckets are released
abbrev pub spare : Atlas → ℕ
spare g = length (released_of g)

-- k buckets more: released ones are taken first, and the table grows by the others
pub record Counts (k : ℕ) (g g' : Atlas) : Type 0 where
  pub spared : spare g' ≡ spare g - k
  pub added : g'.head.bucket_count + spare g ≡ g.head.bucket_count + k + spare g'

-- the rest of a chain, where its first record is written over: one shorter, and a chain
record Rest (b : List ℕ) (n i : ℕ) (v : Bucket) : Type 0 where
  long : length (chain b i) ≡ suc (length (chain (put_bucket b i v) (bucket_at b i).next))
  whole : Linked (next (put_bucket b i v)) n (bucket_at b i).next (chain (put_bucket b i v) (bucket_at b i).next)

rest_of : (b : List ℕ) (n i : ℕ) (v : Bucket) → n ≤ 65535 → Linked (next b) n i (chain b i) → i ≢ none → Rest b n i v
unfolding next
rest_of b n i v hn p ne =
    let st : ChainStep b n i = chain_step b n i hn p ne in
    let once : count i (chain b i) ≤ 1 = linked_once (next b) n i (chain b i) i hn p in
    let apart : count i (chain b (next b i)) ≡ 0 = omega (arith, hit_same i, ap (count i) st.turn) in
    let kept : Linked (next (put_bucket b i v)) n (next b i) (chain b (next b i)) =
    linked_apart (next b) (next (put_bucket b i v)) n n (next b i) i (chain b (next b i)) (omega arith) (next_put_other b i v) apart st.rest in
    let same : chain (put_bucket b i v) (next b i) ≡ chain b (next b i) =
    chain_of_law (put_bucket b i v) n (next b i) (chain b (next b i)) hn kept (chain_length b (next b i)) in
    record { long = rw same (ap length st.turn); whole = rw same kept }

-- the released head is a bucket below the count
pub released_below : (k : ℕ) (h : Head) (b : List ℕ) → RoomFor k h b → h.released ≢ none → h.released < h.bucket_count
released_below k h b c n = (chain_step b h.bucket_count h.released (omega arith) c.whole n).below

module _ (x width nx shelf : ℕ) (g : Atlas) where
  -- nothing released: at the end
  module _ (e : g.head.released ≡ none) where
    pub add_end : atlas (with_store g.head (g.head.bucket_count + 1) g.head.released) g.shelves
        (put_bucket g.buckets g.head.bucket_count (fresh x width nx shelf 0))
        ≡ add_bucket x width nx shelf g
    unfolding add_bucket new_store new_index new_generation
    add_end = simp (eq-eqb _ _ e, e)

  -- the head of the released chain
  module _ (n : g.head.released ≢ none) where
    pub add_again : atlas (with_store g.head g.head.bucket_count (bucket_at g.buckets g.head.released).next) g.shelves
        (put_bucket g.buckets g.head.released (fresh x width nx shelf (next_generation (bucket_at g.buckets g.head.released).generation)))
        ≡ add_bucket x width nx shelf g
    unfolding add_bucket new_store new_index new_generation
    add_again = simp (ne_eqb _ _ n)

  -- what the next one needs
  pub add_keeps : (k : ℕ) → RoomFor (suc k) g.head g.buckets → RoomFor k (add_bucket x width nx shelf g).head (add_bucket x width nx shelf g).buckets
  add_keeps k c = elim (ℕ_discrete g.head.released none) [
    | yes e ↦
        let end : (b : List ℕ) → Linked (next b) (g.head.bucket_count + 1) g.head.released (chain b g.head.released) =
        λ b. rw (chain_end b g.head.released e) e in
        rw (← add_end e) (record { few = omega arith; fits = rw length_put (omega arith); whole = end _ })
    | no n ↦
        rw (← add_again n) (record {
          few = omega arith;
          fits = rw length_put (omega arith);
          whole = (rest_of _ _ _ _ (omega arith) c.whole n).whole;
        })
  ]

  pub add_counts : (k : ℕ) → RoomFor (suc k) g.head g.buckets → Counts 1 g (add_bucket x width nx shelf g)
  add_counts k c = elim (ℕ_discrete g.head.released none) [
    | yes e ↦
        let s : spare g ≡ 0 = ap length (chain_end g.buckets g.head.released e) in
        let t = chain_end (put_bucket g.buckets g.head.bucket_count (fresh x width nx shelf 0)) g.head.released e in
        let z = ap length t in
        rw (← add_end e) (record { spared = omega arith; added = omega arith })
    | no n ↦
        let v : Bucket = fresh x width nx shelf (next_generation (bucket_at g.buckets g.head.released).generation) in
        let r = (rest_of g.buckets g.head.bucket_count g.head.released v (omega arith) c.whole n).long in
        rw (← add_again n) (record { spared = omega arith; added = omega arith })
  ]

  -- of the header only the number of buckets and the released chain change
  pub add_head : (add_bucket x width nx shelf g).head
      ≡ with_store g.head (add_bucket x width nx shelf g).head.bucket_count (add_bucket x width nx shelf g).head.released
  unfolding add_bucket new_store
  add_head = elim (ℕ_discrete g.head.released none) [ yes e ↦ simp (eq-eqb _ _ e) | no n ↦ simp (ne_eqb _ _ n) ]
