-- T-08, "Put worn-out buckets back in service": a bucket that empties is takeable again at once, with a generation that no id of it carries; on sound
-- tables every unreferenced bucket is. Ids of two buckets stay apart.
use Rattle.std.specs.Prelude.{Err}
use Prim.Native.Nat.{ℕ, ◌≤◌, ◌<◌}
use mathlib.Core.Path.{◌≡◌, refl, sym, ap, ◌∙◌}
use mathlib.Core.Logic.{◌≢◌}
use native.Mathlib.Omega.{arith}
use borrow.Author.Tests.{lt-leb, ne_eqb}
use Rattle.rules.specs.declared.Bucket.{Bucket}
use Rattle.rules.specs.declared.Head.{Head}
use Rattle.rules.specs.declared.Refusal.{Refusal}
use Rattle.rules.specs.Ids.{id_of, id_bucket, id_generation, next_generation}
use Rattle.rules.specs.Tables.{Atlas, bucket_at, shelf_at}
use Rattle.rules.specs.Chains.{In, chain_of}
use Rattle.rules.specs.Builds.{present}
use Rattle.rules.specs.Search.{Takeable}
use Rattle.rules.specs.Return.{returned}
use Rattle.rules.specs.Sound.{Sound}
use Rattle.rules.specs.Calls.{return_id, deallocate, deallocate_by}
use Rattle.laws.proofs.Numbers.Ids.{id_bucket_of, id_generation_of}
use Rattle.laws.proofs.Sound.Test.{sound_test}
use Rattle.laws.proofs.Sound.Lies.{Home, home_of, member_below}
use Rattle.laws.proofs.Return.Uncleaned.{back_last, shelf_of}
use Rattle.laws.proofs.Return.Keep.{ReturnFacts, return_facts}

-- ---- on sound tables

-- every unreferenced bucket of a shelf's chain is takeable, by whatever is no wider and no higher than it
pub unreferenced_takeable : (w h : ℕ) (g : Atlas) → Sound g → (i k : ℕ) → i < g.head.shelf_count → In k (chain_of g i)
    → (bucket_at g.buckets k).refs ≡ 0 → h ≤ (shelf_at g.shelves i).height → w ≤ (shelf_at g.shelves i).width → Takeable w h g i k
unreferenced_takeable w h g p i k li c z high wide = record {
  shelf = li;
  bucket = c;
  high = high;
  wide = omega (arith, ((p.steady.stocked i li).counted k c).whole z);
  items = omega (arith, p.rested refl k (member_below p.steady i k li c) z);
}

-- ---- a bucket that empties

-- bucket k after the return of its last reference
pub record Renewed (k : ℕ) (g g' : Atlas) : Type 0 where
  pub sound : Sound g'
  pub refs : (bucket_at g'.buckets k).refs ≡ 0
  pub items : (bucket_at g'.buckets k).items ≡ 0
  pub generation : (bucket_at g'.buckets k).generation ≡ next_generation (bucket_at g.buckets k).generation
  -- where its shelf is not popped, any request that is no wider and no higher takes it
  pub takeable : (w h : ℕ) → (bucket_at g.buckets k).shelf < g'.head.shelf_count → h ≤ (shelf_at g.shelves (bucket_at g.buckets k).shelf).height
      → w ≤ (shelf_at g.shelves (bucket_at g.buckets k).shelf).width → Takeable w h g' (bucket_at g.buckets k).shelf k
  -- an id of the generation that it had is refused from there on, as 10
  pub stale : (id : ℕ) → id_bucket id ≡ k → id_generation id ≡ (bucket_at g.buckets k).generation
      → (deallocate id g').answer ≡ Err Refusal.Stale

-- the number of the next generation is another
next_other : (n : ℕ) → n < 256 → next_generation n ≢ n
next_other n l e = omega arith

-- of sound tables, an id of a bucket below the count that has another generation is 10
pub stale_10 : (g : Atlas) → Sound g → (id : ℕ) → id_bucket id < g.head.bucket_count
    → (bucket_at g.buckets (id_bucket id)).generation ≢ id_generation id → (deallocate id g).answer ≡ Err Refusal.Stale
unfolding deallocate_by return_id
stale_10 g p id l ne = simp (
  (sound_test g).1 p,
  lt-leb g.head.bucket_count (id_bucket id) l,
  ne_eqb (bucket_at g.buckets (id_bucket id)).generation (id_generation id) ne,
)

module _ (g : Atlas) (p : Sound g) (k : ℕ) (lk : k < g.head.bucket_count) (last : (bucket_at g.buckets k).refs ≡ 1) where
  abbrev g' : Atlas
  g' = returned present k g

  facts : ReturnFacts present k g (returned present k g)
  facts = return_facts p k lk (omega arith)

  count : (returned present k g).head.bucket_count ≡ g.head.bucket_count
  count = ap (λ (h : Head). h.bucket_count) facts.head

  emptied_generation : (bucket_at (returned present k g).buckets k).generation ≡ next_generation (bucket_at g.buckets k).generation
  emptied_generation =
      ap (λ (v : Bucket). v.generation) facts.bucket ∙ ap (λ (v : Bucket). v.generation) (back_last present (shelf_of k g) (bucket_at g.buckets k) last)

  pub emptied_renewed : Renewed k g (returned present k g)
  emptied_renewed =
      let z : (bucket_at (returned present k g).buckets k).refs ≡ 0 =
      ap (λ (v : Bucket). v.refs) facts.bucket ∙ ap (λ (v : Bucket). v.refs) (back_last present (shelf_of k g) (bucket_at g.buckets k) last) in
      record {
        sound = facts.sound;
        refs = z;
        items = facts.sound.rested refl k (omega (arith, count)) z;
        generation = emptied_generation;
        takeable = λ w h li high wide.
            let i : ℕ = (bucket_at g.buckets k).shelf in
            let home : Home g k = home_of p.steady k lk (λ e. omega arith) in
            unreferenced_takeable w h (returned present k g) facts.sound i k li (rw (facts.chains i li) home.member) z
            (rw facts.shelves high) (rw facts.shelves wide);
        stale = λ id e q. stale_10 (returned present k g) facts.sound id (rw e (omega (arith, count)))
            (λ same. next_other (bucket_at g.buckets k).generation (p.steady.generations k lk)
            (sym emptied_generation ∙ sym (ap (λ (j : ℕ). (bucket_at (returned present k g).buckets j).generation) e) ∙ same ∙ q));
      }

-- ---- ids

-- "two buckets' ids stay apart": whatever their item counts and generations are
pub ids_apart : (k items generation k' items' generation' : ℕ) → k < 4096 → k' < 4096 → id_of k items generation ≡ id_of k' items' generation'
    → (k ≡ k') × (generation ≡ generation')
ids_apart k items generation k' items' generation' l l' e = (
  sym (id_bucket_of k items generation l) ∙ ap id_bucket e ∙ id_bucket_of k' items' generation' l',
  sym (id_generation_of k items generation l) ∙ ap id_generation e ∙ id_generation_of k' items' generation' l',
)
