-- Laying buckets into a chain: the chains stay tied, the other chains and all records in shelves' chains are as they were, and the laid
-- buckets stand in order, unused, in front of the chain.
use Prim.Native.Nat.{ℕ, zero, suc, ◌+◌, ◌*◌, ◌≤◌, ◌<◌}
use mathlib.Core.Bool.{true, false}
use mathlib.Core.Path.{◌≡◌, refl, sym, ap, ◌∙◌, subst}
use mathlib.Core.Logic.{◌≢◌}
use mathlib.Core.List.{List, [], ◌∷◌, ◌++◌}
use native.Mathlib.Decide.{ℕ_discrete}
use native.Mathlib.Numerals.{add-one}
use native.Mathlib.Nat.{zero-mul, suc-mul}
use native.Mathlib.Omega.{arith}
use borrow.Author.Tests.{eq-eqb, ne_eqb}
use lib.Dec.{eqb}
use lib.ListN.{length}
use Rattle.rules.specs.declared.Bucket.{Bucket}
use Rattle.rules.specs.declared.Head.{Head}
use Rattle.rules.specs.Limits.{records_most, none}
use Rattle.rules.specs.Tables.{Atlas, bucket_at, put_bucket, with_store}
use Rattle.rules.specs.Chains.{count, In, next}
use Rattle.rules.specs.Store.{Lay, laying, lay_many, fresh, new_index, new_generation, new_store, add_bucket, lay_one}
use Rattle.rules.specs.Sound.{Ordered}
use Rattle.laws.proofs.Tables.Records.{length_put, at_put, at_put_other, next_put, next_put_other}
use Rattle.laws.proofs.Chains.Count.{upd, hit_other, upd_same, upd_other, count_append}
use Rattle.laws.proofs.Chains.Moves.{Tied, Loose, loosen_head, loosen_fresh, loose_shelf, loose_released, tie_head}
use Rattle.laws.proofs.Sound.Order.{ordered_frame, Spaced, spaced_frame}

-- ---- one bucket

-- a bucket of shelf s as it is laid, w wide
pub record Unused (w s : ℕ) (v : Bucket) : Type 0 where
  pub free : v.free ≡ w
  pub refs : v.refs ≡ 0
  pub items : v.items ≡ 0
  pub shelf : v.shelf ≡ s

one_other : (w s : ℕ) (l : Lay) (k : ℕ) → k ≢ new_index l.state.head → bucket_at (lay_one w s l).state.buckets k ≡ bucket_at l.state.buckets k
unfolding lay_one add_bucket
one_other w s l k ne = at_put_other l.state.buckets (new_index l.state.head) (fresh l.x w l.first s (new_generation l.state)) k ne

one_same : (w s : ℕ) (l : Lay) → 7 * new_index l.state.head + 7 ≤ length l.state.buckets
    → bucket_at (lay_one w s l).state.buckets (new_index l.state.head) ≡ fresh l.x w l.first s (new_generation l.state)
unfolding lay_one add_bucket
one_same w s l h = at_put l.state.buckets (new_index l.state.head) (fresh l.x w l.first s (new_generation l.state)) h

pub one_length : (w s : ℕ) (l : Lay) → length (lay_one w s l).state.buckets ≡ length l.state.buckets
unfolding lay_one add_bucket
one_length w s l = length_put l.state.buckets (new_index l.state.head) (fresh l.x w l.first s (new_generation l.state))

one_store : (w s : ℕ) (l : Lay) → (lay_one w s l).state.head ≡ new_store l.state
unfolding lay_one add_bucket
one_store w s l = refl

one_shelves : (w s : ℕ) (l : Lay) → (lay_one w s l).state.shelves ≡ l.state.shelves
unfolding lay_one add_bucket
one_shelves w s l = refl

one_x : (w s : ℕ) (l : Lay) → (lay_one w s l).x ≡ l.x + w
unfolding lay_one
one_x w s l = refl

one_first : (w s : ℕ) (l : Lay) → (lay_one w s l).first ≡ new_index l.state.head
unfolding lay_one
one_first w s l = refl

-- only the count and the released chain's start change
store_head : (g : Atlas) → new_store g ≡ with_store g.head (new_store g).bucket_count (new_store g).released
unfolding new_store
store_head g = elim (ℕ_discrete g.head.released none) [
  | yes e ↦ simp (eq-eqb g.head.released none e)
  | no ne ↦ simp (ne_eqb g.head.released none ne)
]

generation_low : (g : Atlas) → new_generation g < 256
unfolding new_generation
generation_low g = elim (ℕ_discrete g.head.released none) [
  | yes e ↦ simp (eq-eqb g.head.released none e) (omega arith)
  | no ne ↦ simp (ne_eqb g.head.released none ne) (omega arith)
]

-- what one bucket leaves of the chains ch and rs
record One (l : Lay) (w m : ℕ) (h : ℕ → ℕ) (s : ℕ) (ch : ℕ → List ℕ) (rs : List ℕ) : Type 0 where
  rest : List ℕ
  tied : Tied (next (lay_one w s l).state.buckets) (new_store l.state).bucket_count m (upd h s (new_index l.state.head))
      (new_store l.state).released (upd ch s (new_index l.state.head ∷ ch s)) rest
  loose : (i : ℕ) → i < m → count (new_index l.state.head) (ch i) ≡ 0
  apart : count (new_index l.state.head) rest ≡ 0
  fewer : (j : ℕ) → count j rest ≤ count j rs
  below : new_index l.state.head < (new_store l.state).bucket_count
  fewest : l.state.head.bucket_count ≤ (new_store l.state).bucket_count
  greatest : (new_store l.state).bucket_count ≤ l.state.head.bucket_count + 1
  before : (j : ℕ) → j < (new_store l.state).bucket_count → j ≢ new_index l.state.head → j < l.state.head.bucket_count

next_is : (b : List ℕ) (r : ℕ) {n m : ℕ} {h : ℕ → ℕ} {ch : ℕ → List ℕ} {ys : List ℕ} → Loose (next b) n m h (next b r) ch ys r
    → Loose (next b) n m h (bucket_at b r).next ch ys r
unfolding next
next_is b r p = p

module _ (m : ℕ) (h : ℕ → ℕ) (s : ℕ) (ls : s < m) where
  -- a loose index j is written as a bucket, with a link to the chain's start
  lay_tie : (ch : ℕ → List ℕ) (b : List ℕ) (c x w a j n r : ℕ) (rs : List ℕ) → 7 * j + 7 ≤ length b
      → Loose (next b) n m (upd h s c) r ch rs j
      → Tied (next (put_bucket b j (fresh x w c s a))) n m (upd h s j) r (upd ch s (j ∷ ch s)) rs
  lay_tie ch b c x w a j n r rs l lo =
      tie_head lo s ls (next (put_bucket b j (fresh x w c s a))) (upd h s j)
      (next_put b j (fresh x w c s a) l ∙ sym (upd_same h s c))
      (λ k ne. next_put_other b j (fresh x w c s a) k ne)
      (upd_same h s j)
      (λ i li ne. upd_other h s j i ne ∙ sym (upd_other h s c i ne))

  -- it comes from the released chain, or else extends the table
  lay_one_law : (ch : ℕ → List ℕ) (l : Lay) (w : ℕ) (rs : List ℕ) → l.state.head.bucket_count < records_most → 7 * records_most ≤ length l.state.buckets
      → Tied (next l.state.buckets) l.state.head.bucket_count m (upd h s l.first) l.state.head.released ch rs → One l w m h s ch rs
  unfolding lay_one add_bucket new_store new_index new_generation
  lay_one_law ch l w [] hn hb p =
      let n : ℕ = l.state.head.bucket_count in
      let e : l.state.head.released ≡ none = p.released in
      let t : eqb l.state.head.released none ≡ true = eq-eqb l.state.head.released none e in
      let lo : Loose (next l.state.buckets) (suc n) m (upd h s l.first) none ch [] n = rw e at (loosen_fresh p) in
      record {
        rest = [];
        tied = simp (t, add-one) (lay_tie ch l.state.buckets l.first l.x w 0 n (suc n) none [] (omega arith) lo);
        loose = λ i li. simp t (loose_shelf lo i li);
        apart = refl;
        fewer = λ j. omega arith;
        below = simp t (omega arith);
        fewest = simp t (omega arith);
        greatest = simp t (omega arith);
        before = simp t (λ j a b. omega arith);
      }
  lay_one_law ch l w (y ∷ ys) hn hb p =
      let n : ℕ = l.state.head.bucket_count in
      let r : ℕ = l.state.head.released in
      let ne : l.state.head.released ≢ none = omega (arith, p.released) in
      let t : eqb l.state.head.released none ≡ false = ne_eqb l.state.head.released none ne in
      let e : y ≡ r = sym p.released.0 in
      let q : Tied (next l.state.buckets) n m (upd h s l.first) r ch (r ∷ ys) =
      subst (λ (z : ℕ). Tied (next l.state.buckets) n m (upd h s l.first) r ch (z ∷ ys)) e p in
      let b : List ℕ = l.state.buckets in
      let lo : Loose (next b) n m (upd h s l.first) (bucket_at b r).next ch ys r = next_is b r (loosen_head q) in
      record {
        rest = ys;
        tied = simp t (lay_tie ch b l.first l.x w _ r n (bucket_at b r).next ys (omega (arith, q.released.1)) lo);
        loose = λ i li. simp t (loose_shelf lo i li);
        apart = simp t (loose_released lo);
        fewer = λ j. omega arith;
        below = simp t q.released.1;
        fewest = simp t (omega arith);
        greatest = simp t (omega arith);
        before = simp t (λ j a b. a);
      }

-- ---- any number of them

-- What k buckets laid on shelf s from x on leave of the tables g with the chains ch and rs: `new` in front of ch s, the other chains as they
-- were, and so each record in a shelf's chain and what remains of the released one.
pub record More (g : Atlas) (l : Lay) (w m : ℕ) (h : ℕ → ℕ) (s : ℕ) (ch : ℕ → List ℕ) (rs : List ℕ) (x k : ℕ) : Type 0 where
  pub new : List ℕ
  pub chs : ℕ → List ℕ
  pub rest : List ℕ
  pub tied : Tied (next l.state.buckets) l.state.head.bucket_count m (upd h s l.first) l.state.head.released chs rest
  pub mine : chs s ≡ new ++ ch s
  pub others : (i : ℕ) → i ≢ s → chs i ≡ ch i
  pub long : length new ≡ k
  pub at : l.x ≡ x + k * w
  pub kept : (i j : ℕ) → i < m → In j (ch i) → bucket_at l.state.buckets j ≡ bucket_at g.buckets j
  pub unused : (j : ℕ) → In j new → Unused w s (bucket_at l.state.buckets j)
  pub spaced : Spaced l.state.buckets w x new
  pub ordered : (left : ℕ) → left ≤ x → Ordered g.buckets w left x (ch s) → Ordered l.state.buckets w left l.x (new ++ ch s)
  pub fewer : (j : ℕ) → count j rest ≤ count j rs
  pub still : (j : ℕ) → In j rest → bucket_at l.state.buckets j ≡ bucket_at g.buckets j
  pub past : (j : ℕ) → l.state.head.bucket_count ≤ j → bucket_at l.state.buckets j ≡ bucket_at g.buckets j
  pub generations : (j : ℕ) → j < l.state.head.bucket_count → (bucket_at l.state.buckets j).generation < 256
  pub store : l.state.head ≡ with_store g.head l.state.head.bucket_count l.state.head.released
  pub shelves : l.state.shelves ≡ g.shelves
  pub fewest : g.head.bucket_count ≤ l.state.head.bucket_count
  pub greatest : l.state.head.bucket_count ≤ g.head.bucket_count + k
  pub table : length l.state.buckets ≡ length g.buckets

count_some : (a j : ℕ) (xs : List ℕ) → count j xs ≡ 0 → In a xs → a ≢ j
count_some a j xs z p e = omega (arith, ap (λ (y : ℕ). count y xs) e)

module _ (g : Atlas) (m : ℕ) (h : ℕ → ℕ) (s : ℕ) (ls : s < m) (w : ℕ) (ch : ℕ → List ℕ) (rs : List ℕ) (x : ℕ)
    (lent : 7 * records_most ≤ length g.buckets) where
  lay_more : (k : ℕ) (l : Lay) → g.head.bucket_count + k < records_most → More g l w m h s ch rs x k → More g (lay_one w s l) w m h s ch rs x (suc k)
  lay_more k l hn p =
      let j : ℕ = new_index l.state.head in
      let table : length (lay_one w s l).state.buckets ≡ length g.buckets = one_length w s l ∙ p.table in
      let q : One l w m h s p.chs p.rest = lay_one_law m h s ls p.chs l w p.rest (omega (arith, p.greatest)) (omega (arith, p.table)) p.tied in
      let e : upd p.chs s (j ∷ p.chs s) s ≡ j ∷ p.chs s = upd_same p.chs s (j ∷ p.chs s) in
      let apart : (i a : ℕ) → i < m → In a (p.chs i) → a ≢ j = λ i a li g. count_some a j (p.chs i) (q.loose i li) g in
      let count-mine : (a : ℕ) → count a (p.chs s) ≡ count a p.new + count a (ch s) = λ a. ap (count a) p.mine ∙ count_append a p.new (ch s) in
      let old : (i a : ℕ) → i < m → In a (ch i) → In a (p.chs i) = λ i a li g. elim (ℕ_discrete i s) [
        | yes z ↦ omega (arith, count-mine a, ap (λ (y : ℕ). count a (ch y)) z, ap (λ (y : ℕ). count a (p.chs y)) z)
        | no ne ↦ omega (arith, ap (count a) (p.others i ne))
      ] in
      let below : j < (new_store l.state).bucket_count = q.below in
      let here : bucket_at (lay_one w s l).state.buckets j ≡ fresh l.x w l.first s (new_generation l.state) =
      one_same w s l (omega (arith, p.greatest, p.table, q.greatest)) in
      let at_x : (bucket_at (lay_one w s l).state.buckets j).x ≡ l.x = ap (λ (v : Bucket). v.x) here in
      record {
        new = j ∷ p.new;
        chs = upd p.chs s (j ∷ p.chs s);
        rest = q.rest;
        tied = rw (one_store w s l, one_first w s l) q.tied;
        mine = e ∙ ap (λ (xs : List ℕ). j ∷ xs) p.mine;
        others = λ i ne. upd_other p.chs s (j ∷ p.chs s) i ne ∙ p.others i ne;
        long = omega (arith, p.long);
        at = omega (arith, one_x w s l, p.at, suc-mul k w);
        kept = λ i a li g. one_other w s l a (apart i a li (old i a li g)) ∙ p.kept i a li g;
        unused = λ a g. elim (ℕ_discrete a j) [
          | yes z ↦ rw (z, here) (record { free = refl; refs = refl; items = refl; shelf = refl })
          | no ne ↦ rw (one_other w s l a ne) (p.unused a (omega (arith, hit_other a j ne)))
        ];
        spaced = (
          at_x ∙ p.at ∙ ap (λ (n : ℕ). x + n * w) (sym p.long),
          spaced_frame l.state.buckets (lay_one w s l).state.buckets w x p.new
              (λ a g. one_other w s l a (apart s a ls (omega (arith, count-mine a)))) p.spaced,
        );
        ordered = λ left ll o.
            let o₁ : Ordered l.state.buckets w left l.x (p.new ++ ch s) = p.ordered left ll o in
            let o₂ : Ordered (lay_one w s l).state.buckets w left l.x (p.new ++ ch s) =
            ordered_frame l.state.buckets (lay_one w s l).state.buckets w left l.x (p.new ++ ch s)
            (λ a g. ap (λ (v : Bucket). v.x) (one_other w s l a (apart s a ls (omega (arith, ap (count a) p.mine))))) o₁ in
            (omega (arith, p.at), omega (arith, one_x w s l), rw at_x o₂);
        fewer = λ a. omega (arith, q.fewer a, p.fewer a);
        still = λ a g. one_other w s l a (count_some a j q.rest q.apart g) ∙ p.still a (omega (arith, q.fewer a));
        past = λ a la. one_other w s l a (omega (arith, ap (λ (v : Head). v.bucket_count) (one_store w s l)))
            ∙ p.past a (omega (arith, q.fewest, ap (λ (v : Head). v.bucket_count) (one_store w s l)));
        generations = λ a la. elim (ℕ_discrete a j) [
          | yes z ↦ rw (z, here) (generation_low l.state)
          | no ne ↦ rw (one_other w s l a ne) (p.generations a (q.before a (rw (one_store w s l) at la) ne))
        ];
        store =
            let n = new_store l.state in
            rw (one_store w s l) (store_head l.state ∙ ap (λ (v : Head). with_store v n.bucket_count n.released) p.store);
        shelves = one_shelves w s l ∙ p.shelves;
        fewest = omega (arith, p.fewest, q.fewest, ap (λ (v : Head). v.bucket_count) (one_store w s l));
        greatest = omega (arith, p.greatest, q.greatest, ap (λ (v : Head). v.bucket_count) (one_store w s l));
        table = table;
      }

  lay_none : (c : ℕ) → ((j : ℕ) → j < g.head.bucket_count → (bucket_at g.buckets j).generation < 256)
      → Tied (next g.buckets) g.head.bucket_count m (upd h s c) g.head.released ch rs → More g (laying g x c) w m h s ch rs x 0
  lay_none c gs p = record {
    new = [];
    chs = ch;
    rest = rs;
    tied = p;
    mine = refl;
    others = λ i ne. refl;
    long = refl;
    at = omega (arith, zero-mul w);
    kept = λ i j li g. refl;
    unused = λ j g. absurd (omega arith);
    spaced = tt;
    ordered = λ left ll o. o;
    fewer = λ j. omega arith;
    still = λ j g. refl;
    past = λ j lj. refl;
    generations = gs;
    store = refl;
    shelves = refl;
    fewest = omega arith;
    greatest = omega arith;
    table = refl;
  }

  pub lay_many_law : (k c : ℕ) → g.head.bucket_count + k ≤ records_most → ((j : ℕ) → j < g.head.bucket_count → (bucket_at g.buckets j).generation < 256)
      → Tied (next g.buckets) g.head.bucket_count m (upd h s c) g.head.released ch rs → More g (lay_many k w s (laying g x c)) w m h s ch rs x k
  unfolding lay_many
  lay_many_law zero c hn gs p = lay_none c gs p
  lay_many_law (suc k) c hn gs p = lay_more k (lay_many k w s (laying g x c)) (omega arith) (lay_many_law k c (omega arith) gs p)
