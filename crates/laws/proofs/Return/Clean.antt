-- The cleanup: unreferenced last shelves are popped, and the tables are sound then. What is referenced stays as it was, record and shelf.
use Prim.Native.Nat.{ℕ, zero, suc, ◌+◌, ◌*◌, ◌≤◌, ◌<◌}
use mathlib.Core.Bool.{Bool, true, false}
use mathlib.Core.Path.{◌≡◌, refl, sym, ap, ◌∙◌, subst}
use mathlib.Core.List.{◌++◌}
use native.Mathlib.Decide.{ℕ_discrete, dec_lt}
use native.Mathlib.Omega.{arith}
use lib.ListN.{length}
use Rattle.rules.specs.declared.Bucket.{Bucket}
use Rattle.rules.specs.declared.Head.{Head}
use Rattle.rules.specs.declared.Shelf.{Shelf}
use Rattle.rules.specs.Tables.{Atlas, bucket_at, shelf_at, with_store, with_shelves}
use Rattle.rules.specs.Chains.{count, In, sum_to, chain_of, released_of, next, first, chain}
use Rattle.rules.specs.Merging.{unreferenced, Unreferenced}
use Rattle.rules.specs.Return.{used_area, relinked, popped, cleaned}
use Rattle.rules.specs.Sound.{Stocked, used_on, Domain, Steady, LastUsed}
use Rattle.laws.proofs.Chains.Count.{count_append, sum_ext, sum_of_same}
use Rattle.laws.proofs.Chains.Moves.{last_in}
use Rattle.laws.proofs.Sound.Header.{with_tables, domain_keeps}
use Rattle.laws.proofs.Sound.Order.{ordered_frame}
use Rattle.laws.proofs.Sound.Lies.{shelf_step}
use Rattle.laws.proofs.Sound.Unreferenced.{unreferenced_yes, unreferenced_no, unreferenced_area_on}
use Rattle.laws.proofs.Return.Pop.{last_on, Pops, pop}
use Rattle.laws.proofs.Return.StepBack.{stepped_is, pop_stacked, pop_columns}

-- ---- the last shelf popped

-- the header h with the column, the room, the shelf count and the released chain of h'
abbrev pub cleaned_head : Head → Head → Head
cleaned_head h h' = with_tables h h'.column h'.room h'.shelf_count h.bucket_count h'.released

-- what a cleanup leaves as it was: of the header all but the shelves, the column, its room and the released chain; of a record all but its
-- link, and of a referenced one that too; the shelves' table, and the chains of the shelves that are left
pub record Cleans (g g' : Atlas) : Type 0 where
  pub head : g'.head ≡ cleaned_head g.head g'.head
  pub fewer : g'.head.shelf_count ≤ g.head.shelf_count
  pub shelves : g'.shelves ≡ g.shelves
  pub records : (k : ℕ) → bucket_at g'.buckets k ≡ relinked (bucket_at g.buckets k) (bucket_at g'.buckets k).next
  pub used : (k : ℕ) → 0 < (bucket_at g.buckets k).refs → bucket_at g'.buckets k ≡ bucket_at g.buckets k
  pub past : (k : ℕ) → g.head.bucket_count ≤ k → bucket_at g'.buckets k ≡ bucket_at g.buckets k
  pub chains : (i : ℕ) → i < g'.head.shelf_count → chain_of g' i ≡ chain_of g i

pub cleans_none : (g : Atlas) → Cleans g g
cleans_none g = record { head = refl; fewer = omega arith; shelves = refl; records = λ k. refl; used = λ k l. refl; past = λ k l. refl; chains = λ i l. refl }

module _ {m : ℕ} {g : Atlas} (st : Steady g) (em : g.head.shelf_count ≡ suc m) (d : Unreferenced g m) where
  pops : Pops m g
  pops =
      let room : 7 * g.head.bucket_count ≤ length g.buckets = omega (arith, st.lent.buckets, st.domain.buckets) in
      pop m g em st.domain.buckets room (st.stocked m (omega arith)).some st.chained

  -- its last bucket is one of it
  last_member : In (last_on m g) (chain_of g m)
  last_member =
      let t = shelf_step st m (omega arith) in
      rw t.turn (last_in (first g.shelves m) (chain g.buckets (next g.buckets (first g.shelves m))))

  -- a record's numbers but the link are as they were
  pop_field : (F : Bucket → ℕ) → ((v : Bucket) (n : ℕ) → F (relinked v n) ≡ F v) → (k : ℕ) → F (bucket_at (popped m g).buckets k) ≡ F (bucket_at g.buckets k)
  pop_field F e k = elim (ℕ_discrete k (last_on m g)) [
    | yes q ↦ subst (λ (a : ℕ). F (bucket_at (popped m g).buckets a) ≡ F (bucket_at g.buckets a)) (sym q)
        (ap F pops.link ∙ e (bucket_at g.buckets (last_on m g)) g.head.released)
    | no ne ↦ ap F (pops.records k ne)
  ]

  -- the members of the other chains are as they were
  pop_member : (i : ℕ) → i < m → (k : ℕ) → In k (chain_of g i) → bucket_at (popped m g).buckets k ≡ bucket_at g.buckets k
  pop_member i l k c = pops.records k (λ q. let z = pops.apart i l in omega (arith, ap (λ (a : ℕ). count a (chain_of g i)) q))

  pop_shelves : (popped m g).shelves ≡ g.shelves
  unfolding popped
  pop_shelves = refl

  pop_head : (popped m g).head ≡ cleaned_head g.head (popped m g).head
  unfolding popped
  pop_head = ap (λ (h : Head). with_store (with_shelves h m) g.head.bucket_count (first g.shelves m)) (stepped_is g.shelves m g.head)

  pop_count : (popped m g).head.shelf_count ≡ m
  unfolding popped
  pop_count = refl

  pop_stocked : (i : ℕ) → i < m → Stocked (popped m g) i
  pop_stocked i l =
      let t : Stocked g i = st.stocked i (omega arith) in
      let ew : (popped m g).head.column_width ≡ g.head.column_width = ap (λ (h : Head). h.column_width) pop_head in
      let ec : (popped m g).head.columns ≡ g.head.columns = ap (λ (h : Head). h.columns) pop_head in
      let s : Shelf = shelf_at g.shelves i in
      record {
        some = rw pop_shelves t.some;
        ordered = rw (pops.others i l, pop_shelves, ew)
            (ordered_frame g.buckets (popped m g).buckets s.width s.x (s.x + g.head.column_width) (chain_of g i)
            (λ k c. pop_field (λ (u : Bucket). u.x) (λ v n. refl) k) t.ordered);
        counted = λ k c.
            let c' : In k (chain_of g i) = rw (pops.others i l) at c in
            rw (pop_shelves, pop_member i l k c') (t.counted k c');
        wide = rw (ec, pop_shelves) t.wide;
      }

  pop_released : (k : ℕ) → In k (released_of (popped m g)) → (bucket_at (popped m g).buckets k).refs ≡ 0
  pop_released k c =
      let c' : 0 < count k (chain_of g m ++ released_of g) = rw pops.released at c in
      rw (pop_field (λ (u : Bucket). u.refs) (λ v n. refl) k) (elim (dec_lt 0 (count k (released_of g))) [
        | yes l ↦ st.released k l
        | no z ↦ d k (omega (arith, count_append k (chain_of g m) (released_of g)))
      ])

  pop_occupied : (popped m g).head.occupied ≡ sum_to m (used_on (popped m g))
  pop_occupied =
      let eo : (popped m g).head.occupied ≡ g.head.occupied = ap (λ (h : Head). h.occupied) pop_head in
      let each : (i : ℕ) → i < m → used_on (popped m g) i ≡ used_on g i = λ i l. rw (pops.others i l, pop_shelves)
      (sum_of_same (λ k. used_area (shelf_at g.shelves i) (bucket_at g.buckets k)) (λ k. used_area (shelf_at g.shelves i) (bucket_at (popped m g).buckets k))
      (chain_of g i) (λ k c. ap (used_area (shelf_at g.shelves i)) (pop_member i l k c))) in
      omega (
        arith,
        st.occupied,
        ap (λ (n : ℕ). sum_to n (used_on g)) em,
        unreferenced_area_on st m (omega arith) d,
        sum_ext m (used_on (popped m g)) (used_on g) each,
      )

  pub cleans_popped : Cleans g (popped m g)
  cleans_popped = record {
    head = pop_head;
    fewer = omega (arith, pop_count);
    shelves = pop_shelves;
    records = λ k. elim (ℕ_discrete k (last_on m g)) [
      | yes q ↦ subst (λ (a : ℕ). bucket_at (popped m g).buckets a ≡ relinked (bucket_at g.buckets a) (bucket_at (popped m g).buckets a).next) (sym q)
          (rw pops.link)
      | no ne ↦ rw (pops.records k ne)
    ];
    used = λ k l. pops.records k (λ q. let z = d (last_on m g) last_member in omega (arith, ap (λ (a : ℕ). (bucket_at g.buckets a).refs) q));
    past = λ k l. pops.records k (λ q. omega (arith, pops.below));
    chains = λ i l. pops.others i (omega (arith, pop_count));
  }

  pub steady_popped : Steady (popped m g)
  steady_popped = record {
    lent = record { shelves = rw pop_shelves st.lent.shelves; buckets = rw pops.table st.lent.buckets };
    domain = subst Domain (sym pop_head) (domain_keeps st.domain _ _ _ _ _ _ (omega (arith, pop_count, st.domain.shelves)) st.domain.buckets);
    columns = pop_columns m g em (λ i l. st.stacked i (omega arith)) st.columns;
    stacked = λ i l. pop_stacked m g i (st.stacked i (omega (arith, pop_count)));
    chained = pops.chained;
    stocked = λ i l. pop_stocked i (omega (arith, pop_count));
    released = pop_released;
    occupied = rw pop_count pop_occupied;
    generations = λ k l. rw (pop_field (λ (u : Bucket). u.generation) (λ v n. refl) k)
        (st.generations k (rw (ap (λ (h : Head). h.bucket_count) pop_head) at l));
  }

-- ---- the cleanup

pub cleans_trans : {g g' g'' : Atlas} → Cleans g g' → Cleans g' g'' → Cleans g g''
cleans_trans {g} {g'} {g''} p q = record {
  head = q.head ∙ ap (λ (h : Head). cleaned_head h g''.head) p.head;
  fewer = omega (arith, p.fewer, q.fewer);
  shelves = q.shelves ∙ p.shelves;
  records = λ k. q.records k ∙ ap (λ (v : Bucket). relinked v (bucket_at g''.buckets k).next) (p.records k);
  used = λ k l. q.used k (rw (p.used k l) l) ∙ p.used k l;
  past = λ k l. q.past k (omega (arith, ap (λ (h : Head). h.bucket_count) p.head)) ∙ p.past k l;
  chains = λ i l. q.chains i l ∙ p.chains i (omega (arith, q.fewer));
}

cleaned_unreferenced : (m : ℕ) (g : Atlas) → unreferenced g.buckets (chain_of g m) ≡ true → cleaned (suc m) g ≡ cleaned m (popped m g)
unfolding cleaned
cleaned_unreferenced m g e = simp e

cleaned_used : (m : ℕ) (g : Atlas) → unreferenced g.buckets (chain_of g m) ≡ false → cleaned (suc m) g ≡ g
unfolding cleaned
cleaned_used m g e = simp e

pub record Cleaned (g g' : Atlas) : Type 0 where
  pub steady : Steady g'
  pub last_used : LastUsed g'
  pub cleans : Cleans g g'

clean_turn : (m : ℕ) (g : Atlas) → g.head.shelf_count ≡ suc m → Steady g
    → ((g' : Atlas) → g'.head.shelf_count ≡ m → Steady g' → Cleaned g' (cleaned m g'))
    → (t : Bool) → unreferenced g.buckets (chain_of g m) ≡ t → Cleaned g (cleaned (suc m) g)
clean_turn m g e st rest true q =
    let d : Unreferenced g m = unreferenced_yes g.buckets (chain_of g m) q in
    let r = rest (popped m g) (pop_count st e d) (steady_popped st e d) in
    rw (cleaned_unreferenced m g q) (record { steady = r.steady; last_used = r.last_used; cleans = cleans_trans (cleans_popped st e d) r.cleans })
clean_turn m g e st rest false q =
    rw (cleaned_used m g q) (record {
      steady = st;
      last_used = λ i z.
          let same : i ≡ m = omega arith in
          rw same (unreferenced_no g.buckets (chain_of g m) q);
      cleans = cleans_none g;
    })

pub clean : (n : ℕ) (g : Atlas) → g.head.shelf_count ≡ n → Steady g → Cleaned g (cleaned n g)
unfolding cleaned
clean zero g e st = record { steady = st; last_used = λ i q. absurd (omega arith); cleans = cleans_none g }
clean (suc m) g e st = clean_turn m g e st (λ g' e' st'. clean m g' e' st') (unreferenced g.buckets (chain_of g m)) refl
