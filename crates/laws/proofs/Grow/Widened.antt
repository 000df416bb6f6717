-- A growing shelf gets more buckets in front of its chain, one shelf after another: the tables stay sound, every shelf where it was and every
-- bucket that was in a chain as it was.
use Prim.Native.Nat.{ℕ, zero, suc, ◌+◌, ◌*◌, ◌/◌, ◌≤◌, ◌<◌}
use mathlib.Core.Path.{◌≡◌, refl, sym, ap, ◌∙◌, subst, ap₂}
use mathlib.Core.Logic.{◌≢◌, ◌⊎◌, inl, inr, ⊎_elim}
use mathlib.Core.List.{List}
use native.Mathlib.Decide.{ℕ_discrete, dec_lt}
use native.Mathlib.Nat.{div-mul-le_self, mul-le-mul_right}
use native.Mathlib.Omega.{arith}
use lib.ListN.{length, length-append}
use Rattle.rules.specs.declared.Bucket.{Bucket}
use Rattle.rules.specs.declared.Head.{Head}
use Rattle.rules.specs.declared.Shelf.{Shelf}
use Rattle.rules.specs.Limits.{records_most}
use Rattle.rules.specs.Tables.{Atlas, atlas, bucket_at, shelf_at, put_shelf, with_store}
use Rattle.rules.specs.Chains.{count, In, chain_of, first}
use Rattle.rules.specs.Store.{Lay, laying, lay_many}
use Rattle.rules.specs.Grow.{more_buckets, headed, widened, widened_to}
use Rattle.rules.specs.Sound.{Stocked, used_on, Steady}
use Rattle.laws.proofs.Tables.Records.{length_put_s, at_s_put, at_s_put_other, first_put_s, first_put_s_other}
use Rattle.laws.proofs.Tables.Beyond.{Beyond, beyond_none, beyond_then}
use Rattle.laws.proofs.Chains.Count.{count_append, sum_ext}
use Rattle.laws.proofs.Sound.Header.{domain_keeps}
use Rattle.laws.proofs.Sound.Order.{Along, ordered_frame}
use Rattle.laws.proofs.Sound.Lies.{column_alike, chain_some}
use Rattle.laws.proofs.NewShelf.Laid.{Laid, more_old, laid_old}
use Rattle.laws.proofs.NewShelf.Buckets.{Alike, alike_same, alike_then, counted_alike, stacked_keep, weight_alike}
use Rattle.laws.proofs.NewShelf.Buckets.{released_laid, used_other, used_mine, stocked_other, stocked_mine}

-- ---- one shelf gets more buckets

-- every shelf of g is in n where it was and as large, the buckets of its chain are in it as they were, and the others are unreferenced
pub record Keeps (g n : Atlas) : Type 0 where
  pub alike : (j : ℕ) → j < g.head.shelf_count → Alike (shelf_at n.shelves j) (shelf_at g.shelves j)
  pub member : (j k : ℕ) → j < g.head.shelf_count → In k (chain_of g j) → In k (chain_of n j)
  pub bucket : (j k : ℕ) → j < g.head.shelf_count → In k (chain_of g j) → bucket_at n.buckets k ≡ bucket_at g.buckets k
  pub unreferenced : (j k : ℕ) → j < g.head.shelf_count → In k (chain_of n j) → In k (chain_of g j) ⊎ ((bucket_at n.buckets k).refs ≡ 0)
  pub more : g.head.bucket_count ≤ n.head.bucket_count
  pub beyond : Beyond g n

-- n is g with buckets laid in front of the chain of shelf i
pub record Widened (g n : Atlas) (i : ℕ) : Type 0 where
  pub steady : Steady n
  pub head : n.head ≡ with_store g.head n.head.bucket_count n.head.released
  pub others : (j : ℕ) → j < g.head.shelf_count → j ≢ i → chain_of n j ≡ chain_of g j
  pub keeps : Keeps g n

-- g with shelf i started at the last bucket laid
abbrev restarted : ℕ → Lay → Atlas → Atlas
restarted i l g =
    atlas (with_store g.head l.state.head.bucket_count l.state.head.released)
    (put_shelf g.shelves i (headed (shelf_at g.shelves i) l.first))
    l.state.buckets

module _ (g : Atlas) (p : Steady g) (x k i : ℕ) (li : i < g.head.shelf_count) (l : Lay)
    (el : l ≡ lay_many k (shelf_at g.shelves i).width i (laying g x (first g.shelves i)))
    (room : g.head.bucket_count + k ≤ records_most) (left : (shelf_at g.shelves i).x ≤ x)
    (right : x + k * (shelf_at g.shelves i).width ≤ (shelf_at g.shelves i).x + g.head.column_width)
    (below : Along g i x) where
  shelf_room : 5 * i + 5 ≤ length g.shelves
  shelf_room = omega (arith, p.domain.shelves, p.lent.shelves)

  shelf_here : shelf_at (restarted i l g).shelves i ≡ headed (shelf_at g.shelves i) l.first
  shelf_here = at_s_put g.shelves i (headed (shelf_at g.shelves i) l.first) shelf_room

  shelf_other : (j : ℕ) → j ≢ i → shelf_at (restarted i l g).shelves j ≡ shelf_at g.shelves j
  shelf_other j ne = at_s_put_other g.shelves i (headed (shelf_at g.shelves i) l.first) j ne

  alike_here : Alike (shelf_at (restarted i l g).shelves i) (shelf_at g.shelves i)
  alike_here = rw shelf_here (record { x = refl; y = refl; height = refl; width = refl })

  alike : (j : ℕ) → Alike (shelf_at (restarted i l g).shelves j) (shelf_at g.shelves j)
  alike j = elim (ℕ_discrete j i) [
    | yes e ↦ rw e alike_here
    | no ne ↦ alike_same (shelf_other j ne)
  ]

  laid_here : Laid g (restarted i l g) i (shelf_at g.shelves i).width (chain_of g i) x k
  laid_here =
      laid_old g p.chained p.lent.buckets p.generations (shelf_at g.shelves i).width x k room i li
      (restarted i l g).head (restarted i l g).shelves l el refl refl refl
      (first_put_s g.shelves i (headed (shelf_at g.shelves i) l.first) shelf_room)
      (λ j lj ne. first_put_s_other g.shelves i (headed (shelf_at g.shelves i) l.first) j ne)

  count_here : (j : ℕ) → count j (chain_of (restarted i l g) i) ≡ count j laid_here.new + count j (chain_of g i)
  count_here j = ap (count j) laid_here.mine ∙ count_append j laid_here.new (chain_of g i)

  stocked_here : Stocked (restarted i l g) i
  stocked_here =
      let a : Alike (shelf_at (restarted i l g).shelves i) (shelf_at g.shelves i) = alike i in
      stocked_mine laid_here (λ j lj. alike j)
      (omega (arith, ap length laid_here.mine, length-append laid_here.new (chain_of g i), chain_some p i li))
      a.width (omega (arith, a.x)) (omega (arith, a.x)) (rw a.x below)
      (λ j c. rw (laid_here.kept i j li c) (counted_alike a ((p.stocked i li).counted j c)))
      (p.stocked i li).wide

  used_here : used_on (restarted i l g) i ≡ used_on g i
  used_here =
      used_mine laid_here (λ j lj. alike j) (alike i).width
      ∙ weight_alike g (restarted i l g) i (chain_of g i) (alike i) (λ k c. laid_here.kept i k li c)

  restarted_steady : Steady (restarted i l g)
  restarted_steady =
      let m : ℕ = g.head.shelf_count in
      let d : Laid g (restarted i l g) i (shelf_at g.shelves i).width (chain_of g i) x k = laid_here in
      record {
        lent = record {
          shelves = omega (arith, p.lent.shelves, length_put_s g.shelves i (headed (shelf_at g.shelves i) l.first));
          buckets = omega (arith, p.lent.buckets, d.table);
        };
        domain = domain_keeps p.domain _ _ _ _ _ _ p.domain.shelves (omega (arith, d.greatest));
        columns = record {
          fit = p.columns.fit;
          current = p.columns.current;
          empty = p.columns.empty;
          last = λ j e. (
            column_alike g.shelves (restarted i l g).shelves j (λ a la. (alike a).y) ∙ (p.columns.last j e).0,
            omega (arith, (alike j).y, (alike j).height, (p.columns.last j e).1),
          );
        };
        stacked = λ j lj. stacked_keep g (restarted i l g) j (λ a la. alike a) refl (omega arith) (p.stacked j lj);
        chained = d.chained;
        stocked = λ j lj. elim (ℕ_discrete j i) [
          | yes e ↦ rw e stocked_here
          | no ne ↦
              let first = first_put_s_other g.shelves i (headed (shelf_at g.shelves i) l.first) j ne in
              stocked_other d (λ j lj. alike j) j lj ne first (omega arith) (λ z. z) (p.stocked j lj)
        ];
        released = released_laid d (λ j lj. alike j) p.released;
        occupied = p.occupied ∙ sum_ext m (used_on g) (used_on (restarted i l g)) (λ j lj. elim (ℕ_discrete j i) [
          | yes e ↦ rw e (sym used_here)
          | no ne ↦ sym (used_other d (λ j lj. alike j) j lj ne)
        ]);
        generations = d.generations;
      }

  restarted_widened : Widened g (restarted i l g) i
  restarted_widened =
      let d : Laid g (restarted i l g) i (shelf_at g.shelves i).width (chain_of g i) x k = laid_here in
      record {
        steady = restarted_steady;
        head = refl;
        others = d.others;
        keeps = record {
          alike = λ j lj. alike j;
          member = λ j k lj c. elim (ℕ_discrete j i) [
            | no ne ↦ omega (arith, ap (count k) (d.others j lj ne))
            | yes e ↦
                let c₀ : In k (chain_of g i) = rw e at c in
                rw e (omega (arith, count_here k))
          ];
          bucket = d.kept;
          unreferenced = λ j k lj c. elim (ℕ_discrete j i) [
            | no ne ↦ inl (omega (arith, ap (count k) (d.others j lj ne)))
            | yes e ↦
                let c₀ : In k (chain_of (restarted i l g) i) = rw e at c in
                elim (dec_lt 0 (count k d.new)) [
                  | yes n ↦ inr (d.unused k n).refs
                  | no z ↦ inl (rw e (omega (arith, count_here k)))
                ]
          ];
          more = d.fewest;
          beyond = record {
            shelves = λ j lj. shelf_other j (omega arith);
            buckets = d.past;
            shelf_table = length_put_s g.shelves i (headed (shelf_at g.shelves i) l.first);
            bucket_table = d.table;
          };
        };
      }

pub widened_keeps : (g : Atlas) → Steady g → (x k i : ℕ) → i < g.head.shelf_count → g.head.bucket_count + k ≤ records_most
    → (shelf_at g.shelves i).x ≤ x → x + k * (shelf_at g.shelves i).width ≤ (shelf_at g.shelves i).x + g.head.column_width
    → Along g i x → Widened g (widened x k i g) i
unfolding widened first
widened_keeps g p x k i li room left right below =
    let l : Lay = lay_many k (shelf_at g.shelves i).width i (laying g x (first g.shelves i)) in
    let q = more_old g p.chained p.lent.buckets p.generations (shelf_at g.shelves i).width x k room i li in
    let e : atlas l.state.head (put_shelf l.state.shelves i (headed (shelf_at g.shelves i) l.first)) l.state.buckets ≡ restarted i l g =
    ap₂ (λ (h : Head) (s : List ℕ). atlas h (put_shelf s i (headed (shelf_at g.shelves i) l.first)) l.state.buckets) q.store q.shelves in
    subst (λ (n : Atlas). Widened g n i) (sym e) (restarted_widened g p x k i li l refl room left right below)

-- ---- each shelf in order

-- n is g with buckets laid on some of its first k shelves
pub record Wider (g n : Atlas) (k : ℕ) : Type 0 where
  pub steady : Steady n
  pub head : n.head ≡ with_store g.head n.head.bucket_count n.head.released
  pub waiting : (j : ℕ) → k ≤ j → j < g.head.shelf_count → chain_of n j ≡ chain_of g j
  pub keeps : Keeps g n

pub wider_none : (g : Atlas) → Steady g → Wider g g 0
wider_none g p = record {
  steady = p;
  head = refl;
  waiting = λ j a l. refl;
  keeps = record {
    alike = λ j l. alike_same refl;
    member = λ j k l c. c;
    bucket = λ j k l c. refl;
    unreferenced = λ j k l c. inl c;
    more = omega arith;
    beyond = beyond_none g;
  };
}

wider_more : (g n n' : Atlas) (k : ℕ) → Wider g n k → Widened n n' k → Wider g n' (suc k)
wider_more g n n' k p q =
    let m : n.head.shelf_count ≡ g.head.shelf_count = ap (λ (h : Head). h.shelf_count) p.head in
    let m' : n'.head.shelf_count ≡ n.head.shelf_count = ap (λ (h : Head). h.shelf_count) q.head in
    record {
      steady = q.steady;
      head = q.head ∙ ap (λ (h : Head). with_store h n'.head.bucket_count n'.head.released) p.head;
      waiting = λ j a l. q.others j (omega arith) (omega arith) ∙ p.waiting j (omega arith) l;
      keeps = record {
        alike = λ j l. alike_then (q.keeps.alike j (omega arith)) (p.keeps.alike j l);
        member = λ j k l c. q.keeps.member j k (omega arith) (p.keeps.member j k l c);
        bucket = λ j k l c. q.keeps.bucket j k (omega arith) (p.keeps.member j k l c) ∙ p.keeps.bucket j k l c;
        unreferenced = λ j k l c. ⊎_elim
            (λ o. ⊎_elim (λ a. inl a) (λ z. inr (ap (λ (v : Bucket). v.refs) (q.keeps.bucket j k (omega arith) o) ∙ z)) (p.keeps.unreferenced j k l o))
            (λ z. inr z) (q.keeps.unreferenced j k (omega arith) c);
        more = omega (arith, p.keeps.more, q.keeps.more);
        beyond = beyond_then p.keeps.beyond q.keeps.beyond (omega arith) q.keeps.more;
      };
    }

-- from x on, where every chain ends at x at the latest and the column is `added` wider than that
module _ (g : Atlas) (p : Steady g) (x added : ℕ) (left : (i : ℕ) → i < g.head.shelf_count → (shelf_at g.shelves i).x ≡ 0)
    (wide : x + added ≤ g.head.column_width) (below : (i : ℕ) → i < g.head.shelf_count → Along g i x) where
  pub widened_to_keeps : (k : ℕ) → k ≤ g.head.shelf_count → Wider g (widened_to x added k g) k
  unfolding widened_to
  widened_to_keeps zero lk = wider_none g p
  widened_to_keeps (suc k) lk =
      let n : Atlas = widened_to x added k g in
      let q : Wider g n k = widened_to_keeps k (omega arith) in
      let s : Shelf = shelf_at n.shelves k in
      let c : ℕ = more_buckets added s n.head in
      let a : Alike s (shelf_at g.shelves k) = q.keeps.alike k (omega arith) in
      let same : chain_of n k ≡ chain_of g k = q.waiting k (omega arith) (omega arith) in
      let cw : n.head.column_width ≡ g.head.column_width = ap (λ (h : Head). h.column_width) q.head in
      let m : n.head.shelf_count ≡ g.head.shelf_count = ap (λ (h : Head). h.shelf_count) q.head in
      let zero-x : s.x ≡ 0 = a.x ∙ left k (omega arith) in
      let span : c * s.width ≤ added / s.width * s.width = mul-le-mul_right s.width (omega arith) in
      let order : Along n k x =
      rw (same, a.x, a.width) (ordered_frame g.buckets n.buckets (shelf_at g.shelves k).width (shelf_at g.shelves k).x x (chain_of g k)
      (λ j cj. ap (λ (v : Bucket). v.x) (q.keeps.bucket k j (omega arith) cj)) (below k (omega arith))) in
      wider_more g n (widened x c k n) k q
      (widened_keeps n q.steady x c k (omega arith) (omega (arith, q.steady.domain.buckets)) (omega arith)
      (omega (arith, span, div-mul-le_self added s.width)) order)
