-- The tables after a laying, whatever table of shelves then starts the shelf at the last bucket laid: a shelf more, or one that grows.
-- Said of the header and the table of shelves that the step then makes, whichever they are.
use Prim.Native.Nat.{ℕ, suc, ◌+◌, ◌*◌, ◌≤◌, ◌<◌}
use mathlib.Core.Path.{◌≡◌, refl, sym, ap, ◌∙◌}
use mathlib.Core.Logic.{◌≢◌}
use mathlib.Core.List.{List, [], ◌++◌}
use native.Mathlib.Decide.{ℕ_discrete}
use native.Mathlib.Omega.{arith}
use lib.ListN.{length}
use Rattle.rules.specs.declared.Head.{Head}
use Rattle.rules.specs.Limits.{records_most, none}
use Rattle.rules.specs.Tables.{Atlas, atlas, bucket_at}
use Rattle.rules.specs.Chains.{count, In, chain_of, released_of, next, first, chain}
use Rattle.rules.specs.Store.{Lay, laying, lay_many}
use Rattle.rules.specs.Sound.{Ordered, Chained, Generations}
use Rattle.laws.proofs.Chains.Count.{upd, upd_same, upd_other}
use Rattle.laws.proofs.Chains.Moves.{Tied, open_chain}
use Rattle.laws.proofs.Chains.Ties.{tied_same, chain_is, released_is, tied_of, chained_of}
use Rattle.laws.proofs.Sound.Order.{Spaced}
use Rattle.laws.proofs.NewShelf.Laying.{Unused, More, lay_many_law}

-- g' is g with k buckets, w wide, laid on shelf a from x on, in front of the chain `old`
pub record Laid (g g' : Atlas) (a w : ℕ) (old : List ℕ) (x k : ℕ) : Type 0 where
  pub new : List ℕ
  pub chained : Chained g'
  pub mine : chain_of g' a ≡ new ++ old
  pub others : (i : ℕ) → i < g.head.shelf_count → i ≢ a → chain_of g' i ≡ chain_of g i
  pub long : length new ≡ k
  pub kept : (i j : ℕ) → i < g.head.shelf_count → In j (chain_of g i) → bucket_at g'.buckets j ≡ bucket_at g.buckets j
  pub unused : (j : ℕ) → In j new → Unused w a (bucket_at g'.buckets j)
  pub spaced : Spaced g'.buckets w x new
  pub ordered : (left : ℕ) → left ≤ x → Ordered g.buckets w left x old → Ordered g'.buckets w left (x + k * w) (new ++ old)
  pub fewer : (j : ℕ) → In j (released_of g') → In j (released_of g)
  pub still : (j : ℕ) → In j (released_of g') → bucket_at g'.buckets j ≡ bucket_at g.buckets j
  pub past : (j : ℕ) → g'.head.bucket_count ≤ j → bucket_at g'.buckets j ≡ bucket_at g.buckets j
  pub generations : Generations g'
  pub fewest : g.head.bucket_count ≤ g'.head.bucket_count
  pub greatest : g'.head.bucket_count ≤ g.head.bucket_count + k
  pub table : length g'.buckets ≡ length g.buckets

module _ (g : Atlas) (h' : Head) (s' : List ℕ) (l : Lay) (a w m x k : ℕ) (ch : ℕ → List ℕ) (la : a < m) (lm : g.head.shelf_count ≤ m)
    (ec : (i : ℕ) → i < g.head.shelf_count → ch i ≡ chain_of g i) (q : More g l w m (first g.shelves) a ch (released_of g) x k)
    (eb : h'.bucket_count ≡ l.state.head.bucket_count) (er : h'.released ≡ l.state.head.released) (em : h'.shelf_count ≡ m)
    (room : g.head.bucket_count + k ≤ records_most) (ea : first s' a ≡ l.first) (eo : (i : ℕ) → i < m → i ≢ a → first s' i ≡ first g.shelves i) where
  laid_of : Laid g (atlas h' s' l.state.buckets) a w (ch a) x k
  laid_of =
      let b : List ℕ = l.state.buckets in
      let hn : l.state.head.bucket_count ≤ records_most = omega (arith, q.greatest) in
      let eh : (i : ℕ) → i < m → first s' i ≡ upd (first g.shelves) a l.first i = λ i li. elim (ℕ_discrete i a) [
        | yes e ↦ ap (first s') e ∙ ea ∙ sym (ap (upd (first g.shelves) a l.first) e ∙ upd_same (first g.shelves) a l.first)
        | no ne ↦ eo i li ne ∙ sym (upd_other (first g.shelves) a l.first i ne)
      ] in
      let is : (i : ℕ) → i < m → chain b (first s' i) ≡ q.chs i = λ i li. ap (chain b) (eh i li) ∙ chain_is b hn q.tied i li in
      let rest : chain b h'.released ≡ q.rest = ap (chain b) er ∙ released_is b hn q.tied in
      let t : Tied (next b) h'.bucket_count h'.shelf_count (upd (first g.shelves) a l.first) h'.released q.chs q.rest =
      rw (eb, er, em) q.tied in
      let mine : chain b (first s' a) ≡ q.new ++ ch a = is a la ∙ q.mine in
      record {
        new = q.new;
        chained = chained_of (atlas h' s' b) (omega arith) t (λ i li. eh i (omega arith));
        mine = mine;
        others = λ i li ne. is i (omega arith) ∙ q.others i ne ∙ ec i li;
        long = q.long;
        kept = λ i j li c. q.kept i j (omega arith) (rw (ec i li) c);
        unused = q.unused;
        spaced = q.spaced;
        ordered = λ left ll o. rw (← q.at) (q.ordered left ll o);
        fewer = λ j c. omega (arith, q.fewer j, ap (count j) rest);
        still = λ j c. q.still j (rw (← rest) c);
        past = λ j c. q.past j (omega arith);
        generations = λ j c. q.generations j (omega arith);
        fewest = omega (arith, q.fewest);
        greatest = omega (arith, q.greatest);
        table = q.table;
      }

module _ (g : Atlas) (c : Chained g) (lent : 7 * records_most ≤ length g.buckets) (gs : Generations g) (w x k : ℕ)
    (room : g.head.bucket_count + k ≤ records_most) where
  -- a shelf more
  pub more_new : More g (lay_many k w g.head.shelf_count (laying g x none)) w (suc g.head.shelf_count) (first g.shelves) g.head.shelf_count
      (upd (chain_of g) g.head.shelf_count []) (released_of g) x k
  more_new =
      let m : ℕ = g.head.shelf_count in
      let f : ℕ → ℕ = first g.shelves in
      lay_many_law g (suc m) f m (omega arith) w (upd (chain_of g) m []) (released_of g) x lent k none room gs
      (open_chain (tied_of c) (upd f m none) (upd_same f m none) (λ i l. upd_other f m none i (omega arith)))

  pub laid_new : (h' : Head) (s' : List ℕ) (l : Lay) → l ≡ lay_many k w g.head.shelf_count (laying g x none)
      → h'.bucket_count ≡ l.state.head.bucket_count → h'.released ≡ l.state.head.released → h'.shelf_count ≡ suc g.head.shelf_count
      → first s' g.head.shelf_count ≡ l.first → ((i : ℕ) → i < g.head.shelf_count → first s' i ≡ first g.shelves i)
      → Laid g (atlas h' s' l.state.buckets) g.head.shelf_count w [] x k
  laid_new h' s' l el eb er em ea eo =
      let m : ℕ = g.head.shelf_count in
      rw (upd_same (chain_of g) m []) at
      (laid_of g h' s' l m w (suc m) x k (upd (chain_of g) m []) (omega arith) (omega arith) (λ i li. upd_other (chain_of g) m [] i (omega arith))
      (rw el more_new) eb er em room ea (λ i li ne. eo i (omega arith)))

  -- a shelf that grows
  pub more_old : (a : ℕ) → a < g.head.shelf_count
      → More g (lay_many k w a (laying g x (first g.shelves a))) w g.head.shelf_count (first g.shelves) a (chain_of g) (released_of g) x k
  more_old a la =
      let m : ℕ = g.head.shelf_count in
      let f : ℕ → ℕ = first g.shelves in
      lay_many_law g m f a la w (chain_of g) (released_of g) x lent k (f a) room gs
      (tied_same (tied_of c) (upd f a (f a))
      (λ i li. elim (ℕ_discrete i a) [
        | yes e ↦ ap (upd f a (f a)) e ∙ upd_same f a (f a) ∙ sym (ap f e)
        | no ne ↦ upd_other f a (f a) i ne
      ])
      (chain_of g) (λ i li. refl) (released_of g) refl)

  pub laid_old : (a : ℕ) → a < g.head.shelf_count → (h' : Head) (s' : List ℕ) (l : Lay) → l ≡ lay_many k w a (laying g x (first g.shelves a))
      → h'.bucket_count ≡ l.state.head.bucket_count → h'.released ≡ l.state.head.released → h'.shelf_count ≡ g.head.shelf_count
      → first s' a ≡ l.first → ((i : ℕ) → i < g.head.shelf_count → i ≢ a → first s' i ≡ first g.shelves i)
      → Laid g (atlas h' s' l.state.buckets) a w (chain_of g a) x k
  laid_old a la h' s' l el eb er em ea eo =
      let m : ℕ = g.head.shelf_count in
      laid_of g h' s' l a w m x k (chain_of g) la (omega arith) (λ i li. refl) (rw el (more_old a la)) eb er em room ea eo
