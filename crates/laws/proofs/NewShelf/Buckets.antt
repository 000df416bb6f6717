-- What laying keeps of sound tables, clause by clause: shelves stay where they are, the other shelves stay stocked, the shelf that is laid
-- on is, released buckets stay unreferenced, and unused buckets add nothing to the occupied figure.
use Prim.Native.Nat.{ℕ, ◌+◌, ◌-◌, ◌*◌, ◌≤◌, ◌<◌}
use mathlib.Core.Path.{◌≡◌, sym, ap, ◌∙◌}
use mathlib.Core.Logic.{◌≢◌}
use mathlib.Core.List.{List, ◌++◌}
use native.Mathlib.Decide.{dec_lt}
use native.Mathlib.Nat.{zero-mul}
use native.Mathlib.Omega.{arith}
use lib.ListN.{length}
use Rattle.rules.specs.declared.Bucket.{Bucket}
use Rattle.rules.specs.declared.Shelf.{Shelf}
use Rattle.rules.specs.Limits.{none}
use Rattle.rules.specs.Tables.{Atlas, bucket_at, shelf_at}
use Rattle.rules.specs.Chains.{count, In, sum_of, chain_of, first}
use Rattle.rules.specs.Return.{used_area}
use Rattle.rules.specs.Sound.{Ordered, Counted, Stocked, used_on, column_of, Stacked, Released}
use Rattle.laws.proofs.Chains.Count.{count_append, sum_of_same, sum_of_none, sum_of_append}
use Rattle.laws.proofs.Chains.Links.{chain_end}
use Rattle.laws.proofs.Sound.Order.{ordered_frame, ordered_right, along_right}
use Rattle.laws.proofs.Sound.Lies.{column_alike}
use Rattle.laws.proofs.NewShelf.Laying.{Unused}
use Rattle.laws.proofs.NewShelf.Laid.{Laid}

-- ---- shelves that differ in their first bucket at most

pub record Alike (u v : Shelf) : Type 0 where
  pub x : u.x ≡ v.x
  pub y : u.y ≡ v.y
  pub height : u.height ≡ v.height
  pub width : u.width ≡ v.width

pub alike_same : {u v : Shelf} → u ≡ v → Alike u v
alike_same e = record {
  x = ap (λ (s : Shelf). s.x) e;
  y = ap (λ (s : Shelf). s.y) e;
  height = ap (λ (s : Shelf). s.height) e;
  width = ap (λ (s : Shelf). s.width) e;
}

pub alike_then : {u v w : Shelf} → Alike u v → Alike v w → Alike u w
alike_then p q = record { x = p.x ∙ q.x; y = p.y ∙ q.y; height = p.height ∙ q.height; width = p.width ∙ q.width }

pub counted_alike : {i : ℕ} {u v : Shelf} {b : Bucket} → Alike u v → Counted i v b → Counted i u b
counted_alike a c = record {
  shelf = c.shelf;
  free = rw a.width c.free;
  whole = rw a.width c.whole;
  unused = rw a.width c.unused;
  items = c.items;
  flat = rw a.height c.flat;
}

pub unused_counted : {i w : ℕ} {v : Bucket} (s : Shelf) → s.width ≡ w → Unused w i v → Counted i s v
unused_counted s e u = record {
  shelf = u.shelf;
  free = omega (arith, u.free);
  whole = λ z. u.free ∙ sym e;
  unused = λ z. u.refs;
  items = omega (arith, u.refs);
  flat = λ z. u.refs;
}

pub stacked_keep : (g g' : Atlas) (i : ℕ) → ((j : ℕ) → j ≤ i → Alike (shelf_at g'.shelves j) (shelf_at g.shelves j))
    → column_of g.shelves i * g.head.column_width ≡ column_of g.shelves i * g'.head.column_width → g.head.height ≤ g'.head.height
    → Stacked g i → Stacked g' i
stacked_keep g g' i a ec lh p =
    let here : Alike (shelf_at g'.shelves i) (shelf_at g.shelves i) = a i (omega arith) in
    let col : column_of g'.shelves i ≡ column_of g.shelves i = column_alike g.shelves g'.shelves i (λ j l. (a j l).y) in
    record {
      x = rw (here.x, col) (p.x ∙ ec);
      top = omega (arith, p.top);
      starts = rw (here.y, here.height) p.starts;
      first = rw here.y p.first;
      follows = λ j e.
          let before : Alike (shelf_at g'.shelves j) (shelf_at g.shelves j) = a j (omega arith) in
          rw (here.y, before.y, before.height) (p.follows j e);
    }

-- ---- what a bucket weighs

pub area_alike : (u v : Shelf) (b c : Bucket) → Alike u v → b ≡ c → used_area u b ≡ used_area v c
area_alike u v b c a e = rw (a.width, a.height, e)

-- buckets that are as they were, on a shelf that is alike
pub weight_alike : (g g' : Atlas) (i : ℕ) (xs : List ℕ) → Alike (shelf_at g'.shelves i) (shelf_at g.shelves i)
    → ((k : ℕ) → In k xs → bucket_at g'.buckets k ≡ bucket_at g.buckets k)
    → sum_of (λ k. used_area (shelf_at g'.shelves i) (bucket_at g'.buckets k)) xs
    ≡ sum_of (λ k. used_area (shelf_at g.shelves i) (bucket_at g.buckets k)) xs
weight_alike g g' i xs a e =
    let s : Shelf = shelf_at g.shelves i in
    let s' : Shelf = shelf_at g'.shelves i in
    sum_of_same (λ k. used_area s (bucket_at g.buckets k)) (λ k. used_area s' (bucket_at g'.buckets k)) xs
    (λ k c. area_alike s' s (bucket_at g'.buckets k) (bucket_at g.buckets k) a (e k c))

area_unused : {w i : ℕ} (u : Shelf) (v : Bucket) → u.width ≡ w → Unused w i v → used_area u v ≡ 0
area_unused u v e p = let z : u.width - v.free ≡ 0 = omega (arith, p.free) in rw z (zero-mul u.height)

-- ---- over a laying

pub first_of : (g : Atlas) (i : ℕ) → 1 ≤ length (chain_of g i) → first g.shelves i ≢ none
first_of g i l e = omega (arith, ap length (chain_end g.buckets (first g.shelves i) e))

module _ {g g' : Atlas} {a w : ℕ} {old : List ℕ} {x k : ℕ} (d : Laid g g' a w old x k)
    (alike : (i : ℕ) → i < g.head.shelf_count → Alike (shelf_at g'.shelves i) (shelf_at g.shelves i)) where
  pub released_laid : Released g → Released g'
  released_laid p j c = ap (λ (v : Bucket). v.refs) (d.still j c) ∙ p j (d.fewer j c)

  pub used_other : (i : ℕ) → i < g.head.shelf_count → i ≢ a → used_on g' i ≡ used_on g i
  used_other i l ne =
      ap (sum_of (λ k. used_area (shelf_at g'.shelves i) (bucket_at g'.buckets k))) (d.others i l ne)
      ∙ weight_alike g g' i (chain_of g i) (alike i l) (λ k c. d.kept i k l c)

  -- the laid buckets add nothing
  pub used_mine : (shelf_at g'.shelves a).width ≡ w → used_on g' a ≡ sum_of (λ k. used_area (shelf_at g'.shelves a) (bucket_at g'.buckets k)) old
  used_mine e =
      let f : ℕ → ℕ = λ k. used_area (shelf_at g'.shelves a) (bucket_at g'.buckets k) in
      let z : sum_of f d.new ≡ 0 = sum_of_none f d.new (λ j c. area_unused (shelf_at g'.shelves a) (bucket_at g'.buckets j) e (d.unused j c)) in
      ap (sum_of f) d.mine ∙ sum_of_append f d.new old ∙ (omega arith)

  pub stocked_other : (i : ℕ) → i < g.head.shelf_count → i ≢ a → first g'.shelves i ≡ first g.shelves i
      → g.head.column_width ≤ g'.head.column_width → (g'.head.columns ≡ 1 → g.head.columns ≡ 1) → Stocked g i → Stocked g' i
  stocked_other i l ne ef lc one p =
      let s : Alike (shelf_at g'.shelves i) (shelf_at g.shelves i) = alike i l in
      let x : ℕ = (shelf_at g.shelves i).x in
      let bw : ℕ = (shelf_at g.shelves i).width in
      let o : Ordered g'.buckets bw x (x + g'.head.column_width) (chain_of g i) =
      ordered_frame g.buckets g'.buckets bw x (x + g'.head.column_width) (chain_of g i) (λ k c. ap (λ (v : Bucket). v.x) (d.kept i k l c))
      (along_right g i (x + g.head.column_width) (x + g'.head.column_width) (omega arith) p.ordered) in
      record {
        some = rw ef p.some;
        ordered = rw (d.others i l ne, s.x, s.width) o;
        counted = λ k c.
            let c₀ : In k (chain_of g i) = omega (arith, ap (count k) (d.others i l ne)) in
            rw (d.kept i k l c₀) (counted_alike s (p.counted k c₀));
        wide = λ e. omega (arith, s.width, p.wide (one e));
      }

  pub stocked_mine : 1 ≤ length (chain_of g' a) → (shelf_at g'.shelves a).width ≡ w → (shelf_at g'.shelves a).x ≤ x
      → x + k * w ≤ (shelf_at g'.shelves a).x + g'.head.column_width → Ordered g.buckets w (shelf_at g'.shelves a).x x old
      → ((j : ℕ) → In j old → Counted a (shelf_at g'.shelves a) (bucket_at g'.buckets j)) → (g'.head.columns ≡ 1 → 1 ≤ w) → Stocked g' a
  stocked_mine some ew lx rx o c wide = record {
    some = first_of g' a some;
    ordered =
        let left : ℕ = (shelf_at g'.shelves a).x in
        rw (d.mine, ew) (ordered_right g'.buckets w left (x + k * w) (left + g'.head.column_width) (d.new ++ old) rx (d.ordered left lx o));
    counted = λ j cj. elim (dec_lt 0 (count j d.new)) [
      | yes n ↦ unused_counted (shelf_at g'.shelves a) ew (d.unused j n)
      | no z ↦ c j (omega (arith, ap (count j) d.mine, count_append j d.new old))
    ];
    wide = λ e. omega (arith, wide e);
  }
