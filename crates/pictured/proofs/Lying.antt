-- Where the rectangles of a drawing lie: the two parts of a bucket side by side over all of it, each inside the atlas, those of two buckets apart, and
-- each held rectangle inside the used part of its bucket.
use Prim.Native.Nat.{ℕ, ◌+◌, ◌≤◌, ◌<◌}
use mathlib.Core.Path.{◌≡◌, ap, subst}
use mathlib.Core.Logic.{◌≢◌}
use mathlib.Core.List.{List, [], ◌∷◌}
use native.Mathlib.Omega.{arith}
use native.Mathlib.Decide.{ℕ_discrete}
use borrow.Author.Tests.{eq-eqb, ne_eqb}
use lib.ListN.{length, get_or}
use Rattle.rules.specs.declared.Shelf.{Shelf}
use Rattle.rules.specs.declared.Bucket.{Bucket}
use Rattle.rules.specs.declared.Paint.{Paint}
use Rattle.rules.specs.declared.Drawn.{Drawn}
use Rattle.rules.specs.declared.Allocation.{Allocation}
use Rattle.rules.specs.Tables.{Atlas, shelf_at, bucket_at}
use Rattle.rules.specs.Chains.{In, chain_of}
use Rattle.rules.specs.Sound.{Counted, Steady, Sound}
use Rattle.rules.specs.Held.{entry, entries, Belongs, Fits, bucket_of, shelf_under}
use Rattle.rules.specs.Picture.{drawn, ground, used_width, used_part, parts, drawing}
use Rattle.laws.proofs.Sound.Lies.{Home}
use Rattle.laws.proofs.Sound.Within.{BucketWithin, bucket_within}
use Rattle.laws.proofs.Sound.Apart.{InBucket, homes_apart}
use Rattle.laws.proofs.Picture.Every.{Every, every_at, every_parts, every_drawing}

-- ---- a bucket's parts

-- "one such line for the used part .., even if 0 wide, and one .. for the free part where it is not 0 wide", on a shelf of height 0 too
pub record PartsSpan (shelf : Shelf) (bucket : Bucket) : Type 0 where
  pub used : ℕ
  -- together they are as wide as the bucket
  pub span : used + bucket.free ≡ shelf.width
  pub alone : bucket.free ≡ 0 → parts shelf bucket ≡ drawn bucket.x shelf.y used shelf.height Paint.Used ∷ []
  -- the free part starts where the used one ends
  pub both : bucket.free ≢ 0 → parts shelf bucket
      ≡ drawn bucket.x shelf.y used shelf.height Paint.Used ∷ drawn (bucket.x + used) shelf.y bucket.free shelf.height Paint.Free ∷ []

parts_of : (shelf : Shelf) (bucket : Bucket) → bucket.free ≤ shelf.width → PartsSpan shelf bucket
unfolding parts
parts_of shelf bucket l = record {
  used = used_width shelf bucket;
  span = omega arith;
  alone = λ e. simp (eq-eqb bucket.free 0 e);
  both = λ ne. simp (ne_eqb bucket.free 0 ne);
}

pub parts_span : (g : Atlas) → Sound g → (i k : ℕ) → i < g.head.shelf_count → In k (chain_of g i)
    → PartsSpan (shelf_at g.shelves i) (bucket_at g.buckets k)
parts_span g p i k l c = parts_of (shelf_at g.shelves i) (bucket_at g.buckets k) ((p.steady.stocked i l).counted k c).free

-- ---- inside the atlas

pub record DrawnInside (g : Atlas) (d : Drawn) : Type 0 where
  pub across : d.x + d.width ≤ g.head.width
  pub down : d.y + d.height ≤ g.head.height

pub drawn_inside : (g : Atlas) → Sound g → (n : ℕ) → n < length (drawing g) → DrawnInside g (get_or (drawing g) n (ground g.head))
drawn_inside g p n l =
    let all : Every (DrawnInside g) (drawing g) =
    every_drawing (DrawnInside g) g (λ i k li c.
    let s : Shelf = shelf_at g.shelves i in
    let v : Bucket = bucket_at g.buckets k in
    let w : BucketWithin g i k = bucket_within p.steady i k li c in
    let free : v.free ≤ s.width = ((p.steady.stocked i li).counted k c).free in
    every_parts (DrawnInside g) s v (record { across = omega (arith, w.across); down = w.down })
    (λ ne. record { across = omega (arith, w.across, free); down = w.down }))
    (record { across = omega arith; down = omega arith }) in
    every_at (DrawnInside g) (drawing g) all n l (ground g.head)

-- ---- apart

-- the pixel (x, y) lies in the rectangle
pub record Paints (d : Drawn) (x y : ℕ) : Type 0 where
  pub right : d.x ≤ x
  pub left : x < d.x + d.width
  pub below : d.y ≤ y
  pub above : y < d.y + d.height

-- a bucket of a shelf's chain is at home there
home_in : {g : Atlas} → Steady g → (i k : ℕ) → i < g.head.shelf_count → In k (chain_of g i) → Home g k
home_in {g} st i k l c =
    let v : Counted i (shelf_at g.shelves i) (bucket_at g.buckets k) = (st.stocked i l).counted k c in
    subst (λ (j : ℕ). j < g.head.shelf_count → In k (chain_of g j) → Counted j (shelf_at g.shelves j) (bucket_at g.buckets k) → Home g k)
    v.shelf (λ a b d. record { there = a; member = b; counted = d }) l c v

-- the pixel lies in a part of bucket k of shelf i
pub record Shown (g : Atlas) (i k x y : ℕ) : Type 0 where
  pub there : i < g.head.shelf_count
  pub member : In k (chain_of g i)
  pub place : ℕ
  pub within : place < length (parts (shelf_at g.shelves i) (bucket_at g.buckets k))
  pub paints : Paints (get_or (parts (shelf_at g.shelves i) (bucket_at g.buckets k)) place (ground g.head)) x y

shown_in : {g : Atlas} → Steady g → (i k x y : ℕ) → Shown g i k x y → InBucket g k x y
shown_in {g} st i k x y h =
    let s : Shelf = shelf_at g.shelves i in
    let v : Bucket = bucket_at g.buckets k in
    let c : Counted i s v = (st.stocked i h.there).counted k h.member in
    let home : shelf_at g.shelves v.shelf ≡ s = ap (shelf_at g.shelves) c.shelf in
    let P : Drawn → Type 0 = λ d. Paints d x y → InBucket g k x y in
    every_at P (parts s v) (every_parts P s v
    (λ q. record { right = q.right; left = rw home (omega (arith, q.left)); below = rw home q.below; above = rw home q.above })
    (λ ne q. record {
      right = omega (arith, q.right);
      left = rw home (omega (arith, q.left, c.free));
      below = rw home q.below;
      above = rw home q.above;
    })) h.place h.within (ground g.head) h.paints

-- the parts of two buckets share no pixel
pub parts_apart : (g : Atlas) → Sound g → (i j k l x y : ℕ) → Shown g i k x y → Shown g j l x y → k ≡ l
parts_apart g p i j k l x y a b =
    let st : Steady g = p.steady in
    elim (ℕ_discrete k l) [
      | yes e ↦ e
      | no ne ↦ absurd (homes_apart st k l x y (home_in st i k a.there a.member) (home_in st j l b.there b.member) ne
          (shown_in st i k x y a) (shown_in st j l x y b))
    ]

-- ---- held rectangles (T-02)

pub record HeldDrawn (a : Allocation) (d : Drawn) : Type 0 where
  pub left : d.x ≤ a.rectangle.left
  pub right : a.rectangle.right ≤ d.x + d.width
  pub top : d.y ≤ a.rectangle.top
  pub bottom : a.rectangle.bottom ≤ d.y + d.height

-- each entry of a list that fits lies in the used part of its bucket
pub held_drawn : (g : Atlas) (list : List Allocation) → Fits g list → (n : ℕ) → n < entries g
    → HeldDrawn (entry list n) (used_part (shelf_under g (entry list n)) (bucket_of g (entry list n)))
held_drawn g list f n l =
    let b : Belongs (bucket_of g (entry list n)) (shelf_under g (entry list n)) (entry list n) = f.belongs n l in
    record { left = b.left; right = omega (arith, b.left, b.right, b.wide); top = b.top; bottom = b.bottom }
