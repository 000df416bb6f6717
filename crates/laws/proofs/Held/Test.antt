-- The test of the list is true exactly when the list fits the tables: clause by clause.
-- `fits` is true exactly when `Fits` holds: `fits_tells`, and `fits_test` as a pair. The test looks at each two entries once, and at the sides of
-- their rectangles; `Fits` speaks of all two, and of pixels.
use Prim.Native.Nat.{ℕ, ◌+◌, ◌≤◌, ◌<◌, max}
use mathlib.Core.Bool.{true, not}
use mathlib.Core.Path.{◌≡◌, sym}
use mathlib.Core.Logic.{◌≢◌, inl, inr}
use mathlib.Core.List.{List}
use native.Mathlib.Decide.{ℕ_discrete, dec_lt}
use native.Mathlib.Omega.{arith}
use lib.ListN.{length, take}
use Rattle.rules.specs.declared.Shelf.{Shelf}
use Rattle.rules.specs.declared.Bucket.{Bucket}
use Rattle.rules.specs.declared.Rectangle.{Rectangle}
use Rattle.rules.specs.declared.Allocation.{Allocation}
use Rattle.rules.specs.Limits.{items_most}
use Rattle.rules.specs.Ids.{id_bucket, id_item, id_generation}
use Rattle.rules.specs.Tables.{Atlas}
use Rattle.rules.specs.Return.{top_of}
use Rattle.rules.specs.Held.{entry, entries, from_bucket, refs_of, bucket_of, shelf_under, Covers, Belongs, Fits, belongs, overlap, clash, stands, fits}
use Rattle.laws.proofs.Tests.Tells.{Tells, tells_leb, tells_ltb, tells_eqb, tells_map, tells_not, tells_and, tells_or, tells_if, tells_to}
use Rattle.laws.proofs.Tests.Tells.{tells_then, tells_below}

-- ---- one entry

pub belongs_tells : (bucket : Bucket) (shelf : Shelf) (a : Allocation) → Tells (belongs bucket shelf a) (Belongs bucket shelf a)
unfolding belongs
belongs_tells bucket shelf a = tells_map
    (tells_and _ _ (tells_and _ _ (tells_and _ _ (tells_and _ _ (tells_and _ _ (tells_and _ _ (tells_and _ _
    (tells_eqb (id_generation a.id) bucket.generation)
    (tells_leb bucket.x a.rectangle.left))
    (tells_leb (a.rectangle.right + bucket.free) (bucket.x + shelf.width)))
    (tells_leb shelf.y a.rectangle.top))
    (tells_leb a.rectangle.bottom (top_of shelf)))
    (tells_ltb a.rectangle.left a.rectangle.right))
    (tells_ltb a.rectangle.top a.rectangle.bottom))
    (tells_if _ _ (tells_ltb bucket.items items_most) (tells_and _ _ (tells_leb 1 (id_item a.id)) (tells_leb (id_item a.id) bucket.items))))
    (λ h. record {
      generation = h.0.0.0.0.0.0.0;
      left = h.0.0.0.0.0.0.1;
      right = h.0.0.0.0.0.1;
      top = h.0.0.0.0.1;
      bottom = h.0.0.0.1;
      wide = h.0.0.1;
      high = h.0.1;
      item = h.1;
    })
    (λ h. (((((((h.generation, h.left), h.right), h.top), h.bottom), h.wide), h.high), h.item))

-- the bucket that it names is there, and it belongs to it
pub record Stands (g : Atlas) (a : Allocation) : Type 0 where
  pub named : id_bucket a.id < g.head.bucket_count
  pub belongs : Belongs (bucket_of g a) (shelf_under g a) a

pub stands_tells : (g : Atlas) (a : Allocation) → Tells (stands g a) (Stands g a)
unfolding stands
stands_tells g a = tells_map
    (tells_and _ _ (tells_ltb (id_bucket a.id) g.head.bucket_count) (belongs_tells (bucket_of g a) (shelf_under g a) a))
    (λ h. record { named = h.0; belongs = h.1 })
    (λ h. (h.named, h.belongs))

-- ---- two rectangles

pub record NotEmpty (r : Rectangle) : Type 0 where
  pub wide : r.left < r.right
  pub high : r.top < r.bottom

-- each starts before the other ends, across and upward
pub record Crossing (r q : Rectangle) : Type 0 where
  pub left : r.left < q.right
  pub right : q.left < r.right
  pub top : r.top < q.bottom
  pub bottom : q.top < r.bottom

-- some pixel lies in both
abbrev pub Shared : Rectangle → Rectangle → Type 0
Shared r q = (x : ℕ) × (y : ℕ) × Covers r x y × Covers q x y

pub crossing_tells : (r q : Rectangle) → Tells (overlap r q) (Crossing r q)
unfolding overlap
crossing_tells r q = tells_map
    (tells_and _ _ (tells_and _ _ (tells_and _ _ (tells_ltb r.left q.right) (tells_ltb q.left r.right))
    (tells_ltb r.top q.bottom)) (tells_ltb q.top r.bottom))
    (λ h. record { left = h.0.0.0; right = h.0.0.1; top = h.0.1; bottom = h.1 })
    (λ h. (((h.left, h.right), h.top), h.bottom))

pub crossing_shared : (r q : Rectangle) → Shared r q → Crossing r q
crossing_shared r q s = let a : Covers r s.0 s.1 = s.2 in let b : Covers q s.0 s.1 = s.3 in omega (arith, a, b)

-- the larger left and the larger top
pub shared_crossing : (r q : Rectangle) → NotEmpty r → NotEmpty q → Crossing r q → Shared r q
shared_crossing r q m n c = (max r.left q.left, max r.top q.top, omega (arith, m, c), omega (arith, n, c))

pub overlap_tells : (r q : Rectangle) → NotEmpty r → NotEmpty q → Tells (overlap r q) (Shared r q)
overlap_tells r q m n = tells_map (crossing_tells r q) (shared_crossing r q m n) (crossing_shared r q)

-- ---- two entries

-- "no two share an id or a pixel"
pub record Disjoint (a b : Allocation) : Type 0 where
  pub id : a.id ≢ b.id
  pub pixel : Shared a.rectangle b.rectangle → ⊥

pub apart_sym : (a b : Allocation) → Disjoint a b → Disjoint b a
apart_sym a b h = record { id = λ e. h.id (sym e); pixel = λ s. h.pixel (s.0, s.1, s.3, s.2) }

pub clash_tells : (a b : Allocation) → NotEmpty a.rectangle → NotEmpty b.rectangle → Tells (not (clash a b)) (Disjoint a b)
unfolding clash
clash_tells a b m n = tells_map
    (tells_not _ (tells_or _ _ (tells_eqb a.id b.id) (overlap_tells a.rectangle b.rectangle m n)))
    (λ h. record { id = λ e. h (inl e); pixel = λ s. h (inr s) })
    (λ h s. elim s [ inl e ↦ h.id e | inr p ↦ h.pixel p ])

-- ---- the list

-- what the test asks of the first n entries: each stands, and each is apart from those before it
pub record AllStand (g : Atlas) (list : List Allocation) (n : ℕ) : Type 0 where
  pub stands : (i : ℕ) → i < n → Stands g (entry list i)
  pub apart : (i : ℕ) → i < n → (j : ℕ) → j < i → Disjoint (entry list i) (entry list j)

pub not_empty : {g : Atlas} {a : Allocation} → Stands g a → NotEmpty a.rectangle
not_empty s = record { wide = s.belongs.wide; high = s.belongs.high }

-- at two places, whichever is the earlier
pub apart_places : {g : Atlas} {list : List Allocation} {n : ℕ} → AllStand g list n
    → (i j : ℕ) → i < n → j < n → i ≢ j → Disjoint (entry list i) (entry list j)
apart_places {g} {list} {n} s i j li lj ne = elim (dec_lt j i) [
  | yes l ↦ s.apart i li j l
  | no l ↦ apart_sym (entry list j) (entry list i) (s.apart j lj i (omega arith))
]

-- each bucket's entries among the first n number its reference count
abbrev pub Numbered : Atlas → List Allocation → ℕ → Type 0
Numbered g list n = (k : ℕ) → k < g.head.bucket_count → from_bucket k (take n list) ≡ refs_of g k

pub fits_of : {g : Atlas} {list : List Allocation} → entries g ≤ length list → AllStand g list (entries g) → Numbered g list (entries g) → Fits g list
fits_of {g} {list} room s counted = record {
  room = room;
  named = λ i l. (s.stands i l).named;
  belongs = λ i l. (s.stands i l).belongs;
  distinct = λ i j li lj e. elim (ℕ_discrete i j) [ yes q ↦ q | no ne ↦ absurd ((apart_places s i j li lj ne).id e) ];
  apart = λ i j x y li lj a b. elim (ℕ_discrete i j) [ yes q ↦ q | no ne ↦ absurd ((apart_places s i j li lj ne).pixel (x, y, a, b)) ];
  counted = counted;
}

pub standing_of : {g : Atlas} {list : List Allocation} → Fits g list → AllStand g list (entries g)
standing_of {g} {list} f = record {
  stands = λ i l. record { named = f.named i l; belongs = f.belongs i l };
  apart = λ i li j lj. record {
    id = λ e. omega (arith, lj, f.distinct i j li (omega arith) e);
    pixel = λ s. omega (arith, lj, f.apart i j s.0 s.1 li (omega arith) s.2 s.3);
  };
}

pub fits_tells : (g : Atlas) (list : List Allocation) → Tells (fits g list) (Fits g list)
unfolding fits
fits_tells g list = tells_map
    (tells_and _ _ (tells_then _ _
    (tells_and _ _ (tells_leb (entries g) (length list)) (tells_to (entries g) _ (λ i. Stands g (entry list i)) (λ i. stands_tells g (entry list i))))
    (λ h. tells_below (entries g) _ (λ i. (j : ℕ) → j < i → Disjoint (entry list i) (entry list j))
    (λ i l. tells_below i _ (λ j. Disjoint (entry list i) (entry list j))
    (λ j m. clash_tells (entry list i) (entry list j) (not_empty (h.1 i l)) (not_empty (h.1 j (omega arith)))))))
    (tells_to g.head.bucket_count _ _ (λ k. tells_eqb (from_bucket k (take (entries g) list)) (refs_of g k))))
    (λ h. fits_of h.0.0.0 (record { stands = h.0.0.1; apart = h.0.1 }) h.1)
    (λ h. (((h.room, (standing_of h).stands), (standing_of h).apart), h.counted))

-- "It is tested so": the test says yes exactly then
pub fits_test : (g : Atlas) (list : List Allocation) → (fits g list ≡ true → Fits g list) × (Fits g list → fits g list ≡ true)
fits_test g list = ((fits_tells g list).holds, (fits_tells g list).shown)
