-- T-02, "Refuse ids that nobody holds": the list that the caller lends beside the tables, "one for each held rectangle, with id and rectangle".
-- Here what a list is, how an entry goes in and out, and when it fits the tables. The calls use the test `fits`; `fits_test`
-- (laws/proofs/Held/Test.antt): it is true exactly where `Fits` holds. Listed.antt has the calls with the list.
use Rattle.std.specs.Prelude.{ℕ, zero, suc, ◌+◌, ◌-◌, ◌≤◌, ◌<◌, Bool, true, ◌&&◌, ◌||◌, not, ◌≡◌, List, [], ◌∷◌, eqb, leb, ltb, length, get_or, take, if◌then◌else◌}
use Rattle.rules.specs.declared.Shelf.{Shelf}
use Rattle.rules.specs.declared.Bucket.{Bucket}
use Rattle.rules.specs.declared.Rectangle.{Rectangle}
use Rattle.rules.specs.declared.Allocation.{Allocation}
use Rattle.rules.specs.Limits.{items_most}
use Rattle.rules.specs.Ids.{id_bucket, id_item, id_generation}
use Rattle.rules.specs.Tables.{Atlas, bucket_at, shelf_at}
use Rattle.rules.specs.Chains.{sum_to}
use Rattle.rules.specs.Return.{top_of}
use Rattle.rules.specs.Sound.{all_to}

-- ---- entries

-- what stands where no entry does
abbrev pub blank : Allocation
blank = record { id = 0; rectangle = record { left = 0; top = 0; right = 0; bottom = 0 } }

-- the entry at place i
abbrev pub entry : List Allocation → ℕ → Allocation
entry xs i = get_or xs i blank

-- how many of the list were issued from bucket k
abbrev pub from_bucket : ℕ → List Allocation → ℕ
from_bucket k [] = 0
from_bucket k (a ∷ xs) = (if eqb (id_bucket a.id) k then 1 else 0) + from_bucket k xs

-- the pixel (x, y) lies in the rectangle
pub record Covers (r : Rectangle) (x y : ℕ) : Type 0 where
  pub left : r.left ≤ x
  pub right : x < r.right
  pub top : r.top ≤ y
  pub bottom : y < r.bottom

abbrev pub refs_of : Atlas → ℕ → ℕ
refs_of g k = (bucket_at g.buckets k).refs

-- "one for each held rectangle": so many as the reference counts add up to. The list has no number of its own; past these entries it is the
-- lender's
unfoldable pub entries : Atlas → ℕ
entries g = sum_to g.head.bucket_count (refs_of g)

-- ---- in and out: of the first n of a lent list, in which what stands past them stays

module _ {A : Type 0} where
  -- a before the element at place i, or at the end
  abbrev pub insert_at : ℕ → A → List A → List A
  insert_at zero a xs = a ∷ xs
  insert_at (suc i) a [] = a ∷ []
  insert_at (suc i) a (x ∷ xs) = x ∷ insert_at i a xs

  -- without the element at place i
  abbrev pub drop_at : ℕ → List A → List A
  drop_at i [] = []
  drop_at zero (x ∷ xs) = xs
  drop_at (suc i) (x ∷ xs) = x ∷ drop_at i xs

  -- v goes in at place i of the first n, and they are one more
  unfoldable pub added : ℕ → ℕ → A → List A → List A
  added n i v xs = insert_at i v (drop_at n xs)

  -- the element at place i of the first n goes, and they are one less: what stood at the last of their places still stands there
  unfoldable pub removed : A → ℕ → ℕ → List A → List A
  removed d n i xs = insert_at (n - 1) (get_or xs (n - 1) d) (drop_at i xs)

-- the place of the first entry with the id, or how many there are
unfoldable pub place_of : ℕ → List Allocation → ℕ
place_of id [] = 0
place_of id (a ∷ xs) = if eqb a.id id then 0 else suc (place_of id xs)

-- where a rectangle just issued from bucket k goes: behind the entries of its own bucket and of those before it. Entries that are added so stand
-- bucket by bucket, each bucket's from left to right.
unfoldable pub place_for : ℕ → Atlas → ℕ
place_for k g = sum_to (suc k) (refs_of g) - 1

-- ---- the list fits the tables

-- the entry a in its bucket, on that bucket's shelf
pub record Belongs (bucket : Bucket) (shelf : Shelf) (a : Allocation) : Type 0 where
  -- "of its generation"
  pub generation : id_generation a.id ≡ bucket.generation
  -- "its rectangle lies in that bucket's used span", which ends the free width before the bucket does,
  pub left : bucket.x ≤ a.rectangle.left
  pub right : a.rectangle.right + bucket.free ≤ bucket.x + shelf.width
  -- "from the shelf's y to its top"
  pub top : shelf.y ≤ a.rectangle.top
  pub bottom : a.rectangle.bottom ≤ top_of shelf
  -- "and is not empty"
  pub wide : a.rectangle.left < a.rectangle.right
  pub high : a.rectangle.top < a.rectangle.bottom
  -- the sentence after these: "Where a bucket's item count is below 4,095, the item number in each of its ids is from 1 to that count."
  pub item : bucket.items < items_most → (1 ≤ id_item a.id) × (id_item a.id ≤ bucket.items)

-- the bucket that an entry names, and its shelf
abbrev pub bucket_of : Atlas → Allocation → Bucket
bucket_of g a = bucket_at g.buckets (id_bucket a.id)

abbrev pub shelf_under : Atlas → Allocation → Shelf
shelf_under g a = shelf_at g.shelves (bucket_of g a).shelf

pub record Fits (g : Atlas) (list : List Allocation) : Type 0 where
  -- so many entries are lent
  pub room : entries g ≤ length list
  -- "each entry names a bucket"
  pub named : (i : ℕ) → i < entries g → id_bucket (entry list i).id < g.head.bucket_count
  -- "of its generation, its rectangle lies in that bucket's used span from the shelf's y to its top and is not empty"
  pub belongs : (i : ℕ) → i < entries g → Belongs (bucket_of g (entry list i)) (shelf_under g (entry list i)) (entry list i)
  -- "no two share an id or a pixel"
  pub distinct : (i j : ℕ) → i < entries g → j < entries g → (entry list i).id ≡ (entry list j).id → i ≡ j
  pub apart : (i j x y : ℕ) → i < entries g → j < entries g → Covers (entry list i).rectangle x y → Covers (entry list j).rectangle x y → i ≡ j
  -- "and each bucket's entries number its reference count"
  pub counted : (k : ℕ) → k < g.head.bucket_count → from_bucket k (take (entries g) list) ≡ refs_of g k

-- ---- the test

unfoldable pub belongs : Bucket → Shelf → Allocation → Bool
belongs bucket shelf a =
    eqb (id_generation a.id) bucket.generation
    && leb bucket.x a.rectangle.left && leb (a.rectangle.right + bucket.free) (bucket.x + shelf.width)
    && leb shelf.y a.rectangle.top && leb a.rectangle.bottom (top_of shelf)
    && ltb a.rectangle.left a.rectangle.right && ltb a.rectangle.top a.rectangle.bottom
    && (if ltb bucket.items items_most then leb 1 (id_item a.id) && leb (id_item a.id) bucket.items else true)

-- two rectangles that are not empty share a pixel
unfoldable pub overlap : Rectangle → Rectangle → Bool
overlap r q = ltb r.left q.right && ltb q.left r.right && ltb r.top q.bottom && ltb q.top r.bottom

unfoldable pub clash : Allocation → Allocation → Bool
clash a b = eqb a.id b.id || overlap a.rectangle b.rectangle

-- entry a fits by itself
unfoldable pub stands : Atlas → Allocation → Bool
stands g a = ltb (id_bucket a.id) g.head.bucket_count && belongs (bucket_of g a) (shelf_under g a) a

unfoldable pub fits : Atlas → List Allocation → Bool
fits g list =
    leb (entries g) (length list)
    && all_to (entries g) (λ i. stands g (entry list i))
    && all_to (entries g) (λ i. all_to i (λ j. not (clash (entry list i) (entry list j))))
    && all_to g.head.bucket_count (λ k. eqb (from_bucket k (take (entries g) list)) (refs_of g k))
