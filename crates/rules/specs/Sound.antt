-- Sound tables. Document 01's bullets: the first is `Columns`, the second `Stacked`, the third `Chained` with `Stocked` (and `Ordered`), the
-- fourth `Counted` with `Released`, the fifth `LastUsed` and `Occupied`; then its last sentence, `Domain`, and the room, `Lent`. T-08 adds `Rested`.
-- `SoundBy` is all of it as a build asks it, `Sound` as the present one does. The calls use the test `is_sound`, an is.. for each; `sound_test`
-- (laws/proofs/Sound/Test.antt): it is true exactly where `Sound` holds.
use Rattle.std.specs.Prelude.{ℕ, zero, suc, ◌+◌, ◌*◌, ◌≤◌, ◌<◌, Bool, true, false, ◌&&◌, ◌||◌, not, ◌≡◌, ◌≢◌, ◌⊎◌, List, [], ◌∷◌, eqb, leb, ltb, length, if◌then◌else◌}
use Rattle.rules.specs.declared.Head.{Head}
use Rattle.rules.specs.declared.Shelf.{Shelf}
use Rattle.rules.specs.declared.Bucket.{Bucket}
use Rattle.rules.specs.Builds.{Build, present, renews}
use Rattle.rules.specs.Limits.{side_most, option_most, records_most, none}
use Rattle.rules.specs.Tables.{Atlas, bucket_at, shelf_at}
use Rattle.rules.specs.Chains.{next, first, chain_of, released_of, count, In, sum_to, sum_of, Linked}
use Rattle.rules.specs.Return.{top_of, used_area}

-- the column of shelf i: each shelf at y = 0 after the first starts the next column
unfoldable pub column_of : List ℕ → ℕ → ℕ
column_of shelves zero = 0
column_of shelves (suc i) = if eqb (shelf_at shelves (suc i)).y 0 then column_of shelves i + 1 else column_of shelves i

-- "Columns times column width is at most the width. The current column is below the number of columns. With no shelf: column 0, full room.
-- With shelves: the last is in the current column and the room left is the height less its top."
pub record Columns (g : Atlas) : Type 0 where
  pub fit : g.head.columns * g.head.column_width ≤ g.head.width
  pub current : g.head.column < g.head.columns
  pub empty : g.head.shelf_count ≡ 0 → (g.head.column ≡ 0) × (g.head.room ≡ g.head.height)
  pub last : (i : ℕ) → suc i ≡ g.head.shelf_count
      → (column_of g.shelves i ≡ g.head.column) × (g.head.room + top_of (shelf_at g.shelves i) ≡ g.head.height)

-- "Shelves run column by column from column 0, none skipped, x being the column times the column width; no top is above the atlas height.
-- Each column starts at y = 0 with a shelf of height at least 1; each next y is the last one's top." Of shelf i:
pub record Stacked (g : Atlas) (i : ℕ) : Type 0 where
  pub x : (shelf_at g.shelves i).x ≡ column_of g.shelves i * g.head.column_width
  pub top : top_of (shelf_at g.shelves i) ≤ g.head.height
  pub starts : (shelf_at g.shelves i).y ≡ 0 → 1 ≤ (shelf_at g.shelves i).height
  pub first : i ≡ 0 → (shelf_at g.shelves i).y ≡ 0
  pub follows : (j : ℕ) → i ≡ suc j → ((shelf_at g.shelves i).y ≡ 0) ⊎ ((shelf_at g.shelves i).y ≡ top_of (shelf_at g.shelves j))

-- "Every bucket below the count is in exactly one chain, a shelf's or the released one."
pub record Chained (g : Atlas) : Type 0 where
  pub shelf : (i : ℕ) → i < g.head.shelf_count → Linked (next g.buckets) g.head.bucket_count (first g.shelves i) (chain_of g i)
  pub released : Linked (next g.buckets) g.head.bucket_count g.head.released (released_of g)
  pub once : (k : ℕ) → k < g.head.bucket_count → sum_to g.head.shelf_count (λ i. count k (chain_of g i)) + count k (released_of g) ≡ 1

-- "lie in its column, and each x is at least the next one's x plus the bucket width": from left on, the first one's end being at most right
abbrev pub Ordered : List ℕ → ℕ → ℕ → ℕ → List ℕ → Type 0
Ordered buckets width left right [] = Unit {0}
Ordered buckets width left right (k ∷ ks) =
    (left ≤ (bucket_at buckets k).x) × ((bucket_at buckets k).x + width ≤ right) × Ordered buckets width left (bucket_at buckets k).x ks

-- "In a shelf's chain, free width is at most the bucket width, and equal to it exactly when the reference count is 0. Reference count is at
-- most item count. .. those on height 0 have reference count 0." And the bucket names shelf i. Of bucket v:
pub record Counted (i : ℕ) (s : Shelf) (v : Bucket) : Type 0 where
  pub shelf : v.shelf ≡ i
  pub free : v.free ≤ s.width
  pub whole : v.refs ≡ 0 → v.free ≡ s.width
  pub unused : v.free ≡ s.width → v.refs ≡ 0
  pub items : v.refs ≤ v.items
  pub flat : s.height ≡ 0 → v.refs ≡ 0

-- "A shelf's chain is not empty, its buckets name that shelf, lie in its column, and each x is at least the next one's x plus the bucket
-- width. With one column, bucket widths are at least 1." Of shelf i:
pub record Stocked (g : Atlas) (i : ℕ) : Type 0 where
  pub some : first g.shelves i ≢ none
  pub ordered : Ordered g.buckets (shelf_at g.shelves i).width
      (shelf_at g.shelves i).x ((shelf_at g.shelves i).x + g.head.column_width) (chain_of g i)
  pub counted : (k : ℕ) → In k (chain_of g i) → Counted i (shelf_at g.shelves i) (bucket_at g.buckets k)
  pub wide : g.head.columns ≡ 1 → 1 ≤ (shelf_at g.shelves i).width

-- "Released buckets .. have reference count 0."
abbrev pub Released : Atlas → Type 0
Released g = (k : ℕ) → In k (released_of g) → (bucket_at g.buckets k).refs ≡ 0

-- "The last shelf, if any, has a referenced bucket."
abbrev pub LastUsed : Atlas → Type 0
LastUsed g = (i : ℕ) → suc i ≡ g.head.shelf_count → (k : ℕ) × In k (chain_of g i) × (0 < (bucket_at g.buckets k).refs)

-- used width times height, over the chain of shelf i
abbrev pub used_on : Atlas → ℕ → ℕ
used_on g i = sum_of (λ k. used_area (shelf_at g.shelves i) (bucket_at g.buckets k)) (chain_of g i)

-- "The occupied figure is the sum, over the shelves' chains, of used width times height."
abbrev pub Occupied : Atlas → Type 0
Occupied g = g.head.occupied ≡ sum_to g.head.shelf_count (used_on g)

-- a generation is 8 bits; the cell that holds it is wider
abbrev pub Generations : Atlas → Type 0
Generations g = (k : ℕ) → k < g.head.bucket_count → (bucket_at g.buckets k).generation < 256

-- T-08: "an unreferenced bucket has item count 0": any below the count, released ones too
abbrev pub Rested : Atlas → Type 0
Rested g = (k : ℕ) → k < g.head.bucket_count → (bucket_at g.buckets k).refs ≡ 0 → (bucket_at g.buckets k).items ≡ 0

-- "The caller lends room for 4,095 of each."
pub record Lent (s b : List ℕ) : Type 0 where
  pub shelves : 5 * records_most ≤ length s
  pub buckets : 7 * records_most ≤ length b

-- "The header is within the domain (its column width any number from 1, whether or not new would give it), counts are within 4,095."
pub record Domain (head : Head) : Type 0 where
  pub width : (1 ≤ head.width) × (head.width ≤ side_most)
  pub height : (1 ≤ head.height) × (head.height ≤ side_most)
  pub align_width : (1 ≤ head.align_width) × (head.align_width ≤ option_most)
  pub align_height : (1 ≤ head.align_height) × (head.align_height ≤ option_most)
  pub columns : (1 ≤ head.columns) × (head.columns ≤ option_most)
  pub column_width : 1 ≤ head.column_width
  pub shelves : head.shelf_count ≤ records_most
  pub buckets : head.bucket_count ≤ records_most

-- all but the last shelf's clause: what the steps inside a call keep
pub record Steady (g : Atlas) : Type 0 where
  pub lent : Lent g.shelves g.buckets
  pub domain : Domain g.head
  pub columns : Columns g
  pub stacked : (i : ℕ) → i < g.head.shelf_count → Stacked g i
  pub chained : Chained g
  pub stocked : (i : ℕ) → i < g.head.shelf_count → Stocked g i
  pub released : Released g
  pub occupied : Occupied g
  pub generations : Generations g

pub record SoundBy (build : Build) (g : Atlas) : Type 0 where
  pub steady : Steady g
  pub last_used : LastUsed g
  -- T-08: "Sound tables now also ask"
  pub rested : renews build ≡ true → Rested g

-- the present build's
abbrev pub Sound : Atlas → Type 0
Sound g = SoundBy present g

-- ---- the test

-- p 0, .., p (n - 1)
abbrev pub all_to : ℕ → (ℕ → Bool) → Bool
all_to zero p = true
all_to (suc n) p = all_to n p && p n

abbrev pub all_of : (ℕ → Bool) → List ℕ → Bool
all_of p [] = true
all_of p (k ∷ ks) = p k && all_of p ks

abbrev pub any_of : (ℕ → Bool) → List ℕ → Bool
any_of p [] = false
any_of p (k ∷ ks) = p k || any_of p ks

-- the last shelf, if any
abbrev pub of_last : ℕ → (ℕ → Bool) → Bool
of_last zero p = true
of_last (suc i) p = p i

unfoldable pub is_lent : List ℕ → List ℕ → Bool
is_lent shelves buckets = leb (5 * records_most) (length shelves) && leb (7 * records_most) (length buckets)

abbrev pub within : ℕ → ℕ → Bool
within n m = leb 1 n && leb n m

unfoldable pub is_domain : Head → Bool
is_domain head =
    within head.width side_most && within head.height side_most
    && within head.align_width option_most && within head.align_height option_most
    && within head.columns option_most && leb 1 head.column_width
    && leb head.shelf_count records_most && leb head.bucket_count records_most

unfoldable pub is_columns : Atlas → Bool
is_columns g =
    leb (g.head.columns * g.head.column_width) g.head.width && ltb g.head.column g.head.columns
    && (if eqb g.head.shelf_count 0 then eqb g.head.column 0 && eqb g.head.room g.head.height else true)
    && of_last g.head.shelf_count (λ i.
    eqb (column_of g.shelves i) g.head.column && eqb (g.head.room + top_of (shelf_at g.shelves i)) g.head.height)

-- y is 0 for the first shelf, and 0 or the last one's top for each next
abbrev pub is_next : List ℕ → ℕ → Bool
is_next shelves zero = eqb (shelf_at shelves zero).y 0
is_next shelves (suc j) = eqb (shelf_at shelves (suc j)).y 0 || eqb (shelf_at shelves (suc j)).y (top_of (shelf_at shelves j))

unfoldable pub is_stacked : Atlas → ℕ → Bool
is_stacked g i =
    eqb (shelf_at g.shelves i).x (column_of g.shelves i * g.head.column_width) && leb (top_of (shelf_at g.shelves i)) g.head.height
    && (if eqb (shelf_at g.shelves i).y 0 then leb 1 (shelf_at g.shelves i).height else true)
    && is_next g.shelves i

unfoldable pub is_linked : (ℕ → ℕ) → ℕ → ℕ → List ℕ → Bool
is_linked f n i [] = eqb i none
is_linked f n i (x ∷ xs) = eqb i x && ltb x n && is_linked f n (f x) xs

unfoldable pub is_chained : Atlas → Bool
is_chained g =
    all_to g.head.shelf_count (λ i. is_linked (next g.buckets) g.head.bucket_count (first g.shelves i) (chain_of g i))
    && is_linked (next g.buckets) g.head.bucket_count g.head.released (released_of g)
    && all_to g.head.bucket_count (λ k. eqb (sum_to g.head.shelf_count (λ i. count k (chain_of g i)) + count k (released_of g)) 1)

unfoldable pub is_ordered : List ℕ → ℕ → ℕ → ℕ → List ℕ → Bool
is_ordered buckets width left right [] = true
is_ordered buckets width left right (k ∷ ks) =
    leb left (bucket_at buckets k).x && leb ((bucket_at buckets k).x + width) right && is_ordered buckets width left (bucket_at buckets k).x ks

unfoldable pub is_counted : ℕ → Shelf → Bucket → Bool
is_counted i shelf bucket =
    eqb bucket.shelf i && leb bucket.free shelf.width && leb bucket.refs bucket.items
    && (if eqb bucket.refs 0 then eqb bucket.free shelf.width else not (eqb bucket.free shelf.width) && not (eqb shelf.height 0))

unfoldable pub is_stocked : Atlas → ℕ → Bool
is_stocked g i =
    not (eqb (first g.shelves i) none)
    && is_ordered g.buckets (shelf_at g.shelves i).width (shelf_at g.shelves i).x ((shelf_at g.shelves i).x + g.head.column_width) (chain_of g i)
    && all_of (λ k. is_counted i (shelf_at g.shelves i) (bucket_at g.buckets k)) (chain_of g i)
    && (if eqb g.head.columns 1 then leb 1 (shelf_at g.shelves i).width else true)

unfoldable pub is_last_used : Atlas → Bool
is_last_used g = of_last g.head.shelf_count (λ i. any_of (λ k. ltb 0 (bucket_at g.buckets k).refs) (chain_of g i))

unfoldable pub is_steady : Atlas → Bool
is_steady g =
    is_lent g.shelves g.buckets && is_domain g.head && is_columns g && all_to g.head.shelf_count (is_stacked g) && is_chained g
    && all_to g.head.shelf_count (is_stocked g)
    && all_of (λ k. eqb (bucket_at g.buckets k).refs 0) (released_of g)
    && eqb g.head.occupied (sum_to g.head.shelf_count (used_on g))
    && all_to g.head.bucket_count (λ k. ltb (bucket_at g.buckets k).generation 256)

unfoldable pub is_rested : Atlas → Bool
is_rested g =
    all_to g.head.bucket_count (λ k. if eqb (bucket_at g.buckets k).refs 0 then eqb (bucket_at g.buckets k).items 0 else true)

-- "The test says yes exactly then"; short lent room is no
unfoldable pub is_sound_by : Build → Atlas → Bool
is_sound_by build g = is_steady g && is_last_used g && (if renews build then is_rested g else true)

-- the present build's
abbrev pub is_sound : Atlas → Bool
is_sound g = is_sound_by present g
