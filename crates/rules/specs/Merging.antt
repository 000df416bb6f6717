-- Module 7, merging. "Only when nothing was found and can add is false." The calls use `merge_run`, the first of `run_at` over the shelves, and
-- `merged`, which makes one shelf of it. `Mergeable` at the end says a run of the shelves. Tied in laws/proofs: `run_mergeable`,
-- `mergeable_run`, `follows_yes`, `follows_all` (Calls/Runs.antt); `unreferenced_yes`, `unreferenced_all` (Sound/Unreferenced.antt).
use Rattle.std.specs.Prelude.{ℕ, zero, suc, ◌+◌, ◌≤◌, ◌<◌, Bool, true, false, ◌&&◌, ◌≡◌, ◌⊎◌, List, [], ◌∷◌, eqb, leb, ltb, if◌then◌else◌, Option, Some, None}
use Rattle.std.specs.Option.{option_or}
use Rattle.rules.specs.declared.Shelf.{Shelf}
use Rattle.rules.specs.declared.MergeRun.{MergeRun}
use Rattle.rules.specs.Limits.{items_last}
use Rattle.rules.specs.Tables.{Atlas, atlas, bucket_at, shelf_at, put_shelf}
use Rattle.rules.specs.Chains.{chain_of, In}

-- no bucket of the list is referenced
unfoldable pub unreferenced : List ℕ → List ℕ → Bool
unreferenced buckets [] = true
unreferenced buckets (k ∷ ks) = if eqb (bucket_at buckets k).refs 0 then unreferenced buckets ks else false

abbrev pub height_of : Atlas → ℕ → ℕ
height_of g i = (shelf_at g.shelves i).height

-- shelf j is there, in the column of shelf i, and unreferenced
unfoldable pub follows : Atlas → ℕ → ℕ → Bool
follows g i j = ltb j g.head.shelf_count && eqb (shelf_at g.shelves j).x (shelf_at g.shelves i).x && unreferenced g.buckets (chain_of g j)

abbrev pub run_of : ℕ → ℕ → ℕ → MergeRun
run_of i followers height = record { shelf = i; followers = followers; height = height }

-- "followed in its column by one or two unreferenced shelves such that the running sum of heights reaches h; one, if one will do"
unfoldable pub follow : ℕ → Atlas → ℕ → Option MergeRun
follow h g i =
    if follows g i (i + 1)
    then (if leb h (height_of g i + height_of g (i + 1)) then Some (run_of i 1 (height_of g i + height_of g (i + 1)))
    else if follows g i (i + 2) && leb h (height_of g i + height_of g (i + 1) + height_of g (i + 2))
    then Some (run_of i 2 (height_of g i + height_of g (i + 1) + height_of g (i + 2)))
    else None)
    else None

-- "with buckets at least w wide and none referenced"
unfoldable pub run_at : ℕ → ℕ → Atlas → ℕ → Option MergeRun
run_at w h g i =
    if leb w (shelf_at g.shelves i).width && unreferenced g.buckets (chain_of g i) then follow h g i else None

-- "The first shelf, in order": among the first k
unfoldable pub first_run : ℕ → ℕ → Atlas → ℕ → Option MergeRun
first_run w h g zero = None
first_run w h g (suc k) = option_or (first_run w h g k) (run_at w h g k)

unfoldable pub merge_run : ℕ → ℕ → Atlas → Option MergeRun
merge_run w h g = first_run w h g g.head.shelf_count

-- "It takes the sum"
abbrev pub raised : Shelf → ℕ → Shelf
raised shelf height = record { x = shelf.x; y = shelf.y; height = height; width = shelf.width; first = shelf.first }

-- "the followers get height 0 and the y of its top"
abbrev pub flattened : Shelf → ℕ → Shelf
flattened shelf y = record { x = shelf.x; y = y; height = 0; width = shelf.width; first = shelf.first }

-- followers i + 1 to i + k of the table, flattened at y
unfoldable pub flattened_to : List ℕ → ℕ → ℕ → ℕ → List ℕ
flattened_to shelves i y zero = shelves
flattened_to shelves i y (suc k) =
    let before : List ℕ = flattened_to shelves i y k in
    put_shelf before (i + suc k) (flattened (shelf_at before (i + suc k)) y)

unfoldable pub merged : MergeRun → Atlas → Atlas
merged run g =
    let shelf : Shelf = shelf_at g.shelves run.shelf in
    atlas g.head
    (put_shelf (flattened_to g.shelves run.shelf (shelf.y + run.height) run.followers) run.shelf (raised shelf run.height))
    g.buckets

-- "the merge rule picks a bucket whose item count is 65,535": from T-08 on none is
unfoldable pub run_worn : MergeRun → Atlas → Bool
run_worn run g = eqb (bucket_at g.buckets (shelf_at g.shelves run.shelf).first).items items_last

-- ---- a mergeable run, said of the shelves

-- shelf i is unreferenced
abbrev pub Unreferenced : Atlas → ℕ → Type 0
Unreferenced g i = (k : ℕ) → In k (chain_of g i) → (bucket_at g.buckets k).refs ≡ 0

-- shelf j follows i in its column and is unreferenced
pub record Follows (g : Atlas) (i j : ℕ) : Type 0 where
  pub there : j < g.head.shelf_count
  pub column : (shelf_at g.shelves j).x ≡ (shelf_at g.shelves i).x
  pub unreferenced : Unreferenced g j

-- shelf i starts a run that reaches h
pub record Mergeable (w h : ℕ) (g : Atlas) (i : ℕ) : Type 0 where
  pub there : i < g.head.shelf_count
  pub wide : w ≤ (shelf_at g.shelves i).width
  pub unreferenced : Unreferenced g i
  pub next : Follows g i (i + 1)
  pub reaches : (h ≤ height_of g i + height_of g (i + 1))
      ⊎ (Follows g i (i + 2) × (h ≤ height_of g i + height_of g (i + 1) + height_of g (i + 2)))
