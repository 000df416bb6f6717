-- Module 6, the search. The calls use the tests `can_add` and `search`; `CanAdd` and `Takeable` at the end say the same of numbers and of the
-- shelves. Tied in laws/proofs/Calls/Found.antt: `can_add_yes`, `can_add_all`; `found_takeable`, `takeable_found`.
use Rattle.std.specs.Prelude.{ℕ, zero, suc, ◌+◌, ◌-◌, ◌≤◌, ◌<◌, Bool, true, false, ◌&&◌, ◌||◌, ◌⊎◌, List, [], ◌∷◌, eqb, leb, ltb, if◌then◌else◌, Option, Some, None}
use Rattle.rules.specs.declared.Head.{Head}
use Rattle.rules.specs.declared.Shelf.{Shelf}
use Rattle.rules.specs.declared.Bucket.{Bucket}
use Rattle.rules.specs.declared.Pick.{Pick}
use Rattle.rules.specs.declared.Best.{Best}
use Rattle.rules.specs.Limits.{records_most, items_most, number_most}
use Rattle.rules.specs.Tables.{Atlas, bucket_at, shelf_at}
use Rattle.rules.specs.Chains.{chain, chain_of, In}
use Rattle.rules.specs.NewShelf.{another_column}

-- ""Can add" means: room left at least h or another column, and bucket count below 4,095."
unfoldable pub can_add : ℕ → Head → Bool
can_add h head = (leb h head.room || another_column head) && ltb head.bucket_count records_most

-- "skip one that is too low or has too narrow buckets, whose waste (height - h) is above the best so far, or, when can add, whose waste is
-- above h"
unfoldable pub skipped : ℕ → ℕ → Bool → ℕ → Shelf → Bool
skipped w h add best shelf = ltb shelf.height h || ltb shelf.width w || ltb best (shelf.height - h) || (add && ltb h (shelf.height - h))

-- "its free width at least w and its item count below 4,095": what of takeable is said of the bucket
unfoldable pub takes : ℕ → Bucket → Bool
takes w bucket = leb w bucket.free && ltb bucket.items items_most

-- "Takeable with waste 0 and free width exactly w: chosen, search over. Otherwise takeable with waste below the best: best so far, leave
-- this shelf. Otherwise walk on."
unfoldable pub pick_in : List ℕ → ℕ → ℕ → ℕ → List ℕ → Pick
pick_in buckets w waste best [] = Pick.Nothing
pick_in buckets w waste best (k ∷ ks) =
    if takes w (bucket_at buckets k) && eqb waste 0 && eqb (bucket_at buckets k).free w then Pick.Exact k
    else if takes w (bucket_at buckets k) && ltb waste best then Pick.First k
    else pick_in buckets w waste best ks

abbrev pub best_of : Pick → ℕ → ℕ → Option Best → Option Best
best_of (Pick.Exact k) waste shelf best = Some (record { waste = waste; shelf = shelf; bucket = k; exact = true })
best_of (Pick.First k) waste shelf best = Some (record { waste = waste; shelf = shelf; bucket = k; exact = false })
best_of Pick.Nothing waste shelf best = best

-- the waste of the best so far; before the first one 65,535, since every waste is below that
abbrev pub least_waste : Option Best → ℕ
least_waste None = number_most
least_waste (Some best) = best.waste

-- "search over"
abbrev pub is_over : Option Best → Bool
is_over None = false
is_over (Some best) = best.exact

-- the best after shelf i
unfoldable pub considered : ℕ → ℕ → Bool → List ℕ → ℕ → Shelf → Option Best → Option Best
considered w h add buckets i shelf best =
    if skipped w h add (least_waste best) shelf then best
    else best_of (pick_in buckets w (shelf.height - h) (least_waste best) (chain buckets shelf.first)) (shelf.height - h) i best

-- "Shelves in order": the best of the first k
unfoldable pub searched : ℕ → ℕ → Bool → List ℕ → List ℕ → ℕ → Option Best
searched w h add shelves buckets zero = None
searched w h add shelves buckets (suc k) =
    let best : Option Best = searched w h add shelves buckets k in
    if is_over best then best else considered w h add buckets k (shelf_at shelves k) best

unfoldable pub search : ℕ → ℕ → Atlas → Option Best
search w h g = searched w h (can_add h g.head) g.shelves g.buckets g.head.shelf_count

-- "A bucket in a shelf's chain (a released one never) is takeable if that shelf is at least h high, its free width at least w and its item
-- count below 4,095."
pub record Takeable (w h : ℕ) (g : Atlas) (i k : ℕ) : Type 0 where
  pub shelf : i < g.head.shelf_count
  pub bucket : In k (chain_of g i)
  pub high : h ≤ (shelf_at g.shelves i).height
  pub wide : w ≤ (bucket_at g.buckets k).free
  pub items : (bucket_at g.buckets k).items < items_most

-- "Can add", said of numbers
pub record CanAdd (h : ℕ) (g : Atlas) : Type 0 where
  pub room : (h ≤ g.head.room) ⊎ (g.head.column + 1 < g.head.columns)
  pub buckets : g.head.bucket_count < records_most
