-- T-06, how many buckets a new shelf gets: by its ratio, after the cap, and in the tables that a request leaves.
use Rattle.std.specs.Prelude.{ℕ, ◌-◌, ◌/◌, ◌≤◌, ◌<◌, ◌≡◌, ◌⊎◌, length}
use Rattle.rules.specs.Builds.{Build, present}
use Rattle.rules.specs.BucketCount.{power_of_two, by_ratio, ratio, bucket_count}
use Rattle.rules.specs.Tables.{Atlas, shelf_at}
use Rattle.rules.specs.Chains.{chain_of}
use Rattle.claims.specs.Requests.{wide, state_after}

-- ---- by the ratio

-- `count_four`
abbrev pub CountFour : Type 0
CountFour = (n : ℕ) → 32 < n → 4 ≤ by_ratio present n

-- `count_now.between`
abbrev pub CountBetween : Type 0
CountBetween = (n : ℕ) → 32 < n → n < 64 → by_ratio present n ≡ 4

-- `count_now.narrow`, `.wide`: every other ratio gives what it gave
abbrev pub CountSame : Type 0
CountSame = (n : ℕ) (build : Build) → (n ≤ 32) ⊎ (64 ≤ n) → by_ratio present n ≡ by_ratio build n

-- `count_before`: document 01's, in every build before T-06
abbrev pub CountBefore : Type 0
CountBefore = (n : ℕ) → 32 < n → (by_ratio Build.keeping n ≡ power_of_two (n / 16 - 1)) × (by_ratio Build.holding n ≡ power_of_two (n / 16 - 1))
    × (by_ratio Build.naming n ≡ power_of_two (n / 16 - 1))

-- ---- the cap

-- `count_cap`: 4 where the table holds 4 more, and what it holds where it holds fewer
abbrev pub CountCapped : Type 0
CountCapped = (column_width w height buckets : ℕ) → 32 < ratio column_width w height
    → (4 ≤ 4095 - buckets → 4 ≤ bucket_count present column_width w height buckets)
    × (4095 - buckets ≤ 4 → bucket_count present column_width w height buckets ≡ 4095 - buckets)

-- ---- the tables

-- a request that brings shelves, and does not bring the bucket count above 4,091
abbrev Brings : ℕ → ℕ → Atlas → Type 0
Brings w h g = (g.head.shelf_count < (state_after w h g).head.shelf_count) × ((state_after w h g).head.bucket_count ≤ 4091)

abbrev last_of : ℕ → ℕ → Atlas → ℕ
last_of w h g = (state_after w h g).head.shelf_count - 1

-- shelf j of what it leaves: the ratio of a request w' wide, and its buckets
abbrev ratio_of : ℕ → ℕ → ℕ → Atlas → ℕ → ℕ
ratio_of w' w h g j = ratio g.head.column_width w' (shelf_at (state_after w h g).shelves j).height

abbrev buckets_of : ℕ → ℕ → Atlas → ℕ → ℕ
buckets_of w h g j = length (chain_of (state_after w h g) j)

-- `rows_divided.row`
abbrev pub RowDivided : Type 0
RowDivided = (w h : ℕ) (g : Atlas) → Brings w h g → 32 < ratio_of (wide w g) w h g (last_of w h g) → 4 ≤ buckets_of w h g (last_of w h g)

-- `rows_divided.filler`
abbrev pub FillerDivided : Type 0
FillerDivided = (w h : ℕ) (g : Atlas) → Brings w h g → (j : ℕ) → g.head.shelf_count ≤ j → j < last_of w h g → 32 < ratio_of 0 w h g j
    → 4 ≤ buckets_of w h g j
