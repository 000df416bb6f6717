-- What a request gets, on any tables: the rectangle and the id, the bucket and the shelf that it goes to, and when it is refused as 1, 5, 22, 23, 6, 7
-- or 8.
use Rattle.std.specs.Prelude.{ℕ, ◌+◌, ◌-◌, ◌%◌, ◌≤◌, ◌<◌, true, ◌≡◌, ◌≢◌, ◌⊎◌, List, [], ◌∷◌, pos, Ok, Err, Some}
use Rattle.rules.specs.declared.Allocation.{Allocation}
use Rattle.rules.specs.declared.Best.{Best}
use Rattle.rules.specs.declared.Refusal.{Refusal}
use Rattle.rules.specs.Rounding.{align}
use Rattle.rules.specs.Builds.{Build, present}
use Rattle.rules.specs.BucketCount.{by_ratio, ratio}
use Rattle.rules.specs.Tables.{Atlas, shelf_at, bucket_at}
use Rattle.rules.specs.Chains.{In, chain_of}
use Rattle.rules.specs.Ids.{id_bucket, id_item}
use Rattle.rules.specs.Answers.{placing_says}
use Rattle.rules.specs.Search.{search, Takeable, CanAdd}
use Rattle.rules.specs.Merging.{height_of, Mergeable}
use Rattle.rules.specs.Sound.{Sound, is_sound_by, is_sound}
use Rattle.rules.specs.Calls.{place, allocate_by, allocate}
use Rattle.rules.specs.History.{unnamed_placing}

-- the aligned sides of a request of w by h
abbrev pub wide : ℕ → Atlas → ℕ
wide w g = align g.head.align_width w

abbrev pub high : ℕ → Atlas → ℕ
high h g = align g.head.align_height h

-- bucket l of shelf j takes it, and is not passed over for its waste
abbrev pub Offers : ℕ → ℕ → Atlas → ℕ → ℕ → Type 0
Offers w h g j l = Takeable (wide w g) (high h g) g j l × (CanAdd (high h g) g → height_of g j - high h g ≤ high h g)

-- it is placed as a
abbrev pub PlacedAs : ℕ → ℕ → Atlas → Allocation → Type 0
PlacedAs w h g a = (allocate (pos w) (pos h) g).answer ≡ Ok a

abbrev pub state_after : ℕ → ℕ → Atlas → Atlas
state_after w h g = (allocate (pos w) (pos h) g).state

abbrev pub items_of : Allocation → Atlas → ℕ
items_of a g = (bucket_at g.buckets (id_bucket a.id)).items

-- ---- the rectangle and the id

-- `placed_asked`
abbrev pub PlacedAsked : Type 0
PlacedAsked = (w h : ℕ) (g : Atlas) (a : Allocation) → PlacedAs w h g a
    → (a.rectangle.right ≡ a.rectangle.left + wide w g) × (a.rectangle.top + high h g ≤ a.rectangle.bottom)

-- `placed_id`
abbrev pub PlacedId : Type 0
PlacedId = (w h : ℕ) (g : Atlas) (a : Allocation) → PlacedAs w h g a
    → (id_item a.id ≡ items_of a (state_after w h g) % 4096)
    × ((i : ℕ) → i < g.head.shelf_count → In (id_bucket a.id) (chain_of g i) → items_of a (state_after w h g) ≡ items_of a g + 1)

-- ---- where it goes

-- `place_lowest`: no shelf that offers a bucket is lower than the rectangle
abbrev pub Lowest : Type 0
Lowest = (w h : ℕ) (g : Atlas) (a : Allocation) → PlacedAs w h g a → (j l : ℕ) → Offers w h g j l
    → a.rectangle.bottom - a.rectangle.top ≤ height_of g j

-- `place_earliest`: where the waste is not 0, no earlier shelf of the same height offers a bucket
abbrev pub Earliest : Type 0
Earliest = (w h : ℕ) (g : Atlas) (a : Allocation) → PlacedAs w h g a → (j l : ℕ) → Offers w h g j l
    → a.rectangle.bottom - a.rectangle.top ≡ height_of g j → high h g < height_of g j → (bucket_at g.buckets (id_bucket a.id)).shelf ≤ j

-- `place_first`: a bucket of the first shelf that is taken is the first of its chain, if that is offered
abbrev pub FirstBucket : Type 0
FirstBucket = (w h : ℕ) (g : Atlas) (a : Allocation) → PlacedAs w h g a → (l : ℕ) (ls : List ℕ) → chain_of g 0 ≡ l ∷ ls → Offers w h g 0 l
    → (bucket_at g.buckets (id_bucket a.id)).shelf ≡ 0 → id_bucket a.id ≡ l

-- `place_raises`: a shelf made higher is the first, in order, that starts a run
abbrev pub FirstRaised : Type 0
FirstRaised = (w h : ℕ) (g : Atlas) (a : Allocation) → PlacedAs w h g a → (j : ℕ) → j < g.head.shelf_count
    → height_of g j < height_of (state_after w h g) j → (i : ℕ) → i < j → Mergeable (wide w g) (high h g) g i → ⊥

-- `place_raises`: by one follower, if one will do
abbrev pub RaisedByOne : Type 0
RaisedByOne = (w h : ℕ) (g : Atlas) (a : Allocation) → PlacedAs w h g a → (j : ℕ) → j < g.head.shelf_count
    → height_of g j < height_of (state_after w h g) j → high h g ≤ height_of g j + height_of g (j + 1)
    → height_of (state_after w h g) j ≡ height_of g j + height_of g (j + 1)

-- `place_new`: a request that brings a shelf goes to the new last shelf
abbrev pub NewOnLast : Type 0
NewOnLast = (w h : ℕ) (g : Atlas) (a : Allocation) → PlacedAs w h g a → g.head.shelf_count < (state_after w h g).head.shelf_count
    → a.rectangle.top ≡ (shelf_at (state_after w h g).shelves ((state_after w h g).head.shelf_count - 1)).y

-- `found_alone`
abbrev pub FoundAlone : Type 0
FoundAlone = (w h : ℕ) (g : Atlas) (best : Best) → search w h g ≡ Some best → (j : ℕ) → j ≢ best.bucket
    → bucket_at (place present w h g).state.buckets j ≡ bucket_at g.buckets j

-- ---- when it is refused

-- `request_placed`: a request that is not refused as 4, 5, 22 or 23 is placed where a bucket takes it with waste of at most its height
abbrev pub RequestPlaced : Type 0
RequestPlaced = (w h : ℕ) (g : Atlas) → is_sound g ≡ true → 1 ≤ w → 1 ≤ h → w ≤ 65535 → h ≤ 65535 → wide w g ≤ g.head.column_width
    → high h g ≤ g.head.height → (j l : ℕ) → Takeable (wide w g) (high h g) g j l → height_of g j - high h g ≤ high h g
    → (r : Refusal) → (allocate (pos w) (pos h) g).answer ≢ Err r

-- `allocate_refusals.one`
abbrev pub AllocateOne : Type 0
AllocateOne = (w h : ℕ) (g : Atlas) → (Sound g → ⊥) → placing_says (allocate (pos w) (pos h) g).answer ≡ 1 ∷ []

abbrev Says : ℕ → ℕ → Atlas → ℕ → Type 0
Says w h g n = placing_says (allocate (pos w) (pos h) g).answer ≡ n ∷ []

-- `allocate_refusals.five`: a side above 65,535 as asked
abbrev pub AllocateFive : Type 0
AllocateFive = (w h : ℕ) (g : Atlas) → is_sound g ≡ true → 1 ≤ w → 1 ≤ h
    → ((65535 < w) ⊎ (65535 < h) → Says w h g 5) × (Says w h g 5 → (65535 < w) ⊎ (65535 < h))

-- `allocate_refusals.twenty_two`: of the others, the aligned width above the column width
abbrev pub AllocateTwentyTwo : Type 0
AllocateTwentyTwo = (w h : ℕ) (g : Atlas) → is_sound g ≡ true → 1 ≤ w → 1 ≤ h → w ≤ 65535 → h ≤ 65535
    → (g.head.column_width < wide w g → Says w h g 22) × (Says w h g 22 → g.head.column_width < wide w g)

-- `allocate_refusals.twenty_three`: of the others, the aligned height above the atlas height
abbrev pub AllocateTwentyThree : Type 0
AllocateTwentyThree = (w h : ℕ) (g : Atlas) → is_sound g ≡ true → 1 ≤ w → 1 ≤ h → w ≤ 65535 → h ≤ 65535
    → wide w g ≤ g.head.column_width
    → (g.head.height < high h g → Says w h g 23) × (Says w h g 23 → g.head.height < high h g)

-- `five_before`: a build before T-04 said 5 of all three
abbrev pub FiveBefore : Type 0
FiveBefore = (w h : ℕ) (g : Atlas) → is_sound_by Build.holding g ≡ true → 1 ≤ w → 1 ≤ h
    → let said : List ℕ = placing_says (unnamed_placing (allocate_by Build.holding (pos w) (pos h) g).answer) in
    let large : Type 0 = ((65535 < w) ⊎ (65535 < h)) ⊎ ((g.head.column_width < wide w g) ⊎ (g.head.height < high h g)) in
    (large → said ≡ 5 ∷ []) × (said ≡ 5 ∷ [] → large)

-- `no_place`, `allocate_refusals.six`: no bucket is takeable, and no shelf can be added
abbrev pub SixOnly : Type 0
SixOnly = (w h : ℕ) (g : Atlas) → placing_says (allocate (pos w) (pos h) g).answer ≡ 6 ∷ []
    → ((j l : ℕ) → Takeable (wide w g) (high h g) g j l → ⊥) × (CanAdd (high h g) g → ⊥)

-- `allocate_refusals.seven`: the filler's count is all that the table still holds
abbrev pub SevenOnly : Type 0
SevenOnly = (w h : ℕ) (g : Atlas) → placing_says (allocate (pos w) (pos h) g).answer ≡ 7 ∷ []
    → 4095 ≤ g.head.bucket_count + by_ratio present (ratio g.head.column_width 0 g.head.room)

-- `allocate_refusals.eight`, of a build before T-08: the item count is 65,535, of the chain's first bucket of the first shelf, in order, that
-- starts a run
abbrev pub EightOnly : Type 0
EightOnly = (w h : ℕ) (g : Atlas) → placing_says (allocate_by Build.dividing (pos w) (pos h) g).answer ≡ 8 ∷ []
    → (i : ℕ) → Mergeable (wide w g) (high h g) g i → ((j : ℕ) → j < i → Mergeable (wide w g) (high h g) g j → ⊥)
    → (bucket_at g.buckets (shelf_at g.shelves i).first).items ≡ 65535
