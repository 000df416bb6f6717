-- T-08, worn-out buckets back in service: what a return leaves of its bucket, that an unreferenced bucket of sound tables takes what fits, and that 8 is
-- not said.
use Rattle.std.specs.Prelude.{ℕ, ◌+◌, ◌%◌, ◌<◌, true, ◌≡◌, ◌≢◌, [], ◌∷◌, ℤ, Ok}
use Rattle.rules.specs.declared.Bucket.{Bucket}
use Rattle.rules.specs.Tables.{Atlas, bucket_at, shelf_at}
use Rattle.rules.specs.Chains.{In, chain_of}
use Rattle.rules.specs.Ids.{id_bucket}
use Rattle.rules.specs.Answers.{placing_says, reply_says}
use Rattle.rules.specs.Search.{Takeable}
use Rattle.rules.specs.Sound.{is_sound}
use Rattle.rules.specs.Calls.{allocate, deallocate}

-- the bucket that an id names
abbrev pub named : ℕ → Atlas → Bucket
named id g = bucket_at g.buckets (id_bucket id)

-- `emptied_renewed`: "When a bucket's reference count reaches 0 its item count becomes 0 and its generation rises by 1, wrapping"
abbrev pub Emptied : Type 0
Emptied = (id : ℕ) (g : Atlas) → (deallocate id g).answer ≡ (Ok tt) → (named id g).refs ≡ 1
    → ((named id (deallocate id g).state).items ≡ 0) × ((named id (deallocate id g).state).generation ≡ ((named id g).generation + 1) % 256)

-- `return_items`, `return_generation`: and not before
abbrev pub NotEmptied : Type 0
NotEmptied = (id : ℕ) (g : Atlas) → (deallocate id g).answer ≡ (Ok tt) → (named id g).refs ≢ 1
    → ((named id (deallocate id g).state).items ≡ (named id g).items) × ((named id (deallocate id g).state).generation ≡ (named id g).generation)

-- `emptied_renewed.stale`: the double return of a bucket's last label is 10
abbrev pub LastTwice : Type 0
LastTwice = (id : ℕ) (g : Atlas) → (deallocate id g).answer ≡ (Ok tt) → (named id g).refs ≡ 1
    → reply_says (deallocate id (deallocate id g).state).answer ≡ 10 ∷ []

-- `unreferenced_takeable`
abbrev pub UnreferencedTakes : Type 0
UnreferencedTakes = (g : Atlas) → is_sound g ≡ true → (i k : ℕ) → i < g.head.shelf_count → In k (chain_of g i) → (bucket_at g.buckets k).refs ≡ 0
    → Takeable (shelf_at g.shelves i).width (shelf_at g.shelves i).height g i k

-- `never_8`
abbrev pub NeverEight : Type 0
NeverEight = (w h : ℤ) (g : Atlas) → placing_says (allocate w h g).answer ≢ 8 ∷ []
