-- What the other calls answer and leave, on any tables: sides told, what clear leaves, what a refusal leaves, refusals in their order, and the
-- tables test.
use Rattle.std.specs.Prelude.{ℕ, ◌*◌, ◌≤◌, ◌<◌, true, ◌≡◌, List, [], ◌∷◌, ℤ, drop, Ok, Err}
use Rattle.rules.specs.declared.Allocation.{Allocation}
use Rattle.rules.specs.declared.Head.{Head}
use Rattle.rules.specs.declared.Refusal.{Refusal}
use Rattle.rules.specs.Tables.{Atlas, atlas}
use Rattle.rules.specs.Ids.{id_bucket, id_generation}
use Rattle.rules.specs.Answers.{made_says, reply_says, sides_says}
use Rattle.rules.specs.Sound.{Sound, is_lent, is_sound}
use Rattle.rules.specs.Calls.{natural, new, clear, grow, allocate, deallocate, size}

-- ---- size

-- `new_size`
abbrev pub NewSize : Type 0
NewSize = (w h aw ah n : ℤ) (v : ℕ) (s b : List ℕ) (head : Head) → new w h aw ah n v s b ≡ Ok head
    → sides_says (size (atlas head s b)) ≡ 0 ∷ natural w ∷ natural h ∷ []

-- `grow_size`
abbrev pub GrowSize : Type 0
GrowSize = (w h : ℤ) (g : Atlas) → reply_says (grow w h g).answer ≡ 0 ∷ []
    → sides_says (size (grow w h g).state) ≡ 0 ∷ natural w ∷ natural h ∷ []

-- `deallocate_size` and `clear_size`
abbrev pub KeepSize : Type 0
KeepSize = (g : Atlas)
    → ((id : ℕ) → sides_says (size (deallocate id g).state) ≡ sides_says (size g)) × (sides_says (size (clear g).state) ≡ sides_says (size g))

-- ---- clear

-- `clear_fresh`
abbrev pub ClearFresh : Type 0
ClearFresh = (g : Atlas) → reply_says (clear g).answer ≡ 0 ∷ []
    → ((clear g).state.head.bucket_count ≡ 0) × ((clear g).state.head.align_height ≡ g.head.align_height)

-- `clear_generation`
abbrev pub ClearGeneration : Type 0
ClearGeneration = (g : Atlas) → reply_says (clear g).answer ≡ 0 ∷ [] → (w h : ℤ) (a : Allocation)
    → (allocate w h (clear g).state).answer ≡ Ok a → id_generation a.id ≡ 0

-- `clear_past`
abbrev pub ClearPast : Type 0
ClearPast = (g : Atlas)
    → drop (5 * (clear g).state.head.shelf_count) (clear g).state.shelves ≡ drop (5 * (clear g).state.head.shelf_count) g.shelves

-- ---- refusals

-- `grow_refused`, `allocate_refused`, `deallocate_refused`
abbrev pub GrowRefused : Type 0
GrowRefused = (w h : ℤ) (g : Atlas) (r : Refusal) → (grow w h g).answer ≡ Err r → (grow w h g).state ≡ g

abbrev pub AllocateRefused : Type 0
AllocateRefused = (w h : ℤ) (g : Atlas) (r : Refusal) → (allocate w h g).answer ≡ Err r → (allocate w h g).state ≡ g

abbrev pub DeallocateRefused : Type 0
DeallocateRefused = (id : ℕ) (g : Atlas) (r : Refusal) → (deallocate id g).answer ≡ Err r → (deallocate id g).state ≡ g

-- `deallocate_refusals.nine`
abbrev pub DeallocateNine : Type 0
DeallocateNine = (id : ℕ) (g : Atlas) → is_sound g ≡ true → g.head.bucket_count ≤ id_bucket id → reply_says (deallocate id g).answer ≡ 9 ∷ []

-- `new_refusals.two`
abbrev pub NewTwo : Type 0
NewTwo = (w h aw ah n : ℤ) (v : ℕ) (s b : List ℕ) → is_lent s b ≡ true → natural w < 1 → made_says (new w h aw ah n v s b) ≡ 2 ∷ []

-- ---- the tables test

-- `sound_test`
abbrev pub SoundTest : Type 0
SoundTest = (g : Atlas) → is_sound g ≡ true → Sound g
