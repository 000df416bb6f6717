-- "every accepted call leaves sound tables", and a refused one leaves them as sound as they were. So tables that `new` or a read gave and that
-- nothing but these calls writes are sound after each call.
use Rattle.std.specs.Prelude.{Ok, Err, Result, ⊤}
use Prim.Native.Nat.{ℕ}
use mathlib.Core.Path.{◌≡◌, refl}
use mathlib.Core.List.{List}
use lib.IntN.{ℤ}
use Rattle.rules.specs.declared.Allocation.{Allocation}
use Rattle.rules.specs.declared.Head.{Head}
use Rattle.rules.specs.declared.Refusal.{Refusal}
use Rattle.rules.specs.Tables.{Atlas, atlas, Outcome}
use Rattle.rules.specs.Answers.{refused, reply_says, placing_says}
use Rattle.rules.specs.Sound.{SoundBy}
use Rattle.rules.specs.Calls as calls
use Rattle.rules.specs.Calls.{new}
use Rattle.rules.specs.Listed.{holding, Ended}
use Rattle.rules.specs.Builds.{Build}
use Rattle.rules.specs.History.{Call, Event, after_made, step, Listing, listed_step, saves, file_in, Run}
use Rattle.laws.proofs.Sound.Test.{sound_test}
use Rattle.laws.proofs.Calls.Ways.{clear_ways, grow_ways, allocate_ways, place_ways, deallocate_ways}
use Rattle.laws.proofs.Calls.Empty.{sound_new, sound_cleared}
use Rattle.laws.proofs.Return.Keep.{deallocate_facts}
use Rattle.laws.proofs.Calls.Request.{asked_sound, asked_aligned}
use Rattle.laws.proofs.Calls.Keep.{sound_found, sound_added, sound_merging, sound_grows}
use Rattle.promises.proofs.Reached.{Reached}
use Rattle.laws.proofs.Held.Ways.{listed_allocate_ways, listed_deallocate_ways, listed_grow_ways, listed_clear_ways}
use Rattle.promises.proofs.Files.{read_sound_law}
use Rattle.promises.proofs.Exactly.{Accepted, refused_not}

-- a call of a build on g, what it says and the state after it
pub record SoundAfter (build : Build) (g : Atlas) (says : List ℕ) (after : Atlas) : Type 0 where
  -- sound tables stay sound, whatever the answer
  pub stays : SoundBy build g → SoundBy build after
  -- on any tables, sound or not
  pub accepted : Accepted says → SoundBy build after

abbrev After : Build → Atlas → Outcome (Result ⊤ Refusal) → Type 0
After build g o = SoundAfter build g (reply_says o.answer) o.state

abbrev SoundPlacing : Build → Atlas → Outcome (Result Allocation Refusal) → Type 0
SoundPlacing build g o = SoundAfter build g (placing_says o.answer) o.state

refuses : {build : Build} (g : Atlas) (r : Refusal) → SoundAfter build g (refused r) g
refuses g r = record { stays = λ p. p; accepted = λ a. absurd (refused_not r a) }

after : {build : Build} {g : Atlas} {says : List ℕ} {g' : Atlas} → SoundBy build g' → SoundAfter build g says g'
after p = record { stays = λ q. p; accepted = λ a. p }

-- what `new` hands back is sound over the lent tables
pub new_sound : (build : Build) (width height align_width align_height columns : ℤ) (vertical : ℕ) (s b : List ℕ) (h : Head)
    → new width height align_width align_height columns vertical s b ≡ Ok h → SoundBy build (atlas h s b)
new_sound build = sound_new

module _ (build : Build) where
  pub clear_sound : (g : Atlas) → SoundAfter build g (reply_says (calls.clear_by build g).answer) (calls.clear_by build g).state
  clear_sound g = clear_ways build (After build g) g (refuses g) (λ e. after (sound_cleared ((sound_test g).0 e)))

  pub grow_sound : (width height : ℤ) (g : Atlas)
      → SoundAfter build g (reply_says (calls.grow_by build width height g).answer) (calls.grow_by build width height g).state
  grow_sound width height g = grow_ways build (After build g) width height g (refuses g) (λ r. after (sound_grows ((sound_test g).0 r.sound) r))

  pub allocate_sound : (width height : ℤ) (g : Atlas)
      → SoundAfter build g (placing_says (calls.allocate_by build width height g).answer) (calls.allocate_by build width height g).state
  allocate_sound width height g =
      allocate_ways build (SoundPlacing build g) width height g (refuses g) (λ r.
      place_ways build (SoundPlacing build g) _ _ g (refuses g)
      (λ best e. after (sound_found (asked_aligned r) (asked_sound r) e))
      (λ e f. after (sound_added (asked_aligned r) build (asked_sound r) e f))
      (λ e run f z. after (sound_merging (asked_aligned r) (asked_sound r) f)))

  pub deallocate_sound : (id : ℕ) (g : Atlas) → SoundAfter build g (reply_says (calls.deallocate_by build id g).answer) (calls.deallocate_by build id g).state
  deallocate_sound id g =
      deallocate_ways build (After build g) id g (refuses g) (λ r. after (deallocate_facts id g ((sound_test g).0 r.sound) r).sound)

-- ---- after each call

made_sound : {build : Build} (w h aw ah n : ℤ) (v : ℕ) (g : Atlas) (m : Result Head Refusal) → new w h aw ah n v g.shelves g.buckets ≡ m
    → SoundBy build g → SoundBy build (after_made m g)
made_sound w h aw ah n v g (Ok head) e p = sound_new w h aw ah n v g.shelves g.buckets head e
made_sound w h aw ah n v g (Err r) e p = p

-- any call, also one outside demand 3's premise
pub step_sound : (build : Build) (c : Call) (g : Atlas) → SoundBy build g → SoundBy build (step build c g).state
step_sound build (Call.new w h aw ah n v) g p = made_sound w h aw ah n v g (new w h aw ah n v g.shelves g.buckets) refl p
step_sound build (Call.allocate w h) g p = (allocate_sound build w h g).stays p
step_sound build (Call.deallocate id) g p = (deallocate_sound build id g).stays p
step_sound build Call.clear g p = (clear_sound build g).stays p
step_sound build (Call.grow w h) g p = (grow_sound build w h g).stays p
step_sound build Call.read g p = p

pub reached_sound : {build : Build} {g : Atlas} → Reached build g → SoundBy build g
reached_sound (Reached.fresh build w h aw ah n v s b head e) = sound_new w h aw ah n v s b head e
reached_sound (Reached.next build g r c) = step_sound build c g (reached_sound r)
reached_sound (Reached.restored build file s b head e) = read_sound_law build file s b head e

-- what a call with the list leaves is what it was, or what the call leaves without it
module _ (build : Build) (P : Atlas → Type 0) {g : Atlas} (was : P g) where
  listed_ways : (c : Call) (xs : List Allocation) → P (step build c g).state → P (listed_step build c (holding g xs)).left.state
  listed_ways (Call.new w h aw ah n v) xs is = is
  listed_ways (Call.allocate w h) xs is = listed_allocate_ways build (λ (z : Ended (Result Allocation Refusal)). P z.left.state) w h (λ r. was) (λ a e l. is)
  listed_ways (Call.deallocate id) xs is = listed_deallocate_ways build (λ (z : Ended (Result ⊤ Refusal)). P z.left.state) id (λ r. was) (λ e l. is)
  listed_ways Call.clear xs is = listed_clear_ways build (λ (z : Ended (Result ⊤ Refusal)). P z.left.state) (λ r. was) is
  listed_ways (Call.grow w h) xs is = listed_grow_ways build (λ (z : Ended (Result ⊤ Refusal)). P z.left.state) w h (λ r. was) is
  listed_ways Call.read xs is = was

pub listed_sound : (build : Build) {g : Atlas} → SoundBy build g → (c : Call) (xs : List Allocation)
    → SoundBy build (listed_step build c (holding g xs)).left.state
listed_sound build {g} p c xs = listed_ways build (SoundBy build) p c xs (step_sound build c g p)

pub listed_reached : (build : Build) {g : Atlas} → Reached build g → (c : Call) (xs : List Allocation)
    → Reached build (listed_step build c (holding g xs)).left.state
listed_reached build {g} r c xs = listed_ways build (Reached build) r c xs (Reached.next build g r c)

-- a run of demand 3 is one of them
pub run_reached : {build : Build} {past : List Event} {g : Atlas} {x : Listing} → Run build past g x → Reached build g
run_reached (Run.fresh build w h aw ah n v s b head e xs) = Reached.fresh build w h aw ah n v s b head e
run_reached (Run.next build past g r u c l) = Reached.next build g (run_reached r) c
run_reached (Run.called build past g xs r c) = listed_reached build (run_reached r) c xs
run_reached (Run.restored build earlier past g x r out n e s b head a) = Reached.restored build (file_in (saves earlier g x out) n) s b head a
run_reached (Run.relent build past g r u xs f) = run_reached r
