-- Sound tables stay sound, whatever is asked and whatever the answer.
use Rattle.std.specs.Prelude.{Result, ⊤}
use Rattle.rules.specs.declared.Allocation.{Allocation}
use Rattle.rules.specs.declared.Refusal.{Refusal}
use Prim.Native.Nat.{ℕ}
use lib.IntN.{ℤ}
use Rattle.rules.specs.Tables.{Atlas, Outcome}
use Rattle.rules.specs.Sound.{SoundBy}
use Rattle.rules.specs.Builds.{Build}
use Rattle.rules.specs.Calls.{natural, request, allocate_by, deallocate_by, clear_by, grow_by}
use Rattle.laws.proofs.Sound.Test.{sound_test}
use Rattle.laws.proofs.Return.Keep.{deallocate_facts}
use Rattle.laws.proofs.Calls.Ways.{clear_ways, grow_ways, deallocate_ways, place_ways, request_ways}
use Rattle.laws.proofs.Calls.Request.{aligned}
use Rattle.laws.proofs.Calls.Empty.{sound_cleared}
use Rattle.laws.proofs.Calls.Keep.{sound_found, sound_added, sound_merging, sound_grows}

module _ {build : Build} {g : Atlas} (p : SoundBy build g) where
  pub request_stays : (w h : ℕ) → SoundBy build (request build w h g).state
  request_stays w h =
      request_ways build (λ (o : Outcome (Result Allocation Refusal)). SoundBy build o.state) w h g (λ r. p) (λ f.
      let a = aligned p.steady.domain f in
      place_ways build (λ (o : Outcome (Result Allocation Refusal)). SoundBy build o.state) _ _ g (λ r. p)
      (λ best e. sound_found a p e) (λ e z. sound_added a build p e z) (λ e run d z. sound_merging a p d))

  pub allocate_stays : (w h : ℤ) → SoundBy build (allocate_by build w h g).state
  unfolding allocate_by
  allocate_stays w h = simp ((sound_test g).1 p) (request_stays (natural w) (natural h))

  pub deallocate_stays : (id : ℕ) → SoundBy build (deallocate_by build id g).state
  deallocate_stays id = deallocate_ways build (λ (o : Outcome (Result ⊤ Refusal)). SoundBy build o.state) id g (λ r. p) (λ r. (deallocate_facts id g p r).sound)

  pub grow_stays : (w h : ℤ) → SoundBy build (grow_by build w h g).state
  grow_stays w h = grow_ways build (λ (o : Outcome (Result ⊤ Refusal)). SoundBy build o.state) w h g (λ r. p) (λ r. sound_grows p r)

  pub clear_stays : SoundBy build (clear_by build g).state
  clear_stays = clear_ways build (λ (o : Outcome (Result ⊤ Refusal)). SoundBy build o.state) g (λ r. p) (λ e. sound_cleared p)
