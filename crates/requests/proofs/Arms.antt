-- The arms of a request: what the rule comes to where the tests have led, and what sound tables give to its placing.
use Rattle.std.specs.Prelude.{Ok, Err, Result}
use Prim.Native.Nat.{ℕ}
use mathlib.Core.Bool.{Bool, true, false, true≢false, false≢true}
use mathlib.Core.Path.{◌≡◌, refl, sym, ap, ◌∙◌}
use native.Mathlib.Omega.{arith}
use lib.Dec.{ltb}
use lib.IntN.{ℤ}
use mathlib.Core.List.{List}
use Rattle.rules.specs.declared.Issued.{Issued}
use Rattle.rules.specs.declared.Allocation.{Allocation}
use Rattle.rules.specs.declared.Refusal.{Refusal}
use Rattle.rules.specs.Tables.{Atlas, atlas, Outcome, outcome}
use Rattle.rules.specs.Sound.{Sound}
use Rattle.rules.specs.Builds.{present}
use Rattle.rules.specs.Calls.{natural, aligned_sides, place_sides, place, request}
use Rattle.laws.proofs.Tests.Flags.{split}
use Rattle.laws.proofs.Calls.Request.{sides_aligned}
use Rattle.laws.proofs.Calls.Stay.{request_stays}
use Rattle.laws.proofs.Held.Places.{EntryMore, placed_one}
use Rattle.place.specs.Needs.{CanPlace}
use Rattle.place.specs.Placed.{is_placed}
use Rattle.requests.specs.Entering.{roomed, entering, Placeable}

module _ (w h : ℕ) (g : Atlas) {sides : (Result (ℕ × ℕ) Refusal)} (e : sides ≡ aligned_sides w h g.head) where
  request_is : (s : Result (ℕ × ℕ) Refusal) → sides ≡ s → place_sides present s g ≡ request present w h g
  unfolding request
  request_is s q = ap (λ (s : Result (ℕ × ℕ) Refusal). place_sides present s g) (sym q ∙ e)

  pub request_size : (a d : ℕ) → sides ≡ Ok (a, d) → place present a d g ≡ request present w h g
  request_size a d = request_is (Ok (a, d))

  pub request_refused : (r : Refusal) → sides ≡ Err r → outcome (Err r) g ≡ request present w h g
  request_refused r = request_is (Err r)

  pub can_place : (a d : ℕ) → sides ≡ Ok (a, d) → Sound g → CanPlace a d g
  can_place a d q p =
      let k = sides_aligned w h g.head p.steady.domain a d (sym e ∙ q) in
      record { sound = p; some = k.some; fits = k.fits; even = k.even; low = k.low; within = k.within }

-- ---- 19

module _ (room : Bool) (s g : Atlas) where
  roomed_full : (p : Result Allocation Refusal) → room ≡ false → is_placed p ≡ true → outcome (Err Refusal.Full) g ≡ roomed room p s g
  roomed_full (Ok a) e t = simp e
  roomed_full (Err r) e t = absurd (false≢true t)

  roomed_room : (p : Result Allocation Refusal) → room ≡ true → outcome p s ≡ roomed room p s g
  roomed_room (Ok a) e = simp e
  roomed_room (Err r) e = refl

  roomed_refused : (p : Result Allocation Refusal) → is_placed p ≡ false → outcome p s ≡ roomed room p s g
  roomed_refused (Ok a) t = absurd (true≢false t)
  roomed_refused (Err r) t = refl

  -- what is placed is what the request placed, and leaves what it left
  roomed_placed : (p : Result Allocation Refusal) (a : Allocation) → (roomed room p s g).answer ≡ Ok a → (p ≡ Ok a) × ((roomed room p s g).state ≡ s)
  roomed_placed (Ok b) a e =
      split room (λ t. (simp t at e, simp t)) (λ t. absurd (false≢true (ap is_placed (simp t at e))))
  roomed_placed (Err r) a e = absurd (false≢true (ap is_placed e))

module _ (room : Bool) (w h : ℕ) (g : Atlas) where
  abbrev within : Outcome (Result Allocation Refusal)
  within = roomed room (request present w h g).answer (request present w h g).state g

  pub with_room : room ≡ true → request present w h g ≡ within
  with_room = roomed_room room (request present w h g).state g (request present w h g).answer

  pub full : room ≡ false → is_placed (request present w h g).answer ≡ true → outcome (Err Refusal.Full) g ≡ within
  full = roomed_full room (request present w h g).state g (request present w h g).answer

  pub full_refused : is_placed (request present w h g).answer ≡ false → request present w h g ≡ within
  full_refused = roomed_refused room (request present w h g).state g (request present w h g).answer

-- ---- the place of the entry

-- its bucket is there
pub placeable : {g : Atlas} → Sound g → (w h : ℕ) (room : Bool) (shelves buckets : List ℕ) (i : Issued)
    → outcome (Ok i.allocation) (atlas i.head shelves buckets) ≡ roomed room (request present w h g).answer (request present w h g).state g
    → Placeable i.allocation buckets
placeable {g} p w h room shelves buckets i q =
    let a : Allocation = i.allocation in
    let d =
    roomed_placed room (request present w h g).state g (request present w h g).answer a (sym (ap (λ (o : Outcome (Result Allocation Refusal)). o.answer) q)) in
    let z : atlas i.head shelves buckets ≡ (request present w h g).state = ap (λ (o : Outcome (Result Allocation Refusal)). o.state) q ∙ d.1 in
    let t : buckets ≡ (request present w h g).state.buckets = ap (λ (g : Atlas). g.buckets) z in
    let one : EntryMore g (request present w h g).state a = placed_one present p w h a d.0 in
    let after : Sound (request present w h g).state = request_stays p w h in
    rw t (omega (arith, one.named, after.steady.domain.buckets), omega (arith, one.named, after.steady.domain.buckets, after.steady.lent.buckets))

-- ---- by the verdict

module _ {verdict : (Result ℕ Refusal)} (room : ℕ) (width height : ℤ) (g : Atlas) where
  pub entered : {n w h : ℕ} → w ≡ natural width → h ≡ natural height → verdict ≡ Ok n
      → roomed (ltb n room) (request present w h g).answer (request present w h g).state g ≡ entering verdict room width height g
  entered p q e = rw (p, q, e) refl

  pub turned : {r : Refusal} → verdict ≡ Err r → outcome (Err r) g ≡ entering verdict room width height g
  turned e = rw e refl
