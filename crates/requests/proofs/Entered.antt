-- What a request with the list comes to by the verdict of the tests: it has a place for its entry, and with it the list is the one that the rule leaves.
use Rattle.std.specs.Prelude.{Ok, Err, Result}
use Prim.Native.Nat.{ℕ, ◌≤◌, ◌<◌}
use mathlib.Core.Bool.{Bool, true, false}
use mathlib.Core.Path.{◌≡◌, refl, sym, ap, ◌∙◌, subst}
use mathlib.Core.List.{List}
use borrow.Author.Tests.{ltb-true}
use native.Mathlib.Omega.{arith}
use lib.Dec.{ltb}
use lib.ListN.{length}
use lib.IntN.{ℤ}
use Rattle.rules.specs.declared.Allocation.{Allocation}
use Rattle.rules.specs.declared.Refusal.{Refusal}
use Rattle.rules.specs.Ids.{id_bucket}
use Rattle.rules.specs.Tables.{Atlas, Outcome, outcome}
use Rattle.rules.specs.Sound.{Sound}
use Rattle.rules.specs.Builds.{present}
use Rattle.rules.specs.Calls.{natural, request, issue_first}
use Rattle.rules.specs.Calls as calls
use Rattle.rules.specs.Held.{entries, place_for}
use Rattle.rules.specs.Listed.{holding, Ended, ended, verdict, judged, refusing, enter}
use Rattle.rules.specs.Listed as listed
use Rattle.laws.proofs.Tests.Flags.{split}
use Rattle.laws.proofs.Sound.Test.{sound_test}
use Rattle.laws.proofs.Calls.Ways.{place_ways, allocate_ways}
use Rattle.laws.proofs.Held.Places.{EntryMore, placed_one, place_within}
use Rattle.laws.proofs.Held.Calls.{Judging, passed}
use Rattle.entries.specs.Verdicts.{Enters, entered_in}
use Rattle.requests.specs.Entering.{roomed, entering}

-- ---- past the tests

-- the place told of an answer is the rule's
abbrev pub Told : Outcome (Result Allocation Refusal) → ℕ → Type 0
Told o place = (a : Allocation) → o.answer ≡ Ok a → place ≡ place_for (id_bucket a.id) o.state

-- what is left, the list being n entries and those past them
abbrev left : ℕ → ℕ → List Allocation → Outcome (Result Allocation Refusal) → Ended (Result Allocation Refusal)
left n place list o = ended o.answer (holding o.state (entered_in (Ok n) o.answer place list))

module _ (place : ℕ) (list : List Allocation) (g : Atlas) where
  -- the answer o of a request leaves with the list what the rule says
  abbrev Enter : Outcome (Result Allocation Refusal) → Type 0
  Enter o =
      let room : Bool = ltb (entries g) (length list) in
      Told (roomed room o.answer o.state g) place
      → left (entries g) place list (roomed room o.answer o.state g) ≡ enter o.answer o.state (holding g list)

  enter_refused : (r : Refusal) → Enter (outcome (Err r) g)
  enter_refused r told = refl

  enter_placed : (a : Allocation) (after : Atlas) → Enter (outcome (Ok a) after)
  enter_placed a after =
      split (ltb (entries g) (length list))
      (λ e. simp e (λ told. rw (told a refl) refl))
      (λ e. simp e (λ told. refl))

  enter_is : (w h : ℤ) → Enter (calls.allocate w h g)
  unfolding issue_first
  enter_is w h =
      allocate_ways present Enter w h g enter_refused (λ q.
      place_ways present Enter _ _ g enter_refused (λ n e. enter_placed _ _) (λ e f. enter_placed _ _) (λ e r f k. enter_placed _ _))

sound_request : (w h : ℤ) (g : Atlas) → Sound g → request present (natural w) (natural h) g ≡ calls.allocate w h g
unfolding calls.allocate_by
sound_request w h g p = simp ((sound_test g).1 p)

-- an answer that is placed, with the list's room
roomed_placed : (room : Bool) (p : Result Allocation Refusal) (after g : Atlas) (a : Allocation) → (roomed room p after g).answer ≡ Ok a
    → (room ≡ true) × (p ≡ Ok a) × ((roomed room p after g).state ≡ after)
roomed_placed true (Ok b) after g a e = (refl, e, refl)
roomed_placed false (Ok b) after g a e = absurd (let z : ◌≡◌ {A = ℕ} 0 1 = cc in omega arith)
roomed_placed true (Err r) after g a e = absurd (let z : ◌≡◌ {A = ℕ} 0 1 = cc in omega arith)
roomed_placed false (Err r) after g a e = absurd (let z : ◌≡◌ {A = ℕ} 0 1 = cc in omega arith)

-- ---- by the verdict

-- the entry has a place, and the list room for it
pub enters : (g : Atlas) (list : List Allocation) (v : Result ℕ Refusal) → v ≡ verdict (holding g list)
    → (w h : ℤ) (place : ℕ) {o : Outcome (Result Allocation Refusal)}
    → o ≡ entering v (length list) w h g → Told o place → Enters v o.answer place (length list)
enters g list v e w h place {o} q told = record { within = λ n a f p. (at n a f p).0; spare = λ n a f p. (at n a f p).1 }
  where
    at : (n : ℕ) (a : Allocation) → v ≡ Ok n → o.answer ≡ Ok a → (place ≤ n) × (n < length list)
    at n a f p =
        let k : Judging n (holding g list) = passed (holding g list) e n f in
        let d : Outcome (Result Allocation Refusal) = request present (natural w) (natural h) g in
        let s : o ≡ roomed (ltb n (length list)) d.answer d.state g = q ∙ ap (λ (z : Result ℕ Refusal). entering z (length list) w h g) f in
        let r = roomed_placed (ltb n (length list)) d.answer d.state g a (ap (λ (z : Outcome (Result Allocation Refusal)). z.answer) (sym s) ∙ p) in
        let one : EntryMore g d.state a = placed_one present k.passing.sound (natural w) (natural h) a r.1 in
        let there : place ≡ place_for (id_bucket a.id) d.state =
        told a p ∙ ap (place_for (id_bucket a.id)) (ap (λ (z : Outcome (Result Allocation Refusal)). z.state) s ∙ r.2) in
        (omega (arith, there, place_within one, k.count), ltb-true n (length list) r.0)

pub allocate_is : (g : Atlas) (list : List Allocation) (v : Result ℕ Refusal) → v ≡ verdict (holding g list)
    → (w h : ℤ) (place : ℕ) {o : Outcome (Result Allocation Refusal)}
    → o ≡ entering v (length list) w h g → Told o place
    → ended o.answer (holding o.state (entered_in v o.answer place list)) ≡ listed.allocate w h (holding g list)
unfolding listed.allocate_by
allocate_is g list (Err r) e w h place q told =
    let d : Outcome (Result Allocation Refusal) = calls.allocate w h g in
    ap (λ (z : Outcome (Result Allocation Refusal)). ended z.answer (holding z.state list)) q
    ∙ ap (judged (refusing Err (holding g list)) (λ n. enter d.answer d.state (holding g list))) e
allocate_is g list (Ok n) e w h place {o} q told =
    let k : Judging n (holding g list) = passed (holding g list) e n refl in
    let d : Outcome (Result Allocation Refusal) = calls.allocate w h g in
    let s : o ≡ roomed (ltb (entries g) (length list)) d.answer d.state g =
    q ∙ ap (λ (m : ℕ). roomed (ltb m (length list)) (request present (natural w) (natural h) g).answer (request present (natural w) (natural h) g).state g)
    k.count
    ∙ ap (λ (z : Outcome (Result Allocation Refusal)). roomed (ltb (entries g) (length list)) z.answer z.state g) (sound_request w h g k.passing.sound) in
    ap (left n place list) s
    ∙ ap (λ (m : ℕ). left m place list (roomed (ltb (entries g) (length list)) d.answer d.state g)) k.count
    ∙ enter_is place list g w h (subst (λ (z : Outcome (Result Allocation Refusal)). Told z place) s told)
    ∙ ap (judged (refusing Err (holding g list)) (λ n. enter d.answer d.state (holding g list))) e
