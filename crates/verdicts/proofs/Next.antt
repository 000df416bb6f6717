-- The verdict of the tests on what a call leaves: a list that fits goes on fitting, with one entry more or less, and what they refused is left as it was.
use Rattle.std.specs.Prelude.{Ok, Err, Result, ⊤}
use Prim.Native.Nat.{ℕ, zero, suc, ◌+◌, ◌*◌, ◌≤◌, ◌<◌}
use mathlib.Core.Path.{◌≡◌, refl, sym, ap, ◌∙◌, subst}
use mathlib.Core.List.{List}
use native.Mathlib.Omega.{arith}
use lib.IntN.{ℤ}
use lib.ListN.{get_or}
use Rattle.rules.specs.declared.Allocation.{Allocation}
use Rattle.rules.specs.declared.Head.{Head}
use Rattle.rules.specs.declared.Refusal.{Refusal}
use Rattle.rules.specs.Tables.{Atlas, atlas, bucket_at, Outcome}
use Rattle.rules.specs.Chains.{sum_to}
use Rattle.rules.specs.Sound.{Sound}
use Rattle.rules.specs.Grow.{cleared_head, cleared}
use Rattle.rules.specs.Builds.{present}
use Rattle.rules.specs.Calls as calls
use Rattle.rules.specs.Held.{refs_of, entries}
use Rattle.rules.specs.Listed.{Holding, holding, Ended, ended, verdict, judged, tested, refusing, beside, enter, leave}
use Rattle.rules.specs.Listed.{allocate, allocate_by, deallocate, deallocate_by, clear, clear_by, grow, grow_by}
use Rattle.laws.proofs.Calls.Ways.{clear_ways}
use Rattle.laws.proofs.Calls.Empty.{empty_new, sound_new, sound_cleared}
use Rattle.laws.proofs.Calls.Stay.{allocate_stays, deallocate_stays, grow_stays}
use Rattle.laws.proofs.Held.Ways.{passing_verdict, listed_allocate_ways, listed_deallocate_ways, listed_grow_ways, listed_clear_ways}
use Rattle.laws.proofs.Held.Calls.{Judging, passed}
use Rattle.laws.proofs.Tied.Live.{Live, live_fits, no_entries, live_none, entered_more, entered, left_fewer, left, grown_same, grown}
use Rattle.verdicts.specs.Next.{CountsOn, one_more, one_less, none_left}

-- ---- what the verdict is

-- where the tests refused, a call answers that
refused_way : {A : Type 0} (P : Ended A → Type 0) (refuse : Refusal → A) (a : Ended A) (l : Holding) (r : Refusal) → Err r ≡ verdict l
    → P (ended (refuse r) l) → P (tested (refusing refuse l) a l)
refused_way P refuse a l r e p = subst (λ (v : Result ℕ Refusal). P (judged (refusing refuse l) (λ n. a) v)) e p

-- where the list's live part is known, the list fits
live_verdict : {n : ℕ} {g : Atlas} {xs ys : List Allocation} → n ≡ entries g → Sound g → Live g xs ys → Ok n ≡ verdict (holding g xs)
live_verdict e p v = ap Ok e ∙ passing_verdict (record { sound = p; fits = live_fits p v })

-- ---- what each call leaves

pub new_next : (w h aw ah n : ℤ) (o : ℕ) (s b : List ℕ) (head : Head) (xs : List Allocation) → calls.new w h aw ah n o s b ≡ Ok head
    → Ok 0 ≡ verdict (holding (atlas head s b) xs)
new_next w h aw ah n o s b head xs e =
    let none : head.bucket_count ≡ 0 = (empty_new w h aw ah n o s b head e).1.buckets in
    live_verdict (sym (no_entries (atlas head s b) none)) (sound_new w h aw ah n o s b head e) (live_none xs none)

allocate_left : (g : Atlas) (xs : List Allocation) (v : Result ℕ Refusal) → v ≡ verdict (holding g xs) → (w h : ℤ)
    → one_more v (allocate w h (holding g xs)).answer ≡ verdict (allocate w h (holding g xs)).left
unfolding allocate_by
allocate_left g xs (Err r) e w h =
    let o : Outcome (Result Allocation Refusal) = calls.allocate w h g in
    refused_way (λ (z : Ended (Result Allocation Refusal)). one_more (Err r) z.answer ≡ verdict z.left) Err
    (enter o.answer o.state (holding g xs)) (holding g xs) r e e
allocate_left g xs (Ok n) e w h =
    let k : Judging n (holding g xs) = passed (holding g xs) e n refl in
    let p : Sound g = k.passing.sound in
    listed_allocate_ways present (λ (z : Ended (Result Allocation Refusal)). one_more (Ok n) z.answer ≡ verdict z.left) w h (λ r. e)
    (λ a q l. live_verdict (omega (arith, k.count, entered_more p k.passing.fits w h a q)) (allocate_stays p w h)
    (entered p k.passing.fits w h a q l))

deallocate_left : (g : Atlas) (xs : List Allocation) (v : Result ℕ Refusal) → v ≡ verdict (holding g xs) → (id : ℕ)
    → one_less v (deallocate id (holding g xs)).answer ≡ verdict (deallocate id (holding g xs)).left
unfolding deallocate_by
deallocate_left g xs (Err r) e id =
    let o : Outcome (Result ⊤ Refusal) = calls.deallocate id g in
    refused_way (λ (z : Ended (Result ⊤ Refusal)). one_less (Err r) z.answer ≡ verdict z.left) Err
    (leave id o.answer o.state (holding g xs)) (holding g xs) r e e
deallocate_left g xs (Ok n) e id =
    let k : Judging n (holding g xs) = passed (holding g xs) e n refl in
    let p : Sound g = k.passing.sound in
    listed_deallocate_ways present (λ (z : Ended (Result ⊤ Refusal)). one_less (Ok n) z.answer ≡ verdict z.left) id (λ r. e)
    (λ q l. live_verdict (omega (arith, k.count, left_fewer p k.passing.fits id l q)) (deallocate_stays p id) (left p k.passing.fits id l q))

clear_left : (g : Atlas) (xs : List Allocation) (v : Result ℕ Refusal) → v ≡ verdict (holding g xs)
    → none_left v (clear (holding g xs)).answer ≡ verdict (clear (holding g xs)).left
unfolding clear_by cleared_head
clear_left g xs (Err r) e =
    refused_way (λ (z : Ended (Result ⊤ Refusal)). none_left (Err r) z.answer ≡ verdict z.left) Err
    (beside (calls.clear g) xs) (holding g xs) r e e
clear_left g xs (Ok n) e =
    let k : Judging n (holding g xs) = passed (holding g xs) e n refl in
    let left : (z : Ended (Result ⊤ Refusal)) → Type 0 = λ z. none_left (Ok n) z.answer ≡ verdict z.left in
    listed_clear_ways present left (λ r. e)
    (clear_ways present (λ (o : Outcome (Result ⊤ Refusal)). left (beside o xs)) g (λ r. e)
    (λ q. live_verdict (sym (no_entries (cleared g) refl)) (sound_cleared k.passing.sound) (live_none xs refl)))

grow_left : (g : Atlas) (xs : List Allocation) (v : Result ℕ Refusal) → v ≡ verdict (holding g xs) → (w h : ℤ) → v ≡ verdict (grow w h (holding g xs)).left
unfolding grow_by
grow_left g xs (Err r) e w h =
    refused_way (λ (z : Ended (Result ⊤ Refusal)). Err r ≡ verdict z.left) Err (beside (calls.grow w h g) xs) (holding g xs) r e e
grow_left g xs (Ok n) e w h =
    let k : Judging n (holding g xs) = passed (holding g xs) e n refl in
    let p : Sound g = k.passing.sound in
    listed_grow_ways present (λ (z : Ended (Result ⊤ Refusal)). Ok n ≡ verdict z.left) w h (λ r. e)
    (live_verdict (omega (arith, k.count, grown_same p k.passing.fits w h)) (grow_stays p w h) (grown p k.passing.fits w h))

-- ---- as a call's answer and what it left are told

module _ (g : Atlas) (xs : List Allocation) (v : Result ℕ Refusal) (e : v ≡ verdict (holding g xs)) where
  pub allocate_next : (w h : ℤ) {o : Ended (Result Allocation Refusal)} → o ≡ allocate w h (holding g xs) → one_more v o.answer ≡ verdict o.left
  allocate_next w h q = subst (λ (z : Ended (Result Allocation Refusal)). one_more v z.answer ≡ verdict z.left) (sym q) (allocate_left g xs v e w h)

  pub deallocate_next : (id : ℕ) {o : Ended (Result ⊤ Refusal)} → o ≡ deallocate id (holding g xs) → one_less v o.answer ≡ verdict o.left
  deallocate_next id q = subst (λ (z : Ended (Result ⊤ Refusal)). one_less v z.answer ≡ verdict z.left) (sym q) (deallocate_left g xs v e id)

  pub clear_next : {o : Ended (Result ⊤ Refusal)} → o ≡ clear (holding g xs) → none_left v o.answer ≡ verdict o.left
  clear_next q = subst (λ (z : Ended (Result ⊤ Refusal)). none_left v z.answer ≡ verdict z.left) (sym q) (clear_left g xs v e)

  pub grow_next : (w h : ℤ) {o : Ended (Result ⊤ Refusal)} → o ≡ grow w h (holding g xs) → v ≡ verdict o.left
  grow_next w h q = subst (λ (z : Ended (Result ⊤ Refusal)). v ≡ verdict z.left) (sym q) (grow_left g xs v e w h)

-- ---- how many there can be

sum_most : (m : ℕ) (f : ℕ → ℕ) → ((k : ℕ) → f k < 65536) → sum_to m f ≤ 65535 * m
sum_most zero f l = omega arith
sum_most (suc m) f l = omega (arith, sum_most m f l, l m)

-- each bucket's count is of 16 bits
pub counts_on : (g : Atlas) (xs : List Allocation) (v : Result ℕ Refusal) → v ≡ verdict (holding g xs) → ((i : ℕ) → get_or g.buckets i 0 < 65536) → CountsOn v
unfolding entries bucket_at
counts_on g xs v e low n f =
    let k : Judging n (holding g xs) = passed (holding g xs) e n f in
    let most : entries g ≤ 65535 * g.head.bucket_count = sum_most g.head.bucket_count (refs_of g) (λ k. low (7 * k + 3)) in
    omega (arith, k.count, most, k.passing.sound.steady.domain.buckets)
