-- How many entries the tables tell after a request that is placed: one more, and the new one's place is among theirs. What keeps the referenced buckets
-- keeps their number.
use Rattle.std.specs.Prelude.{Ok, Err, Result}
use Prim.Native.Nat.{ℕ, zero, suc, ◌+◌, ◌-◌, ◌≤◌, ◌<◌}
use mathlib.Core.Path.{◌≡◌, sym, ap, ◌∙◌, subst}
use native.Mathlib.Decide.{ℕ_discrete}
use native.Mathlib.Omega.{arith}
use Rattle.rules.specs.declared.Head.{Head}
use Rattle.rules.specs.declared.Bucket.{Bucket}
use Rattle.rules.specs.declared.Allocation.{Allocation}
use Rattle.rules.specs.declared.Refusal.{Refusal}
use Rattle.rules.specs.Ids.{id_bucket}
use Rattle.rules.specs.Tables.{Atlas, Outcome, outcome, bucket_at}
use Rattle.rules.specs.Chains.{sum_to}
use Rattle.rules.specs.Issue.{issue}
use Rattle.rules.specs.Sound.{Steady, Sound}
use Rattle.rules.specs.Builds.{Build}
use Rattle.rules.specs.Calls.{placed, issue_first, request}
use Rattle.rules.specs.Held.{refs_of, entries, place_for}
use Rattle.laws.proofs.Numbers.Ids.{id_bucket_of}
use Rattle.laws.proofs.Chains.Count.{sum_ext, sum_change}
use Rattle.laws.proofs.Sound.Apart.{Used}
use Rattle.laws.proofs.Sound.Lies.{member_below}
use Rattle.laws.proofs.Issue.Keep.{Issuable, IssueFacts, issue_facts}
use Rattle.laws.proofs.Merge.Keep.{merge_facts}
use Rattle.laws.proofs.Calls.Runs.{run_facts}
use Rattle.laws.proofs.Calls.Ways.{place_ways, request_ways}
use Rattle.laws.proofs.Calls.Request.{aligned}
use Rattle.laws.proofs.Calls.Keep.{found_issuable, added, added_issuable, merge_issuable}
use Rattle.laws.proofs.Calls.Frames.{Frame, frame_added, frame_merged}

-- ---- sums

-- what is 0 from n on adds nothing
sum_tail : (n d : ℕ) (f : ℕ → ℕ) → ((k : ℕ) → n ≤ k → k < n + d → f k ≡ 0) → sum_to (n + d) f ≡ sum_to n f
sum_tail n zero f z = let e : n + 0 ≡ n = omega arith in rw e
sum_tail n (suc d) f z =
    let e : n + suc d ≡ suc (n + d) = omega arith in
    rw e (omega (arith, sum_tail n d f (λ k l m. z k l (omega arith)), z (n + d) (omega arith) (omega arith)))

-- some first terms of a sum
sum_first : (m n : ℕ) (f : ℕ → ℕ) → sum_to m f ≤ sum_to (m + n) f
sum_first m zero f = let e : m + 0 ≡ m = omega arith in rw e (omega arith)
sum_first m (suc n) f = let e : m + suc n ≡ suc (m + n) = omega arith in rw e (omega (arith, sum_first m n f))

-- the place of an entry of bucket k is before their end
pub place_before : (k : ℕ) (g : Atlas) → k < g.head.bucket_count → place_for k g ≤ entries g - 1
unfolding place_for entries
place_before k g l =
    let n : ℕ = g.head.bucket_count in
    let e : suc k + (n - suc k) ≡ n = omega arith in
    let most : sum_to (suc k) (refs_of g) ≤ sum_to n (refs_of g) =
    subst (λ (z : ℕ). sum_to (suc k) (refs_of g) ≤ sum_to z (refs_of g)) e (sum_first (suc k) (n - suc k) (refs_of g)) in
    omega arith

-- ---- what keeps the referenced buckets

-- each reference count is as it was, and those past the old count are 0
frame_refs : {g g' : Atlas} → Frame g g' → (k : ℕ) → k < g'.head.bucket_count → (k < g.head.bucket_count → refs_of g' k ≡ refs_of g k)
    × (g.head.bucket_count ≤ k → refs_of g' k ≡ 0)
frame_refs {g} {g'} f k l = (
  λ b. elim (ℕ_discrete (refs_of g k) 0) [
    | yes z ↦ elim (ℕ_discrete (refs_of g' k) 0) [
      | yes z' ↦ z' ∙ sym z
      | no ne ↦ absurd (let u : Used g k = f.only k (record { below = l; refs = omega arith }) in omega (arith, u.refs))
    ]
    | no ne ↦ ap (λ (v : Bucket). v.refs) (f.bucket k (record { below = b; refs = omega arith }))
  ],
  λ b. elim (ℕ_discrete (refs_of g' k) 0) [
    | yes z ↦ z
    | no ne ↦ absurd (let u : Used g k = f.only k (record { below = l; refs = omega arith }) in omega (arith, u.below))
  ],
)

pub entries_frame : {g g' : Atlas} → Frame g g' → entries g' ≡ entries g
unfolding entries
entries_frame {g} {g'} f =
    let n : ℕ = g.head.bucket_count in
    let m : ℕ = g'.head.bucket_count in
    let e : n + (m - n) ≡ m = omega (arith, f.more) in
    let whole : sum_to m (refs_of g') ≡ sum_to n (refs_of g') =
    subst (λ (z : ℕ). sum_to z (refs_of g') ≡ sum_to n (refs_of g')) e
    (sum_tail n (m - n) (refs_of g') (λ k l b. (frame_refs f k (omega arith)).1 l)) in
    whole ∙ sum_ext n (refs_of g') (refs_of g) (λ k l. (frame_refs f k (omega (arith, f.more))).0 l)

-- ---- a request that is placed

-- one entry more, whose bucket is there
pub record EntryMore (g g' : Atlas) (a : Allocation) : Type 0 where
  pub more : entries g' ≡ suc (entries g)
  pub named : id_bucket a.id < g'.head.bucket_count

-- so its place is one of theirs, or the one behind them
pub place_within : {g g' : Atlas} {a : Allocation} → EntryMore g g' a → place_for (id_bucket a.id) g' ≤ entries g
place_within {g} {g'} {a} o = omega (arith, place_before (id_bucket a.id) g' o.named, o.more)

issued_one : {g : Atlas} (st : Steady g) (i k w : ℕ) → Issuable i k w g → EntryMore g (issue i k w g).state (issue i k w g).answer
unfolding entries
issued_one {g} st i k w p =
    let o : Outcome Allocation = issue i k w g in
    let f : IssueFacts i k w g (issue i k w g) = issue_facts st i k w p in
    let below : k < g.head.bucket_count = member_below st i k p.there p.member in
    let same : o.state.head.bucket_count ≡ g.head.bucket_count = ap (λ (h : Head). h.bucket_count) f.head in
    let risen : refs_of o.state k ≡ refs_of g k + 1 = ap (λ (v : Bucket). v.refs) f.changes.bucket in
    let sums = sum_change g.head.bucket_count k (refs_of g) (refs_of o.state) below
    (λ j l ne. ap (λ (v : Bucket). v.refs) (f.changes.others j ne)) in
    let id : id_bucket o.answer.id ≡ k =
    ap (λ (a : Allocation). id_bucket a.id) f.answer
    ∙ id_bucket_of k ((bucket_at g.buckets k).items + 1) (bucket_at g.buckets k).generation (omega (arith, below, st.domain.buckets)) in
    record {
      more = rw same (omega (arith, sums, risen));
      named = omega (arith, id, same, below);
    }

-- from tables that keep the referenced buckets
after_frame : {g n : Atlas} → Frame g n → (o : Outcome Allocation) → EntryMore n o.state o.answer → EntryMore g o.state o.answer
after_frame {g} {n} f o q = record { more = q.more ∙ ap suc (entries_frame f); named = q.named }

-- what a request leaves, where it is placed
abbrev Leaves : Atlas → Outcome (Result Allocation Refusal) → Type 0
Leaves g o = (a : Allocation) → o.answer ≡ Ok a → EntryMore g o.state a

unplaced : (g : Atlas) (r : Refusal) → Leaves g (outcome (Err r) g)
unplaced g r a e = absurd (let z : ◌≡◌ {A = ℕ} 0 1 = cc in omega arith)

leaves : {g : Atlas} (o : Outcome Allocation) → EntryMore g o.state o.answer → Leaves g (placed o)
leaves {g} o q a e = let s : o.answer ≡ a = cc in subst (λ (z : Allocation). EntryMore g o.state z) s q

pub placed_one : (build : Build) {g : Atlas} → Sound g → (w h : ℕ) (a : Allocation) → (request build w h g).answer ≡ Ok a
    → EntryMore g (request build w h g).state a
unfolding issue_first
placed_one build {g} p w h =
    let st : Steady g = p.steady in
    request_ways build (Leaves g) w h g (unplaced g) (λ f.
    let q = aligned st.domain f in
    place_ways build (Leaves g) _ _ g (unplaced g)
    (λ best n. leaves _ (issued_one st _ _ _ (found_issuable q n)))
    (λ e z. leaves _ (after_frame (frame_added st (added q build st e z)) _ (issued_one (added q build st e z).steady _ _ _ (added_issuable q build st e z))))
    (λ e run d z.
    let m = merge_facts st run (run_facts _ _ g d) in
    leaves _ (after_frame (frame_merged st m) _ (issued_one m.steady _ _ _ (merge_issuable q st d)))))
