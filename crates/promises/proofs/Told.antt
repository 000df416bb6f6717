-- What the reading calls tell. `size`: the sides that the last accepted new or grow asked for, in this order. `is_empty`: whether nothing is held.
-- `allocated_space` and `free_space`: the occupied figure, and "width times height less the occupied figure".
use Prim.Native.Nat.{ℕ, ◌-◌, ◌*◌, ◌≤◌, ◌<◌}
use mathlib.Core.Bool.{Bool, true, false, ◌||◌}
use mathlib.Core.Path.{◌≡◌, refl, sym, ap, ◌∙◌}
use mathlib.Core.Logic.{◌≢◌}
use mathlib.Core.List.{List, [], ◌∷◌}
use native.Mathlib.Decide.{ℕ_discrete, dec_lt}
use native.Mathlib.Omega.{arith}
use borrow.Author.Tests.{eq-eqb, ne_eqb}
use lib.IntN.{ℤ}
use Rattle.rules.specs.declared.Head.{Head}
use Rattle.rules.specs.declared.Refusal.{Refusal}
use Rattle.rules.specs.declared.Allocation.{Allocation}
use Rattle.std.specs.Prelude.{if◌then◌else◌, Ok, Err, Result, ⊤}
use Rattle.rules.specs.Limits.{side_most}
use Rattle.rules.specs.Ids.{id_bucket}
use Rattle.rules.specs.Tables.{Atlas, atlas, Outcome, bucket_at}
use Rattle.rules.specs.Chains.{count, sum_to, chain_of}
use Rattle.rules.specs.Grow.{cleared_head, free_space}
use Rattle.rules.specs.Answers.{reply_says, sides_says, flag_says, figure_says}
use Rattle.rules.specs.Sound.{Steady, Sound, is_lent}
use Rattle.rules.specs.Calls.{natural, outside, fresh_head, options_bad, made, new, clear, grow, allocate, issue_first, deallocate}
use Rattle.rules.specs.Calls.{size, is_empty, allocated_space, free_space_of}
use Rattle.rules.specs.Builds.{Build, present}
use Rattle.rules.specs.History.{Event, held, from_bucket, figure, Listing, Run}
use Rattle.laws.proofs.Sound.Test.{sound_test}
use Rattle.laws.proofs.Sound.Lies.{member_below, occupied_area}
use Rattle.laws.proofs.Calls.Ways.{clear_ways, grow_ways, deallocate_ways, allocate_ways, place_ways}
use Rattle.laws.proofs.Calls.Request.{asked_aligned, asked_sound}
use Rattle.laws.proofs.Calls.Empty.{sound_cleared, sound_new}
use Rattle.laws.proofs.Calls.Runs.{run_facts}
use Rattle.laws.proofs.Calls.Keep.{found_issuable, sound_found, added, added_issuable, sound_added, merge_issuable, sound_merging, grow_keeps, sound_grows}
use Rattle.laws.proofs.Issue.Keep.{issue_facts}
use Rattle.laws.proofs.Merge.Keep.{merge_facts}
use Rattle.laws.proofs.Return.Keep.{deallocate_facts}
use Rattle.promises.proofs.Exactly.{refused_not}
use Rattle.laws.proofs.Held.Each.{from_here}
use Rattle.promises.proofs.Invariant.{Invariant}
use Rattle.promises.proofs.History.{invariant, kept}

-- ---- size

size_of : (g : Atlas) → Sound g → sides_says (size g) ≡ 0 ∷ g.head.width ∷ g.head.height ∷ []
unfolding size
size_of g p = simp ((sound_test g).1 p)

-- sound tables of the same sides
size_same : {g g' : Atlas} → Sound g → Sound g' → g'.head.width ≡ g.head.width → g'.head.height ≡ g.head.height
    → sides_says (size g') ≡ sides_says (size g)
size_same {g} {g'} p p' ew eh = size_of g' p' ∙ rw (ew, eh) (sym (size_of g p))

-- the header that an accepted new makes
made_which : (lent sides options : Bool) (h h' : Head)
    → (if lent
    then (if sides then Err Refusal.Side else if options then Err Refusal.Options else Ok h)
    else Err Refusal.Tables) ≡ Ok h'
    → h' ≡ h
made_which true true options h h' e = absurd (let z : ◌≡◌ {A = ℕ} 0 1 = cc in omega arith)
made_which true false true h h' e = absurd (let z : ◌≡◌ {A = ℕ} 0 1 = cc in omega arith)
made_which true false false h h' e = cc
made_which false sides options h h' e = absurd (let z : ◌≡◌ {A = ℕ} 0 1 = cc in omega arith)

pub new_head : (width height align_width align_height columns : ℤ) (vertical : ℕ) (s b : List ℕ) (head : Head)
    → new width height align_width align_height columns vertical s b ≡ Ok head
    → head ≡ fresh_head (natural width) (natural height) (natural align_width) (natural align_height) (natural columns)
unfolding new made
new_head width height align_width align_height columns vertical s b head e =
    let w : ℕ = natural width in
    let h : ℕ = natural height in
    let aw : ℕ = natural align_width in
    let ah : ℕ = natural align_height in
    let n : ℕ = natural columns in
    made_which (is_lent s b) (outside w side_most || outside h side_most) (options_bad w aw ah n vertical) (fresh_head w h aw ah n) head e

pub new_size : (width height align_width align_height columns : ℤ) (vertical : ℕ) (s b : List ℕ) (head : Head)
    → new width height align_width align_height columns vertical s b ≡ Ok head
    → sides_says (size (atlas head s b)) ≡ 0 ∷ natural width ∷ natural height ∷ []
new_size width height align_width align_height columns vertical s b head e =
    let h = new_head width height align_width align_height columns vertical s b head e in
    size_of (atlas head s b) (sound_new width height align_width align_height columns vertical s b head e)
    ∙ rw (ap (λ (h : Head). h.width) h, ap (λ (h : Head). h.height) h)

-- a refused grow changes nothing (Outcomes)
pub grow_size : (width height : ℤ) (g : Atlas) → reply_says (grow width height g).answer ≡ 0 ∷ []
    → sides_says (size (grow width height g).state) ≡ 0 ∷ natural width ∷ natural height ∷ []
grow_size width height g =
    let Sized : Outcome (Result ⊤ Refusal) → Type 0 = λ o. reply_says o.answer ≡ 0 ∷ [] → sides_says (size o.state) ≡ 0 ∷ natural width ∷ natural height ∷ [] in
    grow_ways present Sized width height g
    (λ r e. absurd (refused_not r ([], e)))
    (λ r e.
    let p : Sound g = (sound_test g).0 r.sound in
    let q = grow_keeps p.steady r in
    size_of _ (sound_grows p r) ∙ rw (q.width, q.height))

pub clear_size : (g : Atlas) → sides_says (size (clear g).state) ≡ sides_says (size g)
unfolding cleared_head
clear_size g =
    clear_ways present (λ (o : Outcome (Result ⊤ Refusal)). sides_says (size o.state) ≡ sides_says (size g)) g (λ r. refl)
    (λ e. let p : Sound g = (sound_test g).0 e in size_same p (sound_cleared p) refl refl)

pub deallocate_size : (id : ℕ) (g : Atlas) → sides_says (size (deallocate id g).state) ≡ sides_says (size g)
deallocate_size id g =
    deallocate_ways present (λ (o : Outcome (Result ⊤ Refusal)). sides_says (size o.state) ≡ sides_says (size g)) id g (λ r. refl)
    (λ r.
    let p : Sound g = (sound_test g).0 r.sound in
    let q = deallocate_facts id g p r in
    size_same p q.sound (ap (λ (h : Head). h.width) q.head) (ap (λ (h : Head). h.height) q.head))

-- sides that an accepted call leaves
abbrev Stay : Atlas → Outcome (Result Allocation Refusal) → Type 0
Stay g o = sides_says (size o.state) ≡ sides_says (size g)

pub allocate_size : (width height : ℤ) (g : Atlas) → sides_says (size (allocate width height g).state) ≡ sides_says (size g)
unfolding issue_first
allocate_size width height g =
    allocate_ways present (Stay g) width height g (λ r. refl) (λ r.
    let p : Sound g = asked_sound r in
    let a = asked_aligned r in
    place_ways present (Stay g) _ _ g (λ r. refl)
    (λ best e.
    let h = (issue_facts p.steady _ _ _ (found_issuable a e)).head in
    size_same p (sound_found a p e) (ap (λ (h : Head). h.width) h) (ap (λ (h : Head). h.height) h))
    (λ e f.
    let q = added a present p.steady e f in
    let h = (issue_facts q.steady _ _ _ (added_issuable a present p.steady e f)).head in
    size_same p (sound_added a present p e f) (ap (λ (h : Head). h.width) h ∙ q.sides.width) (ap (λ (h : Head). h.height) h ∙ q.sides.height))
    (λ e run f z.
    let q = merge_facts p.steady run (run_facts _ _ _ f) in
    let h = (issue_facts q.steady _ _ _ (merge_issuable a p.steady f)).head in
    size_same p (sound_merging a p f) (ap (λ (h : Head). h.width) h ∙ ap (λ (h : Head). h.width) q.head)
    (ap (λ (h : Head). h.height) h ∙ ap (λ (h : Head). h.height) q.head)))

-- ---- is_empty

-- what it says after the calls of a history
pub record EmptyTold (past : List Event) (g : Atlas) : Type 0 where
  pub none : held past ≡ [] → flag_says (is_empty g) ≡ 0 ∷ 1 ∷ []
  pub some : held past ≢ [] → flag_says (is_empty g) ≡ 0 ∷ 0 ∷ []

empty_yes : (g : Atlas) → Sound g → g.head.shelf_count ≡ 0 → flag_says (is_empty g) ≡ 0 ∷ 1 ∷ []
unfolding is_empty
empty_yes g p e = simp ((sound_test g).1 p, eq-eqb g.head.shelf_count 0 e)

empty_no : (g : Atlas) → Sound g → g.head.shelf_count ≢ 0 → flag_says (is_empty g) ≡ 0 ∷ 0 ∷ []
unfolding is_empty
empty_no g p ne = simp ((sound_test g).1 p, ne_eqb g.head.shelf_count 0 ne)

-- where no bucket has one, none is held
held_none : (xs : List Allocation) → ((k : ℕ) → from_bucket k xs ≡ 0) → xs ≡ []
held_none [] z = refl
held_none (a ∷ xs) z = absurd (omega (arith, z (id_bucket a.id), from_here (id_bucket a.id) a xs refl))

module _ {build : Build} {past : List Event} {g : Atlas} (v : Invariant build past g) where
  -- without a shelf every bucket is a released one, and these have reference count 0
  shelfless_refs : g.head.shelf_count ≡ 0 → (k : ℕ) → k < g.head.bucket_count → (bucket_at g.buckets k).refs ≡ 0
  shelfless_refs e k l =
      let st : Steady g = v.sound.steady in
      let none : sum_to g.head.shelf_count (λ i. count k (chain_of g i)) ≡ 0 = ap (λ (m : ℕ). sum_to m (λ i. count k (chain_of g i))) e in
      st.released k (omega (arith, st.chained.once k l))

  shelfless_held : g.head.shelf_count ≡ 0 → held past ≡ []
  shelfless_held e = held_none (held past) (λ k. elim (dec_lt k g.head.bucket_count) [
    | yes l ↦ v.ties.tied.refs k l ∙ shelfless_refs e k l
    | no n ↦ v.ties.tied.none k (omega arith)
  ])

  -- "The last shelf, if any, has a referenced bucket."
  held_shelfless : held past ≡ [] → g.head.shelf_count ≡ 0
  held_shelfless e = elim (ℕ_discrete g.head.shelf_count 0) [
    | yes z ↦ z
    | no ne ↦
        let i : ℕ = g.head.shelf_count - 1 in
        let u = v.sound.last_used i (omega arith) in
        let l : u.0 < g.head.bucket_count = member_below v.sound.steady i u.0 (omega arith) u.1 in
        absurd (omega (arith, u.2, v.ties.tied.refs u.0 l, ap (from_bucket u.0) e))
  ]

pub empty_held : (past : List Event) (g : Atlas) (x : Listing) → Run present past g x → EmptyTold past g
empty_held past g x r =
    let v : Invariant present past g = invariant r in
    record {
      none = λ e. empty_yes g v.sound (held_shelfless v e);
      some = λ ne. empty_no g v.sound (λ e. ne (shelfless_held v e));
    }

-- ---- allocated_space and free_space

-- of sound tables: the figure of the header, and the two together are width times height
pub record SpaceTold (g : Atlas) : Type 0 where
  pub allocated : figure_says (allocated_space g) ≡ 0 ∷ g.head.occupied ∷ []
  pub free : figure_says (free_space_of g) ≡ 0 ∷ (g.head.width * g.head.height - g.head.occupied) ∷ []
  pub within : g.head.occupied ≤ g.head.width * g.head.height

pub space_told : (g : Atlas) → Sound g → SpaceTold g
unfolding allocated_space free_space_of free_space
space_told g p = record {
  allocated = simp ((sound_test g).1 p);
  free = simp ((sound_test g).1 p);
  within = occupied_area p.steady;
}

-- in a run, of the figure that demand 3 works out from the history, and of the sides that `size` tells
pub record SpaceHeld (past : List Event) (g : Atlas) : Type 0 where
  pub allocated : figure_says (allocated_space g) ≡ 0 ∷ figure past ∷ []
  pub free : (width height : ℕ) → sides_says (size g) ≡ 0 ∷ width ∷ height ∷ []
      → (figure_says (free_space_of g) ≡ 0 ∷ (width * height - figure past) ∷ []) × (figure past ≤ width * height)

pub space_held : (past : List Event) (g : Atlas) (x : Listing) → Run present past g x → SpaceHeld past g
space_held past g x r =
    let p : Sound g = (invariant r).sound in
    let t : SpaceTold g = space_told g p in
    let o : g.head.occupied ≡ figure past = (kept present past g x r).occupied in
    record {
      allocated = t.allocated ∙ rw o;
      free = λ width height e.
          let s : 0 ∷ g.head.width ∷ g.head.height ∷ [] ≡ 0 ∷ width ∷ height ∷ [] = sym (size_of g p) ∙ e in
          let ew : g.head.width ≡ width = cc s in
          let eh : g.head.height ≡ height = cc s in
          (t.free ∙ rw (ew, eh, o), rw (o, ew, eh) at t.within);
    }
