-- A return keeps the tables sound: a bucket gives a reference back, and unreferenced last shelves are popped. What is referenced besides
-- stays as it was, record and shelf.
use Prim.Native.Nat.{ℕ, suc, ◌+◌, ◌-◌, ◌≤◌, ◌<◌}
use mathlib.Core.Bool.{Bool, true, false}
use mathlib.Core.Path.{◌≡◌, refl, sym, ap, ◌∙◌, subst}
use mathlib.Core.Logic.{◌≢◌}
use native.Mathlib.Decide.{ℕ_discrete}
use native.Mathlib.Omega.{arith}
use borrow.Author.Tests.{eq-eqb, eqb-false, leb-false}
use Rattle.rules.specs.declared.Bucket.{Bucket}
use Rattle.rules.specs.declared.Head.{Head}
use Rattle.rules.specs.declared.Shelf.{Shelf}
use Rattle.rules.specs.Ids.{id_bucket}
use Rattle.rules.specs.Tables.{Atlas, bucket_at, with_occupied}
use Rattle.rules.specs.Chains.{In, chain_of}
use Rattle.rules.specs.Return.{returned_bucket, freed_area, uncleaned, relinked, cleaned, last_emptied, returned}
use Rattle.rules.specs.Builds.{Build, renews}
use Rattle.rules.specs.Sound.{Rested, SoundBy, LastUsed}
use Rattle.laws.proofs.Calls.Ways.{Returns}
use Rattle.laws.proofs.Return.Uncleaned.{back_refs, back_items, back_other, shelf_of, uncleaned_changes, steady_uncleaned}
use Rattle.laws.proofs.Return.Clean.{cleaned_head, Cleans, cleans_none, Cleaned, clean}

-- ---- the whole return

-- what there is to know of it: of the bucket's record its counts and its free width change as they have to; no other referenced record
-- changes, nor any shelf; the figure falls by what is freed
pub record ReturnFacts (build : Build) (k : ℕ) (g g' : Atlas) : Type 0 where
  pub sound : SoundBy build g'
  pub shelves : g'.shelves ≡ g.shelves
  pub fewer : g'.head.shelf_count ≤ g.head.shelf_count
  pub head : g'.head
      ≡ with_occupied (cleaned_head g.head g'.head) (g.head.occupied - freed_area (shelf_of k g) (bucket_at g.buckets k))
  pub bucket : bucket_at g'.buckets k ≡ relinked (returned_bucket build (shelf_of k g) (bucket_at g.buckets k)) (bucket_at g'.buckets k).next
  pub others : (j : ℕ) → j ≢ k → bucket_at g'.buckets j ≡ relinked (bucket_at g.buckets j) (bucket_at g'.buckets j).next
  pub used : (j : ℕ) → j ≢ k → 0 < (bucket_at g.buckets j).refs → bucket_at g'.buckets j ≡ bucket_at g.buckets j
  pub still : 1 < (bucket_at g.buckets k).refs → bucket_at g'.buckets k ≡ returned_bucket build (shelf_of k g) (bucket_at g.buckets k)
  pub past : (j : ℕ) → g.head.bucket_count ≤ j → bucket_at g'.buckets j ≡ bucket_at g.buckets j
  pub chains : (i : ℕ) → i < g'.head.shelf_count → chain_of g' i ≡ chain_of g i

uncleaned_head : (build : Build) (k : ℕ) (g : Atlas) → (uncleaned build k g).head
    ≡ with_occupied g.head (g.head.occupied - freed_area (shelf_of k g) (bucket_at g.buckets k))
unfolding uncleaned
uncleaned_head build k g = refl

uncleaned_shelves : (build : Build) (k : ℕ) (g : Atlas) → (uncleaned build k g).shelves ≡ g.shelves
unfolding uncleaned
uncleaned_shelves build k g = refl

-- an emptied bucket has item count 0
rested_uncleaned : {build : Build} {g : Atlas} → SoundBy build g → (k : ℕ) → k < g.head.bucket_count → 0 < (bucket_at g.buckets k).refs
    → renews build ≡ true → Rested (uncleaned build k g)
rested_uncleaned {build} {g} p k lk r e j l z =
    let ch = uncleaned_changes build p.steady k lk r in
    let v : Bucket = bucket_at g.buckets k in
    elim (ℕ_discrete j k) [
      | yes q ↦
          let zero-refs : v.refs - 1 ≡ 0 = sym (back_refs build (shelf_of k g) v) ∙ sym (ap (λ (u : Bucket). u.refs) ch.bucket)
          ∙ subst (λ (a : ℕ). (bucket_at (uncleaned build k g).buckets a).refs ≡ 0) q z in
          subst (λ (a : ℕ). (bucket_at (uncleaned build k g).buckets a).items ≡ 0) (sym q)
          (ap (λ (u : Bucket). u.items) ch.bucket ∙ back_items build e (shelf_of k g) v (omega arith))
      | no ne ↦ rw (ch.others j ne)
          (p.rested e j (omega (arith, ap (λ (h : Head). h.bucket_count) (uncleaned_head build k g))) (rw (ch.others j ne) at z))
    ]

-- a cleanup changes links alone
rested_cleaned : {g g' : Atlas} → Cleans g g' → Rested g → Rested g'
rested_cleaned cl p j l z =
    ap (λ (u : Bucket). u.items) (cl.records j)
    ∙ p j (omega (arith, ap (λ (h : Head). h.bucket_count) cl.head)) (sym (ap (λ (u : Bucket). u.refs) (cl.records j)) ∙ z)

-- after the reference is returned, a cleanup or none
facts_of : {build : Build} {g g' : Atlas} → SoundBy build g → (k : ℕ) → k < g.head.bucket_count → 0 < (bucket_at g.buckets k).refs
    → Cleaned (uncleaned build k g) g' → ReturnFacts build k g g'
facts_of {build} {g} {g'} p k lk r c =
    let ch = uncleaned_changes build p.steady k lk r in
    let cl = c.cleans in
    record {
      sound = record { steady = c.steady; last_used = c.last_used; rested = λ e. rested_cleaned cl (rested_uncleaned p k lk r e) };
      shelves = cl.shelves ∙ uncleaned_shelves build k g;
      fewer = omega (arith, cl.fewer, ap (λ (h : Head). h.shelf_count) (uncleaned_head build k g));
      head = cl.head ∙ ap (λ (h : Head). cleaned_head h g'.head) (uncleaned_head build k g);
      bucket = cl.records k ∙ ap (λ (v : Bucket). relinked v (bucket_at g'.buckets k).next) ch.bucket;
      others = λ j ne. cl.records j ∙ ap (λ (v : Bucket). relinked v (bucket_at g'.buckets j).next) (ch.others j ne);
      used = λ j ne l. cl.used j (rw (ch.others j ne) l) ∙ ch.others j ne;
      still = λ l. cl.used k (rw (ch.bucket, back_refs build (shelf_of k g) (bucket_at g.buckets k)) (omega arith)) ∙ ch.bucket;
      past = λ j l. cl.past j (omega (arith, ap (λ (h : Head). h.bucket_count) (uncleaned_head build k g))) ∙ ch.others j (λ e. omega arith);
      chains = λ i l. cl.chains i l ∙ ch.chains i;
    }

-- where the bucket was not emptied, or is not on the last shelf, the last shelf is still used
last_uncleaned : {build : Build} {g : Atlas} → SoundBy build g → (k : ℕ) → k < g.head.bucket_count → 0 < (bucket_at g.buckets k).refs
    → ((bucket_at g.buckets k).refs ≡ 1 → (bucket_at g.buckets k).shelf + 1 ≢ g.head.shelf_count) → LastUsed (uncleaned build k g)
last_uncleaned {build} {g} p k lk r n i e =
    let ch = uncleaned_changes build p.steady k lk r in
    let e' : suc i ≡ g.head.shelf_count = e ∙ ap (λ (h : Head). h.shelf_count) (uncleaned_head build k g) in
    let u = p.last_used i e' in
    elim (ℕ_discrete u.0 k) [
      | no ne ↦ (u.0, rw (ch.chains i) u.1, rw (ch.others u.0 ne) u.2)
      | yes q ↦
          let c : In k (chain_of g i) = subst (λ (a : ℕ). In a (chain_of g i)) q u.1 in
          let on : (bucket_at g.buckets k).shelf ≡ i = ((p.steady.stocked i (omega arith)).counted k c).shelf in
          let more : (bucket_at g.buckets k).refs ≢ 1 = λ z. n z (omega arith) in
          (k, rw (ch.chains i) c, rw (ch.bucket, back_refs build (shelf_of k g) (bucket_at g.buckets k)) (omega arith))
    ]

emptied_not : (k : ℕ) (g : Atlas) → last_emptied k g ≡ false → (bucket_at g.buckets k).refs ≡ 1 → (bucket_at g.buckets k).shelf + 1 ≢ g.head.shelf_count
unfolding last_emptied
emptied_not k g t e q =
    let bad : true ≡ false = simp (eq-eqb (bucket_at g.buckets k).refs 1 e, eq-eqb ((bucket_at g.buckets k).shelf + 1) g.head.shelf_count q) at t in
    absurd (let z : ◌≡◌ {A = ℕ} 0 1 = cc in omega arith)

returned_cleaned : (build : Build) (k : ℕ) (g : Atlas) → last_emptied k g ≡ true
    → returned build k g ≡ cleaned g.head.shelf_count (uncleaned build k g)
unfolding returned
returned_cleaned build k g t = simp t

returned_uncleaned : (build : Build) (k : ℕ) (g : Atlas) → last_emptied k g ≡ false → returned build k g ≡ uncleaned build k g
unfolding returned
returned_uncleaned build k g t = simp t

facts_turn : {build : Build} {g : Atlas} → SoundBy build g → (k : ℕ) → k < g.head.bucket_count → 0 < (bucket_at g.buckets k).refs
    → (t : Bool) → last_emptied k g ≡ t → ReturnFacts build k g (returned build k g)
facts_turn {build} {g} p k lk r true t =
    let m : (uncleaned build k g).head.shelf_count ≡ g.head.shelf_count = ap (λ (h : Head). h.shelf_count) (uncleaned_head build k g) in
    rw (returned_cleaned build k g t)
    (facts_of p k lk r (clean g.head.shelf_count (uncleaned build k g) m (steady_uncleaned build p.steady k lk r)))
facts_turn {build} {g} p k lk r false t =
    rw (returned_uncleaned build k g t)
    (facts_of p k lk r (record {
      steady = steady_uncleaned build p.steady k lk r;
      last_used = last_uncleaned p k lk r (emptied_not k g t);
      cleans = cleans_none (uncleaned build k g);
    }))

pub return_facts : {build : Build} {g : Atlas} → SoundBy build g → (k : ℕ) → k < g.head.bucket_count → 0 < (bucket_at g.buckets k).refs
    → ReturnFacts build k g (returned build k g)
return_facts {build} {g} p k lk r = facts_turn p k lk r (last_emptied k g) refl

-- ---- the numbers that no return changes, and those of the bucket

-- of every record, for a number that neither the returned reference nor a new link changes
kept_field : {build : Build} {k : ℕ} {g g' : Atlas} → ReturnFacts build k g g' → (F : Bucket → ℕ) → ((v : Bucket) (n : ℕ) → F (relinked v n) ≡ F v)
    → ((s : Shelf) (v : Bucket) → F (returned_bucket build s v) ≡ F v) → (j : ℕ) → F (bucket_at g'.buckets j) ≡ F (bucket_at g.buckets j)
kept_field {build} {k} {g} {g'} p F e e' j = elim (ℕ_discrete j k) [
  | yes q ↦ subst (λ (a : ℕ). F (bucket_at g'.buckets a) ≡ F (bucket_at g.buckets a)) (sym q) (ap F p.bucket ∙ e _ _ ∙ e' _ _)
  | no ne ↦ ap F (p.others j ne) ∙ e _ _
]

module _ {build : Build} {k : ℕ} {g g' : Atlas} (p : ReturnFacts build k g g') where
  pub return_x : (j : ℕ) → (bucket_at g'.buckets j).x ≡ (bucket_at g.buckets j).x
  unfolding returned_bucket
  return_x = kept_field p (λ (v : Bucket). v.x) (λ v n. refl) (λ s v. refl)

  pub return_shelf : (j : ℕ) → (bucket_at g'.buckets j).shelf ≡ (bucket_at g.buckets j).shelf
  unfolding returned_bucket
  return_shelf = kept_field p (λ (v : Bucket). v.shelf) (λ v n. refl) (λ s v. refl)

  pub return_refs : (bucket_at g'.buckets k).refs ≡ (bucket_at g.buckets k).refs - 1
  return_refs = ap (λ (v : Bucket). v.refs) p.bucket ∙ back_refs build (shelf_of k g) (bucket_at g.buckets k)

  pub return_refs_other : (j : ℕ) → j ≢ k → (bucket_at g'.buckets j).refs ≡ (bucket_at g.buckets j).refs
  return_refs_other j ne = ap (λ (v : Bucket). v.refs) (p.others j ne)

  -- of a bucket that is referenced still: a number that the return of one reference of several keeps
  still_field : (F : Bucket → ℕ) → ((s : Shelf) (v : Bucket) → v.refs ≢ 1 → F (returned_bucket build s v) ≡ F v)
      → (j : ℕ) → 0 < (bucket_at g'.buckets j).refs → F (bucket_at g'.buckets j) ≡ F (bucket_at g.buckets j)
  still_field F same j r = elim (ℕ_discrete j k) [
    | yes e ↦ subst (λ (a : ℕ). F (bucket_at g'.buckets a) ≡ F (bucket_at g.buckets a)) (sym e)
        (let r' : 0 < (bucket_at g'.buckets k).refs = subst (λ (a : ℕ). 0 < (bucket_at g'.buckets a).refs) e r in
        let many : 1 < (bucket_at g.buckets k).refs = omega (arith, return_refs) in
        ap F (p.still many) ∙ same (shelf_of k g) (bucket_at g.buckets k) (λ z. omega arith))
    | no ne ↦ ap F (p.used j ne (rw (return_refs_other j ne) at r))
  ]

  pub return_free : (j : ℕ) → 0 < (bucket_at g'.buckets j).refs → (bucket_at g'.buckets j).free ≡ (bucket_at g.buckets j).free
  return_free = still_field (λ (v : Bucket). v.free) (λ s v ne. ap (λ (u : Bucket). u.free) (back_other build s v ne))

  pub return_items : (j : ℕ) → 0 < (bucket_at g'.buckets j).refs → (bucket_at g'.buckets j).items ≡ (bucket_at g.buckets j).items
  return_items = still_field (λ (v : Bucket). v.items) (λ s v ne. ap (λ (u : Bucket). u.items) (back_other build s v ne))

  pub return_generation : (j : ℕ) → 0 < (bucket_at g'.buckets j).refs → (bucket_at g'.buckets j).generation ≡ (bucket_at g.buckets j).generation
  return_generation = still_field (λ (v : Bucket). v.generation) (λ s v ne. ap (λ (u : Bucket). u.generation) (back_other build s v ne))

-- ---- the call

-- an accepted return is that of a referenced bucket below the count
pub deallocate_facts : {build : Build} (id : ℕ) (g : Atlas) → SoundBy build g → Returns build id g
    → ReturnFacts build (id_bucket id) g (returned build (id_bucket id) g)
deallocate_facts id g p r =
    let ne : (bucket_at g.buckets (id_bucket id)).refs ≢ 0 = eqb-false (bucket_at g.buckets (id_bucket id)).refs 0 r.held in
    return_facts p (id_bucket id) (leb-false g.head.bucket_count (id_bucket id) r.known) (omega arith)
