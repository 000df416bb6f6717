-- A return of a held id keeps what ties the held rectangles to the tables: one of them less, and what was issued from the other referenced buckets is
-- what is used of them, as before.
use Rattle.std.specs.Prelude.{Ok, Err, Result, ⊤}
use Rattle.rules.specs.declared.Refusal.{Refusal}
use Prim.Native.Nat.{ℕ, ◌<◌}
use mathlib.Core.Path.{◌≡◌, refl, sym, subst}
use mathlib.Core.List.{List, ◌∷◌}
use native.Mathlib.Decide.{ℕ_discrete}
use native.Mathlib.Omega.{arith}
use Rattle.rules.specs.Ids.{id_bucket}
use Rattle.rules.specs.Tables.{Atlas, Outcome, bucket_at}
use Rattle.rules.specs.Builds.{Build}
use Rattle.rules.specs.Return.{used_area}
use Rattle.rules.specs.Calls as calls
use Rattle.rules.specs.History.{Event, held, Holds}
use Rattle.laws.proofs.Return.Uncleaned.{shelf_of}
use Rattle.laws.proofs.Return.Keep.{ReturnFacts, return_free, return_refs, return_refs_other, deallocate_facts}
use Rattle.laws.proofs.Calls.Ways.{deallocate_ways}
use Rattle.laws.proofs.Tied.Return.{count_same, shelf_same, refs_after, tied_return}
use Rattle.promises.proofs.Invariant.{Ties, Invariant, ties_quiet, since_more}

module _ {build : Build} {g : Atlas} (id : ℕ) {g' : Atlas} (f : ReturnFacts build (id_bucket id) g g') where
  area_same : (j : ℕ) → 0 < (bucket_at g'.buckets j).refs
      → used_area (shelf_of j g') (bucket_at g'.buckets j) ≡ used_area (shelf_of j g) (bucket_at g.buckets j)
  area_same j r = rw (shelf_same id f j, return_free f j r)

  -- it was referenced before
  refs_before : (j : ℕ) → 0 < (bucket_at g'.buckets j).refs → 0 < (bucket_at g.buckets j).refs
  refs_before j r = elim (ℕ_discrete j (id_bucket id)) [
    | yes e ↦ subst (λ (z : ℕ). 0 < (bucket_at g.buckets z).refs) (sym e)
        (omega (arith, return_refs f, subst (λ (z : ℕ). 0 < (bucket_at g'.buckets z).refs) e r))
    | no ne ↦ rw (return_refs_other f j ne) at r
  ]

  -- ---- one entry less

  pub ties_return : {past : List Event} → Ties past g → Holds id (held past) → Ties (Event.deallocated id (Ok tt) ∷ past) g'
  ties_return {past} t h = record {
    tied = tied_return id f t.tied h;
    area = λ j l r.
        let more = since_more j (Event.deallocated id (Ok tt)) past (λ z. omega (arith, refs_after id f t.tied h j (omega (arith, count_same id f)))) in
        omega (arith, more, t.area j (omega (arith, count_same id f)) (refs_before j r), area_same j r);
  }

-- every return of one does, whatever is answered; only a held id is handed back
module _ {build : Build} {past : List Event} {g : Atlas} (v : Invariant build past g) where
  pub deallocate_ties : (id : ℕ) → Holds id (held past)
      → Ties (Event.deallocated id (calls.deallocate_by build id g).answer ∷ past) (calls.deallocate_by build id g).state
  deallocate_ties id h = deallocate_ways build (λ (o : Outcome (Result ⊤ Refusal)). Ties (Event.deallocated id o.answer ∷ past) o.state) id g
      (λ r. ties_quiet (Event.deallocated id (Err r)) refl (λ k. refl) v.ties)
      (λ r. ties_return id (deallocate_facts id g v.sound r) v.ties h)
