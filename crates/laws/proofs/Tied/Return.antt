-- A return of an id in a list of rectangles keeps what ties it to the tables: one entry less, and one reference less of its bucket.
use Prim.Native.Nat.{ℕ, ◌+◌, ◌≤◌, ◌<◌}
use mathlib.Core.Path.{◌≡◌, sym, ap, ◌∙◌, subst}
use mathlib.Core.Logic.{◌≢◌}
use mathlib.Core.List.{List}
use native.Mathlib.Decide.{ℕ_discrete, dec_lt}
use native.Mathlib.Omega.{arith}
use Rattle.rules.specs.declared.Head.{Head}
use Rattle.rules.specs.declared.Allocation.{Allocation}
use Rattle.rules.specs.Ids.{id_bucket}
use Rattle.rules.specs.Tables.{Atlas, bucket_at}
use Rattle.rules.specs.Builds.{Build}
use Rattle.rules.specs.Held.{from_bucket}
use Rattle.rules.specs.History.{without, Holds}
use Rattle.laws.proofs.Return.Uncleaned.{shelf_of}
use Rattle.laws.proofs.Return.Keep.{ReturnFacts, return_x, return_shelf, return_free, return_items, return_generation, return_refs, return_refs_other}
use Rattle.laws.proofs.NewShelf.Buckets.{alike_same}
use Rattle.laws.proofs.Held.Each.{each_map, each_without, pairs_map, pairs_without, from_without, from_returned}
use Rattle.laws.proofs.Tied.To.{SpotIn, Apart, TiedTo, spot_same}

module _ {build : Build} {g : Atlas} (id : ℕ) {g' : Atlas} (f : ReturnFacts build (id_bucket id) g g') where
  pub count_same : g'.head.bucket_count ≡ g.head.bucket_count
  count_same = ap (λ (h : Head). h.bucket_count) f.head

  -- ---- what is referenced still is where it was

  pub shelf_same : (j : ℕ) → shelf_of j g' ≡ shelf_of j g
  shelf_same j = rw (f.shelves, return_shelf f j)

  -- ---- how many are left of the list

  module _ {list : List Allocation} (t : TiedTo list g) (h : Holds id list) where
    one_less : from_bucket (id_bucket id) (without id list) + 1 ≡ from_bucket (id_bucket id) list
    one_less = from_returned id list (pairs_map Apart (λ (a b : Allocation). a.id ≢ b.id) list (λ a b p. p.ids) t.apart) h

    pub refs_after : (j : ℕ) → j < g.head.bucket_count → from_bucket j (without id list) ≡ (bucket_at g'.buckets j).refs
    refs_after j l = elim (ℕ_discrete j (id_bucket id)) [
      | yes e ↦ subst (λ (z : ℕ). from_bucket z (without id list) ≡ (bucket_at g'.buckets z).refs) (sym e)
          (let l' : id_bucket id < g.head.bucket_count = subst (λ (z : ℕ). z < g.head.bucket_count) e l in
          omega (arith, one_less, t.refs (id_bucket id) l', return_refs f))
      | no ne ↦ from_without id j list (λ e. ne (sym e)) ∙ t.refs j l ∙ sym (return_refs_other f j ne)
    ]

    none_after : (j : ℕ) → g.head.bucket_count ≤ j → from_bucket j (without id list) ≡ 0
    none_after j l = elim (ℕ_discrete j (id_bucket id)) [
      | yes e ↦ absurd (omega (arith, one_less, subst (λ (z : ℕ). from_bucket z list ≡ 0) e (t.none j l)))
      | no ne ↦ from_without id j list (λ e. ne (sym e)) ∙ t.none j l
    ]

    held_not : (j : ℕ) → 0 < from_bucket j (without id list) → (bucket_at g'.buckets j).refs ≡ 0 → ⊥
    held_not j l z = elim (dec_lt j g.head.bucket_count) [
      | yes b ↦ omega (arith, refs_after j b)
      | no n ↦ omega (arith, none_after j (omega arith))
    ]

    pub tied_return : TiedTo (without id list) g'
    tied_return = record {
      refs = λ j l. refs_after j (omega (arith, count_same));
      none = λ j l. none_after j (omega (arith, count_same));
      spots = each_map (SpotIn g) (SpotIn g') (without id list)
          (λ a l q.
          let j : ℕ = id_bucket a.id in
          let r : 0 < (bucket_at g'.buckets j).refs = elim (ℕ_discrete (bucket_at g'.buckets j).refs 0) [
            | yes z ↦ absurd (held_not j l z)
            | no ne ↦ omega arith
          ] in
          spot_same (return_x f j) (return_free f j r) (return_items f j r) (return_generation f j r) (alike_same (shelf_same j)) q)
          (each_without (SpotIn g) id list t.spots);
      apart = pairs_without Apart id list t.apart;
    }
