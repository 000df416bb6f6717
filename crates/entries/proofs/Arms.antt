-- What the functions' tests come to where the check does not see it by itself.
use Prim.Native.Nat.{ℕ, ◌+◌, ◌*◌, ◌≤◌, ◌<◌}
use mathlib.Core.Bool.{Bool, true, false, ◌&&◌}
use mathlib.Core.Path.{◌≡◌, refl, sym, ◌∙◌}
use native.Mathlib.Omega.{arith}
use borrow.Author.Tests.{ltb-true}
use lib.Dec.{leb, ltb}
use lib.ListN.{length}
use Rattle.rules.specs.declared.Allocation.{Allocation}
use Rattle.rules.specs.Ids.{id_bucket, id_item}
use Rattle.rules.specs.Tables.{Atlas, bucket_at}
use Rattle.rules.specs.Sound.{Sound}
use Rattle.rules.specs.Held.{refs_of, bucket_of, shelf_under, belongs}
use Rattle.laws.proofs.Sound.Apart.{home}
use Rattle.laws.proofs.Tests.Flags.{and_l, and_r}
use Rattle.entries.specs.declared.passing.Order.{Order}
use Rattle.entries.specs.Parts.{joins, follows}
use Rattle.entries.specs.Passes.{in_place}

-- a bucket with a reference names a shelf, whose record the table has
pub shelf_there : {g : Atlas} → Sound g → (k : ℕ) → k < g.head.bucket_count → 0 < (bucket_at g.buckets k).refs
    → 5 * (bucket_at g.buckets k).shelf + 5 ≤ length g.shelves
shelf_there {g} p k l r =
    let st = p.steady in
    omega (arith, (home st k (record { below = l; refs = r })).there, st.domain.shelves, st.lent.shelves)

module _ (g : Atlas) (p : Order) (a : Allocation) where
  pub in_place_is : in_place g p a ≡ (follows p a && joins g a p.seen)
  unfolding in_place follows joins
  in_place_is =
      parts (leb p.next (id_bucket a.id + 1)) (ltb (id_bucket a.id) g.head.bucket_count) (ltb p.seen (refs_of g (id_bucket a.id)))
      (leb p.right a.rectangle.left) (leb p.item (id_item a.id)) (belongs (bucket_of g a) (shelf_under g a) a)
    where
      parts : (n k s r i b : Bool) → (n && k && s && r && i && b) ≡ (n && r && i && (k && s && b))
      parts false k s r i b = refl
      parts true false s true true b = refl
      parts true false s true false b = refl
      parts true false s false i b = refl
      parts true true false true true b = refl
      parts true true false true false b = refl
      parts true true false false i b = refl
      parts true true true r i b = refl

  -- its bucket has a reference left for it
  pub place_left : in_place g p a ≡ true → p.seen < refs_of g (id_bucket a.id)
  unfolding joins
  place_left e =
      let known : Bool = ltb (id_bucket a.id) g.head.bucket_count in
      let room : Bool = ltb p.seen (refs_of g (id_bucket a.id)) in
      let j : joins g a p.seen ≡ true = and_r (follows p a) (joins g a p.seen) (sym in_place_is ∙ e) in
      ltb-true _ _ (and_r known room (and_l (known && room) (belongs (bucket_of g a) (shelf_under g a) a) j))
