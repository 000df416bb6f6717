-- An issue keeps what ties a list of rectangles to the tables, with the new one in it: it lies where nothing of its bucket was used, and its id is new.
use Prim.Native.Nat.{ℕ, ◌+◌, ◌%◌, ◌<◌}
use mathlib.Core.Path.{◌≡◌, sym, ap, ◌∙◌, subst}
use mathlib.Core.Logic.{◌≢◌, ◌⊎◌, inl, inr}
use mathlib.Core.List.{List, ◌∷◌}
use native.Mathlib.Decide.{ℕ_discrete}
use native.Mathlib.Omega.{arith}
use Rattle.rules.specs.declared.Head.{Head}
use Rattle.rules.specs.declared.Shelf.{Shelf}
use Rattle.rules.specs.declared.Bucket.{Bucket}
use Rattle.rules.specs.declared.Allocation.{Allocation}
use Rattle.rules.specs.Limits.{items_most}
use Rattle.rules.specs.Ids.{id_of, id_bucket, id_item, id_generation}
use Rattle.rules.specs.Tables.{Atlas, Outcome, bucket_at, shelf_at}
use Rattle.rules.specs.Issue.{taken}
use Rattle.rules.specs.Sound.{Counted, Steady}
use Rattle.rules.specs.Held.{from_bucket, Belongs}
use Rattle.laws.proofs.Numbers.Ids.{id_bucket_of, id_item_of, id_generation_of}
use Rattle.laws.proofs.Sound.Lies.{member_below}
use Rattle.laws.proofs.Sound.Apart.{Used}
use Rattle.laws.proofs.Issue.Keep.{Issuable, IssueFacts}
use Rattle.laws.proofs.Return.Uncleaned.{shelf_of}
use Rattle.laws.proofs.Held.Each.{each_map, from_here, from_other}
use Rattle.laws.proofs.Tied.To.{SpotIn, Apart, TiedTo, used}

-- the bucket is one that a search may take, or one that is unreferenced, as a merge takes it
abbrev pub Takes : ℕ → Atlas → Type 0
Takes k g = ((bucket_at g.buckets k).items < items_most) ⊎ ((bucket_at g.buckets k).refs ≡ 0)

module _ {g : Atlas} (st : Steady g) (i k w : ℕ) (p : Issuable i k w g) (o : Outcome Allocation) (f : IssueFacts i k w g o) where
  -- the bucket and its shelf
  abbrev v : Bucket
  v = bucket_at g.buckets k

  abbrev s : Shelf
  s = shelf_at g.shelves i

  pub below : k < g.head.bucket_count
  below = member_below st i k p.there p.member

  pub counted : Counted i s v
  counted = (st.stocked i p.there).counted k p.member

  pub count_same : o.state.head.bucket_count ≡ g.head.bucket_count
  count_same = ap (λ (h : Head). h.bucket_count) f.head

  -- ---- the new id

  id_is : o.answer.id ≡ id_of k (v.items + 1) v.generation
  id_is = ap (λ (a : Allocation). a.id) f.answer

  pub new_bucket : id_bucket o.answer.id ≡ k
  new_bucket = rw id_is (id_bucket_of k (v.items + 1) v.generation (omega (arith, below, st.domain.buckets)))

  new_item : id_item o.answer.id ≡ (v.items + 1) % 4096
  new_item = rw id_is (id_item_of k (v.items + 1) v.generation (omega (arith, below, st.domain.buckets)))

  new_generation_law : id_generation o.answer.id ≡ v.generation
  new_generation_law = rw id_is (id_generation_of k (v.items + 1) v.generation (omega (arith, below, st.domain.buckets)))

  -- ---- shelves and other buckets are as they were

  pub shelf_is : shelf_of k o.state ≡ s
  shelf_is = rw (f.shelves, f.changes.bucket, counted.shelf)

  pub shelf_was : shelf_of k g ≡ s
  shelf_was = rw counted.shelf

  pub shelf_other : (j : ℕ) → j ≢ k → shelf_of j o.state ≡ shelf_of j g
  shelf_other j ne = rw (f.shelves, f.changes.others j ne)

  -- ---- where entries lie

  spot_new : Belongs (taken v w) s o.answer
  spot_new = record {
    generation = new_generation_law;
    left = omega (arith, f.lies.left);
    right = omega (arith, f.lies.left, f.lies.right, counted.free, p.free);
    top = omega (arith, f.lies.top);
    bottom = omega (arith, f.lies.bottom);
    wide = f.lies.wide;
    high = f.lies.high;
    item = λ l. (omega (arith, new_item), omega (arith, new_item));
  }

  -- an entry of the same bucket
  spot_taken : {a : Allocation} → Belongs v s a → Belongs (taken v w) s a
  spot_taken q = record {
    generation = q.generation;
    left = q.left;
    right = omega (arith, q.right);
    top = q.top;
    bottom = q.bottom;
    wide = q.wide;
    high = q.high;
    item = λ l. let b = q.item (omega arith) in (b.0, omega arith);
  }

  spot_at : (j : ℕ) {a : Allocation} → Belongs (bucket_at g.buckets j) (shelf_of j g) a → Belongs (bucket_at o.state.buckets j) (shelf_of j o.state) a
  spot_at j {a} q = elim (ℕ_discrete j k) [
    | yes e ↦
        let q' : Belongs v s a =
        rw shelf_was at (subst (λ (z : ℕ). Belongs (bucket_at g.buckets z) (shelf_of z g) a) e q) in
        subst (λ (z : ℕ). Belongs (bucket_at o.state.buckets z) (shelf_of z o.state) a) (sym e)
        (rw shelf_is (rw f.changes.bucket (spot_taken q')))
    | no ne ↦ rw (shelf_other j ne) (rw (f.changes.others j ne) q)
  ]

  -- ---- the new entry beside the others

  -- an entry of the bucket that was there before
  before : (a : Allocation) → Used g (id_bucket a.id) → SpotIn g a → id_bucket a.id ≡ k → (0 < v.refs) × Belongs v s a
  before a u q e = (
    subst (λ (z : ℕ). 0 < (bucket_at g.buckets z).refs) e u.refs,
    rw shelf_was at (subst (λ (z : ℕ). Belongs (bucket_at g.buckets z) (shelf_of z g) a) e q),
  )

  module _ (takes : Takes k g) where
    apart_new : (a : Allocation) → Used g (id_bucket a.id) → SpotIn g a → Apart o.answer a
    apart_new a u q = record {
      ids = λ e.
          let b = before a u q (sym (ap id_bucket e) ∙ new_bucket) in
          elim takes [
            | inl l ↦ omega (arith, new_item, ap id_item e, (b.1.item (omega arith)).1)
            | inr z ↦ omega (arith, b.0)
          ];
      spans = λ e x y cn ca.
          let b = before a u q (sym e ∙ new_bucket) in
          omega (arith, b.1.right, f.lies.left, counted.free, cn.left, ca.right);
    }

    -- ---- one entry more

    pub tied_issue : {list : List Allocation} → TiedTo list g → TiedTo (o.answer ∷ list) o.state
    tied_issue {list} t = record {
      refs = λ j l. elim (ℕ_discrete j k) [
        | yes e ↦ subst (λ (z : ℕ). from_bucket z (o.answer ∷ list) ≡ (bucket_at o.state.buckets z).refs) (sym e)
            (rw f.changes.bucket (omega (arith, from_here k o.answer list new_bucket, t.refs k below)))
        | no ne ↦ rw (f.changes.others j ne) (from_other j o.answer list (λ e. ne (sym e ∙ new_bucket)) ∙ t.refs j (omega (arith, count_same)))
      ];
      none = λ j l. from_other j o.answer list (λ e. omega (arith, new_bucket, below, count_same)) ∙ t.none j (omega (arith, count_same));
      spots = (
        subst (λ (z : ℕ). Belongs (bucket_at o.state.buckets z) (shelf_of z o.state) o.answer) (sym new_bucket)
            (rw shelf_is (rw f.changes.bucket spot_new)),
        each_map (SpotIn g) (SpotIn o.state) list (λ a l q. spot_at (id_bucket a.id) q) t.spots,
      );
      apart = (each_map (SpotIn g) (Apart o.answer) list (λ a l q. apart_new a (used t (id_bucket a.id) l) q) t.spots, t.apart);
    }
