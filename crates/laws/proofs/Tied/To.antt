-- What ties a list of rectangles to the tables, bucket by bucket: as many are there as the bucket is referenced, each lies in what is used of the
-- bucket and carries its generation. What keeps the referenced buckets keeps that.
use Prim.Native.Nat.{ℕ, ◌≤◌, ◌<◌}
use mathlib.Core.Path.{◌≡◌, refl, sym, ap, ◌∙◌, subst}
use mathlib.Core.Logic.{◌≢◌}
use mathlib.Core.List.{List, []}
use native.Mathlib.Decide.{ℕ_discrete, dec_lt}
use native.Mathlib.Omega.{arith}
use Rattle.rules.specs.declared.Shelf.{Shelf}
use Rattle.rules.specs.declared.Bucket.{Bucket}
use Rattle.rules.specs.declared.Allocation.{Allocation}
use Rattle.rules.specs.Ids.{id_bucket}
use Rattle.rules.specs.Tables.{Atlas, bucket_at, shelf_at}
use Rattle.rules.specs.Held.{from_bucket, Covers, Belongs, bucket_of, shelf_under}
use Rattle.laws.proofs.Sound.Apart.{Used}
use Rattle.laws.proofs.Calls.Frames.{Frame}
use Rattle.laws.proofs.Return.Uncleaned.{shelf_of}
use Rattle.laws.proofs.NewShelf.Buckets.{Alike}
use Rattle.laws.proofs.Held.Each.{Each, Pairs, each_map}

-- ---- the statement

-- an entry in the bucket that its id names
abbrev pub SpotIn : Atlas → Allocation → Type 0
SpotIn g a = Belongs (bucket_of g a) (shelf_under g a) a

-- two entries have two ids, and share no pixel if they are of one bucket
pub record Apart (a b : Allocation) : Type 0 where
  pub ids : a.id ≢ b.id
  pub spans : id_bucket a.id ≡ id_bucket b.id → (x y : ℕ) → Covers a.rectangle x y → Covers b.rectangle x y → ⊥

-- entries that are as many of each bucket as it is referenced, lie in what is used of it, and apart
pub record TiedTo (list : List Allocation) (g : Atlas) : Type 0 where
  pub refs : (k : ℕ) → k < g.head.bucket_count → from_bucket k list ≡ (bucket_at g.buckets k).refs
  pub none : (k : ℕ) → g.head.bucket_count ≤ k → from_bucket k list ≡ 0
  pub spots : Each (SpotIn g) list
  pub apart : Pairs Apart list

-- ---- an entry's bucket is there and referenced

pub used : {list : List Allocation} {g : Atlas} → TiedTo list g → (k : ℕ) → 0 < from_bucket k list → Used g k
used {list} {g} t k l = elim (dec_lt k g.head.bucket_count) [
  | yes b ↦ record { below = b; refs = omega (arith, t.refs k b) }
  | no n ↦ absurd (omega (arith, t.none k (omega arith)))
]

-- an entry's place depends on its bucket's x, free width, item count and generation, and on the shelf's place
pub spot_same : {v v' : Bucket} {s s' : Shelf} {a : Allocation} → v'.x ≡ v.x → v'.free ≡ v.free → v'.items ≡ v.items → v'.generation ≡ v.generation
    → Alike s' s → Belongs v s a → Belongs v' s' a
spot_same ex ef ei eg e p = record {
  generation = p.generation ∙ sym eg;
  left = omega (arith, p.left);
  right = omega (arith, p.right, e.width);
  top = omega (arith, p.top, e.y);
  bottom = omega (arith, p.bottom, e.y, e.height);
  wide = p.wide;
  high = p.high;
  item = λ l. let q = p.item (omega arith) in (q.0, omega arith);
}

-- ---- no entries

pub tied_none : {g : Atlas} → g.head.bucket_count ≡ 0 → TiedTo [] g
tied_none {g} z = record { refs = λ k l. absurd (omega arith); none = λ k l. refl; spots = tt; apart = tt }

-- ---- what keeps the referenced buckets, and refers to no other

module _ {g g' : Atlas} (f : Frame g g') where
  frame_refs : (k : ℕ) → Used g k → (bucket_at g'.buckets k).refs ≡ (bucket_at g.buckets k).refs
  frame_refs k u = ap (λ (v : Bucket). v.refs) (f.bucket k u)

  pub frame_shelf : (k : ℕ) → Used g k → Alike (shelf_of k g') (shelf_of k g)
  frame_shelf k u = subst (λ (i : ℕ). Alike (shelf_at g'.shelves i) (shelf_of k g)) (sym (ap (λ (v : Bucket). v.shelf) (f.bucket k u))) (f.shelf k u)

  pub tied_frame : {list : List Allocation} → TiedTo list g → TiedTo list g'
  tied_frame {list} t = record {
    refs = λ k l. elim (ℕ_discrete (from_bucket k list) 0) [
      | yes z ↦ elim (ℕ_discrete (bucket_at g'.buckets k).refs 0) [
        | yes z' ↦ z ∙ sym z'
        | no ne ↦ absurd (let u : Used g k = f.only k (record { below = l; refs = omega arith }) in omega (arith, t.refs k u.below))
      ]
      | no ne ↦ let u : Used g k = used t k (omega arith) in t.refs k u.below ∙ sym (frame_refs k u)
    ];
    none = λ k l. t.none k (omega (arith, f.more));
    spots = each_map (SpotIn g) (SpotIn g') list
        (λ a l p.
        let k : ℕ = id_bucket a.id in
        let u : Used g k = used t k l in
        let e : bucket_at g'.buckets k ≡ bucket_at g.buckets k = f.bucket k u in
        spot_same (ap (λ (v : Bucket). v.x) e) (ap (λ (v : Bucket). v.free) e) (ap (λ (v : Bucket). v.items) e) (ap (λ (v : Bucket). v.generation) e)
        (frame_shelf k u) p)
        t.spots;
    apart = t.apart;
  }
