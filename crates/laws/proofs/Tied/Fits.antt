-- Entries that are tied to sound tables lie inside the atlas, no two share a pixel, and their ids are distinct. So such a list fits the tables, and
-- a list that fits them is tied to them.
use Prim.Native.Nat.{ℕ, suc, ◌≤◌, ◌<◌}
use mathlib.Core.Path.{◌≡◌, refl, sym, ap, ◌∙◌, subst}
use mathlib.Core.Logic.{◌≢◌}
use mathlib.Core.List.{List, [], ◌∷◌}
use native.Mathlib.Decide.{ℕ_discrete}
use native.Mathlib.Omega.{arith}
use lib.ListN.{length, take}
use lib.Seq.{get_or-take, length-take-le}
use Rattle.rules.specs.declared.Allocation.{Allocation}
use Rattle.rules.specs.Ids.{id_bucket}
use Rattle.rules.specs.Tables.{Atlas, bucket_at}
use Rattle.rules.specs.Sound.{Steady}
use Rattle.rules.specs.Held.{blank, entry, from_bucket, Covers, refs_of, entries, Fits}
use Rattle.rules.specs.History.{Inside}
use Rattle.laws.proofs.Chains.Count.{sum_ext}
use Rattle.laws.proofs.Sound.Lies.{Home}
use Rattle.laws.proofs.Sound.Within.{BucketWithin, bucket_within}
use Rattle.laws.proofs.Sound.Apart.{Used, home, InBucket, buckets_apart}
use Rattle.laws.proofs.Held.Each.{Each, each_map, each_at, pairs_at, from_other}
use Rattle.laws.proofs.Held.Among.{each_of, pairs_of, from_sum}
use Rattle.laws.proofs.Tied.To.{SpotIn, Apart, TiedTo, used}

-- an entry whose bucket is referenced
pub record UsedSpot (g : Atlas) (a : Allocation) : Type 0 where
  pub used : Used g (id_bucket a.id)
  pub spot : SpotIn g a

-- as many as the tables count
pub tied_length : {list : List Allocation} {g : Atlas} → TiedTo list g → length list ≡ entries g
unfolding entries
tied_length {list} {g} t =
    let n : ℕ = g.head.bucket_count in
    sym (from_sum n list t.none) ∙ sum_ext n (λ k. from_bucket k list) (refs_of g) t.refs

module _ {list : List Allocation} {g : Atlas} (t : TiedTo list g) (st : Steady g) where
  pub used_spots : Each (UsedSpot g) list
  used_spots = each_map (SpotIn g) (UsedSpot g) list (λ a l q. record { used = used t (id_bucket a.id) l; spot = q }) t.spots

  inside_of : (a : Allocation) → UsedSpot g a → Inside a.rectangle g.head
  inside_of a q =
      let k : ℕ = id_bucket a.id in
      let h : Home g k = home st k q.used in
      let b : BucketWithin g (bucket_at g.buckets k).shelf k = bucket_within st (bucket_at g.buckets k).shelf k h.there h.member in
      record {
        wide = q.spot.wide;
        high = q.spot.high;
        width = omega (arith, q.spot.right, b.across);
        height = omega (arith, q.spot.bottom, b.down);
      }

  -- a pixel of the rectangle is one of the bucket
  in_bucket : (a : Allocation) (x y : ℕ) → UsedSpot g a → Covers a.rectangle x y → InBucket g (id_bucket a.id) x y
  in_bucket a x y q c = record {
    right = omega (arith, q.spot.left, c.left);
    left = omega (arith, q.spot.right, c.right);
    below = omega (arith, q.spot.top, c.top);
    above = omega (arith, q.spot.bottom, c.bottom);
  }

  apart_of : (a b : Allocation) (x y : ℕ) → UsedSpot g a → UsedSpot g b → Apart a b → Covers a.rectangle x y → Covers b.rectangle x y → ⊥
  apart_of a b x y qa qb r ca cb = elim (ℕ_discrete (id_bucket a.id) (id_bucket b.id)) [
    | yes e ↦ r.spans e x y ca cb
    | no ne ↦ buckets_apart st (id_bucket a.id) (id_bucket b.id) x y qa.used qb.used ne (in_bucket a x y qa ca) (in_bucket b x y qb cb)
  ]

  apart_sym : (a b : Allocation) → Apart a b → Apart b a
  apart_sym a b r = record { ids = λ e. r.ids (sym e); spans = λ e x y cb ca. r.spans (sym e) x y ca cb }

  pair : (i j : ℕ) → i < length list → j < length list → i ≢ j → Apart (entry list i) (entry list j)
  pair = pairs_at Apart apart_sym list t.apart

  pub spot_at : (i : ℕ) → i < length list → UsedSpot g (entry list i)
  spot_at i l = each_at (UsedSpot g) list used_spots i l

  pub inside_at : (i : ℕ) → i < length list → Inside (entry list i).rectangle g.head
  inside_at i l = inside_of (entry list i) (spot_at i l)

  pub apart_at : (i j x y : ℕ) → i < length list → j < length list → Covers (entry list i).rectangle x y → Covers (entry list j).rectangle x y → i ≡ j
  apart_at i j x y li lj ci cj = elim (ℕ_discrete i j) [
    | yes e ↦ e
    | no ne ↦ absurd (apart_of (entry list i) (entry list j) x y (spot_at i li) (spot_at j lj) (pair i j li lj ne) ci cj)
  ]

  pub distinct_at : (i j : ℕ) → i < length list → j < length list → (entry list i).id ≡ (entry list j).id → i ≡ j
  distinct_at i j li lj e = elim (ℕ_discrete i j) [
    | yes q ↦ q
    | no ne ↦ absurd ((pair i j li lj ne).ids e)
  ]

-- ---- a list that fits

-- no entry of bucket k
from_none : (k : ℕ) (xs : List Allocation) → ((i : ℕ) → i < length xs → id_bucket (entry xs i).id ≢ k) → from_bucket k xs ≡ 0
from_none k [] p = refl
from_none k (a ∷ xs) p = from_other k a xs (p 0 (omega arith)) ∙ from_none k xs (λ i l. p (suc i) (omega arith))

-- the entry at a place of the live part
pub live_at : (n : ℕ) (list : List Allocation) (i : ℕ) → i < n → entry (take n list) i ≡ entry list i
live_at n list i l = get_or-take n list i blank l

module _ {g : Atlas} {list : List Allocation} where
  pub fits_tied : Fits g list → TiedTo (take (entries g) list) g
  fits_tied f =
      let long : length (take (entries g) list) ≡ entries g = length-take-le (entries g) list f.room in
      record {
        refs = f.counted;
        none = λ k l. from_none k (take (entries g) list) (λ i li e.
            let q : i < entries g = omega arith in
            let named : id_bucket (entry list i).id < g.head.bucket_count = f.named i q in
            let same : id_bucket (entry list i).id ≡ k = sym (ap (λ (a : Allocation). id_bucket a.id) (live_at (entries g) list i q)) ∙ e in
            omega arith);
        spots = each_of (SpotIn g) (take (entries g) list) (λ i li.
            let q : i < entries g = omega arith in
            subst (SpotIn g) (sym (live_at (entries g) list i q)) (f.belongs i q));
        apart = pairs_of Apart (take (entries g) list) (λ i j li lj ne.
            let qi : i < entries g = omega arith in
            let qj : j < entries g = omega arith in
            rw (live_at (entries g) list i qi, live_at (entries g) list j qj) (record {
              ids = λ e. ne (f.distinct i j qi qj e);
              spans = λ e x y ci cj. ne (f.apart i j x y qi qj ci cj);
            }));
      }

  pub tied_fits : Steady g → entries g ≤ length list → TiedTo (take (entries g) list) g → Fits g list
  tied_fits st room t =
      let long : length (take (entries g) list) ≡ entries g = length-take-le (entries g) list room in
      record {
        room = room;
        named = λ i l. rw (live_at (entries g) list i l) at (spot_at t st i (omega arith)).used.below;
        belongs = λ i l. rw (live_at (entries g) list i l) at (spot_at t st i (omega arith)).spot;
        distinct = λ i j li lj e. distinct_at t st i j (omega arith) (omega arith) (rw (live_at (entries g) list i li, live_at (entries g) list j lj) e);
        apart = λ i j x y li lj ci cj. apart_at t st i j x y (omega arith) (omega arith)
            (subst (λ (a : Allocation). Covers a.rectangle x y) (sym (live_at (entries g) list i li)) ci)
            (subst (λ (a : Allocation). Covers a.rectangle x y) (sym (live_at (entries g) list j lj)) cj);
        counted = t.refs;
      }
