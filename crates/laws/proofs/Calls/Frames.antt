-- What keeps the referenced buckets and their shelves' places, and refers to no other: a grow, a new shelf, a merge, and other tables with the same
-- records below the counts.
use Prim.Native.Nat.{ℕ, ◌≤◌, ◌<◌}
use mathlib.Core.Path.{◌≡◌, refl, ap}
use mathlib.Core.Logic.{◌⊎◌, inl, inr}
use native.Mathlib.Decide.{dec_lt}
use native.Mathlib.Omega.{arith}
use Rattle.rules.specs.declared.Head.{Head}
use Rattle.rules.specs.declared.MergeRun.{MergeRun}
use Rattle.rules.specs.Tables.{Atlas, bucket_at, shelf_at}
use Rattle.rules.specs.Chains.{In, chain_of}
use Rattle.rules.specs.Sound.{Steady}
use Rattle.laws.proofs.Sound.Lies.{Home, member_below}
use Rattle.laws.proofs.Sound.Below.{SameBelow}
use Rattle.laws.proofs.Return.Uncleaned.{shelf_of}
use Rattle.laws.proofs.NewShelf.Buckets.{Alike, alike_same}
use Rattle.laws.proofs.Grow.Keep.{Grown}
use Rattle.laws.proofs.NewShelf.Keep.{Added}
use Rattle.laws.proofs.Merge.Keep.{MergeFacts}
use Rattle.laws.proofs.Sound.Apart.{Used, home}

pub record Frame (g g' : Atlas) : Type 0 where
  pub more : g.head.bucket_count ≤ g'.head.bucket_count
  pub bucket : (k : ℕ) → Used g k → bucket_at g'.buckets k ≡ bucket_at g.buckets k
  pub shelf : (k : ℕ) → Used g k → Alike (shelf_at g'.shelves (bucket_at g.buckets k).shelf) (shelf_of k g)
  pub only : (k : ℕ) → Used g' k → Used g k

module _ {g g' : Atlas} (st : Steady g) (st' : Steady g') (more : g.head.bucket_count ≤ g'.head.bucket_count)
    (bucket : (j k : ℕ) → j < g.head.shelf_count → In k (chain_of g j) → bucket_at g'.buckets k ≡ bucket_at g.buckets k)
    (shelf : (j : ℕ) → j < g.head.shelf_count → Alike (shelf_at g'.shelves j) (shelf_at g.shelves j))
    (only : (j k : ℕ) → j < g'.head.shelf_count → In k (chain_of g' j)
    → ((j < g.head.shelf_count) × In k (chain_of g j)) ⊎ ((bucket_at g'.buckets k).refs ≡ 0)) where
  frame_of : Frame g g'
  frame_of = record {
    more = more;
    bucket = λ k u. let h : Home g k = home st k u in bucket (bucket_at g.buckets k).shelf k h.there h.member;
    shelf = λ k u. let h : Home g k = home st k u in shelf (bucket_at g.buckets k).shelf h.there;
    only = λ k u.
        let h : Home g' k = home st' k u in
        let j : ℕ = (bucket_at g'.buckets k).shelf in
        elim (only j k h.there h.member) [
          | inl q ↦ record { below = member_below st j k q.0 q.1; refs = rw (bucket j k q.0 q.1) at u.refs }
          | inr z ↦ absurd (omega (arith, u.refs))
        ];
  }

pub frame_same : (g : Atlas) → Frame g g
frame_same g = record { more = omega arith; bucket = λ k u. refl; shelf = λ k u. alike_same refl; only = λ k u. u }

pub frame_grown : {w h : ℕ} {g g' : Atlas} → Steady g → Grown w h g g' → Frame g g'
frame_grown {w} {h} {g} {g'} st q = frame_of st q.steady q.keeps.more q.keeps.bucket q.keeps.alike (λ j k l c.
    let lj : j < g.head.shelf_count = omega (arith, q.shelves) in
    elim (q.keeps.unreferenced j k lj c) [ inl d ↦ inl (lj, d) | inr z ↦ inr z ])

pub frame_added : {w h : ℕ} {g g' : Atlas} {i : ℕ} → Steady g → Added w h g g' i → Frame g g'
frame_added {w} {h} {g} {g'} {i} st q = frame_of st q.steady q.stays.more q.stays.bucket (λ j l. alike_same (q.stays.shelf j l)) (λ j k l c.
    elim (dec_lt j g.head.shelf_count) [
      | yes lj ↦ inl (lj, rw (q.stays.chain j lj) at c)
      | no n ↦ inr (q.unreferenced j k (omega arith) l c)
    ])

pub frame_merged : {run : MergeRun} {g g' : Atlas} → Steady g → MergeFacts run g g' → Frame g g'
frame_merged {run} {g} {g'} st q = record {
  more = omega (arith, ap (λ (h : Head). h.bucket_count) q.head);
  bucket = λ k u. rw q.buckets;
  shelf = λ k u. let h : Home g k = home st k u in alike_same (q.keeps (bucket_at g.buckets k).shelf k h.member u.refs);
  only = λ k u. record { below = rw q.head at u.below; refs = rw q.buckets at u.refs };
}

pub frame_below : {g g' : Atlas} → Steady g → SameBelow g g' → Frame g g'
frame_below {g} {g'} st q = record {
  more = omega (arith, ap (λ (h : Head). h.bucket_count) q.head);
  bucket = λ k u. q.bucket k u.below;
  shelf = λ k u. let h : Home g k = home st k u in alike_same (q.shelf (bucket_at g.buckets k).shelf h.there);
  only = λ k u.
      let l : k < g.head.bucket_count = rw q.head at u.below in
      record { below = l; refs = rw (q.bucket k l) at u.refs };
}
