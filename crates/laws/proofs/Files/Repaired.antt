-- T-08: what the repair leaves of a bucket, and of the tables that are read: a referenced bucket is as it was, an unreferenced one has item count 0,
-- and what is sound by the rules of one build is then sound by those of the build that reads.
use Prim.Native.Nat.{ℕ, ◌≤◌, ◌<◌}
use mathlib.Core.Bool.{Bool, true, false}
use mathlib.Core.Path.{◌≡◌, refl, sym, ap, ◌∙◌}
use mathlib.Core.Logic.{◌≢◌}
use native.Mathlib.Decide.{ℕ_discrete, dec_lt}
use native.Mathlib.Omega.{arith}
use borrow.Author.Tests.{eq-eqb, ne_eqb, lt-ltb, le-ltb}
use Rattle.rules.specs.declared.Bucket.{Bucket}
use Rattle.rules.specs.declared.Head.{Head}
use Rattle.std.specs.Prelude.{if◌then◌else◌}
use Rattle.rules.specs.Ids.{next_generation}
use Rattle.rules.specs.Tables.{Atlas, bucket_at, shelf_at}
use Rattle.rules.specs.Builds.{Build, renews}
use Rattle.rules.specs.Repair.{needs_repair, risen, repaired, read_as}
use Rattle.rules.specs.Sound.{Lent, Steady, Rested, SoundBy}
use Rattle.laws.proofs.Sound.Lies.{Home}
use Rattle.laws.proofs.Sound.Apart.{home}
use Rattle.laws.proofs.Sound.Below.{SameBelow, SameBucket, same_equal, AlikeBelow, sound_alike}
use Rattle.laws.proofs.NewShelf.Buckets.{alike_same}
use Rattle.laws.proofs.Calls.Frames.{Frame}

-- ---- a generation

pub risen_one : (n : ℕ) → n < 256 → risen n ≡ next_generation n
unfolding risen
risen_one n l = simp (lt-ltb n 256 l)

risen_none : (n : ℕ) → 256 ≤ n → risen n ≡ n
unfolding risen
risen_none n l = simp (le-ltb n 256 l)

-- one is made of one alone
pub risen_low : (n : ℕ) → n < 256 → risen n < 256
risen_low n l = rw (risen_one n l) (omega arith)

pub risen_back : (n : ℕ) → risen n < 256 → n < 256
risen_back n l = elim (dec_lt n 256) [ yes q ↦ q | no q ↦ absurd (q (rw (risen_none n (omega arith)) at l)) ]

-- ---- a bucket

pub repaired_worn : (v : Bucket) → v.refs ≡ 0 → v.items ≢ 0 → repaired v
    ≡ record { x = v.x; free = v.free; next = v.next; refs = v.refs; items = 0; shelf = v.shelf; generation = risen v.generation }
unfolding repaired needs_repair
repaired_worn v z ne = simp (eq-eqb v.refs 0 z, ne_eqb v.items 0 ne)

pub repaired_used : (v : Bucket) → v.refs ≢ 0 → repaired v ≡ v
unfolding repaired needs_repair
repaired_used v ne = simp (ne_eqb v.refs 0 ne)

pub repaired_rested : (v : Bucket) → v.refs ≡ 0 → v.items ≡ 0 → repaired v ≡ v
unfolding repaired needs_repair
repaired_rested v z e = simp (eq-eqb v.refs 0 z, eq-eqb v.items 0 e)

pub repaired_idle : (v : Bucket) → v.items ≡ 0 → repaired v ≡ v
repaired_idle v e = elim (ℕ_discrete v.refs 0) [ yes z ↦ repaired_rested v z e | no ne ↦ repaired_used v ne ]

-- the way of each bucket
pub repaired_ways : (P : Bucket → Type 0) (v : Bucket)
    → (v.refs ≡ 0 → v.items ≢ 0
    → P (record { x = v.x; free = v.free; next = v.next; refs = v.refs; items = 0; shelf = v.shelf; generation = risen v.generation }))
    → ((v.refs ≡ 0 → v.items ≡ 0) → P v) → P (repaired v)
repaired_ways P v worn other = elim (ℕ_discrete v.refs 0) [
  | no ne ↦ rw (repaired_used v ne) (other (λ z. absurd (ne z)))
  | yes z ↦ elim (ℕ_discrete v.items 0) [
    | yes e ↦ rw (repaired_rested v z e) (other (λ q. e))
    | no ne ↦ rw (repaired_worn v z ne) (worn z ne)
  ]
]

-- there and back it is the same but for item count and generation
pub repaired_same : (v : Bucket) → SameBucket v (repaired v)
repaired_same v = repaired_ways (SameBucket v) v
    (λ z ne. record {
      x = refl;
      free = refl;
      next = refl;
      refs = refl;
      shelf = refl;
      items = λ l. omega arith;
      generation = risen_low v.generation;
    })
    (λ r. same_equal refl)

pub repaired_back : (v : Bucket) → SameBucket (repaired v) v
repaired_back v = repaired_ways (λ (u : Bucket). SameBucket u v) v
    (λ z ne. record {
      x = refl;
      free = refl;
      next = refl;
      refs = refl;
      shelf = refl;
      items = λ l. omega arith;
      generation = risen_back v.generation;
    })
    (λ r. same_equal refl)

pub repaired_rests : (v : Bucket) → (repaired v).refs ≡ 0 → (repaired v).items ≡ 0
repaired_rests v = repaired_ways (λ (u : Bucket). u.refs ≡ 0 → u.items ≡ 0) v (λ z ne e. refl) (λ r. r)

-- ---- as a build reads it

pub read_same : (build : Build) (v : Bucket) → SameBucket v (read_as build v)
read_same build v = by (renews build)
  where
    by : (r : Bool) → SameBucket v (if r then repaired v else v)
    by true = repaired_same v
    by false = same_equal refl

pub read_from : (build : Build) (v : Bucket) → SameBucket (read_as build v) v
read_from build v = by (renews build)
  where
    by : (r : Bool) → SameBucket (if r then repaired v else v) v
    by true = repaired_back v
    by false = same_equal refl

pub read_used : (build : Build) (v : Bucket) → v.refs ≢ 0 → read_as build v ≡ v
read_used build v ne = by (renews build)
  where
    by : (r : Bool) → (if r then repaired v else v) ≡ v
    by true = repaired_used v ne
    by false = refl

-- what has nothing to repair
pub read_rested : (build : Build) (v : Bucket) → (v.refs ≡ 0 → v.items ≡ 0) → read_as build v ≡ v
read_rested build v r = by (renews build)
  where
    by : (q : Bool) → (if q then repaired v else v) ≡ v
    by true = repaired_ways (λ (u : Bucket). u ≡ v) v (λ z ne. absurd (ne (r z))) (λ q. refl)
    by false = refl

read_rests : (build : Build) → renews build ≡ true → (v : Bucket) → (read_as build v).refs ≡ 0 → (read_as build v).items ≡ 0
read_rests build e v = rw e (repaired_rests v)

-- ---- the tables

-- g' is g as a build reads it, below the counts
pub record AsRead (build : Build) (g g' : Atlas) : Type 0 where
  pub head : g'.head ≡ g.head
  pub shelf : (i : ℕ) → i < g.head.shelf_count → shelf_at g'.shelves i ≡ shelf_at g.shelves i
  pub bucket : (k : ℕ) → k < g.head.bucket_count → bucket_at g'.buckets k ≡ read_as build (bucket_at g.buckets k)

module _ {build : Build} {g g' : Atlas} (d : AsRead build g g') where
  pub alike_read : AlikeBelow g g'
  alike_read = record { head = d.head; shelf = d.shelf; bucket = λ k l. rw (d.bucket k l) (read_same build (bucket_at g.buckets k)) }

  -- and g is alike to it
  pub alike_back : AlikeBelow g' g
  alike_back = record {
    head = sym d.head;
    shelf = λ i l. sym (d.shelf i (rw d.head at l));
    bucket = λ k l. rw (d.bucket k (rw d.head at l)) (read_from build (bucket_at g.buckets k));
  }

  pub rested_read : renews build ≡ true → Rested g'
  rested_read e k l z =
      let is = d.bucket k (rw d.head at l) in
      ap (λ (v : Bucket). v.items) is ∙ read_rests build e (bucket_at g.buckets k) (sym (ap (λ (v : Bucket). v.refs) is) ∙ z)

  pub sound_read : {earlier : Build} → Lent g'.shelves g'.buckets → SoundBy earlier g → SoundBy build g'
  sound_read lent p = sound_alike alike_read lent p rested_read

  -- what has nothing to repair is read as it is
  pub same_read : Rested g → SameBelow g g'
  same_read r = record { head = d.head; shelf = d.shelf; bucket = λ k l. d.bucket k l ∙ read_rested build (bucket_at g.buckets k) (r k l) }

  -- the referenced buckets are as they were, and no other is referenced
  pub frame_read : Steady g → Frame g g'
  frame_read st = record {
    more = omega (arith, ap (λ (h : Head). h.bucket_count) d.head);
    bucket = λ k u. d.bucket k u.below ∙ read_used build (bucket_at g.buckets k) (λ z. omega (arith, u.refs));
    shelf = λ k u. let h : Home g k = home st k u in alike_same (d.shelf (bucket_at g.buckets k).shelf h.there);
    only = λ k u.
        let l : k < g.head.bucket_count = rw d.head at u.below in
        record { below = l; refs = rw (d.bucket k l, (read_same build (bucket_at g.buckets k)).refs) at u.refs };
  }
