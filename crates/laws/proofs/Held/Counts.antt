-- How many of a list's first entries were issued from each bucket. Entries that all name a bucket below a bound are counted once each over the
-- buckets below it; so where no bucket has more than its reference count, and there are as many as these add up to, each has just so many.
use Prim.Native.Nat.{ℕ, zero, suc, ◌+◌, ◌≤◌, ◌<◌}
use mathlib.Core.Path.{◌≡◌, sym, ap}
use mathlib.Core.List.{List, [], ◌∷◌}
use native.Mathlib.Decide.{ℕ_discrete}
use native.Mathlib.Omega.{arith}
use lib.ListN.{length, take}
use Rattle.rules.specs.declared.Allocation.{Allocation}
use Rattle.rules.specs.Ids.{id_bucket}
use Rattle.rules.specs.Tables.{Atlas}
use Rattle.rules.specs.Chains.{sum_to, hit}
use Rattle.rules.specs.Held.{entry, entries, from_bucket, refs_of}
use Rattle.laws.proofs.Chains.Count.{hit_same, hit_other, sum_ext, sum_le, sum_add, sum_zeros, sum_change}
use Rattle.laws.proofs.Held.Test.{Numbered}

-- the bucket that entry i names
abbrev pub named : List Allocation → ℕ → ℕ
named xs i = id_bucket (entry xs i).id

-- ---- sums

-- each term at most the other, and the sums the same: the terms are
pub sum_exact : (m : ℕ) (f h : ℕ → ℕ) → ((i : ℕ) → i < m → f i ≤ h i) → sum_to m f ≡ sum_to m h → (i : ℕ) → i < m → f i ≡ h i
sum_exact zero f h le e i l = absurd (omega arith)
sum_exact (suc m) f h le e i l =
    let sum : sum_to m f ≤ sum_to m h = sum_le m f h (λ j k. le j (omega arith)) in
    let last : f m ≤ h m = le m (omega arith) in
    elim (ℕ_discrete i m) [
      | yes q ↦ omega (arith, ap f q, ap h q)
      | no ne ↦ sum_exact m f h (λ j k. le j (omega arith)) (omega arith) i (omega arith)
    ]

-- one place is hit once
pub sum_hit : (m b : ℕ) → b < m → sum_to m (hit b) ≡ 1
sum_hit m b l = omega (arith, sum_change m b (λ k. 0) (hit b) l (λ i j ne. hit_other b i (λ e. ne (sym e))), sum_zeros m, hit_same b)

-- ---- one entry more

pub from_next : (k i : ℕ) (xs : List Allocation) → i < length xs
    → from_bucket k (take (suc i) xs) ≡ from_bucket k (take i xs) + hit (named xs i) k
unfolding hit
from_next k i [] l = absurd (omega arith)
from_next k zero (x ∷ xs) l = omega arith
from_next k (suc i) (x ∷ xs) l = omega (arith, from_next k i xs (omega arith))

-- more entries are from no bucket fewer
pub from_prefix : (k i n : ℕ) (xs : List Allocation) → i ≤ n → from_bucket k (take i xs) ≤ from_bucket k (take n xs)
from_prefix k zero n xs l = omega arith
from_prefix k (suc i) zero xs l = absurd (omega arith)
from_prefix k (suc i) (suc n) [] l = omega arith
from_prefix k (suc i) (suc n) (x ∷ xs) l = omega (arith, from_prefix k i n xs (omega arith))

-- ---- over the buckets

pub from_all : (m n : ℕ) (xs : List Allocation) → n ≤ length xs → ((i : ℕ) → i < n → named xs i < m)
    → sum_to m (λ k. from_bucket k (take n xs)) ≡ n
from_all m zero xs l low = sum_zeros m
from_all m (suc n) xs l low =
    let more : sum_to m (λ k. from_bucket k (take (suc n) xs)) ≡ sum_to m (λ k. from_bucket k (take n xs) + hit (named xs n) k) =
    sum_ext m _ _ (λ k j. from_next k n xs l) in
    omega (
      arith,
      more,
      sum_add m (λ k. from_bucket k (take n xs)) (hit (named xs n)),
      sum_hit m (named xs n) (low n (omega arith)),
      from_all m n xs (omega arith) (λ i j. low i (omega arith)),
    )

-- "each bucket's entries number its reference count": where none has more
pub numbered_of : (g : Atlas) (list : List Allocation) → entries g ≤ length list
    → ((i : ℕ) → i < entries g → named list i < g.head.bucket_count)
    → ((k : ℕ) → k < g.head.bucket_count → from_bucket k (take (entries g) list) ≤ refs_of g k)
    → Numbered g list (entries g)
unfolding entries
numbered_of g list l low le = sum_exact g.head.bucket_count (λ k. from_bucket k (take (entries g) list)) (refs_of g) le
    (from_all g.head.bucket_count (entries g) list l low)
