-- The tables that stand for a file: they have full room, and what the code reads from the file is what stands in them.
use Prim.Native.Nat.{ℕ, ◌+◌, ◌*◌, ◌≤◌, ◌<◌}
use mathlib.Core.Bool.{Bool}
use mathlib.Core.Path.{◌≡◌, sym, ap, ◌∙◌, subst}
use mathlib.Core.List.{List}
use native.Mathlib.Omega.{arith}
use lib.ListN.{length, length-replicate}
use Rattle.rules.specs.declared.Head.{Head}
use Rattle.rules.specs.Limits.{records_most, bucket_bytes}
use Rattle.rules.specs.Tables.{Atlas, atlas, bucket_at, shelf_at}
use Rattle.rules.specs.Builds.{present}
use Rattle.rules.specs.Repair.{read_as}
use Rattle.rules.specs.Sound.{Lent, Sound, is_sound}
use Rattle.rules.specs.Files.{shelf_place, head_in, shelf_from, bucket_from, stored}
use Rattle.laws.proofs.Tests.Tells.{Tells, tells_same}
use Rattle.laws.proofs.Sound.Test.{sound_tells}
use Rattle.laws.proofs.Files.Stored.{stored_shelf, stored_bucket}
use Rattle.laws.proofs.Files.Any.{stored_lent, stored_any}
use Rattle.standing.specs.Header.{Headed}
use Rattle.sound.specs.Pass.{Readable}
use Rattle.inspect.specs.Inspected.{blank, shelves_of, buckets_of, inspected, Known, BucketsAt, HasShelf, HasBucket}

length_blank : (n : ℕ) → length (blank n) ≡ n
unfolding blank
length_blank n = length-replicate {A = ℕ} n 0

blank_lent : Lent (blank (5 * records_most)) (blank (7 * records_most))
blank_lent = record { shelves = omega (arith, length_blank (5 * records_most)); buckets = omega (arith, length_blank (7 * records_most)) }

-- ---- what is read

pub shelf_is : (file : List ℕ) (n i : ℕ) → n ≤ records_most → i < n → shelf_from file (shelf_place i) ≡ shelf_at (shelves_of n file) i
shelf_is file n i h l = sym (stored_shelf n file (blank (5 * records_most)) (omega (arith, blank_lent.shelves)) i l)

pub bucket_is : {file : List ℕ} {from n : ℕ} (k : ℕ) → BucketsAt file from n → n ≤ records_most → k < n
    → read_as present (bucket_from file (from + bucket_bytes * k)) ≡ bucket_at (buckets_of n file) k
bucket_is {file} {from} {n} k b h l =
    ap (λ (at : ℕ). read_as present (bucket_from file (at + bucket_bytes * k))) b.starts
    ∙ sym (stored_bucket present n file (blank (7 * records_most)) (omega (arith, blank_lent.buckets)) k l)

-- ---- a file that is opened

module _ {file : List ℕ} {head : Head} (o : Known file head) where
  inspected_stored : inspected file head ≡ stored present file (blank (5 * records_most)) (blank (7 * records_most))
  unfolding stored
  inspected_stored = ap (λ (h : Head). atlas h (shelves_of (head_in file).shelf_count file) (buckets_of (head_in file).bucket_count file)) o.known

  inspected_lent : Lent (inspected file head).shelves (inspected file head).buckets
  inspected_lent = subst (λ (g : Atlas). Lent g.shelves g.buckets) (sym inspected_stored) (stored_lent present file _ _ blank_lent)

  -- each record that is counted can be read
  pub readable : {from : ℕ} → Headed head → from ≡ shelf_place head.shelf_count → Readable (inspected file head) (HasShelf file) (HasBucket file from)
  readable h e =
      let s = ap (λ (x : Head). x.shelf_count) o.known in
      let b = ap (λ (x : Head). x.bucket_count) o.known in
      record {
        given = record { lent = inspected_lent; headed = h };
        shelves = λ k l. record { below = omega (arith, s); most = omega (arith, h.domain.shelves, s); whole = omega (arith, o.whole, s) };
        buckets = λ k l. record {
          below = omega (arith, b);
          most = omega (arith, h.domain.buckets, b);
          at = record { starts = omega (arith, e, s); whole = omega (arith, e, o.whole, b) };
        };
      }

  -- what is told of these tables is so of any that are lent
  pub told_any : {r : Bool} → Tells r (Sound (inspected file head)) → (s b : List ℕ) → Lent s b → r ≡ is_sound (stored present file s b)
  told_any {r} t s b l =
      tells_same _ _ (subst (λ (g : Atlas). Tells r (Sound g)) inspected_stored t) (sound_tells _) ∙ stored_any present file _ _ s b blank_lent l
