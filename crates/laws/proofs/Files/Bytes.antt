-- What is written of sound tables of 16-bit numbers are bytes: each is below 256.
-- The tables' numbers are so by what is lent, the header's by what sound tables say of them.
use Prim.Native.Nat.{ℕ, zero, suc, ◌+◌, ◌-◌, ◌*◌, ◌/◌, ◌%◌, ◌≤◌, ◌<◌}
use mathlib.Core.List.{List, [], ◌∷◌, ◌++◌}
use native.Mathlib.Nat.{mul-le-mul_right}
use native.Mathlib.Decide.{ℕ_discrete}
use native.Mathlib.Omega.{arith}
use lib.ListN.{get_or}
use Rattle.rules.specs.declared.Head.{Head}
use Rattle.rules.specs.Tables.{Atlas, shelf_at, bucket_at}
use Rattle.rules.specs.Chains.{Linked, released_of}
use Rattle.rules.specs.Sound.{Domain, Steady}
use Rattle.rules.specs.Files.{words, long_word, head_record, shelf_record, bucket_record, end_record, in_order, file_from, Cells, Bytes}
use Rattle.laws.proofs.Files.Words.{head_numbers, shelf_numbers, bucket_numbers}
use Rattle.laws.proofs.Sound.Lies.{occupied_area, area_fits}

-- each number of a list is below 65,536
abbrev Small : List ℕ → Type 0
Small [] = Unit {0}
Small (n ∷ ns) = (n < 65536) × Small ns

bytes_words : (ns : List ℕ) → Small ns → Bytes (words ns)
bytes_words [] h i = omega arith
bytes_words (n ∷ ns) h zero = omega arith
bytes_words (n ∷ ns) h (suc zero) = omega arith
bytes_words (n ∷ ns) h (suc (suc i)) = bytes_words ns h.1 i

zero_byte : Bytes (0 ∷ [])
zero_byte zero = omega arith
zero_byte (suc i) = omega arith

bytes_append : (xs ys : List ℕ) → Bytes xs → Bytes ys → (i : ℕ) → get_or (xs ++ ys) i 0 < 256
bytes_append [] ys h k i = k i
bytes_append (x ∷ xs) ys h k zero = h 0
bytes_append (x ∷ xs) ys h k (suc i) = bytes_append xs ys (λ j. h (suc j)) k i

bytes_order : (n : ℕ) (f : ℕ → List ℕ) → ((i : ℕ) → Bytes (f i)) → Bytes (in_order n f)
bytes_order zero f h = λ i. omega arith
bytes_order (suc n) f h = bytes_append (in_order n f) (f n) (bytes_order n f h) (h n)

-- ---- records

bytes_shelf : (shelves : List ℕ) (i : ℕ) → Cells shelves → Bytes (shelf_record (shelf_at shelves i))
unfolding shelf_record shelf_at
bytes_shelf shelves i c = bytes_words (shelf_numbers (shelf_at shelves i))
    (omega (arith, c (5 * i), c (5 * i + 1), c (5 * i + 2), c (5 * i + 3), c (5 * i + 4)))

bytes_bucket : (buckets : List ℕ) (k : ℕ) → Cells buckets → Bytes (bucket_record (bucket_at buckets k))
unfolding bucket_record bucket_at
bytes_bucket buckets k c = bytes_words (bucket_numbers (bucket_at buckets k))
    (omega (arith, c (7 * k), c (7 * k + 1), c (7 * k + 2), c (7 * k + 3), c (7 * k + 4), c (7 * k + 5), c (7 * k + 6)))

-- a chain starts with a bucket or with none
linked_start : (f : ℕ → ℕ) (n i : ℕ) (xs : List ℕ) → n ≤ 65536 → Linked f n i xs → i < 65536
linked_start f n i [] l e = omega arith
linked_start f n i (x ∷ xs) l e = omega arith

head_small : (version : ℕ) (g : Atlas) → version < 65536 → Steady g → Small (head_numbers version g.head)
head_small version g l p =
    let h : Head = g.head in
    let d : Domain h = p.domain in
    let room : h.room ≤ h.height = elim (ℕ_discrete h.shelf_count 0) [
      | yes e ↦ omega (arith, p.columns.empty e)
      | no ne ↦ omega (arith, p.columns.last (h.shelf_count - 1) (omega arith))
    ] in
    let released : h.released < 65536 =
    linked_start _ h.bucket_count h.released (released_of g) (omega (arith, d.buckets)) p.chained.released in
    let wide : h.column_width ≤ h.width = omega (arith, p.columns.fit, mul-le-mul_right h.column_width d.columns.0) in
    omega (arith, d, p.columns.current)

bytes_head : (version : ℕ) (g : Atlas) → version < 65536 → Steady g → Bytes (head_record version g.head)
unfolding head_record
bytes_head version g l p =
    let figure : ℕ = g.head.occupied in
    bytes_append (words (head_numbers version g.head)) (0 ∷ long_word figure) (bytes_words (head_numbers version g.head) (head_small version g l p))
    (bytes_append (0 ∷ []) (long_word figure) zero_byte (bytes_words (figure % 65536 ∷ figure / 65536 ∷ []) (omega (arith, occupied_area p, area_fits p))))

-- ---- all of them

pub file_bytes : (version : ℕ) (g : Atlas) → version < 65536 → Steady g → Cells g.shelves → Cells g.buckets
    → Bytes (file_from version g.head (shelf_at g.shelves) (bucket_at g.buckets))
unfolding file_from
file_bytes version g l p cs cb =
    let shelves : List ℕ = in_order g.head.shelf_count (λ i. shelf_record (shelf_at g.shelves i)) in
    let buckets : List ℕ = in_order g.head.bucket_count (λ k. bucket_record (bucket_at g.buckets k)) in
    bytes_append (head_record version g.head ++ shelves ++ buckets) end_record
    (bytes_append (head_record version g.head ++ shelves) buckets
    (bytes_append (head_record version g.head) shelves (bytes_head version g l p)
    (bytes_order g.head.shelf_count (λ i. shelf_record (shelf_at g.shelves i)) (λ i. bytes_shelf g.shelves i cs)))
    (bytes_order g.head.bucket_count (λ k. bucket_record (bucket_at g.buckets k)) (λ k. bytes_bucket g.buckets k cb)))
    (bytes_words (2 ∷ 19 ∷ []) (omega arith))
