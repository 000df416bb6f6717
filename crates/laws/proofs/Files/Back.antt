-- Bytes that pass the test of a file are those that are made of the version, the header and the rows that stand in them: nothing else is read.
-- The bytes are cut record by record, and each record is that of its own numbers.
use Prim.Native.Nat.{ℕ, zero, suc, ◌+◌, ◌*◌, ◌/◌, ◌%◌, ◌≤◌, ◌<◌}
use mathlib.Core.Bool.{true}
use mathlib.Core.Path.{◌≡◌, refl, sym, ap, ◌∙◌}
use mathlib.Core.List.{List, [], ◌∷◌, ◌++◌, append_assoc, append-nil}
use native.Mathlib.Nat.{add-zero}
use native.Mathlib.Omega.{arith}
use lib.ListN.{length, get_or, take, drop}
use lib.Seq.{drop-cons, take-add, take_all}
use Rattle.rules.specs.Files.{words, long_word, head_record, shelf_record, bucket_record, end_record, in_order, file_from, shelf_place, bucket_place}
use Rattle.rules.specs.Files.{head_in, version_in, shelf_from, bucket_from, shelf_in, bucket_in, is_file, Bytes}
use Rattle.rules.specs.Trace.{u16_at, u32_at}
use Rattle.laws.proofs.Files.Layout.{Framed}
use Rattle.laws.proofs.Files.Shape.{Shaped, shape_tells}

-- n numbers, the first k behind a place
abbrev numbers : ℕ → List ℕ → ℕ → ℕ → List ℕ
numbers zero file at k = []
numbers (suc n) file at k = u16_at file (at + k) ∷ numbers n file at (suc (suc k))

-- two bytes are those of their number
pair_low : (a b : ℕ) → a < 256 → (a + 256 * b) % 256 ≡ a
pair_low a b l = omega arith

pair_high : (a b : ℕ) → a < 256 → (a + 256 * b) / 256 ≡ b
pair_high a b l = omega arith

module _ (file : List ℕ) (bytes : Bytes file) where
  -- ---- records

  words_cut : (n at k : ℕ) → at + k + 2 * n ≤ length file → take (2 * n) (drop (at + k) file) ≡ words (numbers n file at k)
  words_cut zero at k l = refl
  words_cut (suc n) at k l =
      let z : 2 * suc n ≡ suc (suc (2 * n)) = omega arith in
      let y : suc (suc (at + k)) ≡ at + suc (suc k) = omega arith in
      let x : suc (at + k) ≡ at + k + 1 = omega arith in
      rw (
        z,
        drop-cons file (at + k) 0 (omega arith),
        drop-cons file (suc (at + k)) 0 (omega arith),
        y,
        x,
        words_cut n at (suc (suc k)) (omega arith),
        pair_low (get_or file (at + k) 0) (get_or file (at + k + 1) 0) (bytes (at + k)),
        pair_high (get_or file (at + k) 0) (get_or file (at + k + 1) 0) (bytes (at + k)),
      )

  shelf_cut : (at : ℕ) → at + 14 ≤ length file → Framed file at 12 17 → take 14 (drop at file) ≡ shelf_record (shelf_from file at)
  unfolding shelf_record shelf_from
  shelf_cut at l e = rw (e.0, e.1) at (rw add-zero at (words_cut 7 at 0 (omega arith)))

  bucket_cut : (at : ℕ) → at + 18 ≤ length file → Framed file at 16 18 → take 18 (drop at file) ≡ bucket_record (bucket_from file at)
  unfolding bucket_record bucket_from
  bucket_cut at l e = rw (e.0, e.1) at (rw add-zero at (words_cut 9 at 0 (omega arith)))

  end_cut : (at : ℕ) → at + 4 ≤ length file → Framed file at 2 19 → take 4 (drop at file) ≡ end_record
  end_cut at l e = rw (e.0, e.1) at (rw add-zero at (words_cut 2 at 0 (omega arith)))

  u16_low : (at : ℕ) → u16_at file at < 65536
  u16_low at = omega (arith, bytes at, bytes (at + 1))

  long_cut : (at : ℕ) → at + 4 ≤ length file → take 4 (drop at file) ≡ long_word (u32_at file at)
  long_cut at l =
      let x : u32_at file at % 65536 ≡ u16_at file at = omega (arith, u16_low at) in
      let y : u32_at file at / 65536 ≡ u16_at file (at + 2) = omega (arith, u16_low at) in
      rw (x, y) (rw add-zero at (words_cut 2 at 0 (omega arith)))

  head_cut : 33 ≤ length file → Framed file 0 31 16 → get_or file 28 0 ≡ 0 → take 33 file ≡ head_record (version_in file) (head_in file)
  unfolding head_record head_in version_in
  head_cut l e flag =
      let a : take 28 file ≡ words (numbers 14 file 0 0) = words_cut 14 0 0 (omega arith) in
      let b : drop 28 file ≡ 0 ∷ drop 29 file = rw flag at (drop-cons file 28 0 (omega arith)) in
      take-add 28 5 file ∙ rw (b, long_cut 29 (omega arith)) (rw (e.0, e.1) at (ap (λ (xs : List ℕ). xs ++ 0 ∷ long_word (u32_at file 29)) a))

  -- ---- all of them

  order_cut : (f : ℕ → List ℕ) (k at : ℕ) (xs : List ℕ) → take at file ≡ xs
      → (n : ℕ) → ((i : ℕ) → i < n → take k (drop (at + k * i) file) ≡ f i) → take (at + k * n) file ≡ xs ++ in_order n f
  order_cut f k at xs e zero h = let z : at + k * 0 ≡ at = omega arith in rw z (e ∙ sym (append-nil xs))
  order_cut f k at xs e (suc n) h =
      let z : at + k * suc n ≡ at + k * n + k = omega arith in
      rw z (take-add (at + k * n) k file
      ∙ rw (order_cut f k at xs e n (λ i l. h i (omega arith)), h n (omega arith)) (append_assoc xs (in_order n f) (f n)))

  shaped_from : Shaped file (head_in file).shelf_count (head_in file).bucket_count
      → file ≡ file_from (version_in file) (head_in file) (shelf_in file) (bucket_in file)
  unfolding file_from
  shaped_from h =
      let s : ℕ = (head_in file).shelf_count in
      let b : ℕ = (head_in file).bucket_count in
      let long : length file ≡ 33 + 14 * s + 18 * b + 4 = h.long in
      let a = head_cut (omega arith) h.head h.flag in
      let c = order_cut (λ i. shelf_record (shelf_in file i)) 14 33 _ a s (λ i l. shelf_cut (shelf_place i) (omega arith) (h.shelf i l)) in
      let d = order_cut (λ i. bucket_record (bucket_in file i)) 18 (33 + 14 * s) _ c b (λ i l. bucket_cut (bucket_place s i) (omega arith) (h.bucket i l)) in
      sym (take_all (bucket_place s b + 4) file (omega arith)) ∙ take-add (bucket_place s b) 4 file
      ∙ rw (d, end_cut (bucket_place s b) (omega arith) h.end)

  -- what is read is what is written
  pub file_from_law : is_file file ≡ true → file ≡ file_from (version_in file) (head_in file) (shelf_in file) (bucket_in file)
  file_from_law e = shaped_from ((shape_tells file).holds e)
