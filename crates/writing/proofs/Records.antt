-- Records written one after another: the header's parts, the rows of a table, the whole file.
use Prim.Native.Nat.{ℕ, ◌+◌, ◌*◌, ◌≤◌}
use mathlib.Core.Path.{◌≡◌, refl}
use mathlib.Core.List.{List, [], ◌∷◌, ◌++◌}
use native.Mathlib.Omega.{arith}
use native.Mathlib.Numerals.{add-one}
use borrow.Rule.Slice.PartMut.{put_mid}
use lib.ListN.{length, set, length-set}
use lib.Seq.{sets, length-sets}
use Rattle.rules.specs.declared.Head.{Head}
use Rattle.rules.specs.declared.Shelf.{Shelf}
use Rattle.rules.specs.declared.Bucket.{Bucket}
use Rattle.rules.specs.Limits.{head_bytes}
use Rattle.rules.specs.Files.{words, long_word, head_record, shelf_record, bucket_record, end_record, in_order, file_from, shelf_place, bucket_place}
use Rattle.laws.proofs.Files.Puts.{puts_then, text_copied}
use Rattle.laws.proofs.Files.Words.{length_order}
use Rattle.laws.proofs.Files.Layout.{length_head, length_shelves, length_buckets}

-- ---- the header

-- its numbers of 16 bits, after the record's length and kind
abbrev pub head_numbers : Head → List ℕ
head_numbers head =
    31 ∷ 16 ∷ 1 ∷ head.width ∷ head.height ∷ head.align_width ∷ head.align_height ∷ head.columns ∷ head.column_width ∷ head.column
    ∷ head.room ∷ head.shelf_count ∷ head.bucket_count ∷ head.released ∷ []

pub head_put : (head : Head) (l : List ℕ) {mid bytes : List ℕ} → head_bytes ≤ length l → mid ≡ sets l 0 (words (head_numbers head))
    → bytes ≡ long_word head.occupied → put_mid 29 4 (set mid 28 0) bytes ≡ sets l 0 (head_record 1 head)
unfolding head_record
head_put head l room p e =
    rw (e, p) (text_copied (set (sets l 0 (words (head_numbers head))) 28 0) (long_word head.occupied) 29 4
    (omega (arith, length-set (sets l 0 (words (head_numbers head))) 28 0, length-sets l 0 (words (head_numbers head)))) refl)

-- ---- the rows of a table: one after those before it

pub rows_turn : (row : ℕ → List ℕ) (bytes : ℕ) (l : List ℕ) (at i : ℕ) {out after : List ℕ} → ((k : ℕ) → length (row k) ≡ bytes)
    → out ≡ sets l at (in_order i row)
    → after ≡ sets out (at + bytes * i) (row i) → after ≡ sets l at (in_order (i + 1) row)
rows_turn row bytes l at i long p q =
    rw add-one (puts_then (in_order i row) (row i) l at (at + bytes * i) (omega (arith, length_order row bytes long i)) p q)

-- ---- the whole

module _ (head : Head) (shelf : ℕ → Shelf) (bucket : ℕ → Bucket) (l : List ℕ) where
  abbrev top : List ℕ
  top = head_record 1 head

  abbrev shelves : List ℕ
  shelves = in_order head.shelf_count (λ i. shelf_record (shelf i))

  abbrev buckets : List ℕ
  buckets = in_order head.bucket_count (λ i. bucket_record (bucket i))

  pub file_put : {first second third last : List ℕ} → first ≡ sets l 0 top → second ≡ sets first head_bytes shelves
      → third ≡ sets second (shelf_place head.shelf_count) buckets
      → last ≡ sets third (bucket_place head.shelf_count head.bucket_count) end_record → last ≡ sets l 0 (file_from 1 head shelf bucket)
  unfolding file_from
  file_put p q r e =
      puts_then (top ++ shelves ++ buckets) end_record l 0 _ (omega (arith, length_buckets 1 head shelf bucket))
      (puts_then (top ++ shelves) buckets l 0 _ (omega (arith, length_shelves 1 head shelf bucket))
      (puts_then top shelves l 0 _ (omega (arith, length_head 1 head)) p q) r) e
