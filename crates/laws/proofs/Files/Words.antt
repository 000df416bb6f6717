-- Bytes that stand in others from a place on, read as numbers of 16 bits; records in index order, each as long as the next.
-- What a number's two bytes are, a file's reading gives back: n % 256 + 256 * (n / 256) is n.
use Prim.Native.Nat.{ℕ, zero, suc, ◌+◌, ◌*◌, ◌/◌, ◌%◌, ◌<◌}
use mathlib.Core.Path.{◌≡◌, refl, subst, ◌∙◌}
use mathlib.Core.List.{List, [], ◌∷◌, ◌++◌}
use native.Mathlib.Decide.{dec_lt}
use native.Mathlib.Nat.{add-zero}
use native.Mathlib.Omega.{arith}
use lib.ListN.{length, get_or, length-append, get_or-append}
use lib.Seq.{get_or-append-add}
use Rattle.rules.specs.declared.Head.{Head}
use Rattle.rules.specs.declared.Shelf.{Shelf}
use Rattle.rules.specs.declared.Bucket.{Bucket}
use Rattle.rules.specs.Files.{words, in_order}
use Rattle.rules.specs.Trace.{u16_at}

-- ---- some bytes in others

-- xs, from that place on
abbrev pub Stands : List ℕ → ℕ → List ℕ → Type 0
Stands file at xs = (i : ℕ) → i < length xs → get_or file (at + i) 0 ≡ get_or xs i 0

pub stands_all : (xs : List ℕ) → Stands xs 0 xs
stands_all xs i l = let z : 0 + i ≡ i = omega arith in rw z

pub stands_left : (file : List ℕ) (at : ℕ) (xs ys : List ℕ) → Stands file at (xs ++ ys) → Stands file at xs
stands_left file at xs ys s i l = s i (omega (arith, length-append xs ys)) ∙ get_or-append xs ys 0 i l

pub stands_right : (file : List ℕ) (at : ℕ) (xs ys : List ℕ) → Stands file at (xs ++ ys) → Stands file (at + length xs) ys
stands_right file at xs ys s i l =
    let z : at + length xs + i ≡ at + (length xs + i) = omega arith in
    rw z (s (length xs + i) (omega (arith, length-append xs ys)) ∙ get_or-append-add xs ys i 0)

-- the second of two, where the first is so long
pub stands_from : (file xs ys : List ℕ) (at : ℕ) → length xs ≡ at → Stands file 0 (xs ++ ys) → Stands file at ys
stands_from file xs ys at e s = let z : 0 + length xs ≡ at = omega arith in subst (λ (n : ℕ). Stands file n ys) z (stands_right file 0 xs ys s)

-- a number whose two bytes are among them
pub number_in : (file : List ℕ) (at : ℕ) (xs : List ℕ) → Stands file at xs → (k n : ℕ) → suc k < length xs
    → get_or xs k 0 ≡ n % 256 → get_or xs (suc k) 0 ≡ n / 256 → u16_at file (at + k) ≡ n
number_in file at xs s k n l low high = let z : at + k + 1 ≡ at + suc k = omega arith in rw (z, s k (omega arith), s (suc k) l, low, high) (omega arith)

-- the numbers from a place on
abbrev pub Numbers : List ℕ → ℕ → List ℕ → Type 0
Numbers file at [] = Unit {0}
Numbers file at (n ∷ ns) = (u16_at file at ≡ n) × Numbers file (at + 2) ns

pub numbers_in : (file : List ℕ) (at : ℕ) (ns : List ℕ) → Stands file at (words ns) → Numbers file at ns
numbers_in file at [] s = tt
numbers_in file at (n ∷ ns) s =
    let e : u16_at file at ≡ n = rw add-zero at (number_in file at (words (n ∷ ns)) s 0 n (omega arith) refl refl) in
    (e, numbers_in file (at + 2) ns (stands_right file at (n % 256 ∷ n / 256 ∷ []) (words ns) s))

-- ---- the numbers of each record, from its length and kind on; a header's up to its flag byte

-- "kind 16 header (u16 version 1, then the header's numbers .."
abbrev pub head_numbers : ℕ → Head → List ℕ
head_numbers version head =
    31 ∷ 16 ∷ version ∷ head.width ∷ head.height ∷ head.align_width ∷ head.align_height ∷ head.columns ∷ head.column_width
    ∷ head.column ∷ head.room ∷ head.shelf_count ∷ head.bucket_count ∷ head.released ∷ []

-- "17 one shelf"
abbrev pub shelf_numbers : Shelf → List ℕ
shelf_numbers shelf = 12 ∷ 17 ∷ shelf.x ∷ shelf.y ∷ shelf.height ∷ shelf.width ∷ shelf.first ∷ []

-- "18 one bucket"
abbrev pub bucket_numbers : Bucket → List ℕ
bucket_numbers bucket =
    16 ∷ 18 ∷ bucket.x ∷ bucket.free ∷ bucket.next ∷ bucket.refs ∷ bucket.items ∷ bucket.shelf ∷ bucket.generation ∷ []

-- ---- in index order

module _ (f : ℕ → List ℕ) (k : ℕ) (long : (i : ℕ) → length (f i) ≡ k) where
  pub length_order : (n : ℕ) → length (in_order n f) ≡ k * n
  length_order zero = omega arith
  length_order (suc n) = omega (arith, length-append (in_order n f) (f n), long n, length_order n)

  pub stands_order : (file : List ℕ) (at n : ℕ) → Stands file at (in_order n f) → (i : ℕ) → i < n → Stands file (at + k * i) (f i)
  stands_order file at zero s i l = absurd (omega arith)
  stands_order file at (suc n) s i l = elim (dec_lt i n) [
    | yes p ↦ stands_order file at n (stands_left file at (in_order n f) (f n) s) i p
    | no p ↦
        let e : i ≡ n = omega arith in
        rw (e, ← length_order n) (stands_right file at (in_order n f) (f n) s)
  ]

-- what agrees below n
pub order_same : (f f' : ℕ → List ℕ) (n : ℕ) → ((i : ℕ) → i < n → f i ≡ f' i) → in_order n f ≡ in_order n f'
order_same f f' zero h = refl
order_same f f' (suc n) h = rw (order_same f f' n (λ i l. h i (omega arith)), h n (omega arith))
