-- Numbers of 16 bits written one after another, two bytes each.
use Prim.Native.Nat.{ℕ, ◌+◌, ◌*◌, ◌/◌, ◌%◌, ◌≤◌, ◌<◌}
use mathlib.Core.Path.{◌≡◌, refl, ap, ◌∙◌}
use mathlib.Core.List.{List, [], ◌∷◌, ◌++◌}
use native.Mathlib.Omega.{arith}
use native.Mathlib.Numerals.{add-one}
use borrow.Rule.Slice.PartMut.{put_mid}
use lib.ListN.{length, take, get_or, length-take}
use lib.Seq.{sets, length-sets, take-suc}
use Rattle.rules.specs.Files.{words, long_word}
use Rattle.laws.proofs.Files.Puts.{puts_then, text_copied}

words_append : (xs ys : List ℕ) → words (xs ++ ys) ≡ words xs ++ words ys
words_append [] ys = refl
words_append (x ∷ xs) ys = ap (λ (zs : List ℕ). x % 256 ∷ x / 256 ∷ zs) (words_append xs ys)

pub length_words : (xs : List ℕ) → length (words xs) ≡ 2 * length xs
length_words [] = refl
length_words (x ∷ xs) = omega (arith, length_words xs)

-- one number after those before it
pub words_turn : (l numbers : List ℕ) (at i : ℕ) {out bytes : List ℕ} {k : ℕ} → out ≡ sets l at (words (take i numbers)) → i < length numbers
    → at + 2 * length numbers ≤ length l → get_or numbers i 0 < 65536 → k ≡ 2
    → bytes ≡ get_or numbers i 0 % 256 ∷ get_or numbers i 0 / 256 % 256 ∷ [] → put_mid (at + 2 * i) k out bytes ≡ sets l at (words (take (i + 1) numbers))
words_turn l numbers at i {out} {bytes} {k} p h room fits two e =
    let n : ℕ = get_or numbers i 0 in
    let high : n / 256 % 256 ≡ n / 256 = omega arith in
    let pair : bytes ≡ words (n ∷ []) = e ∙ ap (λ (v : ℕ). n % 256 ∷ v ∷ []) high in
    let long : length (words (take i numbers)) ≡ 2 * i = length_words (take i numbers) ∙ omega (arith, length-take i numbers) in
    let more : take (i + 1) numbers ≡ take i numbers ++ (n ∷ []) = rw add-one (take-suc numbers i 0 h) in
    let kept : length out ≡ length l = ap length p ∙ length-sets l at (words (take i numbers)) in
    rw (pair, text_copied out (words (n ∷ [])) (at + 2 * i) k (omega (arith, kept)) two, more, words_append)
    (puts_then (words (take i numbers)) (words (n ∷ [])) l at (at + 2 * i) (omega (arith, long)) p refl)

-- a number of 32 bits, four bytes
pub long_word_is : (n : ℕ) {bytes : List ℕ} → n < 4294967296 → bytes ≡ n % 256 ∷ n / 256 % 256 ∷ n / 65536 % 256 ∷ n / 16777216 % 256 ∷ []
    → bytes ≡ long_word n
long_word_is n h e =
    let first : n % 256 ≡ n % 65536 % 256 = omega arith in
    let second : n / 256 % 256 ≡ n % 65536 / 256 = omega arith in
    let last : n / 16777216 % 256 ≡ n / 65536 / 256 = omega arith in
    e ∙ rw (first, second, last) refl
