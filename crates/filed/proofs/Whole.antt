-- The test of a whole file in its order: how long, the header's record, the flag byte, the records behind it.
use Prim.Native.Nat.{ℕ, ◌+◌, ◌<◌}
use mathlib.Core.Path.{◌≡◌, refl}
use mathlib.Core.Logic.{◌≢◌}
use mathlib.Core.Bool.{Bool, true, false, ◌&&◌}
use mathlib.Core.List.{List}
use native.Mathlib.Omega.{arith}
use borrow.Author.Tests.{eq-eqb, ne_eqb}
use lib.Dec.{eqb}
use lib.ListN.{length, get_or}
use Rattle.rules.specs.Sound.{all_to}
use Rattle.rules.specs.Trace.{u16_at}
use Rattle.rules.specs.Files.{shelf_place, bucket_place, head_in, is_framed, is_file}

abbrev records : List ℕ → ℕ → ℕ → Bool
records file s b =
    all_to s (λ i. is_framed file (shelf_place i) 12 17) && all_to b (λ i. is_framed file (bucket_place s i) 16 18)
    && is_framed file (bucket_place s b) 2 19

-- six tests in a row, by those that are known; d, e and f are of the records behind the header
module _ (a b c d e f : Bool) where
  no_1 : a ≡ false → false ≡ (a && b && c && d && e && f)
  no_1 p = rw p refl

  no_2 : a ≡ true → b ≡ false → false ≡ (a && b && c && d && e && f)
  no_2 p q = rw (p, q) refl

  no_3 : a ≡ true → b ≡ true → c ≡ false → c ≡ (a && b && c && d && e && f)
  no_3 p q r = rw (p, q, r) refl

  past_3 : a ≡ true → b ≡ true → c ≡ true → (d && e && f) ≡ (a && b && c && d && e && f)
  past_3 p q r = rw (p, q, r) refl

pub short : (file : List ℕ) → length file < 37 → false ≡ is_file file
unfolding is_file head_in
short file h = no_1 _ _ _ _ _ _ (ne_eqb (length file) (bucket_place (u16_at file 22) (u16_at file 24) + 4) (λ e. omega arith))

-- the header counts s shelves and b buckets
pub record FileCounts (file : List ℕ) (s b : ℕ) : Type 0 where
  pub shelves : s ≡ u16_at file 22
  pub buckets : b ≡ u16_at file 24

module _ {file : List ℕ} {s b : ℕ} (t : FileCounts file s b) where
  pub cut : length file ≢ bucket_place s b + 4 → false ≡ is_file file
  unfolding is_file head_in
  cut n = no_1 _ _ _ _ _ _ (rw (t.shelves, t.buckets) at (ne_eqb (length file) (bucket_place s b + 4) n))

  long_yes : length file ≡ bucket_place s b + 4 → eqb (length file) (bucket_place (u16_at file 22) (u16_at file 24) + 4) ≡ true
  long_yes e = rw (t.shelves, t.buckets) at (eq-eqb (length file) (bucket_place s b + 4) e)

  pub unheaded : length file ≡ bucket_place s b + 4 → is_framed file 0 31 16 ≡ false → false ≡ is_file file
  unfolding is_file head_in
  unheaded e f = no_2 _ _ _ _ _ _ (long_yes e) f

  pub flagged : length file ≡ bucket_place s b + 4 → is_framed file 0 31 16 ≡ true → get_or file 28 0 ≢ 0 → eqb (get_or file 28 0) 0 ≡ is_file file
  unfolding is_file head_in
  flagged e f n = no_3 _ _ _ _ _ _ (long_yes e) f (ne_eqb (get_or file 28 0) 0 n)

  pub recorded : length file ≡ bucket_place s b + 4 → is_framed file 0 31 16 ≡ true → get_or file 28 0 ≡ 0 → records file s b ≡ is_file file
  unfolding is_file head_in
  recorded e f z = rw (t.shelves, t.buckets) (past_3 _ _ _ _ _ _ (long_yes e) f (eq-eqb (get_or file 28 0) 0 z))
