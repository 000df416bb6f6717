-- Writing one text after another is writing both; the buffer's length stays.
use Prim.Native.Nat.{ℕ, ◌+◌, ◌≤◌}
use mathlib.Core.Path.{◌≡◌, ap, ◌∙◌}
use mathlib.Core.List.{List, ◌++◌, append_assoc}
use native.Mathlib.Omega.{arith}
use lib.ListN.{length, length-append}
use lib.Seq.{sets, length-sets}
use Rattle.laws.proofs.Files.Puts.{puts_then}
use Rattle.lines.specs.Put.{Put}

-- ---- one text after another

pub put_length : {before after : List ℕ} {at end : ℕ} {xs : List ℕ} → Put before after at end xs → length after ≡ length before
put_length {before} {after} {at} {end} {xs} p = ap length p.is ∙ length-sets before at xs

pub put_then : {before mid after : List ℕ} {at m end : ℕ} {xs ys : List ℕ} → Put before mid at m xs → Put mid after m end ys
    → Put before after at end (xs ++ ys)
put_then {before} {mid} {after} {at} {m} {end} {xs} {ys} p q =
    let e : mid ≡ sets before at xs = p.is in
    let f : m ≡ at + length xs = p.ends in
    record {
      ends = q.ends ∙ omega (arith, f, length-append xs ys);
      is = puts_then xs ys before at m f e q.is;
    }

-- two texts that are written as one, after a third
pub put_pair : {before mid after : List ℕ} {at m end : ℕ} {xs : List ℕ} (l r : List ℕ) → Put before mid at m xs → Put mid after m end (l ++ r)
    → Put before after at end (xs ++ l ++ r)
put_pair {xs = xs} l r p q = rw (append_assoc xs l r) (put_then p q)

-- room for n bytes and k more leaves, after at most n, room for k
pub put_room : {before after : List ℕ} {at end : ℕ} {xs : List ℕ} (n k : ℕ) → Put before after at end xs → length xs ≤ n
    → at + (n + k) ≤ length before → end + k ≤ length after
put_room n k p h r = omega (arith, p.ends, put_length p)

-- and for fewer
pub room_less : (at l m n : ℕ) → at + n ≤ l → m ≤ n → at + m ≤ l
room_less at l m n h k = omega arith
