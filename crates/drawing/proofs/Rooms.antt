-- Room for a text in the picture's length: a part of a text is put where the one before it ends.
use Prim.Native.Nat.{ℕ, ◌+◌, ◌≤◌}
use mathlib.Core.List.{List, ◌++◌, append_assoc}
use native.Mathlib.Omega.{arith}
use lib.ListN.{length, length-append}
use Rattle.lines.specs.Put.{Put}

-- ---- room for a text is room for how it begins, and after that for the rest

pub room_start : (at : ℕ) (xs ys : List ℕ) {n : ℕ} → at + length (xs ++ ys) ≤ n → at + length xs ≤ n
room_start at xs ys h = omega (arith, length-append xs ys)

pub room_then : {before mid xs : List ℕ} {at m n : ℕ} (ys : List ℕ) → Put before mid at m xs → at + length (xs ++ ys) ≤ n → m + length ys ≤ n
room_then {xs = xs} ys p h = omega (arith, p.ends, length-append xs ys)

-- the same of a text and a number
pub field_start : (at : ℕ) (xs text number : List ℕ) {n : ℕ} → at + length (xs ++ text ++ number) ≤ n → at + length xs ≤ n
field_start at xs text number h = room_start at xs text (room_start at (xs ++ text) number h)

pub field_then : {before mid xs : List ℕ} {at m n : ℕ} (text number : List ℕ) → Put before mid at m xs → at + length (xs ++ text ++ number) ≤ n
    → m + length (text ++ number) ≤ n
field_then {xs = xs} text number p h = room_then (text ++ number) p (rw (append_assoc xs text number) at h)
