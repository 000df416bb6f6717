-- Bytes of texts: a quoted text of ASCII, and a number in decimal digits.
use Rattle.std.specs.Prelude.{ℕ, zero, suc, ◌+◌, ◌/◌, ◌%◌, List, [] as []ᴸ, ◌∷◌ as ◌∷ᴸ◌, ltb, if◌then◌else◌}
use Prim.Native.Char.{code}
use Prim.Native.String.{String, [], ◌∷◌}

abbrev pub bytes : String → List ℕ
bytes [] = []ᴸ
bytes (c ∷ s) = code c ∷ᴸ bytes s

-- the digits of n behind those already there, at most d of them
unfoldable pub digits : ℕ → ℕ → List ℕ → List ℕ
digits zero n tail = tail
digits (suc d) n tail = if ltb n 10 then (48 + n) ∷ᴸ tail else digits d (n / 10) ((48 + n % 10) ∷ᴸ tail)

unfoldable pub decimal : ℕ → List ℕ
decimal n = digits 10 n []ᴸ

abbrev pub newline : List ℕ
newline = 10 ∷ᴸ []ᴸ
