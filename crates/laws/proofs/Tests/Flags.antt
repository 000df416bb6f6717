-- Tests joined by `&&` and `||`, taken apart: what a joined test that is true, or false, says of its parts.
-- And `flag`, `split`: a test is true or false.
use mathlib.Core.Bool.{Bool, true, false, ◌&&◌, ◌||◌, true≢false, false≢true}
use mathlib.Core.Path.{◌≡◌, refl}
use mathlib.Core.Logic.{◌⊎◌, inl, inr}

pub flag : (t : Bool) → (t ≡ true) ⊎ (t ≡ false)
flag true = inl refl
flag false = inr refl

pub split : {P : Type 0} (t : Bool) → (t ≡ true → P) → (t ≡ false → P) → P
split true p q = p refl
split false p q = q refl

pub and_l : (a b : Bool) → (a && b) ≡ true → a ≡ true
and_l true b e = refl
and_l false b e = absurd (false≢true e)

pub and_r : (a b : Bool) → (a && b) ≡ true → b ≡ true
and_r true b e = e
and_r false b e = absurd (false≢true e)

-- the first holds and not both
pub and_not : (a b : Bool) → (a && b) ≡ false → a ≡ true → b ≡ false
and_not true b e f = e
and_not false b e f = absurd (false≢true f)

pub or_l : (a b : Bool) → (a || b) ≡ false → a ≡ false
or_l true b e = absurd (true≢false e)
or_l false b e = refl

pub or_r : (a b : Bool) → (a || b) ≡ false → b ≡ false
or_r true b e = absurd (true≢false e)
or_r false b e = e

pub or_cases : (a b : Bool) → (a || b) ≡ true → (a ≡ true) ⊎ (b ≡ true)
or_cases true b e = inl refl
or_cases false b e = inr e
