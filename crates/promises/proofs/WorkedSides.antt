-- T-04, worked: which of 5, 22 and 23 a request gets that is too large, in each of the ways that its sides can be, and where alignment decides.
use Rattle.std.specs.Prelude.{Ok, Err}
use Prim.Native.Nat.{ℕ, ◌-◌}
use mathlib.Core.Path.{◌≡◌, refl}
use Rattle.rules.specs.declared.Head.{Head}
use Rattle.rules.specs.declared.Refusal.{Refusal}
use Rattle.rules.specs.Rounding.{align}
use Rattle.rules.specs.Grow.{grown_head}
use Rattle.rules.specs.Calls.{fresh_head, column_width, aligned_sides}

-- the sides asked for, on an atlas of one column
abbrev Refuses : ℕ → ℕ → Head → Refusal → Type 0
Refuses w h head r = aligned_sides w h head ≡ Err r

-- 64 by 32
abbrev plain : Head
plain = fresh_head 64 32 1 1 1

-- 60 by 32, alignments 10 and 5, grown to 67 by 32: the column is 67 wide
abbrev rounded : Head
rounded = grown_head 67 32 (fresh_head 60 32 10 5 1)

-- the largest sides, and alignments by which 65,535 is 98,301
abbrev largest : Head
largest = fresh_head 46340 46340 32767 32767 1

pub record SidesWorked : Type 0 where
  -- the width fits, is above the column's, is above 65,535; and so the height
  pub fitting : (aligned_sides 64 32 plain ≡ Ok (64, 32)) × Refuses 64 33 plain Refusal.Tall × Refuses 64 65536 plain Refusal.Large
  pub wide : Refuses 65 32 plain Refusal.Wide × Refuses 65 33 plain Refusal.Wide × Refuses 65 65536 plain Refusal.Large
  pub large : Refuses 65536 32 plain Refusal.Large × Refuses 65536 33 plain Refusal.Large × Refuses 65536 65536 plain Refusal.Large
  -- the aligned sides are compared
  pub width : (aligned_sides 60 30 rounded ≡ Ok (60, 30)) × Refuses 61 30 rounded Refusal.Wide
  pub height : Refuses 60 31 rounded Refusal.Tall × Refuses 61 31 rounded Refusal.Wide
  -- and they pass 16 bits, where 98,301 would be 32,765
  pub across : (align 32767 65535 ≡ 98301) × (98301 - 65536 ≡ 32765) × Refuses 65535 65535 largest Refusal.Wide × Refuses 65535 1 largest Refusal.Wide
  pub down : Refuses 1 65535 largest Refusal.Tall × (aligned_sides 1 1 largest ≡ Ok (32767, 32767))

pub sides_worked : SidesWorked
unfolding align grown_head column_width aligned_sides
sides_worked = record {
  fitting = (refl, refl, refl);
  wide = (refl, refl, refl);
  large = (refl, refl, refl);
  width = (refl, refl);
  height = (refl, refl);
  across = (refl, refl, refl, refl);
  down = (refl, refl);
}
