-- Module 1, rounding.
use Rattle.std.specs.Prelude.{ℕ, ◌+◌, ◌-◌, ◌*◌, ◌/◌, leb, if◌then◌else◌}

-- "Aligning: up to the next multiple." For a step of at least 1.
unfoldable pub align : ℕ → ℕ → ℕ
align step size = (size + (step - 1)) / step * step

-- "a step chosen by size: 0 to 31: 8; 32 to 127: 16; 128 to 511: 32; above: 64."
unfoldable pub step : ℕ → ℕ
step size = if leb size 31 then 8 else if leb size 127 then 16 else if leb size 511 then 32 else 64

-- "Shelf height: up to the next multiple of a step chosen by size". T-03: "Read the rounded shelf height for sizes 0 to 512 from a constant
-- table of 513 entries; above that work it out as today. No answer changes." So this is the rule of either way.
unfoldable pub shelf_height : ℕ → ℕ
shelf_height size = align (step size) size
