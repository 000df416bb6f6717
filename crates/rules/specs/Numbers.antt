-- Numbers in bytes: "all little-endian", in a trace as in a file. Bytes are numbers below 256.
use Rattle.std.specs.Prelude.{ℕ, ◌+◌, ◌-◌, ◌*◌, List, ltb, get_or, ℤ, pos, negsuc, if◌then◌else◌}

abbrev pub u16_at : List ℕ → ℕ → ℕ
u16_at xs i = get_or xs i 0 + 256 * get_or xs (i + 1) 0

abbrev pub u32_at : List ℕ → ℕ → ℕ
u32_at xs i = u16_at xs i + 65536 * u16_at xs (i + 2)

-- the i32 of the same bits
unfoldable pub signed : ℕ → ℤ
signed n = if ltb n 2147483648 then pos n else negsuc (4294967295 - n)

abbrev pub i32_at : List ℕ → ℕ → ℤ
i32_at xs i = signed (u32_at xs i)
