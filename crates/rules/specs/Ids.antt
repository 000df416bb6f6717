-- Module 3, ids. "Bits 0 to 11 bucket, 12 to 23 the item count modulo 4,096, 24 to 31 generation, which wraps."
use Rattle.std.specs.Prelude.{ℕ, ◌+◌, ◌*◌, ◌/◌, ◌%◌}

abbrev pub id_of : ℕ → ℕ → ℕ → ℕ
id_of bucket items generation = bucket + items % 4096 * 4096 + generation * 16777216

abbrev pub id_bucket : ℕ → ℕ
id_bucket id = id % 4096

abbrev pub id_item : ℕ → ℕ
id_item id = id / 4096 % 4096

abbrev pub id_generation : ℕ → ℕ
id_generation id = id / 16777216

-- "generation plus 1", wrapping
abbrev pub next_generation : ℕ → ℕ
next_generation generation = (generation + 1) % 256
