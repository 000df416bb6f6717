-- The three parts of an id are read back from it.
-- The item count is read back by its low 12 bits, the bucket and the generation whole.
use Prim.Native.Nat.{ℕ, ◌%◌, ◌<◌}
use mathlib.Core.Path.{◌≡◌}
use native.Mathlib.Omega.{arith}
use Rattle.rules.specs.Ids.{id_of, id_bucket, id_item, id_generation}

module _ (bucket items generation : ℕ) (low : bucket < 4096) where
  pub id_bucket_of : id_bucket (id_of bucket items generation) ≡ bucket
  id_bucket_of = omega arith

  pub id_item_of : id_item (id_of bucket items generation) ≡ items % 4096
  id_item_of = omega arith

  pub id_generation_of : id_generation (id_of bucket items generation) ≡ generation
  id_generation_of = omega arith
