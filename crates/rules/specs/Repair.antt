-- T-08, "Put worn-out buckets back in service": what a read makes of the buckets of a file that an earlier build wrote. A file of a build that
-- renews its emptied buckets has nothing to repair.
use Rattle.std.specs.Prelude.{ℕ, Bool, ◌&&◌, not, eqb, ltb, if◌then◌else◌}
use Rattle.rules.specs.declared.Bucket.{Bucket}
use Rattle.rules.specs.Builds.{Build, renews}
use Rattle.rules.specs.Ids.{next_generation}

-- "each unreferenced bucket .. where the count was not 0"
unfoldable pub needs_repair : Bucket → Bool
needs_repair bucket = eqb bucket.refs 0 && not (eqb bucket.items 0)

-- "generation one up", wrapping. A number that is no generation, 256 or more, stays as it is: the repair makes none of it
unfoldable pub risen : ℕ → ℕ
risen generation = if ltb generation 256 then next_generation generation else generation

-- "item count 0 and generation one up"
unfoldable pub repaired : Bucket → Bucket
repaired bucket = record {
  x = bucket.x;
  free = bucket.free;
  next = bucket.next;
  refs = bucket.refs;
  items = if needs_repair bucket then 0 else bucket.items;
  shelf = bucket.shelf;
  generation = if needs_repair bucket then risen bucket.generation else bucket.generation;
}

-- a bucket as a build reads it: "Files from T-01 written earlier are read with that repair made"
abbrev pub read_as : Build → Bucket → Bucket
read_as build bucket = if renews build then repaired bucket else bucket
