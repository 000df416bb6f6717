-- What merging asks for. Sound tables give the first two, and with them the run that was found gives the others (`proofs/Laws.antt`).
use Rattle.std.specs.Prelude.{ℕ, ◌+◌, ◌*◌, ◌≤◌, ◌<◌, ◌≡◌, List, length}
use Rattle.rules.specs.Limits.{number_most}
use Rattle.rules.specs.declared.MergeRun.{MergeRun}
use Rattle.rules.specs.Tables.{shelf_at}
use Rattle.rules.specs.Return.{top_of}
use Rattle.chains.specs.Walk.{WalkableShelves}

-- n shelves whose chains can be walked, each next one of a column on top of the last; a top fits 16 bits
pub record CanScan (shelves buckets : List ℕ) (n : ℕ) : Type 0 where
  pub walk : WalkableShelves shelves buckets n
  pub top : (i : ℕ) → i < n → top_of (shelf_at shelves i) ≤ number_most
  pub next : (i : ℕ) → i + 1 < n → (shelf_at shelves (i + 1)).x ≡ (shelf_at shelves i).x → (shelf_at shelves (i + 1)).y ≡ top_of (shelf_at shelves i)

-- shelf i is one of them
pub record At (shelves buckets : List ℕ) (n i : ℕ) : Type 0 where
  pub scan : CanScan shelves buckets n
  pub there : i < n

-- the shelves of a run are in the table, and its top fits 16 bits
pub record RunFits (shelves : List ℕ) (run : MergeRun) : Type 0 where
  pub there : 5 * (run.shelf + run.followers) + 5 ≤ length shelves
  pub top : (shelf_at shelves run.shelf).y + run.height ≤ number_most
