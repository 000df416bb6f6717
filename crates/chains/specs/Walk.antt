-- What a walk along a chain asks for. Sound tables give it of every shelf's chain and of the released one (`proofs/Laws.antt`).
use Rattle.std.specs.Prelude.{ℕ, ◌*◌, ◌≤◌, ◌<◌, ◌≢◌, List, length}
use Rattle.rules.specs.Limits.{records_most, none}
use Rattle.rules.specs.Chains.{next, first, chain, Linked}

-- the chain from i ends, and all of it lies in the room lent
pub record Walkable (buckets : List ℕ) (i : ℕ) : Type 0 where
  pub room : 7 * records_most ≤ length buckets
  pub linked : Linked (next buckets) records_most i (chain buckets i)

-- and it is not empty
pub record SomeChain (buckets : List ℕ) (i : ℕ) : Type 0 where
  pub walk : Walkable buckets i
  pub some : i ≢ none

-- the chain of each of n shelves
pub record WalkableShelves (shelves buckets : List ℕ) (n : ℕ) : Type 0 where
  pub few : n ≤ records_most
  pub room : 5 * n ≤ length shelves
  pub chains : (i : ℕ) → i < n → Walkable buckets (first shelves i)
