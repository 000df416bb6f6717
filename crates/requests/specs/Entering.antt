-- A request with the list beside the tables: what comes of it where the list has room, and where it is full; and where its entry goes.
use Rattle.std.specs.Prelude.{ℕ, ◌+◌, ◌*◌, ◌≤◌, ◌<◌, Bool, ◌≡◌, List, ltb, length, ℤ, if◌then◌else◌, Ok, Err, Result}
use Rattle.rules.specs.declared.Head.{Head}
use Rattle.rules.specs.declared.Allocation.{Allocation}
use Rattle.rules.specs.declared.Entering.{Entering}
use Rattle.rules.specs.declared.Refusal.{Refusal}
use Rattle.rules.specs.Limits.{records_most}
use Rattle.rules.specs.Ids.{id_bucket}
use Rattle.rules.specs.Tables.{Atlas, atlas, Outcome, outcome}
use Rattle.rules.specs.Builds.{present}
use Rattle.rules.specs.Calls.{natural, request}
use Rattle.rules.specs.Held.{place_for}
use Rattle.rules.specs.Listed.{judged}

-- "19 list full, in allocate after 8": of the answer to a request, with the state after it and the one before
abbrev pub roomed : Bool → Result Allocation Refusal → Atlas → Atlas → Outcome (Result Allocation Refusal)
roomed room (Ok a) after g = if room then outcome (Ok a) after else outcome (Err Refusal.Full) g
roomed room (Err r) after g = outcome (Err r) after

-- a request in a list of `room` entries, by the verdict of the tests
abbrev pub entering : Result ℕ Refusal → ℕ → ℤ → ℤ → Atlas → Outcome (Result Allocation Refusal)
entering verdict room width height g =
    judged (λ r. outcome (Err r) g)
    (λ n. roomed (ltb n room) (request present (natural width) (natural height) g).answer (request present (natural width) (natural height) g).state g)
    verdict

-- the bucket of a rectangle just issued is there
abbrev pub Placeable : Allocation → List ℕ → Type 0
Placeable a buckets = (id_bucket a.id < records_most) × (7 * id_bucket a.id + 7 ≤ length buckets)

-- what is left once a rectangle is issued, or where none is
abbrev pub entering_by : Head → List ℕ → List ℕ → Result Entering Refusal → Outcome (Result Allocation Refusal)
entering_by head shelves buckets (Ok e) = outcome (Ok e.allocation) (atlas e.head shelves buckets)
entering_by head shelves buckets (Err r) = outcome (Err r) (atlas head shelves buckets)

-- the place of an entry is the rule's
abbrev pub PlaceOf : Entering → List ℕ → List ℕ → Type 0
PlaceOf e shelves buckets = e.place ≡ place_for (id_bucket e.allocation.id) (atlas e.head shelves buckets)

abbrev pub PlaceTold : Result Entering Refusal → List ℕ → List ℕ → Type 0
PlaceTold answer shelves buckets = (e : Entering) → answer ≡ Ok e → PlaceOf e shelves buckets
