use mathlib.Core.Path.{◌∙◌}
use Rattle.place.proofs.Arms.{told}
use Rattle.requests.proofs.Arms.{request_size, request_refused, can_place}
use Rattle.requests.proofs.would_request.Goals as goal

pub returns-in_default : goal.returns-in_default
returns-in_default c = told (request_refused _ _ _ c.aligned_sides.ensures _ c.in_default.is)

pub would_place-requires : goal.would_place-requires
would_place-requires c =
    can_place _ _ _ c.aligned_sides.ensures _ _ c.in-Ok.is c.requires

pub returns : goal.returns
returns c =
    c.would_place.ensures ∙ told (request_size _ _ _ c.aligned_sides.ensures _ _ c.in-Ok.is)
