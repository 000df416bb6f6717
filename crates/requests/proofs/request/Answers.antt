use mathlib.Core.Path.{◌∙◌}
use Rattle.laws.proofs.Results.{passed_on}
use Rattle.requests.proofs.Arms.{request_size, request_refused, can_place}
use Rattle.requests.proofs.request.Goals as goal

pub returns-in_err-across : goal.returns-in_err-across
returns-in_err-across c =
    rw (passed_on c.from_residual.result c.from_residual.ensures.1) (request_refused _ _ _ c.aligned_sides.ensures _ c.in_err-across.was)

pub place-requires : goal.place-requires
place-requires c =
    can_place _ _ _ c.aligned_sides.ensures _ _ c.in_ok-across.was c.requires

pub returns : goal.returns
returns c =
    c.place.ensures ∙ request_size _ _ _ c.aligned_sides.ensures _ _ c.in_ok-across.was
