use Prim.Native.Nat.{◌+◌, ◌*◌}
use mathlib.Core.Path.{sym, ◌∙◌}
use native.Mathlib.Omega.{arith}
use Rattle.rules.specs.Ids.{id_bucket}
use Rattle.rules.specs.Tables.{bucket_at}
use Rattle.entries.proofs.Arms.{place_left}
use Rattle.entries.proofs.passing.step.Goals as goal

-- a reference count is of 16 bits
pub move_on-requires : goal.move_on-requires
unfolding bucket_at
move_on-requires c =
    let left = place_left _ _ _ (sym c.in_place.ensures ∙ c.if-not-in_place.false) in
    omega (arith, left, c.type_inv.buckets (7 * id_bucket c.args.entry.id + 3))
