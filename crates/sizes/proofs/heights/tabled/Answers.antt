use mathlib.Core.Path.{refl}
use native.Mathlib.Omega.{arith}
use Rattle.rules.specs.Rounding.{shelf_height, step, align}
use Rattle.laws.proofs.Numbers.Values.{values_from, tabled_at}
use Rattle.sizes.proofs.heights.tabled.Goals as goal

-- refl: the whole table, computed
pub returns : goal.returns
unfolding shelf_height step align values_from
returns c = tabled_at shelf_height 513 _ refl c.args.size (omega arith)
