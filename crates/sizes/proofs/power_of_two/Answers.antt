use mathlib.Core.Path.{◌∙◌}
use native.Mathlib.Nat.{one-mul, mod-eq_of_lt}
use lib.Pow.{pow-lt}
use Rattle.laws.proofs.Numbers.BucketCount.{shift_below, power_is}
use Rattle.sizes.proofs.power_of_two.Goals as goal

pub overflow_shl-result : goal.overflow_shl-result
overflow_shl-result c = shift_below c.args.n c.requires.0 c.requires.1

pub returns : goal.returns
returns c =
    rw one-mul (mod-eq_of_lt (pow-lt (shift_below c.args.n c.requires.0 c.requires.1)) ∙ power_is c.args.n c.requires.0 c.requires.1)
