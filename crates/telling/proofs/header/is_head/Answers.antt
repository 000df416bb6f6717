use native.Mathlib.Omega.{arith}
use Rattle.telling.proofs.Numbers.{is_head_law, no_head}
use Rattle.telling.proofs.header.is_head.Goals as goal

pub returns-then-header-lt12 : goal.returns-then-header-lt12
returns-then-header-lt12 c = no_head _ (λ h. omega (arith, h.long, c.if-header-lt12.true))

pub returns-then-header-i-gt-NUMBER_MOST : goal.returns-then-header-i-gt-NUMBER_MOST
returns-then-header-i-gt-NUMBER_MOST c = no_head _ (λ h. omega (arith, h.low _ c.loop-i-test.true, c.if-header-i-gt-NUMBER_MOST.true))

pub returns : goal.returns
returns c = is_head_law _ (record { long = c.if-header-lt12.false; low = λ k l. c.loop-i.invariant k (omega (arith, l, c.loop-i-test.false)) })
