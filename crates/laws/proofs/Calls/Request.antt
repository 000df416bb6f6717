-- A request that gets as far as the search: what its aligned sides are. And the sides that a grow accepts.
-- The tests of the call, turned into what the laws of an issue, a new shelf, a merge and a grow ask for.
use Rattle.std.specs.Prelude.{Ok, Result}
use Rattle.rules.specs.declared.Refusal.{Refusal}
use Prim.Native.Nat.{ℕ, ◌%◌, ◌≤◌}
use mathlib.Core.Path.{ap, ◌≡◌}
use native.Mathlib.Omega.{arith}
use borrow.Author.Tests.{ltb-false}
use lib.Dec.{ltb}
use Rattle.rules.specs.declared.Head.{Head}
use Rattle.rules.specs.Limits.{side_most}
use Rattle.rules.specs.Rounding.{align}
use Rattle.rules.specs.Tables.{Atlas}
use Rattle.rules.specs.Builds.{Build}
use Rattle.rules.specs.Sound.{SoundBy, Domain}
use Rattle.rules.specs.Calls.{outside, aligned_sides}
use Rattle.laws.proofs.Tests.Flags.{or_l, or_r}
use Rattle.laws.proofs.Numbers.Rounding.{align_multiple, align_not_below}
use Rattle.laws.proofs.Sound.Test.{sound_test}
use Rattle.laws.proofs.Calls.Ways.{Grows, Fitting, sides_ways, Asked}
use Rattle.laws.proofs.Calls.Empty.{inside}
use Rattle.laws.proofs.Results.{ok_one, err_not_ok}

-- both sides are at least 1 and fit, and the width is a multiple of its alignment
pub record Aligned (w h : ℕ) (head : Head) : Type 0 where
  pub some : 1 ≤ w
  pub fits : w ≤ head.column_width
  pub even : w % head.align_width ≡ 0
  pub low : 1 ≤ h
  pub within : h ≤ head.height

pub aligned : {w h : ℕ} {head : Head} → Domain head → Fitting w h head
    → Aligned (align head.align_width w) (align head.align_height h) head
aligned {w} {h} {head} d f = record {
  some = omega (arith, f.some, align_not_below head.align_width w d.align_width.0);
  fits = f.across;
  even = align_multiple head.align_width w d.align_width.0;
  low = omega (arith, f.low, align_not_below head.align_height h d.align_height.0);
  within = f.down;
}

-- the sides that the rule finds
pub sides_aligned : (w h : ℕ) (head : Head) → Domain head → (a d : ℕ) → aligned_sides w h head ≡ Ok (a, d) → Aligned a d head
sides_aligned w h head p a d =
    sides_ways (λ (s : Result (ℕ × ℕ) Refusal). s ≡ Ok (a, d) → Aligned a d head) w h head
    (λ r e. err_not_ok e)
    (λ f e.
    let across : a ≡ align head.align_width w = ap (λ (s : ℕ × ℕ). s.0) (ok_one e) in
    let down : d ≡ align head.align_height h = ap (λ (s : ℕ × ℕ). s.1) (ok_one e) in
    rw (across, down) (aligned p f))

pub asked_sound : {build : Build} {w h : ℕ} {g : Atlas} → Asked build w h g → SoundBy build g
asked_sound {build} {w} {h} {g} a = (sound_test {build = build} g).0 a.sound

pub asked_aligned : {build : Build} {w h : ℕ} {g : Atlas} → Asked build w h g
    → Aligned (align g.head.align_width w) (align g.head.align_height h) g.head
asked_aligned {build} {w} {h} {g} a = aligned (asked_sound a).steady.domain a.fits

-- ---- grow

-- no side is below the present one, and both are within the limit
pub record Larger (width height : ℕ) (head : Head) : Type 0 where
  pub wide : head.width ≤ width
  pub across : width ≤ side_most
  pub high : head.height ≤ height
  pub down : height ≤ side_most

pub larger : {build : Build} {width height : ℕ} {g : Atlas} → Grows build width height g → Larger width height g.head
larger {build} {width} {height} {g} r = record {
  wide = ltb-false width g.head.width (or_l (ltb width g.head.width) (ltb height g.head.height) r.shrinks);
  across = (inside width side_most (or_l (outside width side_most) (outside height side_most) r.sides)).1;
  high = ltb-false height g.head.height (or_r (ltb width g.head.width) (ltb height g.head.height) r.shrinks);
  down = (inside height side_most (or_r (outside width side_most) (outside height side_most) r.sides)).1;
}
