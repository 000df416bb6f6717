-- The tests of a request, one after another: what the rule comes to where each has led.
use Prim.Native.Nat.{ℕ, ◌≤◌, ◌<◌}
use mathlib.Core.Bool.{true, false}
use mathlib.Core.Path.{◌≡◌}
use mathlib.Core.Logic.{◌≢◌}
use borrow.Author.Tests.{eq-eqb, ne_eqb, lt-ltb, le-ltb, ltb-false}
use lib.Dec.{eqb, ltb}
use Rattle.rules.specs.declared.Head.{Head}
use Rattle.rules.specs.declared.Refusal.{Refusal}
use Rattle.std.specs.Prelude.{if◌then◌else◌, Ok, Err}
use Rattle.rules.specs.Limits.{request_most}
use Rattle.rules.specs.Rounding.{align}
use Rattle.rules.specs.Calls.{aligned_sides}

-- not refused as 4 or 5
pub record Plain (w h : ℕ) : Type 0 where
  pub some : w ≢ 0
  pub low : eqb h 0 ≡ false
  pub few : w ≤ request_most
  pub few' : ltb request_most h ≡ false

pub few_h : {w h : ℕ} → Plain w h → h ≤ request_most
few_h {w} {h} p = ltb-false request_most h p.few'

module _ (w h : ℕ) (head : Head) where
  pub small_w : w ≡ 0 → Err Refusal.Small ≡ aligned_sides w h head
  unfolding aligned_sides
  small_w e = simp (eq-eqb w 0 e)

  module _ (some : w ≢ 0) where
    pub small_h : eqb h 0 ≡ true → Err Refusal.Small ≡ aligned_sides w h head
    unfolding aligned_sides
    small_h e = simp (ne_eqb w 0 some, e)

    pub large_w : eqb h 0 ≡ false → request_most < w → Err Refusal.Large ≡ aligned_sides w h head
    unfolding aligned_sides
    large_w low l = simp (ne_eqb w 0 some, low, lt-ltb request_most w l)

    pub large_h : eqb h 0 ≡ false → w ≤ request_most → ltb request_most h ≡ true → Err Refusal.Large ≡ aligned_sides w h head
    unfolding aligned_sides
    large_h low few e = simp (ne_eqb w 0 some, low, le-ltb request_most w few, e)

  module _ (p : Plain w h) where
    abbrev across : ℕ
    across = align head.align_width w

    abbrev down : ℕ
    down = align head.align_height h

    pub wide : head.column_width < across → Err Refusal.Wide ≡ aligned_sides w h head
    unfolding aligned_sides
    wide l = simp (ne_eqb w 0 p.some, p.low, le-ltb request_most w p.few, p.few', lt-ltb head.column_width across l)

    module _ (fits : across ≤ head.column_width) where
      past_wide : (if ltb head.height down then Err Refusal.Tall else Ok (across, down)) ≡ aligned_sides w h head
      unfolding aligned_sides
      past_wide = simp (ne_eqb w 0 p.some, p.low, le-ltb request_most w p.few, p.few', le-ltb head.column_width across fits)

      pub tall : head.height < down → Err Refusal.Tall ≡ aligned_sides w h head
      tall l = simp (lt-ltb head.height down l) at past_wide

      pub aligned : down ≤ head.height → Ok (across, down) ≡ aligned_sides w h head
      aligned l = simp (le-ltb head.height down l) at past_wide
