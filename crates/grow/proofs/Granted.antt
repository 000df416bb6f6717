-- Sound tables give what a grow to no smaller sides asks for, and what the free figure does.
use Prim.Native.Nat.{ℕ, zero, suc, ◌*◌, ◌≤◌}
use mathlib.Core.Path.{◌≡◌, refl, sym, ap}
use native.Mathlib.Omega.{arith}
use native.Mathlib.Nat.{one-mul}
use Rattle.rules.specs.Limits.{side_most}
use Rattle.rules.specs.Tables.{Atlas}
use Rattle.rules.specs.Sound.{Steady}
use Rattle.laws.proofs.Sound.Lies.{occupied_area}
use Rattle.grow.specs.Needs.{CanGrow, CanFree}

-- the room is part of the height, whether there is a shelf or not
room_within : {g : Atlas} → Steady g → (m : ℕ) → m ≡ g.head.shelf_count → g.head.room ≤ g.head.height
room_within t zero e = let z = t.columns.empty (sym e) in omega arith
room_within t (suc i) e = let z = t.columns.last i e in omega arith

-- one column is at most as wide as the atlas
one_within : {g : Atlas} → Steady g → g.head.columns ≡ 1 → g.head.column_width ≤ g.head.width
one_within {g} t e =
    omega (arith, t.columns.fit, ap (λ (c : ℕ). c * g.head.column_width) e, one-mul g.head.column_width)

pub can_grow : {g : Atlas} → Steady g → (width height : ℕ) → g.head.width ≤ width → width ≤ side_most → g.head.height ≤ height
    → CanGrow width height g
can_grow {g} t width height lw hw lh = record {
  size = record { higher = lh; room = room_within t g.head.shelf_count refl; column_width = t.domain.column_width };
  wider = λ e. omega (arith, one_within t e);
  widen = λ e. record {
    shelves = omega (arith, t.lent.shelves, t.domain.shelves);
    buckets = t.lent.buckets;
    few = t.domain.buckets;
    released = t.chained.released;
    wide = λ i l. (t.stocked i l).wide e;
    right = omega (arith, one_within t e);
  };
}

pub can_free : {g : Atlas} → Steady g → CanFree g.head
can_free t = record { part = occupied_area t }
