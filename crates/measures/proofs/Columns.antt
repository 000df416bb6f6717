-- The column: whether the room left is too short, and the column that opens where the room is used up.
use Prim.Native.Nat.{ℕ, suc, ◌+◌, ◌*◌, ◌≤◌, ◌<◌}
use mathlib.Core.Path.{◌≡◌, refl, sym}
use mathlib.Core.Logic.{◌≢◌, ◌⊎◌, inl, inr}
use mathlib.Core.Bool.{true, false, ◌&&◌, not}
use mathlib.Core.List.{List}
use native.Mathlib.Omega.{arith}
use native.Mathlib.Nat.{mul-le-mul_right, suc-mul}
use native.Mathlib.Decide.{ℕ_discrete, dec_lt}
use borrow.Author.Tests.{eq-eqb, ne_eqb, le-ltb, ltb-true, eqb-false, not-true}
use lib.Dec.{eqb, ltb}
use Rattle.rules.specs.declared.Head.{Head}
use Rattle.rules.specs.Tables.{atlas, with_room}
use Rattle.rules.specs.NewShelf.{another_column, short, opened, tall, column_left, bucket_width}
use Rattle.laws.proofs.Tests.Flags.{and_l, and_r}
use Rattle.laws.proofs.Numbers.Rounding.{shelf_height_not_below}
use Rattle.laws.proofs.Numbers.BucketCount.{buckets_fit}
use Rattle.laws.proofs.NewShelf.Keep.{opened_stays, opened_steps}
use Rattle.measures.specs.Needs.{Framed, Ready}

-- the right edge of so many buckets is a number of 16 bits
pub right_fits : (h : Head) (count : ℕ) → Framed h → column_left h + count * bucket_width h count ≤ 65535
right_fits h count f =
    let l : suc h.column * h.column_width ≤ h.columns * h.column_width = mul-le-mul_right h.column_width f.column in
    omega (arith, suc-mul h.column h.column_width, buckets_fit h count)

-- ---- the room is neither 0 nor enough, and another column exists

module _ (h : Head) (height : ℕ) where
  pub short_enough : height ≤ h.room → false ≡ short height h
  unfolding short
  short_enough l = elim (ℕ_discrete h.room 0) [ yes e ↦ simp (eq-eqb _ _ e) | no n ↦ simp (ne_eqb _ _ n, le-ltb _ _ l) ]

  -- what it says
  pub record Short : Type 0 where
    pub some : 1 ≤ h.room
    pub less : h.room < height
    pub another : h.column + 1 < h.columns

  pub short_says : short height h ≡ true → Short
  unfolding short another_column
  short_says t =
      let both = and_l (not (eqb h.room 0) && ltb h.room height) (ltb (h.column + 1) h.columns) t in
      let n : h.room ≢ 0 = eqb-false _ _ (not-true _ (and_l (not (eqb h.room 0)) (ltb h.room height) both)) in
      record {
        some = omega arith;
        less = ltb-true _ _ (and_r (not (eqb h.room 0)) (ltb h.room height) both);
        another = ltb-true _ _ (and_r (not (eqb h.room 0) && ltb h.room height) (ltb (h.column + 1) h.columns) t);
      }

-- ---- the column that opens

module _ (h : Head) where
  pub open_not : h.room ≢ 0 → h ≡ opened h
  open_not n = sym (opened_stays h n)

  open_last : h.room ≡ 0 → h.columns ≤ h.column + 1 → h ≡ opened h
  unfolding opened another_column
  open_last e l = simp (eq-eqb _ _ e, le-ltb _ _ l)

  open_next : h.room ≡ 0 → h.column + 1 < h.columns → with_room h (h.column + 1) h.height ≡ opened h
  open_next e l = sym (opened_steps h e l)

  -- room in it, if it has room for the height or another column is left
  pub open_room : (height : ℕ) → 1 ≤ height → 1 ≤ h.height → (height ≤ h.room) ⊎ (h.column + 1 < h.columns) → 1 ≤ (opened h).room
  open_room height a f c = elim (ℕ_discrete h.room 0) [
    | no n ↦ rw (← open_not n) (omega arith)
    | yes e ↦ elim c [ inl l ↦ absurd (omega arith) | inr l ↦ rw (← open_next e l) f ]
  ]

  -- of the header only the column and the room change
  pub open_head : opened h ≡ with_room h (opened h).column (opened h).room
  open_head = elim (ℕ_discrete h.room 0) [
    | no n ↦ rw (← open_not n) refl
    | yes e ↦ elim (dec_lt (h.column + 1) h.columns) [
      | yes l ↦ rw (← open_next e l) refl
      | no q ↦ rw (← open_last e (omega arith)) refl
    ]
  ]

  open_framed : Framed h → Framed (opened h)
  open_framed f = elim (ℕ_discrete h.room 0) [
    | no n ↦ rw (← open_not n) f
    | yes e ↦ elim (dec_lt (h.column + 1) h.columns) [
      | yes l ↦ rw (← open_next e l) (record { align = f.align; high = f.high; within = omega arith; column = l; wide = f.wide })
      | no q ↦ rw (← open_last e (omega arith)) f
    ]
  ]

pub open_ready : (h : Head) (s b : List ℕ) → Ready (atlas h s b) → Ready (atlas (opened h) s b)
open_ready h s b r = elim (ℕ_discrete h.room 0) [
  | no n ↦ rw (← open_not h n) r
  | yes e ↦ elim (dec_lt (h.column + 1) h.columns) [
    | yes l ↦
        let f : Framed (with_room h (h.column + 1) h.height) = rw (open_next h e l) (open_framed h r.framed) in
        rw (← open_next h e l) (record { framed = f; lent = r.lent; released = r.released; owned = r.owned })
    | no q ↦ rw (← open_last h e (omega arith)) r
  ]
]

-- ---- the height

pub tall_room : (height : ℕ) (h : Head) → tall height h ≤ h.room
unfolding tall
tall_room height h = omega arith

pub tall_some : (height : ℕ) (h : Head) → 1 ≤ height → 1 ≤ h.room → 1 ≤ tall height h
unfolding tall
tall_some height h a r = omega (arith, shelf_height_not_below height)

-- a filler takes the whole room
pub tall_all : (h : Head) → tall h.room h ≡ h.room
unfolding tall
tall_all h = omega (arith, shelf_height_not_below h.room)
