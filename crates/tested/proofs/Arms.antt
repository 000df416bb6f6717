-- The arms of each call: what the rule comes to where the tests have led, and what is known of the numbers there.
use Rattle.std.specs.Prelude.{Ok, Err, Result, ⊤}
use Prim.Native.Nat.{ℕ, ◌-◌, ◌/◌, ◌%◌, ◌≤◌, ◌<◌}
use mathlib.Core.Bool.{Bool, true, false, ◌||◌, not}
use mathlib.Core.Path.{◌≡◌, refl, ap}
use mathlib.Core.Logic.{◌≢◌}
use native.Mathlib.Omega.{arith}
use native.Mathlib.Nat.{div-le_self}
use borrow.Author.Tests.{eq-eqb, ne_eqb, lt-leb, le-leb, ltb-false, not-true, not-false}
use lib.Dec.{eqb, ltb}
use Rattle.rules.specs.declared.Head.{Head}
use Rattle.rules.specs.declared.Refusal.{Refusal}
use Rattle.rules.specs.Limits.{side_most, option_most}
use Rattle.rules.specs.Ids.{id_bucket, id_generation}
use Rattle.rules.specs.Tables.{Atlas, Outcome, outcome, bucket_at}
use Rattle.rules.specs.Return.{returned}
use Rattle.rules.specs.Grow.{grown}
use Rattle.rules.specs.Builds.{present}
use Rattle.rules.specs.Calls.{outside, column_width, fresh_head, options_bad, made, grow_to, return_id}
use Rattle.rules.specs.Listed.{judged}
use Rattle.laws.proofs.Tests.Flags.{or_l, or_r}
use Rattle.laws.proofs.Calls.Empty.{inside}
use Rattle.tested.specs.Needs.{Fresh}
use Rattle.tested.specs.Within.{withheld}

-- ---- sides that are not refused 2

pub sides_good : (width height : ℕ) → (outside width side_most || outside height side_most) ≡ false
    → (width ≤ side_most) × (height ≤ side_most)
sides_good width height e = (
  (inside width side_most (or_l (outside width side_most) (outside height side_most) e)).1,
  (inside height side_most (or_r (outside width side_most) (outside height side_most) e)).1,
)

-- ---- new

pub width_less : (width columns align_width : ℕ) → column_width width columns align_width ≤ width
unfolding column_width
width_less width columns align_width = omega (arith, div-le_self width columns)

pub width_is : (width columns align_width : ℕ)
    → width / columns - width / columns % align_width ≡ column_width width columns align_width
unfolding column_width
width_is width columns align_width = refl

-- the numbers of the options, within the domain
abbrev Within : ℕ → Type 0
Within n = (1 ≤ n) × (n ≤ option_most)

pub numbers_good : (align_width align_height columns : ℕ)
    → (outside align_width option_most || outside align_height option_most || outside columns option_most) ≡ false
    → Within align_width × Within align_height × Within columns
numbers_good align_width align_height columns e =
    let a : Bool = outside align_width option_most in
    let b : Bool = outside align_height option_most in
    let c : Bool = outside columns option_most in
    let ab : (a || b) ≡ false = or_l (a || b) c e in (
      inside align_width option_most (or_l a b ab),
      inside align_height option_most (or_r a b ab),
      inside columns option_most (or_r (a || b) c e),
    )

-- what is not refused 3
pub options_good : (width align_width align_height columns vertical : ℕ)
    → options_bad width align_width align_height columns vertical ≡ false → Within align_width × Within align_height × Within columns
unfolding options_bad
options_good width align_width align_height columns vertical e =
    let abc : Bool = outside align_width option_most || outside align_height option_most || outside columns option_most in
    let d : Bool = eqb (column_width width columns align_width) 0 in
    numbers_good align_width align_height columns (or_l abc d (or_l (abc || d) (not (eqb vertical 0)) e))

module _ (width height align_width align_height columns vertical : ℕ) where
  pub made_side : (outside width side_most || outside height side_most) ≡ true
      → Err Refusal.Side ≡ made width height align_width align_height columns vertical
  unfolding made
  made_side e = simp e

  module _ (e : (outside width side_most || outside height side_most) ≡ false) where
    pub made_options : options_bad width align_width align_height columns vertical ≡ true
        → Err Refusal.Options ≡ made width height align_width align_height columns vertical
    unfolding made
    made_options f = simp (e, f)

    module _ (f : options_bad width align_width align_height columns vertical ≡ false) where
      pub made_done : (head : Head) → head ≡ fresh_head width height align_width align_height columns
          → Ok head ≡ made width height align_width align_height columns vertical
      unfolding made
      made_done head q = rw q (simp (e, f))

      pub made_fresh : Fresh width height align_width align_height columns
      made_fresh =
          let o = options_good width align_width align_height columns vertical f in
          record {
            across = (sides_good width height e).0;
            down = (sides_good width height e).1;
            stepw = o.0;
            steph = o.1.1;
            split = o.2;
          }

-- ---- grow

-- sides that are not refused 12
pub grow_wider : (width height : ℕ) (head : Head) → (ltb width head.width || ltb height head.height) ≡ false
    → (head.width ≤ width) × (head.height ≤ height)
grow_wider width height head f = (
  ltb-false width head.width (or_l (ltb width head.width) (ltb height head.height) f),
  ltb-false height head.height (or_r (ltb width head.width) (ltb height head.height) f),
)

module _ (width height : ℕ) (g : Atlas) where
  pub grow_side : (outside width side_most || outside height side_most) ≡ true
      → outcome (Err Refusal.Side) g ≡ grow_to width height g
  unfolding grow_to
  grow_side e = simp e

  module _ (e : (outside width side_most || outside height side_most) ≡ false) where
    pub grow_shrinks : (ltb width g.head.width || ltb height g.head.height) ≡ true
        → outcome (Err Refusal.Shrink) g ≡ grow_to width height g
    unfolding grow_to
    grow_shrinks f = simp (e, f)

    pub grow_done : (ltb width g.head.width || ltb height g.head.height) ≡ false
        → outcome (Ok tt) (grown width height g) ≡ grow_to width height g
    unfolding grow_to
    grow_done f = simp (e, f)

-- ---- deallocate

module _ (id : ℕ) (g : Atlas) where
  pub return_unknown : g.head.bucket_count ≤ id_bucket id → outcome (Err Refusal.Unknown) g ≡ return_id present id g
  unfolding return_id
  return_unknown l = simp (le-leb g.head.bucket_count (id_bucket id) l)

  module _ (l : id_bucket id < g.head.bucket_count) where
    pub return_stale : (bucket_at g.buckets (id_bucket id)).generation ≢ id_generation id
        → outcome (Err Refusal.Stale) g ≡ return_id present id g
    unfolding return_id
    return_stale n =
        simp (
          lt-leb g.head.bucket_count (id_bucket id) l,
          ne_eqb (bucket_at g.buckets (id_bucket id)).generation (id_generation id) n,
        )

    module _ (e : (bucket_at g.buckets (id_bucket id)).generation ≡ id_generation id) where
      pub return_unheld : (bucket_at g.buckets (id_bucket id)).refs ≡ 0 → outcome (Err Refusal.Unheld) g ≡ return_id present id g
      unfolding return_id
      return_unheld z =
          simp (
            lt-leb g.head.bucket_count (id_bucket id) l,
            eq-eqb (bucket_at g.buckets (id_bucket id)).generation (id_generation id) e,
            eq-eqb (bucket_at g.buckets (id_bucket id)).refs 0 z,
          )

      pub return_done : (bucket_at g.buckets (id_bucket id)).refs ≢ 0 → outcome (Ok tt) (returned present (id_bucket id) g) ≡ return_id present id g
      unfolding return_id
      return_done n =
          simp (
            lt-leb g.head.bucket_count (id_bucket id) l,
            eq-eqb (bucket_at g.buckets (id_bucket id)).generation (id_generation id) e,
            ne_eqb (bucket_at g.buckets (id_bucket id)).refs 0 n,
          )

-- with the list: 20 after them
module _ (held : Bool) (id : ℕ) (g : Atlas) where
  abbrev within : Outcome (Result ⊤ Refusal) → Outcome (Result ⊤ Refusal)
  within o = withheld held o.answer o.state g

  pub before_20 : {r : Refusal} → outcome (Err r) g ≡ return_id present id g → outcome (Err r) g ≡ within (return_id present id g)
  before_20 e = ap within e

  module _ {after : Atlas} (e : outcome (Ok tt) after ≡ return_id present id g) where
    pub not_held : not held ≡ true → outcome (Err Refusal.NotHeld) g ≡ within (return_id present id g)
    not_held f = rw (← e) (simp (not-true held f))

    pub is_held : not held ≡ false → outcome (Ok tt) after ≡ within (return_id present id g)
    is_held f = rw (← e) (simp (not-false held f))

-- ---- by the verdict

module _ {A : Type 0} {verdict : (Result ℕ Refusal)} (refuse : Refusal → A) (answer : ℕ → A) where
  pub on_fits : {n : ℕ} → verdict ≡ Ok n → answer n ≡ judged refuse answer verdict
  on_fits e = rw e refl

  pub on_refused : {r : Refusal} → verdict ≡ Err r → refuse r ≡ judged refuse answer verdict
  on_refused e = rw e refl
