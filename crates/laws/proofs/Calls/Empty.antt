-- A header with nothing laid is sound over any lent tables: after a clear, and as `new` makes it.
-- So what an accepted `new` hands back is sound, and a clear keeps the tables sound.
use Prim.Native.Nat.{ℕ, ◌-◌, ◌*◌, ◌/◌, ◌%◌, ◌≤◌, ◌<◌}
use mathlib.Core.Bool.{Bool, true, false, ◌||◌, not}
use mathlib.Core.Path.{◌≡◌, refl, subst}
use mathlib.Core.Logic.{◌≢◌}
use mathlib.Core.List.{List, []}
use native.Mathlib.Nat.{div-add-mod', mul-le-mul_left}
use native.Mathlib.Omega.{arith}
use borrow.Author.Tests.{ltb-false, eqb-false}
use lib.Dec.{eqb, ltb}
use lib.IntN.{ℤ}
use Rattle.rules.specs.declared.Head.{Head}
use Rattle.rules.specs.declared.Refusal.{Refusal}
use Rattle.std.specs.Prelude.{if◌then◌else◌, Ok, Err, Result}
use Rattle.rules.specs.Limits.{none, side_most, option_most}
use Rattle.rules.specs.Tables.{Atlas, atlas}
use Rattle.rules.specs.Chains.{count, chain}
use Rattle.rules.specs.Grow.{cleared_head, cleared}
use Rattle.rules.specs.Builds.{Build}
use Rattle.rules.specs.Sound.{Steady, SoundBy, is_lent, Lent, Domain}
use Rattle.rules.specs.Calls.{natural, outside, column_width, fresh_head, options_bad, made, new}
use Rattle.laws.proofs.Tests.Flags.{or_l, or_r}
use Rattle.laws.proofs.Chains.Links.{chain_end}
use Rattle.laws.proofs.Sound.Test.{lent_test}
use Rattle.laws.proofs.Sound.Header.{domain_keeps}

-- nothing is laid
pub record Empty (h : Head) : Type 0 where
  pub domain : Domain h
  pub fit : h.columns * h.column_width ≤ h.width
  pub column : h.column ≡ 0
  pub room : h.room ≡ h.height
  pub shelves : h.shelf_count ≡ 0
  pub buckets : h.bucket_count ≡ 0
  pub released : h.released ≡ none
  pub occupied : h.occupied ≡ 0

pub sound_empty : {build : Build} (h : Head) (s b : List ℕ) → Lent s b → Empty h → SoundBy build (atlas h s b)
sound_empty h s b l e =
    let z : chain b h.released ≡ [] = chain_end b h.released e.released in
    record {
      steady = record {
        lent = l;
        domain = e.domain;
        columns = record {
          fit = e.fit;
          current = omega (arith, e.column, e.domain.columns);
          empty = λ q. (e.column, e.room);
          last = λ i q. absurd (omega (arith, e.shelves));
        };
        stacked = λ i q. absurd (omega (arith, e.shelves));
        chained = record {
          shelf = λ i q. absurd (omega (arith, e.shelves));
          released = rw z e.released;
          once = λ k q. absurd (omega (arith, e.buckets));
        };
        stocked = λ i q. absurd (omega (arith, e.shelves));
        released = λ k q. absurd (let q' : 0 < count k [] = rw z at q in omega arith);
        occupied = rw e.shelves e.occupied;
        generations = λ k q. absurd (omega (arith, e.buckets));
      };
      last_used = λ i q. absurd (omega (arith, e.shelves));
      rested = λ r k q. absurd (omega (arith, e.buckets));
    }

-- ---- clear

empty_cleared : (h : Head) → Domain h → h.columns * h.column_width ≤ h.width → Empty (cleared_head h)
unfolding cleared_head
empty_cleared h d fit = record {
  domain = domain_keeps d _ _ _ _ _ _ (omega arith) (omega arith);
  fit = fit;
  column = refl;
  room = refl;
  shelves = refl;
  buckets = refl;
  released = refl;
  occupied = refl;
}

pub sound_cleared : {build : Build} {g : Atlas} → SoundBy build g → SoundBy build (cleared g)
sound_cleared {build} {g} p =
    let t : Steady g = p.steady in
    sound_empty (cleared_head g.head) g.shelves g.buckets t.lent (empty_cleared g.head t.domain t.columns.fit)

-- ---- new

made_when : (s o : Bool) (h h' : Head) → (if s then Err Refusal.Side else if o then Err Refusal.Options else Ok h) ≡ Ok h'
    → (s ≡ false) × (o ≡ false) × (h ≡ h')
made_when true o h h' e = absurd (let z : ◌≡◌ {A = ℕ} 0 1 = cc in omega arith)
made_when false true h h' e = absurd (let z : ◌≡◌ {A = ℕ} 0 1 = cc in omega arith)
made_when false false h h' e = (refl, refl, cc)

-- a side or an option within its limit
pub inside : (n m : ℕ) → outside n m ≡ false → (1 ≤ n) × (n ≤ m)
unfolding outside
inside n m e =
    let ne : n ≢ 0 = eqb-false n 0 (or_l (eqb n 0) (ltb m n) e) in
    (omega arith, ltb-false m n (or_r (eqb n 0) (ltb m n) e))

-- the columns fit the width
columns_fit : (width columns align_width : ℕ) → columns * column_width width columns align_width ≤ width
unfolding column_width
columns_fit width columns align_width =
    let less : width / columns - width / columns % align_width ≤ width / columns = omega arith in
    omega (arith, mul-le-mul_left columns less, div-add-mod' width columns)

-- a fresh header is one that was cleared
pub empty_made : (width height align_width align_height columns vertical : ℕ) (h : Head)
    → made width height align_width align_height columns vertical ≡ Ok h → Empty h
unfolding made options_bad cleared_head
empty_made width height align_width align_height columns vertical h e =
    let c₁ : Bool = outside align_width option_most in
    let c₂ : Bool = outside align_height option_most in
    let c₃ : Bool = outside columns option_most in
    let c₄ : Bool = eqb (column_width width columns align_width) 0 in
    let side : Bool = outside width side_most || outside height side_most in
    let fresh : Head = fresh_head width height align_width align_height columns in
    let m = made_when side (options_bad width align_width align_height columns vertical) fresh h e in
    let four : (c₁ || c₂ || c₃ || c₄) ≡ false = or_l (c₁ || c₂ || c₃ || c₄) (not (eqb vertical 0)) m.1 in
    let three : (c₁ || c₂ || c₃) ≡ false = or_l (c₁ || c₂ || c₃) c₄ four in
    let two : (c₁ || c₂) ≡ false = or_l (c₁ || c₂) c₃ three in
    let ne : column_width width columns align_width ≢ 0 = eqb-false (column_width width columns align_width) 0 (or_r (c₁ || c₂ || c₃) c₄ four) in
    let domain : Domain fresh = record {
      width = inside width side_most (or_l (outside width side_most) (outside height side_most) m.0);
      height = inside height side_most (or_r (outside width side_most) (outside height side_most) m.0);
      align_width = inside align_width option_most (or_l c₁ c₂ two);
      align_height = inside align_height option_most (or_r c₁ c₂ two);
      columns = inside columns option_most (or_r (c₁ || c₂) c₃ three);
      column_width = omega arith;
      shelves = omega arith;
      buckets = omega arith;
    } in
    subst Empty m.2 (empty_cleared fresh domain (columns_fit width columns align_width))

new_when : (t : Bool) (m : Result Head Refusal) (h : Head) → (if t then m else Err Refusal.Tables) ≡ Ok h → (t ≡ true) × (m ≡ Ok h)
new_when true m h e = (refl, e)
new_when false m h e = absurd (let z : ◌≡◌ {A = ℕ} 0 1 = cc in omega arith)

-- what `new` hands back is empty, over tables that are lent
pub empty_new : (width height align_width align_height columns : ℤ) (vertical : ℕ) (s b : List ℕ) (h : Head)
    → new width height align_width align_height columns vertical s b ≡ Ok h → Lent s b × Empty h
unfolding new
empty_new width height align_width align_height columns vertical s b h e =
    let m = made (natural width) (natural height) (natural align_width) (natural align_height) (natural columns) vertical in
    let r = new_when (is_lent s b) m h e in (
      (lent_test s b).holds r.0,
      empty_made (natural width) (natural height) (natural align_width) (natural align_height) (natural columns) vertical h r.1,
    )

pub sound_new : {build : Build} (width height align_width align_height columns : ℤ) (vertical : ℕ) (s b : List ℕ) (h : Head)
    → new width height align_width align_height columns vertical s b ≡ Ok h → SoundBy build (atlas h s b)
sound_new width height align_width align_height columns vertical s b h e =
    let r : Lent s b × Empty h = empty_new width height align_width align_height columns vertical s b h e in
    sound_empty h s b r.0 r.1
