-- What document 01 says of a request that is too large, in one number, beside T-04's three: 5 of an earlier build was document 01's, and T-04 changed
-- the number of a refusal and nothing else.
use Rattle.rules.specs.declared.Allocation.{Allocation}
use Prim.Native.Nat.{ℕ, ◌*◌, ◌≤◌}
use mathlib.Core.Path.{◌≡◌, refl, ap}
use mathlib.Core.Logic.{◌⊎◌, inl, inr}
use mathlib.Core.Bool.{Bool, true, false, ◌||◌}
use mathlib.Core.List.{[], ◌∷◌}
use native.Mathlib.Nat.{mul-le-mul_right, one-mul}
use native.Mathlib.Omega.{arith}
use borrow.Author.Tests.{ne_eqb}
use lib.Dec.{eqb, ltb}
use lib.IntN.{ℤ}
use Rattle.rules.specs.declared.Head.{Head}
use Rattle.rules.specs.declared.Refusal.{Refusal}
use Rattle.std.specs.Prelude.{if◌then◌else◌, Ok, Err, Result}
use Rattle.rules.specs.Limits.{request_most}
use Rattle.rules.specs.Rounding.{align}
use Rattle.rules.specs.Tables.{Atlas, Outcome, outcome}
use Rattle.rules.specs.Answers.{number, refused, placing_says}
use Rattle.rules.specs.Sound.{SoundBy, Sound}
use Rattle.rules.specs.Builds.{Build}
use Rattle.rules.specs.Calls.{natural, aligned_sides, place, request, allocate_by}
use Rattle.rules.specs.History.{unnamed_placing}
use Rattle.laws.proofs.Tests.Tells.{Tells, false_true, tells_eqb, tells_or}
use Rattle.laws.proofs.Tests.Flags.{split}
use Rattle.laws.proofs.Numbers.Rounding.{align_not_below}
use Rattle.promises.proofs.Exactly.{Exactly, exactly_map, longer}
use Rattle.promises.proofs.NoPlace.{Small, Large, Wide, Tall, AllocateRefusals, allocate_refusals, large_tells, wide_tells, place_never}

-- 5 never applies alone: a side above 65,535 is above every column, or every atlas
pub large_also : (w h : ℕ) (g : Atlas) → Sound g → Large w h → Wide w g.head ⊎ Tall h g.head
large_also w h g p x =
    let d = p.steady.domain in
    let c : ℕ = g.head.column_width in
    let one : 1 * c ≤ g.head.columns * c = mul-le-mul_right c d.columns.0 in
    let across = align_not_below g.head.align_width w d.align_width.0 in
    let down = align_not_below g.head.align_height h d.align_height.0 in
    elim x [
      | inl l ↦ inl (omega (arith, one, one-mul c, p.steady.columns.fit, d.width.1, across))
      | inr l ↦ inr (omega (arith, d.height.1, down))
    ]

-- ---- 5 before T-04

-- "a request side above 65,535, or aligned width above the column width, or aligned height above the atlas height"
abbrev pub TooLarge : ℕ → ℕ → Head → Type 0
TooLarge w h head = Large w h ⊎ (Wide w head ⊎ Tall h head)

unnamed_says : (p : Result Allocation Refusal)
    → Exactly 5 (placing_says (unnamed_placing p)) ((placing_says p ≡ 5 ∷ []) ⊎ ((placing_says p ≡ 22 ∷ []) ⊎ (placing_says p ≡ 23 ∷ [])))
unnamed_says (Ok a) = record {
  when = λ x. elim x [ inl e ↦ absurd (longer e) | inr (inl e) ↦ absurd (longer e) | inr (inr e) ↦ absurd (longer e) ];
  only = λ e. absurd (longer e);
}
unnamed_says (Err r) = by_test _ (tells_or _ _ (tells_eqb (number r) 22) (tells_eqb (number r) 23))
  where
    by_test : (t : Bool) → Tells t ((number r ≡ 22) ⊎ (number r ≡ 23))
        → Exactly 5 (refused (if t then Refusal.Large else r)) ((refused r ≡ 5 ∷ []) ⊎ ((refused r ≡ 22 ∷ []) ⊎ (refused r ≡ 23 ∷ [])))
    by_test true t = record {
      when = λ x. refl;
      only = λ e. inr (elim (t.holds refl) [ inl n ↦ inl (ap (λ (k : ℕ). k ∷ []) n) | inr n ↦ inr (ap (λ (k : ℕ). k ∷ []) n) ]);
    }
    by_test false t = record {
      when = λ x. elim x [
        | inl e ↦ e
        | inr (inl e) ↦ false_true (t.shown (inl (cc e)))
        | inr (inr e) ↦ false_true (t.shown (inr (cc e)))
      ];
      only = inl;
    }

decided : (t : Bool) {P : Type 0} → Tells t P → P ⊎ (P → ⊥)
decided true p = inl (p.holds refl)
decided false p = inr (λ x. false_true (p.shown x))

third : {A B C : Type 0} → A ⊎ (B ⊎ C) → (A → ⊥) → (B → ⊥) → C
third (inl x) a b = absurd (a x)
third (inr (inl x)) a b = absurd (b x)
third (inr (inr x)) a b = x

-- 5 of a build before T-04 was document 01's
pub five_before : (build : Build) (width height : ℤ) (g : Atlas) → Exactly 5 (placing_says (unnamed_placing (allocate_by build width height g).answer))
    (SoundBy build g × ((Small (natural width) (natural height) → ⊥) × TooLarge (natural width) (natural height) g.head))
five_before build width height g =
    let w : ℕ = natural width in
    let h : ℕ = natural height in
    let r : AllocateRefusals build width height g = allocate_refusals build width height g in
    exactly_map (unnamed_says (allocate_by build width height g).answer)
    (λ x. elim x [
      | inl e ↦ (let p = r.five.only e in (p.0, (p.1.0, inl p.1.1)))
      | inr (inl e) ↦ (let p = r.twenty_two.only e in (p.0, (p.1.0, inr (inl p.1.1.1))))
      | inr (inr e) ↦ (let p = r.twenty_three.only e in (p.0, (p.1.0, inr (inr p.1.1.1.1))))
    ])
    (λ p. elim (decided _ (large_tells w h)) [
      | inl l ↦ inl (r.five.when (p.0, (p.1.0, l)))
      | inr few ↦ elim (decided _ (wide_tells w g.head)) [
        | inl l ↦ inr (inl (r.twenty_two.when (p.0, (p.1.0, (few, l)))))
        | inr fits ↦ inr (inr (r.twenty_three.when (p.0, (p.1.0, (few, (fits, third p.1.1 few fits))))))
      ]
    ])

-- ---- nothing else changed

unnamed_same : (p : Result Allocation Refusal) → (placing_says p ≡ 22 ∷ [] → ⊥) → (placing_says p ≡ 23 ∷ [] → ⊥) → unnamed_placing p ≡ p
unnamed_same (Ok a) wide tall = refl
unnamed_same (Err r) wide tall =
    let w : eqb (number r) 22 ≡ false = ne_eqb (number r) 22 (λ e. wide (ap (λ (k : ℕ). k ∷ []) e)) in
    let t : eqb (number r) 23 ≡ false = ne_eqb (number r) 23 (λ e. tall (ap (λ (k : ℕ). k ∷ []) e)) in
    simp (w, t)

-- the answer that it gave is today's but for the number, and it left what today's leaves
pub record SameBut (now before : Outcome (Result Allocation Refusal)) : Type 0 where
  pub answer : unnamed_placing now.answer ≡ before.answer
  pub state : now.state ≡ before.state

module _ (build : Build) (w h : ℕ) (g : Atlas) where
  abbrev across : ℕ
  across = align g.head.align_width w

  abbrev down : ℕ
  down = align g.head.align_height h

  -- document 01's request, with one number for all three
  abbrev pub request_before : Outcome (Result Allocation Refusal)
  request_before =
      if eqb w 0 || eqb h 0 then outcome (Err Refusal.Small) g
      else if ltb request_most w || ltb request_most h || ltb g.head.column_width across || ltb g.head.height down
      then outcome (Err Refusal.Large) g
      else place build across down g

  -- a request is refused as one of the three where document 01 refuses it as 5
  pub as_it_was : SameBut (request build w h g) request_before
  unfolding request aligned_sides
  as_it_was =
      let rest = place_never build across down g in
      split (eqb w 0 || eqb h 0) (λ e. simp e (record { answer = refl; state = refl })) (λ e.
      split (ltb request_most w || ltb request_most h) (λ f. simp (e, f) (record { answer = refl; state = refl })) (λ f.
      split (ltb g.head.column_width across) (λ k. simp (e, f, k) (record { answer = refl; state = refl })) (λ k.
      split (ltb g.head.height down) (λ z. simp (e, f, k, z) (record { answer = refl; state = refl })) (λ z.
      simp (e, f, k, z) (record { answer = unnamed_same _ (rest 22 refl refl refl) (rest 23 refl refl refl); state = refl })))))
