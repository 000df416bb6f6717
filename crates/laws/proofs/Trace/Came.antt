-- What came of a record: whether more bytes may make a whole record of it, what the first four bytes tell, and that further bytes change none of
-- this once it is known.
use Prim.Native.Nat.{ℕ, ◌+◌, ◌-◌, ◌*◌, ◌≤◌, ◌<◌}
use mathlib.Core.Bool.{Bool, true, false, ◌&&◌, ◌||◌, not}
use mathlib.Core.Path.{◌≡◌, refl, sym, ap, ap₂, ◌∙◌}
use mathlib.Core.Logic.{◌⊎◌, inl, inr, ⊎_elim}
use mathlib.Core.List.{List, ◌++◌}
use native.Mathlib.Omega.{arith}
use borrow.Author.Tests.{ltb-true, ltb-false, eqb-true, eqb-false, not-true, not-false, lt-ltb, le-ltb}
use lib.Dec.{eqb, ltb}
use lib.ListN.{length, take, drop, length-append, length-drop, get_or-append}
use lib.Seq.{take-append-le, drop-append-le}
use Rattle.std.specs.Prelude.{if◌then◌else◌}
use Rattle.rules.specs.Limits.{offset_most, held_most}
use Rattle.rules.specs.Trace.{u16_at, length_of, misframed, malformed, payload}
use Rattle.rules.specs.Chunks.{unfinished}
use Rattle.laws.proofs.Tests.Flags.{or_l, or_r, or_cases, and_l, and_r, and_not}

-- ---- lengths

if_most : (c : Bool) {x y n : ℕ} → x ≤ n → y ≤ n → (if c then x else y) ≤ n
if_most true p q = p
if_most false p q = q

length_most : (kind : ℕ) → length_of kind ≤ 23
unfolding length_of
length_most kind =
    if_most (eqb kind 1) (omega arith) (if_most (eqb kind 2) (omega arith) (if_most (eqb kind 3) (omega arith) (if_most (eqb kind 4) (omega arith)
    (if_most (eqb kind 5) (omega arith) (if_most (eqb kind 6) (omega arith) (omega arith))))))

-- ---- what the first four bytes tell

pub record WellFramed (offset : ℕ) (left : List ℕ) : Type 0 where
  pub known : length_of (u16_at left 2) ≡ 0 → ⊥
  pub long : u16_at left 0 ≡ length_of (u16_at left 2)
  pub within : offset + 2 + u16_at left 0 ≤ offset_most

pub framed : (offset : ℕ) (left : List ℕ) → misframed offset left ≡ false → WellFramed offset left
unfolding misframed
framed offset left e =
    let unknown : Bool = eqb (length_of (u16_at left 2)) 0 in
    let other : Bool = not (eqb (u16_at left 0) (length_of (u16_at left 2))) in
    let past : Bool = ltb offset_most (offset + 2 + u16_at left 0) in
    let first : (unknown || other) ≡ false = or_l (unknown || other) past e in
    record {
      known = eqb-false (length_of (u16_at left 2)) 0 (or_l unknown other first);
      long = eqb-true (u16_at left 0) (length_of (u16_at left 2)) (not-false (eqb (u16_at left 0) (length_of (u16_at left 2))) (or_r unknown other first));
      within = ltb-false offset_most (offset + 2 + u16_at left 0) (or_r (unknown || other) past e);
    }

-- ---- unfinished, or not

pub unfinished_short : (offset : ℕ) (left : List ℕ) → unfinished offset left ≡ true → length left ≤ held_most
unfolding unfinished
unfinished_short offset left e =
    let few : Bool = ltb (length left) 4 in
    let cut : Bool = ltb (length left) (2 + u16_at left 0) in
    ⊎_elim (λ (f : few ≡ true). let h : length left < 4 = ltb-true (length left) 4 f in omega arith)
    (λ (f : (not (misframed offset left) && cut) ≡ true).
    let w : WellFramed offset left = framed offset left (not-true (misframed offset left) (and_l (not (misframed offset left)) cut f)) in
    let h : length left < 2 + u16_at left 0 = ltb-true (length left) (2 + u16_at left 0) (and_r (not (misframed offset left)) cut f) in
    omega (arith, w.long, length_most (u16_at left 2)))
    (or_cases few (not (misframed offset left) && cut) e)

pub few_unfinished : (offset : ℕ) (left : List ℕ) → length left < 4 → unfinished offset left ≡ true
unfolding unfinished
few_unfinished offset left h = simp (lt-ltb (length left) 4 h)

-- before its length and kind end, or before what the length says
pub cut_short : (offset : ℕ) (left : List ℕ) → unfinished offset left ≡ true → (length left < 4) ⊎ (length left < 2 + u16_at left 0)
unfolding unfinished
cut_short offset left e =
    let few : Bool = ltb (length left) 4 in
    let cut : Bool = ltb (length left) (2 + u16_at left 0) in
    ⊎_elim (λ (f : few ≡ true). inl (ltb-true (length left) 4 f))
    (λ (f : (not (misframed offset left) && cut) ≡ true).
    inr (ltb-true (length left) (2 + u16_at left 0) (and_r (not (misframed offset left)) cut f)))
    (or_cases few (not (misframed offset left) && cut) e)

-- it is no whole record
pub unfinished_malformed : (offset : ℕ) (left : List ℕ) → unfinished offset left ≡ true → malformed offset left ≡ true
unfolding unfinished malformed
unfinished_malformed offset left e =
    let few : Bool = ltb (length left) 4 in
    let cut : Bool = ltb (length left) (2 + u16_at left 0) in
    ⊎_elim (λ (f : few ≡ true). rw f refl)
    (λ (f : (not (misframed offset left) && cut) ≡ true). rw (and_r (not (misframed offset left)) cut f) (or_true (few || misframed offset left)))
    (or_cases few (not (misframed offset left) && cut) e)
  where
    or_true : (b : Bool) → (b || true) ≡ true
    or_true true = refl
    or_true false = refl

-- the first four bytes are there, and they tell that it is no record, or the whole of it is there
pub record Settled (offset : ℕ) (left : List ℕ) : Type 0 where
  pub head : 4 ≤ length left
  pub whole : misframed offset left ≡ false → 2 + u16_at left 0 ≤ length left

pub settled : (offset : ℕ) (left : List ℕ) → unfinished offset left ≡ false → Settled offset left
unfolding unfinished
settled offset left e =
    let few : Bool = ltb (length left) 4 in
    let cut : Bool = ltb (length left) (2 + u16_at left 0) in
    let rest : (not (misframed offset left) && cut) ≡ false = or_r few (not (misframed offset left) && cut) e in
    record {
      head = ltb-false (length left) 4 (or_l few (not (misframed offset left) && cut) e);
      whole = λ m. ltb-false (length left) (2 + u16_at left 0) (and_not (not (misframed offset left)) cut rest (rw m refl));
    }

pub settled_malformed : (offset : ℕ) (left : List ℕ) → Settled offset left → malformed offset left ≡ misframed offset left
unfolding malformed
settled_malformed offset left r = cases (misframed offset left) refl
  where
    cases : (m : Bool) → misframed offset left ≡ m
        → (ltb (length left) 4 || misframed offset left || ltb (length left) (2 + u16_at left 0)) ≡ misframed offset left
    cases true e = rw (le-ltb (length left) 4 r.head, e) refl
    cases false e = rw (le-ltb (length left) 4 r.head, e, le-ltb (length left) (2 + u16_at left 0) (r.whole e)) refl

-- ---- further bytes behind it

module _ (left more : List ℕ) where
  u16_front : (i : ℕ) → i + 2 ≤ length left → u16_at (left ++ more) i ≡ u16_at left i
  u16_front i h =
      ap₂ (λ (a b : ℕ). a + 256 * b) (get_or-append left more 0 i (omega arith)) (get_or-append left more 0 (i + 1) (omega arith))

  pub length_front : 4 ≤ length left → u16_at (left ++ more) 0 ≡ u16_at left 0
  length_front h = u16_front 0 (omega arith)

  pub kind_front : 4 ≤ length left → u16_at (left ++ more) 2 ≡ u16_at left 2
  kind_front h = u16_front 2 (omega arith)

  pub misframed_front : (offset : ℕ) → 4 ≤ length left → misframed offset (left ++ more) ≡ misframed offset left
  unfolding misframed
  misframed_front offset h =
      ap₂ (λ (n kind : ℕ). eqb (length_of kind) 0 || not (eqb n (length_of kind)) || ltb offset_most (offset + 2 + n)) (length_front h) (kind_front h)

  pub payload_front : 4 ≤ length left → 2 + u16_at left 0 ≤ length left → payload (left ++ more) ≡ payload left
  payload_front h w =
      ap₂ (λ (n : ℕ) (xs : List ℕ). take (n - 2) xs) (length_front h) (drop-append-le 4 left more h)
      ∙ take-append-le (u16_at left 0 - 2) (drop 4 left) more (omega (arith, length-drop 4 left))

  pub drop_front : 4 ≤ length left → 2 + u16_at left 0 ≤ length left
      → drop (2 + u16_at (left ++ more) 0) (left ++ more) ≡ drop (2 + u16_at left 0) left ++ more
  drop_front h w =
      ap (λ (n : ℕ). drop (2 + n) (left ++ more)) (length_front h) ∙ drop-append-le (2 + u16_at left 0) left more w

  pub settled_front : (offset : ℕ) → Settled offset left → Settled offset (left ++ more)
  settled_front offset r = record {
    head = omega (arith, r.head, length-append left more);
    whole = λ m.
        omega (arith, r.whole (sym (misframed_front offset r.head) ∙ m), length-append left more, length_front r.head);
  }

  pub finished_front : (offset : ℕ) → Settled offset left → unfinished offset (left ++ more) ≡ false
  unfolding unfinished
  finished_front offset r = cases (misframed offset left) refl
    where
      here : Settled offset (left ++ more)
      here = settled_front offset r

      cases : (m : Bool) → misframed offset left ≡ m
          → (ltb (length (left ++ more)) 4
          || (not (misframed offset (left ++ more)) && ltb (length (left ++ more)) (2 + u16_at (left ++ more) 0))) ≡ false
      cases true e = rw (le-ltb (length (left ++ more)) 4 here.head, misframed_front offset r.head ∙ e) refl
      cases false e =
          let m : misframed offset (left ++ more) ≡ false = misframed_front offset r.head ∙ e in
          rw (le-ltb (length (left ++ more)) 4 here.head, m, le-ltb (length (left ++ more)) (2 + u16_at (left ++ more) 0) (here.whole m)) refl
