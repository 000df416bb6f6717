-- A shelf popped, seen from the header: the current column and its room step back as document 01 says, and columns and places stay sound.
use Prim.Native.Nat.{ℕ, zero, suc, ◌+◌, ◌-◌, ◌≤◌, ◌<◌}
use mathlib.Core.Path.{◌≡◌, refl, sym, ap}
use mathlib.Core.Logic.{◌≢◌, ◌⊎◌, inl, inr, ⊎_elim}
use mathlib.Core.List.{List}
use native.Mathlib.Decide.{ℕ_discrete, dec_lt}
use native.Mathlib.Omega.{arith}
use borrow.Author.Tests.{eq-eqb, ne_eqb, lt-ltb, le-ltb}
use Rattle.rules.specs.declared.Head.{Head}
use Rattle.rules.specs.Tables.{Atlas, shelf_at, with_room}
use Rattle.rules.specs.Return.{top_of, popped, stepped_back}
use Rattle.rules.specs.Sound.{column_of, Stacked, Columns}
use Rattle.laws.proofs.Sound.Lies.{column_same, column_next, column_zero}

module _ (s : List ℕ) (m : ℕ) (h : Head) where
  pub steps_back : (shelf_at s m).y ≡ 0 → 0 < h.column → stepped_back s m h ≡ with_room h (h.column - 1) (h.height - top_of (shelf_at s (m - 1)))
  unfolding stepped_back
  steps_back e l = simp (eq-eqb _ _ e, lt-ltb _ _ l)

  pub stays : ((shelf_at s m).y ≢ 0) ⊎ (h.column ≡ 0) → stepped_back s m h ≡ with_room h h.column (h.room + (shelf_at s m).height)
  unfolding stepped_back
  stays p = elim (ℕ_discrete (shelf_at s m).y 0) [
    | no ne ↦ simp (ne_eqb _ _ ne)
    | yes e ↦ simp (eq-eqb _ _ e, le-ltb 0 h.column (⊎_elim (λ ne. absurd (ne e)) (λ z. omega arith) p))
  ]

  -- nothing but the column and its room changes
  pub stepped_is : stepped_back s m h ≡ with_room h (stepped_back s m h).column (stepped_back s m h).room
  stepped_is = elim (ℕ_discrete (shelf_at s m).y 0) [
    | no ne ↦ let e = stays (inl ne) in rw e
    | yes q ↦ elim (dec_lt 0 h.column) [
      | yes l ↦ let e = steps_back q l in rw e
      | no n ↦ let e = stays (inr (omega arith)) in rw e
    ]
  ]

  pub stepped_low : (stepped_back s m h).column ≤ h.column
  stepped_low = elim (ℕ_discrete (shelf_at s m).y 0) [
    | no ne ↦ rw (stays (inl ne)) (omega arith)
    | yes q ↦ elim (dec_lt 0 h.column) [
      | yes l ↦ rw (steps_back q l) (omega arith)
      | no n ↦ rw (stays (inr (omega arith))) (omega arith)
    ]
  ]

-- ---- the column and its room after the pop: those of the shelf before, or none

pub stepped_last : (s : List ℕ) (i : ℕ) (h : Head) → column_of s (suc i) ≡ h.column → h.room + top_of (shelf_at s (suc i)) ≡ h.height
    → top_of (shelf_at s i) ≤ h.height → ((shelf_at s (suc i)).y ≡ 0) ⊎ ((shelf_at s (suc i)).y ≡ top_of (shelf_at s i))
    → (column_of s i ≡ (stepped_back s (suc i) h).column) × ((stepped_back s (suc i) h).room + top_of (shelf_at s i) ≡ h.height)
stepped_last s i h ec er lt f = elim (ℕ_discrete (shelf_at s (suc i)).y 0) [
  | yes q ↦
      let z : suc i - 1 ≡ i = omega arith in
      let c : column_of s (suc i) ≡ column_of s i + 1 = column_next s i q in
      rw (steps_back s (suc i) h q (omega arith), z) (omega arith, omega arith)
  | no ne ↦
      let c : column_of s (suc i) ≡ column_of s i = column_same s i ne in
      let y : (shelf_at s (suc i)).y ≡ top_of (shelf_at s i) = ⊎_elim (λ e. absurd (ne e)) (λ e. e) f in
      rw (stays s (suc i) h (inl ne)) (omega arith, omega arith)
]

pub stepped_none : (s : List ℕ) (h : Head) → column_of s 0 ≡ h.column → h.room + top_of (shelf_at s 0) ≡ h.height → (shelf_at s 0).y ≡ 0
    → ((stepped_back s 0 h).column ≡ 0) × ((stepped_back s 0 h).room ≡ h.height)
stepped_none s h ec er ey =
    let c : column_of s 0 ≡ 0 = column_zero s in
    rw (stays s 0 h (inr (omega arith))) (omega arith, omega arith)

-- ---- over the tables: shelf m, the last, is popped

pub pop_stacked : (m : ℕ) (g : Atlas) (i : ℕ) → Stacked g i → Stacked (popped m g) i
unfolding popped
pop_stacked m g i p =
    let e = stepped_is g.shelves m g.head in
    let ew : (stepped_back g.shelves m g.head).column_width ≡ g.head.column_width = ap (λ (h : Head). h.column_width) e in
    let eh : (stepped_back g.shelves m g.head).height ≡ g.head.height = ap (λ (h : Head). h.height) e in
    record { x = rw ew p.x; top = rw eh p.top; starts = p.starts; first = p.first; follows = p.follows }

pop_last : (m : ℕ) (g : Atlas) → Columns g → ((i : ℕ) → i < suc m → Stacked g i) → g.head.shelf_count ≡ suc m → (i : ℕ) → suc i ≡ m
    → (column_of g.shelves i ≡ (stepped_back g.shelves m g.head).column)
    × ((stepped_back g.shelves m g.head).room + top_of (shelf_at g.shelves i) ≡ g.head.height)
pop_last zero g c p em i e = absurd (omega arith)
pop_last (suc j) g c p em i e =
    let z : i ≡ j = omega arith in
    let l = c.last (suc j) (sym em) in
    rw z (stepped_last g.shelves j g.head l.0 l.1 (p j (omega arith)).top ((p (suc j) (omega arith)).follows j refl))

pop_empty : (m : ℕ) (g : Atlas) → Columns g → ((i : ℕ) → i < suc m → Stacked g i) → g.head.shelf_count ≡ suc m → m ≡ 0
    → ((stepped_back g.shelves m g.head).column ≡ 0) × ((stepped_back g.shelves m g.head).room ≡ g.head.height)
pop_empty zero g c p em e = let l = c.last 0 (sym em) in stepped_none g.shelves g.head l.0 l.1 ((p 0 (omega arith)).first refl)
pop_empty (suc j) g c p em e = absurd (omega arith)

pub pop_columns : (m : ℕ) (g : Atlas) → g.head.shelf_count ≡ suc m → ((i : ℕ) → i < suc m → Stacked g i) → Columns g → Columns (popped m g)
unfolding popped
pop_columns m g em p c =
    let e = stepped_is g.shelves m g.head in
    let ew : (stepped_back g.shelves m g.head).width ≡ g.head.width = ap (λ (h : Head). h.width) e in
    let ec : (stepped_back g.shelves m g.head).columns ≡ g.head.columns = ap (λ (h : Head). h.columns) e in
    let el : (stepped_back g.shelves m g.head).column_width ≡ g.head.column_width = ap (λ (h : Head). h.column_width) e in
    let eh : (stepped_back g.shelves m g.head).height ≡ g.head.height = ap (λ (h : Head). h.height) e in
    record {
      fit = rw (ec, el, ew) c.fit;
      current = omega (arith, c.current, stepped_low g.shelves m g.head);
      empty = λ z. rw eh (pop_empty m g c p em z);
      last = λ i z. rw eh (pop_last m g c p em i z);
    }
