-- A shelf fits the row before it exactly when it is placed, in a column up to the current one.
use Prim.Native.Nat.{ℕ, zero, suc, ◌+◌, ◌*◌, ◌≤◌}
use mathlib.Core.Path.{◌≡◌, refl, sym, ap, ◌∙◌}
use mathlib.Core.Logic.{◌≢◌, ◌⊎◌, inl, inr, ⊎_elim}
use mathlib.Core.List.{List}
use native.Mathlib.Decide.{ℕ_discrete}
use native.Mathlib.Omega.{arith}
use borrow.Author.Tests.{eq-eqb, ne_eqb}
use Rattle.rules.specs.Tables.{Atlas, shelf_at}
use Rattle.rules.specs.Return.{top_of}
use Rattle.rules.specs.Sound.{column_of, Stacked}
use Rattle.laws.proofs.Numbers.Rounding.{one_more}
use Rattle.laws.proofs.Sound.Lies.{column_same, column_next, column_zero}
use Rattle.standing.specs.declared.shelves.Row.{Row}
use Rattle.standing.specs.Rows.{OnRow, row_next}
use Rattle.sound.specs.Rows.{opened_by, top_before, RowAt}

opened_next : (s : List ℕ) (i : ℕ) → (shelf_at s i).y ≡ 0 → column_of s i ≡ opened_by s i
opened_next s zero e = column_zero s
opened_next s (suc i) e = column_next s i e

opened_same : (s : List ℕ) (i : ℕ) → i ≢ 0 → (shelf_at s i).y ≢ 0 → column_of s i + 1 ≡ opened_by s i
opened_same s zero z ne = absurd (z refl)
opened_same s (suc i) z ne = ap (λ (c : ℕ). c + 1) (column_same s i ne)

top_zero : (s : List ℕ) (i : ℕ) → i ≡ 0 → top_before s i ≡ 0
top_zero s zero e = refl
top_zero s (suc i) e = absurd (omega arith)

top_is : (s : List ℕ) (i j : ℕ) → i ≡ suc j → top_before s i ≡ top_of (shelf_at s j)
top_is s i j e = ap (top_before s) e

stands : (s : List ℕ) (i : ℕ) → i ≢ 0 → (shelf_at s i).y ≢ 0
    → ((j : ℕ) → i ≡ suc j → ((shelf_at s i).y ≡ 0) ⊎ ((shelf_at s i).y ≡ top_of (shelf_at s j))) → (shelf_at s i).y ≡ top_before s i
stands s zero z ne f = absurd (z refl)
stands s (suc i) z ne f = ⊎_elim (λ e. absurd (ne e)) (λ e. e) (f i refl)

module _ {g : Atlas} {i : ℕ} {r : Row} (at : RowAt g i r) where
  -- one that opens no column is not the first
  fits_later : OnRow g.head r (shelf_at g.shelves i) → (shelf_at g.shelves i).y ≢ 0 → i ≢ 0
  fits_later f ne z = ne ((f.stays ne).y ∙ at.top ∙ top_zero g.shelves i z)

  pub fits_stacked : OnRow g.head r (shelf_at g.shelves i) → Stacked g i
  fits_stacked f = record {
    x = elim (ℕ_discrete (shelf_at g.shelves i).y 0) [
      | yes e ↦ (f.opens e).x ∙ at.left ∙ ap (λ (c : ℕ). c * g.head.column_width) (sym (opened_next g.shelves i e))
      | no ne ↦
          let q : column_of g.shelves i + 1 ≡ opened_by g.shelves i = opened_same g.shelves i (fits_later f ne) ne in
          omega (
            arith,
            (f.stays ne).x,
            at.left,
            ap (λ (c : ℕ). c * g.head.column_width) q,
            one_more (column_of g.shelves i) g.head.column_width,
          )
    ];
    top = f.top;
    starts = λ e. (f.opens e).high;
    first = λ z. elim (ℕ_discrete (shelf_at g.shelves i).y 0) [ yes e ↦ e | no ne ↦ absurd (fits_later f ne z) ];
    follows = λ j q. elim (ℕ_discrete (shelf_at g.shelves i).y 0) [
      | yes e ↦ inl e
      | no ne ↦ inr ((f.stays ne).y ∙ at.top ∙ top_is g.shelves i j q)
    ];
  }

  pub stacked_fits : Stacked g i → column_of g.shelves i ≤ g.head.column → OnRow g.head r (shelf_at g.shelves i)
  stacked_fits p l = record {
    top = p.top;
    opens = λ e. record {
      high = p.starts e;
      column = omega (arith, opened_next g.shelves i e, at.opened);
      x = p.x ∙ ap (λ (c : ℕ). c * g.head.column_width) (opened_next g.shelves i e) ∙ sym at.left;
    };
    stays = λ ne.
        let z : i ≢ 0 = λ e. ne (p.first e) in
        record {
          y = stands g.shelves i z ne p.follows ∙ sym at.top;
          x = omega (
            arith,
            p.x,
            at.left,
            ap (λ (c : ℕ). c * g.head.column_width) (opened_same g.shelves i z ne),
            one_more (column_of g.shelves i) g.head.column_width,
          );
        };
  }

  pub row_more : OnRow g.head r (shelf_at g.shelves i) → RowAt g (suc i) (row_next g.head r (shelf_at g.shelves i))
  unfolding row_next
  row_more f = elim (ℕ_discrete (shelf_at g.shelves i).y 0) [
    | yes e ↦
        let q : column_of g.shelves i ≡ opened_by g.shelves i = opened_next g.shelves i e in
        simp (eq-eqb (shelf_at g.shelves i).y 0 e) (record {
          opened = omega (arith, q, at.opened);
          left = omega (
            arith,
            at.left,
            ap (λ (c : ℕ). c * g.head.column_width) q,
            one_more (column_of g.shelves i) g.head.column_width,
          );
          top = refl;
          column = omega (arith, (f.opens e).column);
        })
    | no ne ↦
        let q : column_of g.shelves i + 1 ≡ opened_by g.shelves i = opened_same g.shelves i (fits_later f ne) ne in
        simp (ne_eqb (shelf_at g.shelves i).y 0 ne) (record {
          opened = omega (arith, q, at.opened);
          left = at.left ∙ ap (λ (c : ℕ). c * g.head.column_width) (sym q);
          top = refl;
          column = at.column;
        })
  ]
