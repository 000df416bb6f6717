-- The filler: it is laid once, what it leaves for the shelf after it, and when it would bring the bucket count to 4,095.
use Prim.Native.Nat.{ℕ, ◌-◌, ◌≤◌, ◌<◌}
use mathlib.Core.Path.{◌≡◌, refl, sym, ap, ◌∙◌, subst}
use mathlib.Core.Logic.{◌≢◌, inl, inr}
use mathlib.Core.Bool.{true, false, ◌&&◌}
use native.Mathlib.Omega.{arith}
use native.Mathlib.Decide.{ℕ_discrete}
use borrow.Author.Tests.{eq-eqb, ne_eqb, eqb-false}
use lib.Dec.{eqb}
use lib.ListN.{length}
use Rattle.rules.specs.declared.Head.{Head}
use Rattle.std.specs.Prelude.{if◌then◌else◌}
use Rattle.rules.specs.Limits.{records_most, none}
use Rattle.rules.specs.Builds.{present}
use Rattle.rules.specs.BucketCount.{bucket_count}
use Rattle.rules.specs.Tables.{Atlas, atlas}
use Rattle.rules.specs.NewShelf.{short, opened, count_for, plain_shelf, filled, new_shelf, filler_ends}
use Rattle.laws.proofs.Tests.Flags.{split, and_not}
use Rattle.laws.proofs.Chains.Links.{chain_step, chain_end}
use Rattle.laws.proofs.Numbers.BucketCount.{bucket_count_room, bucket_count_some}
use Rattle.store.proofs.Adding.{Counts}
use Rattle.measures.specs.Needs.{Ready, CanPlainShelf, CanNewShelf}
use Rattle.measures.proofs.Columns.{short_says, short_enough, open_not, tall_all}
use Rattle.measures.proofs.Shelving.{plain_ready, plain_few, plain_counts, plain_column}

-- ---- the same step called once more

-- the filler's own call lays no filler
pub fill_once : (w : ℕ) (g : Atlas) → new_shelf present w g.head.room g ≡ plain_shelf present w g.head.room g
unfolding new_shelf filled
fill_once w g = simp (sym (short_enough g.head g.head.room (omega arith)))

pub new_short : (w height : ℕ) (g : Atlas) → short height g.head ≡ true
    → new_shelf present w height g ≡ plain_shelf present w height (plain_shelf present 0 g.head.room g)
unfolding new_shelf filled
new_short w height g e = simp e

pub new_plain : (w height : ℕ) (g : Atlas) → short height g.head ≡ false → new_shelf present w height g ≡ plain_shelf present w height g
unfolding new_shelf filled
new_plain w height g e = simp e

-- the falling number of the call for the filler
pub filler_falls : (height : ℕ) (h : Head) → short height h ≡ true
    → (if eqb h.room h.room then 0 else 1) < (if eqb h.room height then 0 else 1)
filler_falls height h e =
    let l : h.room < height = (short_says h height e).less in
    simp (eq-eqb h.room h.room refl, ne_eqb h.room height (omega arith)) (omega arith)

-- ---- when it would end the table

ends_plain : (height : ℕ) (g : Atlas) → short height g.head ≡ false → false ≡ filler_ends present height g
unfolding filler_ends
ends_plain height g e = simp e

ends_short : (height : ℕ) (g : Atlas) → short height g.head ≡ true
    → filler_ends present height g ≡ eqb (plain_shelf present 0 g.head.room g).head.bucket_count records_most
unfolding filler_ends filled
ends_short height g e = simp e

-- ---- what each call needs

module _ (height : ℕ) (g : Atlas) (e : short height g.head ≡ true) (r : Ready g) (few : g.head.bucket_count < records_most) where
  -- the filler
  filler_plain : CanPlainShelf g.head.room g
  filler_plain = record { ready = r; asked = (short_says g.head height e).some; add = record { room = inl (omega arith); buckets = few } }

  pub filler_place : CanNewShelf g.head.room g
  filler_place = record {
    plain = filler_plain;
    filler = sym (ends_plain g.head.room g (sym (short_enough g.head g.head.room (omega arith))));
  }

  -- its bucket count, and the number of buckets after it
  filler_open : g.head ≡ opened g.head
  filler_open = open_not g.head (omega (arith, (short_says g.head height e).some))

  filler_counts : Counts (bucket_count present g.head.column_width 0 g.head.room g.head.bucket_count) g (plain_shelf present 0 g.head.room g)
  filler_counts =
      let t = plain_counts 0 g.head.room g filler_plain in
      let u : Counts (count_for present 0 g.head.room g.head) g (plain_shelf present 0 g.head.room g) =
      subst (λ (o : Head). Counts (count_for present 0 g.head.room o) (atlas o g.shelves g.buckets) (plain_shelf present 0 g.head.room g))
      (sym filler_open) t in
      rw (tall_all g.head) at u

  -- a released bucket goes to the filler: the count does not reach 4,095
  ends_spare : g.head.released ≢ none → false ≡ filler_ends present height g
  ends_spare n =
      let s = chain_step g.buckets g.head.bucket_count g.head.released (omega arith) r.released n in
      let l = ap length s.turn in
      let t = filler_counts in
      let k : ℕ = bucket_count present g.head.column_width 0 g.head.room g.head.bucket_count in
      let less : (plain_shelf present 0 g.head.room g).head.bucket_count < records_most = omega (
        arith,
        bucket_count_room present g.head.column_width 0 g.head.room g.head.bucket_count,
        bucket_count_some present g.head.column_width 0 g.head.room g.head.bucket_count few,
      ) in
      sym (ends_short height g e ∙ ne_eqb (plain_shelf present 0 g.head.room g).head.bucket_count records_most (omega arith))

  -- none is released: the filler's count equals 4,095 less the bucket count
  pub ends_full : g.head.released ≡ none
      → eqb (bucket_count present g.head.column_width 0 g.head.room g.head.bucket_count) (records_most - g.head.bucket_count)
      ≡ filler_ends present height g
  ends_full z =
      let l = ap length (chain_end g.buckets g.head.released z) in
      let t = filler_counts in
      let k : ℕ = bucket_count present g.head.column_width 0 g.head.room g.head.bucket_count in
      let room : k ≤ records_most - g.head.bucket_count = bucket_count_room present g.head.column_width 0 g.head.room g.head.bucket_count in
      elim (ℕ_discrete k (records_most - g.head.bucket_count)) [
        | yes q ↦ eq-eqb k (records_most - g.head.bucket_count) q
            ∙ sym (ends_short height g e ∙ eq-eqb (plain_shelf present 0 g.head.room g).head.bucket_count records_most (omega arith))
        | no n ↦ ne_eqb k (records_most - g.head.bucket_count) n
            ∙ sym (ends_short height g e ∙ ne_eqb (plain_shelf present 0 g.head.room g).head.bucket_count records_most (omega arith))
      ]

  -- the shelf after the filler, where the filler does not end the table
  pub after_filler : 1 ≤ height → filler_ends present height g ≡ false → CanPlainShelf height (plain_shelf present 0 g.head.room g)
  after_filler a q =
      let n : (plain_shelf present 0 g.head.room g).head.bucket_count ≢ records_most =
      eqb-false (plain_shelf present 0 g.head.room g).head.bucket_count records_most (sym (ends_short height g e) ∙ q) in
      let o = ap (λ (h : Head). h.column) filler_open in
      let p = ap (λ (h : Head). h.columns) filler_open in
      let s = (short_says g.head height e).another in
      let v = plain_column 0 g.head.room g filler_plain in
      record {
        ready = plain_ready 0 g.head.room g filler_plain;
        asked = a;
        add = record { room = inr (omega arith); buckets = omega (arith, plain_few 0 g.head.room g filler_plain) };
      }

-- no filler, or a released bucket for it
pub ends_not : (height : ℕ) (g : Atlas) → (short height g.head && eqb g.head.released none) ≡ false
    → Ready g → g.head.bucket_count < records_most → false ≡ filler_ends present height g
ends_not height g q r few = split (short height g.head)
    (λ e. ends_spare height g e r few (eqb-false _ _ (and_not (short height g.head) (eqb g.head.released none) q e)))
    (λ e. ends_plain height g e)
