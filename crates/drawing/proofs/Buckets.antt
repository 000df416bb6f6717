-- The lines of a bucket's parts, of a chain's and of all shelves', one behind another; and where `requires` come from.
use Prim.Native.Nat.{ℕ, suc, ◌+◌, ◌≤◌, ◌<◌}
use mathlib.Core.Path.{◌≡◌, refl, sym, ap, ◌∙◌}
use mathlib.Core.Logic.{◌≢◌}
use mathlib.Core.List.{List, [], ◌++◌, append-nil}
use native.Mathlib.Omega.{arith}
use native.Mathlib.Decide.{ℕ_discrete}
use native.Mathlib.Numerals.{add-one}
use borrow.Author.Tests.{eq-eqb, ne_eqb}
use lib.ListN.{length, length-append}
use lib.Seq.{sets, length-sets}
use Rattle.rules.specs.declared.Shelf.{Shelf}
use Rattle.rules.specs.declared.Bucket.{Bucket}
use Rattle.rules.specs.Limits.{records_most, none}
use Rattle.rules.specs.Tables.{Atlas, shelf_at, bucket_at}
use Rattle.rules.specs.Chains.{next, first, chain, chain_of}
use Rattle.rules.specs.Sound.{Sound}
use Rattle.rules.specs.Picture.{used_part, free_part, parts, parts_along, parts_to, rect_line, lines_of}
use Rattle.laws.proofs.Chains.Count.{hit_same}
use Rattle.laws.proofs.Chains.Links.{ChainStep, chain_end}
use Rattle.laws.proofs.Files.Puts.{sets_append}
use Rattle.laws.proofs.Sound.Within.{BucketWithin, bucket_within}
use Rattle.laws.proofs.Picture.Lines.{lines_along, lines_to, lines_rise}
use Rattle.chains.proofs.Laws.{shelf_walkable, walk_rest}
use Rattle.lines.specs.Put.{Put}
use Rattle.lines.proofs.Puts.{put_then}
use Rattle.drawing.specs.Drawable.{Spanned, DrawableChain}
use Rattle.drawing.proofs.Rooms.{room_then}

-- ---- a bucket

module _ (s : Shelf) (v : Bucket) where
  pub parts_one : v.free ≡ 0 → lines_of (parts s v) ≡ rect_line (used_part s v)
  unfolding parts
  parts_one e = simp (eq-eqb v.free 0 e) (append-nil (rect_line (used_part s v)))

  pub parts_two : v.free ≢ 0 → lines_of (parts s v) ≡ rect_line (used_part s v) ++ rect_line (free_part s v)
  unfolding parts
  parts_two ne = simp (ne_eqb v.free 0 ne) (ap (λ (xs : List ℕ). rect_line (used_part s v) ++ xs) (append-nil (rect_line (free_part s v))))

  pub parts_start : length (rect_line (used_part s v)) ≤ length (lines_of (parts s v))
  parts_start = elim (ℕ_discrete v.free 0) [
    | yes e ↦ rw (parts_one e) (omega arith)
    | no ne ↦ rw (parts_two ne) (omega (arith, length-append (rect_line (used_part s v)) (rect_line (free_part s v))))
  ]

-- ---- a chain: what is there with the rest behind it is the whole

pub record Going (from out : List ℕ) (at end : ℕ) (all rest : List ℕ) : Type 0 where
  pub is : sets out end rest ≡ sets from at all
  pub ends : end + length rest ≡ at + length all

pub going_start : (out : List ℕ) (at : ℕ) (all : List ℕ) → Going out out at at all all
going_start out at all = record { is = refl; ends = refl }

pub going_room : {from out all : List ℕ} {at end n : ℕ} (xs rest : List ℕ) → Going from out at end all (xs ++ rest) → at + length all ≤ n → end + length xs ≤ n
going_room xs rest p h = omega (arith, p.ends, length-append xs rest)

pub going_length : {from out all rest : List ℕ} {at end : ℕ} → Going from out at end all rest → length out ≡ length from
going_length {from} {out} {all} {rest} {at} {end} p = sym (length-sets out end rest) ∙ ap length p.is ∙ length-sets from at all

pub going_turn : {from out after all : List ℕ} {at end to : ℕ} (xs rest : List ℕ) → Going from out at end all (xs ++ rest) → Put out after end to xs
    → Going from after at to all rest
going_turn {from} {out} {after} {all} {at} {end} {to} xs rest p q = record {
  is = rw (q.is, q.ends) (sym (sets_append xs rest out end) ∙ p.is);
  ends = omega (arith, p.ends, q.ends, length-append xs rest);
}

pub going_end : {from out all : List ℕ} {at end : ℕ} → Going from out at end all [] → Put from out at end all
going_end p = record { ends = omega (arith, p.ends); is = p.is }

-- the lines from bucket k on
abbrev pub lines_from : List ℕ → Shelf → ℕ → List ℕ
lines_from b s k = lines_of (parts_along b s (chain b k))

pub from_end : (b : List ℕ) (s : Shelf) (k : ℕ) → k ≡ none → lines_from b s k ≡ []
from_end b s k e = rw (chain_end b k e) refl

module _ {b : List ℕ} (s : Shelf) {k : ℕ} (step : ChainStep b records_most k) where
  pub from_turn : lines_from b s k ≡ lines_of (parts s (bucket_at b k)) ++ lines_from b s (next b k)
  from_turn = rw step.turn (lines_along b s k (chain b (next b k)))

  pub drawable_here : DrawableChain b s k → Spanned s (bucket_at b k)
  drawable_here p = p.spanned k (rw step.turn (omega (arith, hit_same k)))

  pub drawable_rest : DrawableChain b s k → DrawableChain b s (next b k)
  drawable_rest p = record { walk = walk_rest p.walk step; spanned = λ j c. p.spanned j (rw step.turn (omega arith)) }

-- ---- the shelves

pub shelf_drawable : {g : Atlas} → Sound g → (i : ℕ) → i < g.head.shelf_count
    → DrawableChain g.buckets (shelf_at g.shelves i) (first g.shelves i)
shelf_drawable {g} p i l = record {
  walk = shelf_walkable p.steady i l;
  spanned = λ k c.
      let w : BucketWithin g i k = bucket_within p.steady i k l c in
      record { free = ((p.steady.stocked i l).counted k c).free; right = omega (arith, w.across, p.steady.domain.width) };
}

pub put_none : (out : List ℕ) (at : ℕ) → Put out out at at []
put_none out at = record { ends = omega arith; is = refl }

-- those of the first i
module _ (g : Atlas) {from mid : List ℕ} {at m : ℕ} (i : ℕ) (p : Put from mid at m (lines_of (parts_to g i))) where
  -- the lines of shelf i
  abbrev pub lines_at : List ℕ
  lines_at = lines_of (parts_along g.buckets (shelf_at g.shelves i) (chain_of g i))

  pub shelf_room : {n : ℕ} (count : ℕ) → i < count → at + length (lines_of (parts_to g count)) ≤ n → m + length lines_at ≤ n
  shelf_room {n} count l h =
      let all : at + length (lines_of (parts_to g (suc i))) ≤ n = omega (arith, lines_rise g (suc i) count (omega arith)) in
      room_then lines_at p (rw (lines_to g i) at all)

  pub shelf_turn : {after : List ℕ} {end : ℕ} → Put mid after m end lines_at → Put from after at end (lines_of (parts_to g (i + 1)))
  shelf_turn q = rw (add-one i, lines_to g i) (put_then p q)
