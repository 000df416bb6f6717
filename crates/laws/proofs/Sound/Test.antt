-- The test of the rules is true exactly when the tables are sound: clause by clause.
-- `is_sound` is true exactly when `Sound` holds, of every build: `sound_tells`, and `sound_test` as a pair.
use Prim.Native.Nat.{ℕ, zero, suc, ◌+◌, ◌*◌, ◌≤◌}
use mathlib.Core.Bool.{Bool, true, false, ◌&&◌, not}
use mathlib.Core.Path.{◌≡◌, refl, subst}
use mathlib.Core.Logic.{◌⊎◌}
use mathlib.Core.List.{List, [], ◌∷◌}
use native.Mathlib.Omega.{arith}
use lib.Dec.{eqb, leb}
use Rattle.rules.specs.declared.Bucket.{Bucket}
use Rattle.rules.specs.declared.Head.{Head}
use Rattle.rules.specs.declared.Shelf.{Shelf}
use Rattle.std.specs.Prelude.{if◌then◌else◌}
use Rattle.rules.specs.Builds.{Build, renews}
use Rattle.rules.specs.Limits.{records_most, none, side_most, option_most}
use Rattle.rules.specs.Tables.{Atlas, bucket_at, shelf_at}
use Rattle.rules.specs.Chains.{count, sum_to, chain_of, released_of, next, first, Linked}
use Rattle.rules.specs.Return.{top_of}
use Rattle.rules.specs.Sound.{Ordered, Counted, Stocked, used_on, Steady, Chained, Rested, SoundBy, is_lent, Lent, Domain, column_of, LastUsed, Stacked}
use Rattle.rules.specs.Sound.{Columns, within}
use Rattle.rules.specs.Sound.{is_domain, is_columns, is_next, is_stacked, is_linked, is_chained, is_ordered, is_counted, is_stocked, is_last_used, is_steady}
use Rattle.rules.specs.Sound.{is_rested, is_sound_by}
use Rattle.laws.proofs.Tests.Tells.{Tells, false_true, tells_leb, tells_ltb, tells_eqb, tells_map, tells_not}
use Rattle.laws.proofs.Tests.Tells.{tells_and, tells_or, tells_if, tells_to, tells_of, tells_any, tells_last}

pub lent_test : (s b : List ℕ) → Tells (is_lent s b) (Lent s b)
unfolding is_lent
lent_test s b = tells_map (tells_and _ _ (tells_leb _ _) (tells_leb _ _))
    (λ h. record { shelves = h.0; buckets = h.1 })
    (λ h. (h.shelves, h.buckets))

within_test : (n m : ℕ) → Tells (within n m) ((1 ≤ n) × (n ≤ m))
within_test n m = tells_and (leb 1 n) (leb n m) (tells_leb 1 n) (tells_leb n m)

pub domain_test : (h : Head) → Tells (is_domain h) (Domain h)
unfolding is_domain
domain_test h = tells_map
    (tells_and _ _ (tells_and _ _ (tells_and _ _ (tells_and _ _ (tells_and _ _ (tells_and _ _ (tells_and _ _
    (within_test h.width side_most)
    (within_test h.height side_most))
    (within_test h.align_width option_most))
    (within_test h.align_height option_most))
    (within_test h.columns option_most))
    (tells_leb 1 h.column_width))
    (tells_leb h.shelf_count records_most))
    (tells_leb h.bucket_count records_most))
    (λ d. record {
      width = d.0.0.0.0.0.0.0;
      height = d.0.0.0.0.0.0.1;
      align_width = d.0.0.0.0.0.1;
      align_height = d.0.0.0.0.1;
      columns = d.0.0.0.1;
      column_width = d.0.0.1;
      shelves = d.0.1;
      buckets = d.1;
    })
    (λ d. (((((((d.width, d.height), d.align_width), d.align_height), d.columns), d.column_width), d.shelves), d.buckets))

pub columns_test : (g : Atlas) → Tells (is_columns g) (Columns g)
unfolding is_columns
columns_test g = tells_map
    (tells_and _ _ (tells_and _ _ (tells_and _ _
    (tells_leb (g.head.columns * g.head.column_width) g.head.width)
    (tells_ltb g.head.column g.head.columns))
    (tells_if _ _ (tells_eqb g.head.shelf_count 0) (tells_and _ _ (tells_eqb g.head.column 0) (tells_eqb g.head.room g.head.height))))
    (tells_last g.head.shelf_count
    (λ i. eqb (column_of g.shelves i) g.head.column && eqb (g.head.room + top_of (shelf_at g.shelves i)) g.head.height)
    (λ i. (column_of g.shelves i ≡ g.head.column) × (g.head.room + top_of (shelf_at g.shelves i) ≡ g.head.height))
    (λ i. tells_and _ _ (tells_eqb (column_of g.shelves i) g.head.column)
    (tells_eqb (g.head.room + top_of (shelf_at g.shelves i)) g.head.height))))
    (λ h. record { fit = h.0.0.0; current = h.0.0.1; empty = h.0.1; last = h.1 })
    (λ h. (((h.fit, h.current), h.empty), h.last))

-- y of shelf i, after the shelf before it
Next : List ℕ → ℕ → Type 0
Next s i = (i ≡ 0 → (shelf_at s i).y ≡ 0) × ((j : ℕ) → i ≡ suc j → ((shelf_at s i).y ≡ 0) ⊎ ((shelf_at s i).y ≡ top_of (shelf_at s j)))

next_test : (s : List ℕ) (i : ℕ) → Tells (is_next s i) (Next s i)
unfolding Next
next_test s zero = tells_map (tells_eqb (shelf_at s zero).y 0) (λ h. (λ e. h, λ j e. absurd (omega arith))) (λ h. h.0 refl)
next_test s (suc i) = tells_map (tells_or _ _ (tells_eqb (shelf_at s (suc i)).y 0) (tells_eqb (shelf_at s (suc i)).y (top_of (shelf_at s i))))
    (λ h. (
      λ e. absurd (omega arith),
      λ j e. let q : i ≡ j = omega arith in subst (λ (k : ℕ). ((shelf_at s (suc i)).y ≡ 0) ⊎ ((shelf_at s (suc i)).y ≡ top_of (shelf_at s k))) q h,
    ))
    (λ h. h.1 i refl)

pub stacked_test : (g : Atlas) (i : ℕ) → Tells (is_stacked g i) (Stacked g i)
unfolding is_stacked Next
stacked_test g i = tells_map
    (tells_and _ _ (tells_and _ _ (tells_and _ _
    (tells_eqb (shelf_at g.shelves i).x (column_of g.shelves i * g.head.column_width)) (tells_leb (top_of (shelf_at g.shelves i)) g.head.height))
    (tells_if _ _ (tells_eqb (shelf_at g.shelves i).y 0) (tells_leb 1 (shelf_at g.shelves i).height)))
    (next_test g.shelves i))
    (λ h. record { x = h.0.0.0; top = h.0.0.1; starts = h.0.1; first = h.1.0; follows = h.1.1 })
    (λ h. (((h.x, h.top), h.starts), (h.first, h.follows)))

pub linked_test : (f : ℕ → ℕ) (n i : ℕ) (xs : List ℕ) → Tells (is_linked f n i xs) (Linked f n i xs)
unfolding is_linked
linked_test f n i [] = tells_eqb i none
linked_test f n i (x ∷ xs) = tells_map (tells_and _ _ (tells_and _ _ (tells_eqb i x) (tells_ltb x n)) (linked_test f n (f x) xs))
    (λ h. (h.0.0, h.0.1, h.1))
    (λ h. ((h.0, h.1), h.2))

pub chained_test : (g : Atlas) → Tells (is_chained g) (Chained g)
unfolding is_chained
chained_test g = tells_map
    (tells_and _ _ (tells_and _ _
    (tells_to g.head.shelf_count _ _ (λ i. linked_test (next g.buckets) g.head.bucket_count (first g.shelves i) (chain_of g i)))
    (linked_test (next g.buckets) g.head.bucket_count g.head.released (released_of g)))
    (tells_to g.head.bucket_count _ _ (λ k. tells_eqb (sum_to g.head.shelf_count (λ i. count k (chain_of g i)) + count k (released_of g)) 1)))
    (λ h. record { shelf = h.0.0; released = h.0.1; once = h.1 })
    (λ h. ((h.shelf, h.released), h.once))

pub ordered_test : (b : List ℕ) (width left right : ℕ) (xs : List ℕ) → Tells (is_ordered b width left right xs) (Ordered b width left right xs)
unfolding is_ordered
ordered_test b width left right [] = record { holds = λ e. tt; shown = λ h. refl }
ordered_test b width left right (k ∷ ks) =
    tells_map
    (tells_and _ _ (tells_and _ _ (tells_leb left (bucket_at b k).x) (tells_leb ((bucket_at b k).x + width) right))
    (ordered_test b width left (bucket_at b k).x ks))
    (λ h. (h.0.0, h.0.1, h.1))
    (λ h. ((h.0, h.1), h.2))

-- the reference count, the free width and the shelf's height agree
Agrees : Shelf → Bucket → Type 0
Agrees s v = (v.refs ≡ 0 → v.free ≡ s.width) × (v.free ≡ s.width → v.refs ≡ 0) × (s.height ≡ 0 → v.refs ≡ 0)

agrees_test : (s : Shelf) (v : Bucket)
    → Tells (if eqb v.refs 0 then eqb v.free s.width else not (eqb v.free s.width) && not (eqb s.height 0)) (Agrees s v)
unfolding Agrees
agrees_test s v = by (eqb v.refs 0) (tells_eqb v.refs 0)
  where
    by : (c : Bool) → Tells c (v.refs ≡ 0)
        → Tells (if c then eqb v.free s.width else not (eqb v.free s.width) && not (eqb s.height 0)) (Agrees s v)
    by true t = tells_map (tells_eqb v.free s.width) (λ h. (λ e. h, λ e. t.holds refl, λ e. t.holds refl)) (λ h. h.0 (t.holds refl))
    by false t = tells_map (tells_and _ _ (tells_not _ (tells_eqb v.free s.width)) (tells_not _ (tells_eqb s.height 0)))
        (λ h. (λ e. false_true (t.shown e), λ e. absurd (h.0 e), λ e. absurd (h.1 e)))
        (λ h. (λ e. false_true (t.shown (h.1 e)), λ e. false_true (t.shown (h.2 e))))

pub counted_test : (i : ℕ) (s : Shelf) (v : Bucket) → Tells (is_counted i s v) (Counted i s v)
unfolding is_counted Agrees
counted_test i s v = tells_map
    (tells_and _ _ (tells_and _ _ (tells_and _ _ (tells_eqb v.shelf i) (tells_leb v.free s.width)) (tells_leb v.refs v.items)) (agrees_test s v))
    (λ h. record { shelf = h.0.0.0; free = h.0.0.1; whole = h.1.0; unused = h.1.1; items = h.0.1; flat = h.1.2 })
    (λ h. (((h.shelf, h.free), h.items), (h.whole, h.unused, h.flat)))

pub stocked_test : (g : Atlas) (i : ℕ) → Tells (is_stocked g i) (Stocked g i)
unfolding is_stocked
stocked_test g i = tells_map
    (tells_and _ _ (tells_and _ _ (tells_and _ _ (tells_not _ (tells_eqb (first g.shelves i) none))
    (ordered_test g.buckets (shelf_at g.shelves i).width (shelf_at g.shelves i).x ((shelf_at g.shelves i).x + g.head.column_width) (chain_of g i)))
    (tells_of (chain_of g i) _ _ (λ k. counted_test i (shelf_at g.shelves i) (bucket_at g.buckets k))))
    (tells_if _ _ (tells_eqb g.head.columns 1) (tells_leb 1 (shelf_at g.shelves i).width)))
    (λ h. record { some = h.0.0.0; ordered = h.0.0.1; counted = h.0.1; wide = h.1 })
    (λ h. (((h.some, h.ordered), h.counted), h.wide))

pub steady_test : (g : Atlas) → Tells (is_steady g) (Steady g)
unfolding is_steady
steady_test g = tells_map
    (tells_and _ _ (tells_and _ _ (tells_and _ _ (tells_and _ _ (tells_and _ _ (tells_and _ _ (tells_and _ _ (tells_and _ _
    (lent_test g.shelves g.buckets)
    (domain_test g.head))
    (columns_test g))
    (tells_to g.head.shelf_count _ _ (stacked_test g)))
    (chained_test g))
    (tells_to g.head.shelf_count _ _ (stocked_test g)))
    (tells_of (released_of g) _ _ (λ k. tells_eqb (bucket_at g.buckets k).refs 0)))
    (tells_eqb g.head.occupied (sum_to g.head.shelf_count (used_on g))))
    (tells_to g.head.bucket_count _ _ (λ k. tells_ltb (bucket_at g.buckets k).generation 256)))
    (λ h. record {
      lent = h.0.0.0.0.0.0.0.0;
      domain = h.0.0.0.0.0.0.0.1;
      columns = h.0.0.0.0.0.0.1;
      stacked = h.0.0.0.0.0.1;
      chained = h.0.0.0.0.1;
      stocked = h.0.0.0.1;
      released = h.0.0.1;
      occupied = h.0.1;
      generations = h.1;
    })
    (λ h. ((((((((h.lent, h.domain), h.columns), h.stacked), h.chained), h.stocked), h.released), h.occupied), h.generations))

pub last_used_test : (g : Atlas) → Tells (is_last_used g) (LastUsed g)
unfolding is_last_used
last_used_test g = tells_last g.head.shelf_count _ _ (λ i. tells_any (chain_of g i) _ _ (λ k. tells_ltb 0 (bucket_at g.buckets k).refs))

pub rested_test : (g : Atlas) → Tells (is_rested g) (Rested g)
unfolding is_rested
rested_test g = tells_to g.head.bucket_count _ _
    (λ k. tells_if _ _ (tells_eqb (bucket_at g.buckets k).refs 0) (tells_eqb (bucket_at g.buckets k).items 0))

pub sound_tells : {build : Build} (g : Atlas) → Tells (is_sound_by build g) (SoundBy build g)
unfolding is_sound_by
sound_tells {build} g =
    tells_map (tells_and _ _ (tells_and _ _ (steady_test g) (last_used_test g))
    (tells_if (renews build) (is_rested g) (record { holds = λ e. e; shown = λ e. e }) (rested_test g)))
    (λ h. record { steady = h.0.0; last_used = h.0.1; rested = h.1 })
    (λ h. ((h.steady, h.last_used), h.rested))

-- "The test says yes exactly then"
pub sound_test : {build : Build} (g : Atlas) → (is_sound_by build g ≡ true → SoundBy build g) × (SoundBy build g → is_sound_by build g ≡ true)
sound_test {build} g = ((sound_tells {build = build} g).holds, (sound_tells {build = build} g).shown)
