-- What the merge rule means: the run that it finds is mergeable and as high as its shelves together, and it finds one if a shelf starts one.
-- The test `follows` is true exactly when `Follows` holds: `follows_yes`, `follows_all`.
use Rattle.std.specs.Prelude.{Some, IfSome}
use Prim.Native.Nat.{ℕ, zero, suc, ◌+◌, ◌≤◌, ◌<◌}
use mathlib.Core.Bool.{Bool, true, ◌&&◌}
use mathlib.Core.Path.{◌≡◌, refl, sym, ap, ◌∙◌, subst}
use Rattle.std.proofs.lemmas.Option.{none-some}
use mathlib.Core.Logic.{◌⊎◌, inl, inr}
use native.Mathlib.Decide.{ℕ_discrete}
use native.Mathlib.Omega.{arith}
use borrow.Author.Tests.{le-leb, eq-eqb, ltb-true, leb-true, lt-ltb, eqb-true, leb-false}
use lib.Dec.{eqb, leb, ltb}
use Rattle.rules.specs.declared.MergeRun.{MergeRun}
use Rattle.rules.specs.Tables.{Atlas, shelf_at}
use Rattle.rules.specs.Chains.{sum_to, chain_of, next}
use Rattle.rules.specs.Merging.{merge_run, unreferenced, Unreferenced, Follows, height_of, follows, follow, run_at, first_run, Mergeable}
use Rattle.laws.proofs.Options.{split_option, if_some, if_either}
use Rattle.laws.proofs.Tests.Flags.{flag, and_l, and_r}
use Rattle.laws.proofs.Sound.Unreferenced.{unreferenced_yes, unreferenced_all}

-- ---- one follower

module _ {g : Atlas} where
  pub follows_yes : (i j : ℕ) → follows g i j ≡ true → Follows g i j
  unfolding follows
  follows_yes i j e =
      let there : Bool = ltb j g.head.shelf_count in
      let column : Bool = eqb (shelf_at g.shelves j).x (shelf_at g.shelves i).x in
      let both : (there && column) ≡ true = and_l (there && column) (unreferenced g.buckets (chain_of g j)) e in
      record {
        there = ltb-true j g.head.shelf_count (and_l there column both);
        column = eqb-true (shelf_at g.shelves j).x (shelf_at g.shelves i).x (and_r there column both);
        unreferenced = unreferenced_yes g.buckets (chain_of g j) (and_r (there && column) (unreferenced g.buckets (chain_of g j)) e);
      }

  pub follows_all : (i j : ℕ) → Follows g i j → follows g i j ≡ true
  unfolding follows
  follows_all i j f = simp (
    lt-ltb j g.head.shelf_count f.there,
    eq-eqb (shelf_at g.shelves j).x (shelf_at g.shelves i).x f.column,
    unreferenced_all g.buckets (chain_of g j) f.unreferenced,
  )

-- ---- a run

-- how many follow shelf i, and how high they are together
abbrev Reach : ℕ → Atlas → ℕ → ℕ → ℕ → Type 0
Reach h g i followers height =
    ((followers ≡ 1) × (height ≡ height_of g i + height_of g (i + 1)) × (h ≤ height))
    ⊎ ((followers ≡ 2) × Follows g i (i + 2) × (height ≡ height_of g i + height_of g (i + 1) + height_of g (i + 2)) × (h ≤ height))

pub record RunIs (w h : ℕ) (g : Atlas) (run : MergeRun) : Type 0 where
  pub mergeable : Mergeable w h g run.shelf
  pub reach : Reach h g run.shelf run.followers run.height

module _ (w h : ℕ) (g : Atlas) where
  follow_is : (i : ℕ) → w ≤ (shelf_at g.shelves i).width → Unreferenced g i → IfSome (follow h g i) (RunIs w h g)
  unfolding follow
  follow_is i a z = elim (flag (follows g i (i + 1))) [
    | inr e ↦ simp e tt
    | inl e ↦
        let f : Follows g i (i + 1) = follows_yes i (i + 1) e in
        elim (flag (leb h (height_of g i + height_of g (i + 1)))) [
          | inl p ↦
              let q : h ≤ height_of g i + height_of g (i + 1) = leb-true h (height_of g i + height_of g (i + 1)) p in
              simp (e, p) (record {
                mergeable = record { there = omega (arith, f.there); wide = a; unreferenced = z; next = f; reaches = inl q };
                reach = inl (refl, refl, q);
              })
          | inr p ↦ elim (flag (follows g i (i + 2) && leb h (height_of g i + height_of g (i + 1) + height_of g (i + 2)))) [
            | inr n ↦ simp (e, p, n) tt
            | inl y ↦
                let three : ℕ = height_of g i + height_of g (i + 1) + height_of g (i + 2) in
                let f2 : Follows g i (i + 2) = follows_yes i (i + 2) (and_l (follows g i (i + 2)) (leb h three) y) in
                let q : h ≤ three = leb-true h three (and_r (follows g i (i + 2)) (leb h three) y) in
                simp (e, p, y) (record {
                  mergeable = record { there = omega (arith, f.there); wide = a; unreferenced = z; next = f; reaches = inr (f2, q) };
                  reach = inr (refl, f2, refl, q);
                })
          ]
        ]
  ]

  run_at_is : (i : ℕ) → IfSome (run_at w h g i) (RunIs w h g)
  unfolding run_at
  run_at_is i =
      let wide : Bool = leb w (shelf_at g.shelves i).width in
      let empty : Bool = unreferenced g.buckets (chain_of g i) in
      elim (flag (leb w (shelf_at g.shelves i).width && unreferenced g.buckets (chain_of g i))) [
        | inr e ↦ simp e tt
        | inl e ↦ simp e (follow_is i (leb-true w (shelf_at g.shelves i).width (and_l wide empty e))
            (unreferenced_yes g.buckets (chain_of g i) (and_r wide empty e)))
      ]

  first_run_is : (k : ℕ) → IfSome (first_run w h g k) (RunIs w h g)
  unfolding first_run
  first_run_is zero = tt
  first_run_is (suc k) = if_either (RunIs w h g) (first_run w h g k) (run_at w h g k) (first_run_is k) (run_at_is k)

module _ {g : Atlas} (w h : ℕ) where
  pub run_mergeable : {run : MergeRun} → merge_run w h g ≡ Some run → RunIs w h g run
  unfolding merge_run
  run_mergeable e = if_some (RunIs w h g) (first_run_is w h g g.head.shelf_count) e

  mergeable_at : (i : ℕ) → Mergeable w h g i → (run : MergeRun) × (run_at w h g i ≡ Some run)
  unfolding run_at follow
  mergeable_at i m =
      let a = le-leb w (shelf_at g.shelves i).width m.wide in
      let z = unreferenced_all g.buckets (chain_of g i) m.unreferenced in
      let f = follows_all i (i + 1) m.next in
      elim (flag (leb h (height_of g i + height_of g (i + 1)))) [
        | inl p ↦ simp (a, z, f, p) ((_, refl))
        | inr p ↦ elim m.reaches [
          | inl q ↦ absurd (omega (arith, leb-false h (height_of g i + height_of g (i + 1)) p))
          | inr q ↦ simp (a, z, f, p, follows_all i (i + 2) q.0, le-leb h (height_of g i + height_of g (i + 1) + height_of g (i + 2)) q.1) ((_, refl))
        ]
      ]

  mergeable_to : (i : ℕ) → Mergeable w h g i → (k : ℕ) → i < k → (run : MergeRun) × (first_run w h g k ≡ Some run)
  unfolding first_run
  mergeable_to i m zero l = absurd (omega arith)
  mergeable_to i m (suc k) l = split_option (first_run w h g k)
      (λ e. elim (ℕ_discrete i k) [
        | yes q ↦ simp e (mergeable_at k (subst (λ (a : ℕ). Mergeable w h g a) q m))
        | no q ↦ absurd (none-some _ (sym e ∙ (mergeable_to i m k (omega arith)).1))
      ])
      (λ run e. simp e ((run, refl)))

  pub mergeable_run : (i : ℕ) → Mergeable w h g i → (run : MergeRun) × (merge_run w h g ≡ Some run)
  unfolding merge_run
  mergeable_run i m = mergeable_to i m g.head.shelf_count m.there

-- ---- the shelves of the run

-- shelf `shelf` and the `followers` after it stand in one column, none of them is referenced, and their heights add up to at least h
pub record RunFacts (w h : ℕ) (g : Atlas) (run : MergeRun) : Type 0 where
  pub there : run.shelf + run.followers < g.head.shelf_count
  pub some : 1 ≤ run.followers
  pub few : run.followers ≤ 2
  pub wide : w ≤ (shelf_at g.shelves run.shelf).width
  pub column : (j : ℕ) → run.shelf ≤ j → j ≤ run.shelf + run.followers → (shelf_at g.shelves j).x ≡ (shelf_at g.shelves run.shelf).x
  pub unreferenced : (j : ℕ) → run.shelf ≤ j → j ≤ run.shelf + run.followers → Unreferenced g j
  pub height : run.height ≡ sum_to (suc run.followers) (λ j. height_of g (run.shelf + j))
  pub reaches : h ≤ run.height

-- what holds of the shelf, of the next and, where two follow, of the one after holds of each shelf of the run
run_each : (P : ℕ → Type 0) (i n : ℕ) → n ≤ 2 → P i → P (i + 1) → (n ≡ 2 → P (i + 2)) → (j : ℕ) → i ≤ j → j ≤ i + n → P j
run_each P i n few here next two j lo hi = elim (ℕ_discrete j i) [
  | yes q ↦ subst P (sym q) here
  | no ne ↦ elim (ℕ_discrete j (i + 1)) [
    | yes q ↦ subst P (sym q) next
    | no n' ↦ let q : i + 2 ≡ j = omega arith in subst P q (two (omega arith))
  ]
]

module _ {w h : ℕ} {g : Atlas} {run : MergeRun} (r : RunIs w h g run) where
  second : run.followers ≡ 2 → Follows g run.shelf (run.shelf + 2)
  second e = elim r.reach [ inl q ↦ absurd (omega (arith, q.0)) | inr q ↦ q.1 ]

  few : run.followers ≤ 2
  few = elim r.reach [ inl q ↦ omega (arith, q.0) | inr q ↦ omega (arith, q.0) ]

  facts_of : RunFacts w h g run
  facts_of =
      let i : ℕ = run.shelf in
      let e : i + 0 ≡ i = omega arith in
      let n : Follows g i (i + 1) = r.mergeable.next in
      record {
        there = elim r.reach [ inl q ↦ omega (arith, q.0, n.there) | inr q ↦ omega (arith, q.0, q.1.there) ];
        some = elim r.reach [ inl q ↦ omega (arith, q.0) | inr q ↦ omega (arith, q.0) ];
        few = few;
        wide = r.mergeable.wide;
        column = run_each (λ (j : ℕ). (shelf_at g.shelves j).x ≡ (shelf_at g.shelves i).x) i run.followers few refl n.column (λ z. (second z).column);
        unreferenced = run_each (Unreferenced g) i run.followers few r.mergeable.unreferenced n.unreferenced (λ z. (second z).unreferenced);
        height = elim r.reach [
          | inl q ↦ rw q.0 (omega (arith, q.1, ap (height_of g) e))
          | inr q ↦ rw q.0 (omega (arith, q.2, ap (height_of g) e))
        ];
        reaches = elim r.reach [ inl q ↦ q.2 | inr q ↦ q.3 ];
      }

pub run_facts : (w h : ℕ) (g : Atlas) {run : MergeRun} → merge_run w h g ≡ Some run → RunFacts w h g run
run_facts w h g e = facts_of (run_mergeable w h e)
