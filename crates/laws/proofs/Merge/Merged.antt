-- The shelves after a merge: the first of the run has the sum of the heights, its followers have none and lie on top of it, and no shelf
-- changes its column, its x, its bucket width or its first bucket.
use Prim.Native.Nat.{ℕ, zero, suc, ◌+◌, ◌*◌, ◌≤◌, ◌<◌}
use mathlib.Core.Path.{◌≡◌, refl, sym, ap, ◌∙◌, subst}
use mathlib.Core.Logic.{◌≢◌, ⊎_elim}
use mathlib.Core.List.{List}
use native.Mathlib.Decide.{ℕ_discrete, dec_lt}
use native.Mathlib.Nat.{mul-le-mul_right}
use native.Mathlib.Omega.{arith}
use lib.ListN.{length}
use Rattle.rules.specs.declared.MergeRun.{MergeRun}
use Rattle.rules.specs.declared.Shelf.{Shelf}
use Rattle.rules.specs.Tables.{Atlas, shelf_at}
use Rattle.rules.specs.Chains.{sum_to, first}
use Rattle.rules.specs.Merging.{merged, height_of, raised, flattened, flattened_to}
use Rattle.rules.specs.Return.{top_of}
use Rattle.rules.specs.Sound.{Steady, column_of}
use Rattle.laws.proofs.Tables.Records.{length_put_s, at_s_put, at_s_put_other}
use Rattle.laws.proofs.Chains.Count.{sum_term}
use Rattle.laws.proofs.Chains.Ties.{SameLinks}
use Rattle.laws.proofs.Sound.Lies.{column_next, column_rises, column_frame}
use Rattle.laws.proofs.Calls.Runs.{RunFacts}

pub flat_length : (s : List ℕ) (i y k : ℕ) → length (flattened_to s i y k) ≡ length s
unfolding flattened_to
flat_length s i y zero = refl
flat_length s i y (suc k) = length_put_s (flattened_to s i y k) (i + suc k) _ ∙ flat_length s i y k

flat_out : (s : List ℕ) (i y k j : ℕ) → (i < j → j ≤ i + k → ⊥) → shelf_at (flattened_to s i y k) j ≡ shelf_at s j
unfolding flattened_to
flat_out s i y zero j n = refl
flat_out s i y (suc k) j n =
    at_s_put_other (flattened_to s i y k) (i + suc k) _ j (λ e. n (omega arith) (omega arith))
    ∙ flat_out s i y k j (λ a b. n a (omega arith))

flat_in : (s : List ℕ) (i y k : ℕ) → 5 * (i + k) + 5 ≤ length s → (j : ℕ) → i < j → j ≤ i + k
    → shelf_at (flattened_to s i y k) j ≡ flattened (shelf_at s j) y
unfolding flattened_to
flat_in s i y zero h j lo hi = absurd (omega arith)
flat_in s i y (suc k) h j lo hi =
    let before : List ℕ = flattened_to s i y k in
    let long = flat_length s i y k in
    elim (ℕ_discrete j (i + suc k)) [
      | yes e ↦
          let same : shelf_at before (i + suc k) ≡ shelf_at s (i + suc k) = flat_out s i y k (i + suc k) (λ a b. omega arith) in
          rw e (at_s_put before (i + suc k) (flattened (shelf_at before (i + suc k)) y) (omega arith)
          ∙ ap (λ (v : Shelf). flattened v y) same)
      | no ne ↦ at_s_put_other before (i + suc k) _ j ne ∙ flat_in s i y k (omega arith) j lo (omega arith)
    ]

-- in the run: its first shelf, or a follower; or else not
pub data Part (i k j : ℕ) : Type 0 where
  lead : j ≡ i → Part i k j
  tail : i < j → j ≤ i + k → Part i k j
  apart : (i ≤ j → j ≤ i + k → ⊥) → Part i k j

pub part : (i k j : ℕ) → Part i k j
part i k j = elim (ℕ_discrete j i) [
  | yes e ↦ lead e
  | no ne ↦ elim (dec_lt i j) [
    | no n ↦ apart (λ a b. omega arith)
    | yes l ↦ elim (dec_lt (i + k) j) [ yes m ↦ apart (λ a b. omega arith) | no m ↦ tail l (omega arith) ]
  ]
]

module _ {w h : ℕ} {g : Atlas} (st : Steady g) (run : MergeRun) (f : RunFacts w h g run) where
  -- ---- the run before: its shelves stand on one another

  pub run_below : (j : ℕ) → j ≤ run.shelf + run.followers → j < g.head.shelf_count
  run_below j l = omega (arith, f.there)

  -- a follower does not start a column
  nonzero : (j : ℕ) → run.shelf < j → j ≤ run.shelf + run.followers → (shelf_at g.shelves j).y ≢ 0
  nonzero zero lo hi z = omega arith
  nonzero (suc l) lo hi z =
      let s : List ℕ = g.shelves in
      let c = column_next s l z in
      let r = column_rises s run.shelf l (omega arith) in
      let more : suc (column_of s run.shelf) ≤ column_of s (suc l) = omega arith in
      omega (
        arith,
        f.column (suc l) (omega arith) hi,
        (st.stacked (suc l) (run_below (suc l) hi)).x,
        (st.stacked run.shelf (run_below run.shelf (omega arith))).x,
        mul-le-mul_right g.head.column_width more,
        st.domain.column_width,
      )

  stands : (j : ℕ) → run.shelf ≤ j → suc j ≤ run.shelf + run.followers → (shelf_at g.shelves (suc j)).y ≡ top_of (shelf_at g.shelves j)
  stands j lo hi = ⊎_elim (λ z. absurd (nonzero (suc j) (omega arith) hi z)) (λ e. e) ((st.stacked (suc j) (run_below (suc j) hi)).follows j refl)

  run_y : (j : ℕ) → j ≤ run.followers
      → (shelf_at g.shelves (run.shelf + j)).y ≡ (shelf_at g.shelves run.shelf).y + sum_to j (λ l. height_of g (run.shelf + l))
  run_y zero l =
      let e : run.shelf + 0 ≡ run.shelf = omega arith in
      omega (arith, ap (λ (a : ℕ). (shelf_at g.shelves a).y) e)
  run_y (suc j) l =
      let e : run.shelf + suc j ≡ suc (run.shelf + j) = omega arith in
      omega (arith, ap (λ (a : ℕ). (shelf_at g.shelves a).y) e, stands (run.shelf + j) (omega arith) (omega arith), run_y j (omega arith))

  -- the top of the last one is where the sum reaches
  pub run_top : top_of (shelf_at g.shelves (run.shelf + run.followers)) ≡ (shelf_at g.shelves run.shelf).y + run.height
  run_top = omega (arith, run_y run.followers (omega arith), f.height)

  pub run_first : height_of g run.shelf ≤ run.height
  run_first =
      let e : run.shelf + 0 ≡ run.shelf = omega arith in
      omega (arith, f.height, ap (height_of g) e, sum_term (suc run.followers) 0 (λ j. height_of g (run.shelf + j)) (omega arith))

  -- it is not 0
  pub run_high : 1 ≤ (shelf_at g.shelves run.shelf).y + run.height
  run_high =
      let e = stands run.shelf (omega arith) (omega (arith, f.some)) in
      let ne : (shelf_at g.shelves (suc run.shelf)).y ≢ 0 = nonzero (suc run.shelf) (omega arith) (omega (arith, f.some)) in
      omega (arith, run_first)

  -- ---- and after

  table_room : 5 * (run.shelf + run.followers) + 5 ≤ length g.shelves
  table_room = omega (arith, st.lent.shelves, st.domain.shelves, f.there)

  pub merged_at : shelf_at (merged run g).shelves run.shelf ≡ raised (shelf_at g.shelves run.shelf) run.height
  unfolding merged
  merged_at =
      let y : ℕ = (shelf_at g.shelves run.shelf).y + run.height in
      let long = flat_length g.shelves run.shelf y run.followers in
      at_s_put (flattened_to g.shelves run.shelf y run.followers) run.shelf _ (omega (arith, table_room))

  pub merged_follower : (j : ℕ) → run.shelf < j → j ≤ run.shelf + run.followers
      → shelf_at (merged run g).shelves j ≡ flattened (shelf_at g.shelves j) ((shelf_at g.shelves run.shelf).y + run.height)
  unfolding merged
  merged_follower j lo hi =
      let y : ℕ = (shelf_at g.shelves run.shelf).y + run.height in
      at_s_put_other (flattened_to g.shelves run.shelf y run.followers) run.shelf _ j (λ e. omega arith)
      ∙ flat_in g.shelves run.shelf y run.followers table_room j lo hi

  pub merged_other : (j : ℕ) → (run.shelf ≤ j → j ≤ run.shelf + run.followers → ⊥) → shelf_at (merged run g).shelves j ≡ shelf_at g.shelves j
  unfolding merged
  merged_other j n =
      let y : ℕ = (shelf_at g.shelves run.shelf).y + run.height in
      at_s_put_other (flattened_to g.shelves run.shelf y run.followers) run.shelf _ j (λ e. n (omega arith) (omega arith))
      ∙ flat_out g.shelves run.shelf y run.followers j (λ a b. n (omega arith) b)

  pub merged_length : length (merged run g).shelves ≡ length g.shelves
  unfolding merged
  merged_length =
      let y : ℕ = (shelf_at g.shelves run.shelf).y + run.height in
      length_put_s (flattened_to g.shelves run.shelf y run.followers) run.shelf _ ∙ flat_length g.shelves run.shelf y run.followers

  pub merged_head : (merged run g).head ≡ g.head
  unfolding merged
  merged_head = refl

  pub merged_buckets : (merged run g).buckets ≡ g.buckets
  unfolding merged
  merged_buckets = refl

  -- x, bucket width and first bucket of every shelf are as they were
  field_by : (F : Shelf → ℕ) → ((v : Shelf) (y height : ℕ) → F (record { x = v.x; y = y; height = height; width = v.width; first = v.first }) ≡ F v)
      → (j : ℕ) → Part run.shelf run.followers j → F (shelf_at (merged run g).shelves j) ≡ F (shelf_at g.shelves j)
  field_by F e j (lead q) = subst (λ (a : ℕ). F (shelf_at (merged run g).shelves a) ≡ F (shelf_at g.shelves a)) (sym q) (ap F merged_at ∙ e _ _ _)
  field_by F e j (tail lo hi) = ap F (merged_follower j lo hi) ∙ e _ _ _
  field_by F e j (apart n) = ap F (merged_other j n)

  merged_field : (F : Shelf → ℕ) → ((v : Shelf) (y height : ℕ) → F (record { x = v.x; y = y; height = height; width = v.width; first = v.first }) ≡ F v)
      → (j : ℕ) → F (shelf_at (merged run g).shelves j) ≡ F (shelf_at g.shelves j)
  merged_field F e j = field_by F e j (part run.shelf run.followers j)

  pub merged_x : (j : ℕ) → (shelf_at (merged run g).shelves j).x ≡ (shelf_at g.shelves j).x
  merged_x = merged_field (λ (v : Shelf). v.x) (λ v y h. refl)

  pub merged_width : (j : ℕ) → (shelf_at (merged run g).shelves j).width ≡ (shelf_at g.shelves j).width
  merged_width = merged_field (λ (v : Shelf). v.width) (λ v y h. refl)

  pub merged_links : SameLinks g (merged run g)
  unfolding first merged
  merged_links = record {
    shelf_count = refl;
    bucket_count = refl;
    released = refl;
    next = λ k. refl;
    first = merged_field (λ (v : Shelf). v.first) (λ v y h. refl);
  }

  -- y is 0 where it was
  zero_by : (j : ℕ) → Part run.shelf run.followers j
      → ((shelf_at (merged run g).shelves j).y ≡ 0 → (shelf_at g.shelves j).y ≡ 0) × ((shelf_at g.shelves j).y ≡ 0 → (shelf_at (merged run g).shelves j).y ≡ 0)
  zero_by j (lead q) =
      let e : (shelf_at (merged run g).shelves j).y ≡ (shelf_at g.shelves j).y =
      subst (λ (a : ℕ). (shelf_at (merged run g).shelves a).y ≡ (shelf_at g.shelves a).y) (sym q) (ap (λ (v : Shelf). v.y) merged_at) in
      (λ z. omega arith, λ z. omega arith)
  zero_by j (tail lo hi) =
      let e = ap (λ (v : Shelf). v.y) (merged_follower j lo hi) in
      (λ z. absurd (omega (arith, run_high)), λ z. absurd (nonzero j lo hi z))
  zero_by j (apart n) =
      let e = ap (λ (v : Shelf). v.y) (merged_other j n) in
      (λ z. omega arith, λ z. omega arith)

  pub merged_column : (j : ℕ) → column_of (merged run g).shelves j ≡ column_of g.shelves j
  merged_column j = column_frame g.shelves (merged run g).shelves j (λ a l l₁. zero_by a (part run.shelf run.followers a))

  -- the top of a shelf before one that is no follower is where it was
  top_by : (j : ℕ) → Part run.shelf run.followers j → (suc j ≤ run.shelf + run.followers → run.shelf < suc j → ⊥)
      → top_of (shelf_at (merged run g).shelves j) ≡ top_of (shelf_at g.shelves j)
  top_by j (lead q) n = absurd (n (omega (arith, f.some)) (omega arith))
  top_by j (tail lo hi) n =
      let last : j ≡ run.shelf + run.followers = elim (ℕ_discrete j (run.shelf + run.followers)) [
        | yes e ↦ e
        | no ne ↦ absurd (n (omega arith) (omega arith))
      ] in
      ap top_of (merged_follower j lo hi) ∙ omega (arith, run_top, ap (λ (a : ℕ). top_of (shelf_at g.shelves a)) last)
  top_by j (apart m) n = ap top_of (merged_other j m)

  pub merged_top : (j : ℕ) → (suc j ≤ run.shelf + run.followers → run.shelf < suc j → ⊥)
      → top_of (shelf_at (merged run g).shelves j) ≡ top_of (shelf_at g.shelves j)
  merged_top j = top_by j (part run.shelf run.followers j)

  -- that of a shelf of the run is the top of the merged shelf
  pub new_top : (j : ℕ) → Part run.shelf run.followers j → run.shelf ≤ j → j ≤ run.shelf + run.followers
      → top_of (shelf_at (merged run g).shelves j) ≡ (shelf_at g.shelves run.shelf).y + run.height
  new_top j (lead q) lo hi = ap (λ (a : ℕ). top_of (shelf_at (merged run g).shelves a)) q ∙ ap top_of merged_at
  new_top j (tail l m) lo hi = ap top_of (merged_follower j l m) ∙ omega arith
  new_top j (apart n) lo hi = absurd (n lo hi)
