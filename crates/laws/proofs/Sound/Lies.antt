-- Laws of sound tables: where shelves and buckets are, how many there are, and how large the occupied figure can be.
-- A referenced bucket has its home in the chain of the shelf that it names.
use Prim.Native.Nat.{ℕ, zero, suc, ◌+◌, ◌-◌, ◌*◌, ◌≤◌, ◌<◌}
use mathlib.Core.Path.{◌≡◌, refl, sym, ap, ◌∙◌, subst}
use mathlib.Core.Logic.{◌≢◌, ⊎_elim}
use mathlib.Core.List.{List}
use native.Mathlib.Decide.{ℕ_discrete, dec_lt}
use native.Mathlib.Nat.{mul-le-mul, mul-le-mul_left, mul-le-mul_right, mul_comm, one-mul, add-mul, mul_assoc}
use native.Mathlib.Omega.{arith}
use borrow.Author.Tests.{eq-eqb, ne_eqb}
use lib.ListN.{length}
use Rattle.rules.specs.Limits.{none}
use Rattle.rules.specs.Tables.{Atlas, bucket_at, shelf_at}
use Rattle.rules.specs.Chains.{count, In, sum_to, chain_of, released_of, next, first}
use Rattle.rules.specs.Return.{top_of}
use Rattle.rules.specs.Sound.{Counted, used_on, Steady, column_of, Stacked}
use Rattle.laws.proofs.Chains.Count.{hit_same, sum_ext, sum_le, sum_ones, sum_add, sum_some, sum_swap, sum_times}
use Rattle.laws.proofs.Chains.Links.{linked_below, ChainStep, chain_step, sum_counts}
use Rattle.laws.proofs.Sound.Order.{ordered_in, ordered_used}

-- ---- columns

pub column_same : (s : List ℕ) (i : ℕ) → (shelf_at s (suc i)).y ≢ 0 → column_of s (suc i) ≡ column_of s i
unfolding column_of
column_same s i ne = simp (ne_eqb (shelf_at s (suc i)).y 0 ne)

pub column_next : (s : List ℕ) (i : ℕ) → (shelf_at s (suc i)).y ≡ 0 → column_of s (suc i) ≡ column_of s i + 1
unfolding column_of
column_next s i e = simp (eq-eqb (shelf_at s (suc i)).y 0 e)

pub column_zero : (s : List ℕ) → column_of s 0 ≡ 0
unfolding column_of
column_zero s = refl

pub column_step : (s : List ℕ) (i : ℕ) → (column_of s i ≤ column_of s (suc i)) × (column_of s (suc i) ≤ column_of s i + 1)
column_step s i = elim (ℕ_discrete (shelf_at s (suc i)).y 0) [
  | yes e ↦ omega (arith, column_next s i e)
  | no ne ↦ omega (arith, column_same s i ne)
]

pub column_rises : (s : List ℕ) (i j : ℕ) → i ≤ j → column_of s i ≤ column_of s j
column_rises s i zero l = let e : i ≡ 0 = omega arith in rw e (omega arith)
column_rises s i (suc j) l = elim (ℕ_discrete i (suc j)) [
  | yes e ↦ rw e (omega arith)
  | no ne ↦ omega (arith, column_rises s i j (omega arith), column_step s j)
]

-- they are of the shelves' y alone, and of where it is 0
pub column_frame : (s s' : List ℕ) (i : ℕ)
    → ((j : ℕ) → j ≤ i → 1 ≤ j → ((shelf_at s' j).y ≡ 0 → (shelf_at s j).y ≡ 0) × ((shelf_at s j).y ≡ 0 → (shelf_at s' j).y ≡ 0))
    → column_of s' i ≡ column_of s i
column_frame s s' zero e = column_zero s' ∙ sym (column_zero s)
column_frame s s' (suc i) e =
    let ih = column_frame s s' i (λ j l l1. e j (omega arith) l1) in
    elim (ℕ_discrete (shelf_at s (suc i)).y 0) [
      | yes z ↦ omega (arith, column_next s i z, column_next s' i ((e (suc i) (omega arith) (omega arith)).1 z))
      | no z ↦ omega (arith, column_same s i z, column_same s' i (λ q. z ((e (suc i) (omega arith) (omega arith)).0 q)))
    ]

pub column_alike : (s s' : List ℕ) (i : ℕ) → ((j : ℕ) → j ≤ i → (shelf_at s' j).y ≡ (shelf_at s j).y) → column_of s' i ≡ column_of s i
column_alike s s' i e = column_frame s s' i (λ j l l1. (λ z. sym (e j l) ∙ z, λ z. e j l ∙ z))

-- the heights of the shelves up to i fill at most the columns before that of i, and the room below the top of i
heights : (g : Atlas) (i : ℕ) → ((j : ℕ) → j ≤ i → Stacked g j)
    → sum_to (suc i) (λ j. (shelf_at g.shelves j).height) ≤ column_of g.shelves i * g.head.height + top_of (shelf_at g.shelves i)
heights g zero p = omega arith
heights g (suc i) p =
    let s : List ℕ = g.shelves in
    let ih : sum_to (suc i) (λ j. (shelf_at s j).height) ≤ column_of s i * g.head.height + top_of (shelf_at s i) = heights g i (λ j l. p j (omega arith)) in
    elim (ℕ_discrete (shelf_at s (suc i)).y 0) [
      | yes e ↦ rw (column_next s i e) (omega (arith, ih, (p i (omega arith)).top, add-mul (column_of s i) 1 g.head.height, one-mul g.head.height))
      | no ne ↦ rw (column_same s i ne)
          (⊎_elim (λ z. absurd (ne z)) (λ z. omega (arith, ih, z)) ((p (suc i) (omega arith)).follows i refl))
    ]

-- ---- a bucket's home

-- a referenced bucket is in the chain of the shelf that it names
pub record Home (g : Atlas) (k : ℕ) : Type 0 where
  pub there : (bucket_at g.buckets k).shelf < g.head.shelf_count
  pub member : In k (chain_of g (bucket_at g.buckets k).shelf)
  pub counted : Counted (bucket_at g.buckets k).shelf (shelf_at g.shelves (bucket_at g.buckets k).shelf) (bucket_at g.buckets k)

module _ {g : Atlas} (p : Steady g) where
  -- ---- chains

  pub first_some : (i : ℕ) → i < g.head.shelf_count → first g.shelves i ≢ none
  first_some i l = (p.stocked i l).some

  pub shelf_step : (i : ℕ) → i < g.head.shelf_count → ChainStep g.buckets g.head.bucket_count (first g.shelves i)
  shelf_step i l =
      chain_step g.buckets g.head.bucket_count (first g.shelves i) (omega (arith, p.domain.buckets))
      (p.chained.shelf i l) (first_some i l)

  pub first_below : (i : ℕ) → i < g.head.shelf_count → first g.shelves i < g.head.bucket_count
  first_below i l = (shelf_step i l).below

  pub first_in : (i : ℕ) → i < g.head.shelf_count → In (first g.shelves i) (chain_of g i)
  first_in i l = rw (shelf_step i l).turn (omega (arith, hit_same (first g.shelves i)))

  pub chain_some : (i : ℕ) → i < g.head.shelf_count → 1 ≤ length (chain_of g i)
  chain_some i l = rw (shelf_step i l).turn (omega arith)

  pub member_below : (i k : ℕ) → i < g.head.shelf_count → In k (chain_of g i) → k < g.head.bucket_count
  member_below i k l c = linked_below (next g.buckets) g.head.bucket_count (first g.shelves i) (chain_of g i) k (p.chained.shelf i l) c

  pub released_below : (k : ℕ) → In k (released_of g) → k < g.head.bucket_count
  released_below k c = linked_below (next g.buckets) g.head.bucket_count g.head.released (released_of g) k p.chained.released c

  -- ---- how many

  -- the chains' lengths add up to the bucket count
  pub lengths : sum_to g.head.shelf_count (λ i. length (chain_of g i)) + length (released_of g) ≡ g.head.bucket_count
  lengths =
      let n : ℕ = g.head.bucket_count in
      let m : ℕ = g.head.shelf_count in
      let each : sum_to m (λ i. sum_to n (λ k. count k (chain_of g i))) ≡ sum_to m (λ i. length (chain_of g i)) =
      sum_ext m (λ i. sum_to n (λ k. count k (chain_of g i))) (λ i. length (chain_of g i))
      (λ i l. sum_counts (next g.buckets) n (first g.shelves i) (chain_of g i) (p.chained.shelf i l)) in
      omega (
        arith,
        each,
        sum_counts (next g.buckets) n g.head.released (released_of g) p.chained.released,
        sum_swap n m (λ i k. count k (chain_of g i)),
        sum_add n (λ k. sum_to m (λ i. count k (chain_of g i))) (λ k. count k (released_of g)),
        sum_ext n (λ k. sum_to m (λ i. count k (chain_of g i)) + count k (released_of g)) (λ k. 1) p.chained.once,
        sum_ones n,
      )

  -- "Every shelf has a bucket of its own": shelves are at most buckets
  pub shelves_few : g.head.shelf_count ≤ g.head.bucket_count
  shelves_few =
      let m : ℕ = g.head.shelf_count in
      omega (arith, lengths, sum_ones m, sum_le m (λ i. 1) (λ i. length (chain_of g i)) chain_some)

  -- ---- where shelves are

  pub column_below : (i : ℕ) → i < g.head.shelf_count → column_of g.shelves i ≤ g.head.column
  column_below i l =
      let j : ℕ = g.head.shelf_count - 1 in
      omega (arith, column_rises g.shelves i j (omega arith), (p.columns.last j (omega arith)).0)

  pub shelf_right : (i : ℕ) → i < g.head.shelf_count → (shelf_at g.shelves i).x + g.head.column_width ≤ g.head.width
  shelf_right i l =
      let c : ℕ = column_of g.shelves i in
      let all : (c + 1) * g.head.column_width ≤ g.head.columns * g.head.column_width =
      mul-le-mul_right g.head.column_width (omega (arith, column_below i l, p.columns.current)) in
      omega (arith, all, (p.stacked i l).x, p.columns.fit, add-mul c 1 g.head.column_width, one-mul g.head.column_width)

  pub shelf_top : (i : ℕ) → i < g.head.shelf_count → (shelf_at g.shelves i).y + (shelf_at g.shelves i).height ≤ g.head.height
  shelf_top i l = (p.stacked i l).top

  -- ---- where buckets are

  pub bucket_left : (i k : ℕ) → i < g.head.shelf_count → In k (chain_of g i) → (shelf_at g.shelves i).x ≤ (bucket_at g.buckets k).x
  bucket_left i k l c = (ordered_in g.buckets _ _ _ (chain_of g i) k (p.stocked i l).ordered c).0

  pub bucket_right : (i k : ℕ) → i < g.head.shelf_count → In k (chain_of g i)
      → (bucket_at g.buckets k).x + (shelf_at g.shelves i).width ≤ (shelf_at g.shelves i).x + g.head.column_width
  bucket_right i k l c = (ordered_in g.buckets _ _ _ (chain_of g i) k (p.stocked i l).ordered c).1

  -- a bucket's width is at most the column's
  pub bucket_width : (i : ℕ) → i < g.head.shelf_count → (shelf_at g.shelves i).width ≤ g.head.column_width
  bucket_width i l = omega (arith, bucket_left i (first g.shelves i) l (first_in i l), bucket_right i (first g.shelves i) l (first_in i l))

  pub home_of : (k : ℕ) → k < g.head.bucket_count → (bucket_at g.buckets k).refs ≢ 0 → Home g k
  home_of k l ne = elim (dec_lt 0 (count k (released_of g))) [
    | yes r ↦ absurd (ne (p.released k r))
    | no z ↦
        let h : (i : ℕ) × (i < g.head.shelf_count) × In k (chain_of g i) =
        sum_some g.head.shelf_count (λ i. count k (chain_of g i)) (omega (arith, p.chained.once k l)) in
        let e : h.0 ≡ (bucket_at g.buckets k).shelf = sym ((p.stocked h.0 h.1).counted k h.2).shelf in
        subst (λ (i : ℕ). i < g.head.shelf_count → In k (chain_of g i) → Counted i (shelf_at g.shelves i) (bucket_at g.buckets k) → Home g k) (sym e)
        (λ a b c. record { there = a; member = b; counted = c }) h.1 h.2 ((p.stocked h.0 h.1).counted k h.2)
  ]

  -- ---- the occupied figure

  pub used_bound : (i : ℕ) → i < g.head.shelf_count → used_on g i ≤ g.head.column_width * (shelf_at g.shelves i).height
  used_bound i l =
      let s = shelf_at g.shelves i in
      omega (
        arith,
        ordered_used g.buckets s.width s.height s.x (s.x + g.head.column_width) (chain_of g i) (omega arith) (p.stocked i l).ordered,
        add-mul s.x g.head.column_width s.height,
      )

  pub heights_bound : sum_to g.head.shelf_count (λ i. (shelf_at g.shelves i).height) ≤ g.head.columns * g.head.height
  heights_bound = elim (ℕ_discrete g.head.shelf_count 0) [
    | yes e ↦ rw e (omega arith)
    | no ne ↦
        let j : ℕ = g.head.shelf_count - 1 in
        let e : g.head.shelf_count ≡ suc j = omega arith in
        let upto = heights g j (λ i l. p.stacked i (omega arith)) in
        let c : ℕ = column_of g.shelves j in
        let all : (c + 1) * g.head.height ≤ g.head.columns * g.head.height =
        mul-le-mul_right g.head.height (omega (arith, column_below j (omega arith), p.columns.current)) in
        omega (
          arith,
          ap (λ (m : ℕ). sum_to m (λ i. (shelf_at g.shelves i).height)) e,
          upto,
          all,
          (p.stacked j (omega arith)).top,
          add-mul c 1 g.head.height,
          one-mul g.head.height,
        )
  ]

  pub occupied_bound : g.head.occupied ≤ g.head.columns * g.head.column_width * g.head.height
  occupied_bound =
      let m : ℕ = g.head.shelf_count in
      let cw : ℕ = g.head.column_width in
      let all : cw * sum_to m (λ i. (shelf_at g.shelves i).height) ≤ cw * (g.head.columns * g.head.height) = mul-le-mul_left cw heights_bound in
      omega (
        arith,
        p.occupied,
        sum_le m (λ i. used_on g i) (λ i. cw * (shelf_at g.shelves i).height) used_bound,
        sum_times m cw (λ i. (shelf_at g.shelves i).height),
        all,
        mul_assoc cw g.head.columns g.head.height,
        ap (λ (a : ℕ). a * g.head.height) (mul_comm cw g.head.columns),
      )

  -- so it is at most the atlas's area, which fits an i32
  pub occupied_area : g.head.occupied ≤ g.head.width * g.head.height
  occupied_area = omega (arith, occupied_bound, mul-le-mul_right g.head.height p.columns.fit)

  pub area_fits : g.head.width * g.head.height ≤ 2147395600
  area_fits = omega (arith, mul-le-mul p.domain.width.1 p.domain.height.1)
