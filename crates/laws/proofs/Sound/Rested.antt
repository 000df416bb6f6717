-- T-08: "an unreferenced bucket has item count 0". Both counts of a new bucket are 0, so that laying buckets keeps it; over a new shelf, over its
-- filler and over a grow.
use Prim.Native.Nat.{ℕ, zero, suc, ◌+◌, ◌*◌, ◌<◌}
use mathlib.Core.Bool.{◌&&◌}
use mathlib.Core.Path.{◌≡◌, refl, ◌∙◌, subst, sym}
use mathlib.Core.Logic.{◌≢◌}
use mathlib.Core.List.{List, [], ◌∷◌}
use native.Mathlib.Decide.{ℕ_discrete}
use native.Mathlib.Omega.{arith}
use borrow.Author.Tests.{eq-eqb, ne_eqb}
use lib.Dec.{eqb}
use lib.ListN.{get_or, set}
use lib.Seq.{get_or-set_other}
use Rattle.rules.specs.declared.Bucket.{Bucket}
use Rattle.rules.specs.declared.Head.{Head}
use Rattle.rules.specs.Limits.{none}
use Rattle.rules.specs.Tables.{Atlas, atlas, bucket_at, put_bucket, shelf_at}
use Rattle.rules.specs.Builds.{Build}
use Rattle.rules.specs.Store.{Lay, laying, lay_many, lay_one, fresh, new_index, new_generation, new_store, add_bucket}
use Rattle.rules.specs.NewShelf.{new_shelf, filled, plain_shelf, laid_shelf, pushed, opened, another_column, short}
use Rattle.rules.specs.Grow.{grown, grown_head, widened, widened_to}
use Rattle.rules.specs.Sound.{Rested}
use Rattle.laws.proofs.Tables.Records.{at_put_other}
use Rattle.laws.proofs.Tests.Flags.{split}

-- of the first n records of a table
abbrev pub RestedIn : ℕ → List ℕ → Type 0
RestedIn n b = (k : ℕ) → k < n → (bucket_at b k).refs ≡ 0 → (bucket_at b k).items ≡ 0

-- ---- one record written

-- 0 written anywhere, past the end too, is read as 0 there
zero_set : (l : List ℕ) (i : ℕ) → get_or (set l i 0) i 0 ≡ 0
zero_set [] i = refl
zero_set (x ∷ xs) zero = refl
zero_set (x ∷ xs) (suc i) = zero_set xs i

put_items : (b : List ℕ) (k : ℕ) (v : Bucket) → v.items ≡ 0 → (bucket_at (put_bucket b k v) k).items ≡ 0
unfolding bucket_at put_bucket
put_items b k v z =
    let before : List ℕ = set (set (set (set b (7 * k) v.x) (7 * k + 1) v.free) (7 * k + 2) v.next) (7 * k + 3) v.refs in
    let here : List ℕ = set before (7 * k + 4) 0 in
    rw z (get_or-set_other (set here (7 * k + 5) v.shelf) (7 * k + 6) (7 * k + 4) v.generation 0 (omega arith)
    ∙ get_or-set_other here (7 * k + 5) (7 * k + 4) v.shelf 0 (omega arith) ∙ zero_set before (7 * k + 4))

-- a record with item count 0 written at k, and one more record at most, which is that one
pub rested_put : {n n' : ℕ} (b : List ℕ) (k : ℕ) (v : Bucket) → v.items ≡ 0 → ((j : ℕ) → j < n' → j ≢ k → j < n) → RestedIn n b
    → RestedIn n' (put_bucket b k v)
rested_put b k v z before p j l r = elim (ℕ_discrete j k) [
  | yes e ↦ subst (λ (i : ℕ). (bucket_at (put_bucket b k v) i).items ≡ 0) (sym e) (put_items b k v z)
  | no ne ↦ rw (at_put_other b k v j ne) (p j (before j l ne) (rw (at_put_other b k v j ne) at r))
]

-- ---- buckets laid

store_before : (g : Atlas) (j : ℕ) → j < (new_store g).bucket_count → j ≢ new_index g.head → j < g.head.bucket_count
unfolding new_store new_index
store_before g j = elim (ℕ_discrete g.head.released none) [
  | yes e ↦ simp (eq-eqb g.head.released none e) (λ l ne. omega arith)
  | no n ↦ simp (ne_eqb g.head.released none n) (λ l ne. l)
]

rested_one : (w s : ℕ) (l : Lay) → Rested l.state → Rested (lay_one w s l).state
unfolding lay_one add_bucket
rested_one w s l p =
    rested_put l.state.buckets (new_index l.state.head) (fresh l.x w l.first s (new_generation l.state))
    refl (store_before l.state) p

pub rested_many : (k w s : ℕ) (l : Lay) → Rested l.state → Rested (lay_many k w s l).state
unfolding lay_many
rested_many zero w s l p = p
rested_many (suc k) w s l p = rested_one w s (lay_many k w s l) (rested_many k w s l p)

-- ---- a new shelf

rested_laid : (height count : ℕ) (g : Atlas) → Rested g → Rested (laid_shelf height count g)
unfolding laid_shelf pushed
rested_laid height count g p = rested_many count _ _ (laying g _ none) p

opened_count : (h : Head) → (opened h).bucket_count ≡ h.bucket_count
unfolding opened
opened_count h = split (eqb h.room 0 && another_column h) (λ e. simp e) (λ e. simp e)

rested_plain : (build : Build) (w height : ℕ) (g : Atlas) → Rested g → Rested (plain_shelf build w height g)
unfolding plain_shelf
rested_plain build w height g p = rested_laid _ _ (atlas (opened g.head) g.shelves g.buckets) (rw (opened_count g.head) p)

rested_filled : (build : Build) (height : ℕ) (g : Atlas) → Rested g → Rested (filled build height g)
unfolding filled
rested_filled build height g p = split (short height g.head) (λ e. simp e (rested_plain build 0 g.head.room g p)) (λ e. simp e p)

pub rested_new : (build : Build) (w height : ℕ) (g : Atlas) → Rested g → Rested (new_shelf build w height g)
unfolding new_shelf
rested_new build w height g p = rested_plain build w height (filled build height g) (rested_filled build height g p)

-- ---- a grow

rested_widened : (x count i : ℕ) (g : Atlas) → Rested g → Rested (widened x count i g)
unfolding widened
rested_widened x count i g p = rested_many count (shelf_at g.shelves i).width i (laying g x (shelf_at g.shelves i).first) p

rested_to : (x added k : ℕ) (g : Atlas) → Rested g → Rested (widened_to x added k g)
unfolding widened_to
rested_to x added zero g p = p
rested_to x added (suc k) g p = rested_widened x _ k (widened_to x added k g) (rested_to x added k g p)

sized_count : (width height : ℕ) (h : Head) → (grown_head width height h).bucket_count ≡ h.bucket_count
unfolding grown_head
sized_count width height h = split (eqb h.columns 1) (λ e. simp e) (λ e. simp e)

pub rested_grown : (width height : ℕ) (g : Atlas) → Rested g → Rested (grown width height g)
unfolding grown
rested_grown width height g p =
    let sized : Atlas = atlas (grown_head width height g.head) g.shelves g.buckets in
    let q : Rested sized = rw (sized_count width height g.head) p in
    split (eqb g.head.columns 1) (λ e. simp e (rested_to _ _ _ sized q)) (λ e. simp e q)
