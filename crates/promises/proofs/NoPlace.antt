-- Demand 2: a request is answered "no place" exactly when there is none: no takeable bucket, no shelf can be added, and no shelves can be
-- merged. And allocate's other refusals, each exactly when and in order.
use Rattle.rules.specs.declared.Allocation.{Allocation}
use Prim.Native.Nat.{ℕ, ◌+◌, ◌≤◌, ◌<◌}
use mathlib.Core.Path.{◌≡◌, refl, sym, ap, ◌∙◌}
use mathlib.Core.Logic.{◌≢◌, ◌⊎◌, inl, inr}
use mathlib.Core.Bool.{false, ◌||◌}
use mathlib.Core.List.{List, [], ◌∷◌}
use native.Mathlib.Decide.{dec_lt}
use native.Mathlib.Omega.{arith}
use borrow.Author.Tests.{ne_eqb, lt-ltb}
use lib.Dec.{eqb, ltb}
use lib.IntN.{ℤ}
use Rattle.rules.specs.declared.Best.{Best}
use Rattle.rules.specs.declared.Head.{Head}
use Rattle.rules.specs.declared.MergeRun.{MergeRun}
use Rattle.rules.specs.declared.Refusal.{Refusal}
use Rattle.std.specs.Prelude.{if◌then◌else◌, Ok, Err, Result, Some, None, ⊤}
use Rattle.std.proofs.lemmas.Option.{none-some}
use Rattle.rules.specs.Limits.{request_most, records_most, items_last, none}
use Rattle.rules.specs.Rounding.{align}
use Rattle.rules.specs.Builds.{Build, present}
use Rattle.rules.specs.BucketCount.{by_ratio, ratio}
use Rattle.rules.specs.Tables.{Atlas, Outcome, bucket_at, shelf_at}
use Rattle.rules.specs.Answers.{number, placing_says}
use Rattle.rules.specs.NewShelf.{another_column, short, plain_shelf, filled, filler_ends}
use Rattle.rules.specs.Search.{can_add, search, Takeable, CanAdd}
use Rattle.rules.specs.Merging.{merge_run, run_worn, Mergeable}
use Rattle.rules.specs.Sound.{Steady, SoundBy, is_sound_by}
use Rattle.rules.specs.Calls.{natural, aligned_sides, place_sides, issue_first, place_new, place_run, place_merged, place_best, place, request, allocate}
use Rattle.rules.specs.Calls.{allocate_by}
use Rattle.laws.proofs.Tests.Tells.{Tells, tells_ltb, tells_eqb, tells_not, tells_and, tells_or, tells_map}
use Rattle.laws.proofs.Sound.Test.{sound_tells}
use Rattle.laws.proofs.Options.{split_option}
use Rattle.laws.proofs.Tests.Flags.{flag}
use Rattle.laws.proofs.NewShelf.Filler.{filler_ends_law, filler_ended}
use Rattle.laws.proofs.Calls.Found.{can_add_yes, can_add_all, found_takeable, takeable_found}
use Rattle.laws.proofs.Calls.Runs.{run_mergeable, mergeable_run}
use Rattle.laws.proofs.Calls.Keep.{run_fresh}
use Rattle.promises.proofs.Picks.{waste_of, FirstMergeable, picked_offered, search_picks, offered_found, merge_start, first_mergeable_one}
use Rattle.promises.proofs.Exactly.{Accepted, Exactly, exactly_map, other, longer, never, first, later, failed, passed, never_some, where_none, where_some}

-- ---- the tests, in words

-- "request with a side below 1"
abbrev pub Small : ℕ → ℕ → Type 0
Small w h = (w < 1) ⊎ (h < 1)

-- T-04: "5 for a side above 65,535 as asked"
abbrev pub Large : ℕ → ℕ → Type 0
Large w h = (request_most < w) ⊎ (request_most < h)

-- "aligned width above the column width"
abbrev pub Wide : ℕ → Head → Type 0
Wide w head = head.column_width < align head.align_width w

-- "aligned height above the atlas height"
abbrev pub Tall : ℕ → Head → Type 0
Tall h head = head.height < align head.align_height h

-- "no place", for a request whose aligned sides are w and h
pub record NoPlace (w h : ℕ) (g : Atlas) : Type 0 where
  pub bucket : (i k : ℕ) → Takeable w h g i k → ⊥
  pub shelf : CanAdd h g → ⊥
  pub merge : (i : ℕ) → Mergeable w h g i → ⊥

-- "the filler shelf would bring the bucket count to 4,095": a filler is laid, no bucket is released, and the filler's count by module 2, with
-- width 0 and the room as its height, is at least all that the table still holds
pub record FillerEnds (build : Build) (h : ℕ) (g : Atlas) : Type 0 where
  pub some : g.head.room ≢ 0
  pub low : g.head.room < h
  pub column : g.head.column + 1 < g.head.columns
  pub released : g.head.released ≡ none
  pub full : records_most ≤ g.head.bucket_count + by_ratio build (ratio g.head.column_width 0 g.head.room)

-- the filler, where a shelf can be added and every takeable bucket is passed over: "when can add, whose waste is above h"
pub record Fills (build : Build) (w h : ℕ) (g : Atlas) : Type 0 where
  pub shelf : CanAdd h g
  pub bucket : (i k : ℕ) → Takeable w h g i k → h < waste_of h g i
  pub filler : FillerEnds build h g

-- "the merge rule picks a bucket whose item count is 65,535": "Only when nothing was found and can add is false", of the first shelf, in order,
-- that starts a run, its chain's first bucket
pub record Wears (w h : ℕ) (g : Atlas) : Type 0 where
  pub bucket : (i k : ℕ) → Takeable w h g i k → ⊥
  pub shelf : CanAdd h g → ⊥
  pub start : ℕ
  pub merge : FirstMergeable w h g start
  pub items : (bucket_at g.buckets (shelf_at g.shelves start).first).items ≡ items_last

-- the same, of the filler laid and of the run taken
record FillerLaid (build : Build) (h : ℕ) (g : Atlas) : Type 0 where
  some : g.head.room ≢ 0
  low : g.head.room < h
  column : g.head.column + 1 < g.head.columns
  full : (filled build h g).head.bucket_count ≡ records_most

record RunIsWorn (w h : ℕ) (g : Atlas) : Type 0 where
  run : MergeRun
  merges : merge_run w h g ≡ Some run
  items : (bucket_at g.buckets (shelf_at g.shelves run.shelf).first).items ≡ items_last

small_tells : (w h : ℕ) → Tells (eqb w 0 || eqb h 0) (Small w h)
small_tells w h = tells_or _ _ (below_one w) (below_one h)
  where
    below_one : (n : ℕ) → Tells (eqb n 0) (n < 1)
    below_one n = tells_map (tells_eqb n 0) (λ e. omega arith) (λ e. omega arith)

pub large_tells : (w h : ℕ) → Tells (ltb request_most w || ltb request_most h) (Large w h)
large_tells w h = tells_or _ _ (tells_ltb request_most w) (tells_ltb request_most h)

pub wide_tells : (w : ℕ) (head : Head) → Tells (ltb head.column_width (align head.align_width w)) (Wide w head)
wide_tells w head = tells_ltb head.column_width (align head.align_width w)

tall_tells : (h : ℕ) (head : Head) → Tells (ltb head.height (align head.align_height h)) (Tall h head)
tall_tells h head = tells_ltb head.height (align head.align_height h)

add_tells : (h : ℕ) (g : Atlas) → Tells (can_add h g.head) (CanAdd h g)
add_tells h g = record { holds = can_add_yes h g; shown = can_add_all h g }

filler_tells : (build : Build) (h : ℕ) (g : Atlas) → Tells (filler_ends build h g) (FillerLaid build h g)
unfolding filler_ends short another_column
filler_tells build h g = tells_map
    (tells_and _ _ (tells_and _ _ (tells_and _ _ (tells_not _ (tells_eqb g.head.room 0)) (tells_ltb g.head.room h))
    (tells_ltb (g.head.column + 1) g.head.columns)) (tells_eqb (filled build h g).head.bucket_count records_most))
    (λ p. record { some = p.0.0.0; low = p.0.0.1; column = p.0.1; full = p.1 })
    (λ p. (((p.some, p.low), p.column), p.full))

worn_tells : (run : MergeRun) (g : Atlas) → Tells (run_worn run g) ((bucket_at g.buckets (shelf_at g.shelves run.shelf).first).items ≡ items_last)
unfolding run_worn
worn_tells run g = tells_eqb (bucket_at g.buckets (shelf_at g.shelves run.shelf).first).items items_last

filled_is : (build : Build) (h : ℕ) (g : Atlas) → g.head.room ≢ 0 → g.head.room < h → g.head.column + 1 < g.head.columns
    → (filled build h g).head.bucket_count ≡ (plain_shelf build 0 g.head.room g).head.bucket_count
unfolding filled short another_column
filled_is build h g some low column =
    simp (ne_eqb g.head.room 0 some, lt-ltb g.head.room h low, lt-ltb (g.head.column + 1) g.head.columns column)

filled_count : {build : Build} {h : ℕ} {g : Atlas} → FillerLaid build h g
    → (filled build h g).head.bucket_count ≡ (plain_shelf build 0 g.head.room g).head.bucket_count
filled_count {build} {h} {g} p = filled_is build h g p.some p.low p.column

-- ---- the aligned request

says : Outcome (Result Allocation Refusal) → List ℕ
says o = placing_says o.answer

module _ (build : Build) (w h : ℕ) (g : Atlas) where
  -- it is refused as 6, 7 or 8 only
  pub place_never : (n : ℕ) → eqb 6 n ≡ false → eqb 7 n ≡ false → eqb 8 n ≡ false → placing_says (place build w h g).answer ≡ n ∷ [] → ⊥
  unfolding place place_new place_merged issue_first says
  place_never n a b c =
      never_some says n (λ o. place_best build w h o g) (search w h g)
      (never says n (can_add h g.head) _ _ (never says n (filler_ends build h g) _ _ (other b) longer)
      (never_some says n (λ o. place_run w o g) (merge_run w h g) (other a) (λ run. never says n (run_worn run g) _ _ (other c) longer)))
      (λ best. longer)

  place_6 : Exactly 6 (placing_says (place build w h g).answer) ((search w h g ≡ None) × ((CanAdd h g → ⊥) × (merge_run w h g ≡ None)))
  unfolding place place_new place_merged issue_first says
  place_6 =
      where_none says 6 (λ o. place_best build w h o g) (search w h g)
      (later says 6 (can_add h g.head) _ _ (add_tells h g) (never says 6 (filler_ends build h g) _ _ (other refl) longer)
      (exactly_map
      (where_none says 6 (λ o. place_run w o g) (merge_run w h g) said_6 (λ run. never says 6 (run_worn run g) _ _ (other refl) longer))
      (λ p. p.0)
      (λ p. (p, tt))))
      (λ best. longer)
    where
      said_6 : Exactly 6 (6 ∷ []) ⊤
      said_6 = record { when = λ p. refl; only = λ s. tt }

  place_7 : Exactly 7 (placing_says (place build w h g).answer) ((search w h g ≡ None) × (CanAdd h g × FillerLaid build h g))
  unfolding place place_new place_merged issue_first says
  place_7 =
      where_none says 7 (λ o. place_best build w h o g) (search w h g)
      (passed says 7 (can_add h g.head) _ _ (add_tells h g) (first says 7 (filler_ends build h g) _ _ (filler_tells build h g) refl longer)
      (never_some says 7 (λ o. place_run w o g) (merge_run w h g) (other refl) (λ run. never says 7 (run_worn run g) _ _ (other refl) longer)))
      (λ best. longer)

  place_8 : Exactly 8 (placing_says (place build w h g).answer) ((search w h g ≡ None) × ((CanAdd h g → ⊥) × RunIsWorn w h g))
  unfolding place place_new place_merged issue_first says
  place_8 =
      where_none says 8 (λ o. place_best build w h o g) (search w h g)
      (later says 8 (can_add h g.head) _ _ (add_tells h g) (never says 8 (filler_ends build h g) _ _ (other refl) longer)
      (exactly_map
      (where_some says 8 (λ o. place_run w o g) (merge_run w h g) _ (other refl)
      (λ run. first says 8 (run_worn run g) _ _ (worn_tells run g) refl longer))
      (λ p. record { run = p.0; merges = p.1; items = p.2 })
      (λ p. (p.run, p.merges, p.items))))
      (λ best. longer)

  nothing_found : ((best : Best) → search w h g ≡ Some best → ⊥) → search w h g ≡ None
  nothing_found n = split_option (search w h g) (λ e. e) (λ best e. absurd (n best e))

  -- what the rules come to when they find nothing, said of the tables
  no_place_from : Steady g → (search w h g ≡ None) × ((CanAdd h g → ⊥) × (merge_run w h g ≡ None)) → NoPlace w h g
  no_place_from t p = record {
    bucket = λ i k q.
        let add : can_add h g.head ≡ false = elim (flag (can_add h g.head)) [ inl e ↦ absurd (p.1.0 (can_add_yes h g e)) | inr e ↦ e ] in
        none-some _ (sym p.0 ∙ (takeable_found t add q).1);
    shelf = p.1.0;
    merge = λ i q. none-some _ (sym p.1.1 ∙ (mergeable_run w h i q).1);
  }

  no_place_to : NoPlace w h g → (search w h g ≡ None) × ((CanAdd h g → ⊥) × (merge_run w h g ≡ None))
  no_place_to p = (
    nothing_found (λ best e. p.bucket best.shelf best.bucket (found_takeable {g = g} {w = w} {h = h} e).takeable),
    (
      p.shelf,
      split_option (merge_run w h g) (λ e. e) (λ run e. absurd (p.merge run.shelf (run_mergeable w h e).mergeable)),
    ),
  )

  -- the search passes the takeable buckets of shelves whose waste is above h
  fills_from : Steady g → (search w h g ≡ None) × (CanAdd h g × FillerLaid build h g) → Fills build w h g
  fills_from t p =
      let add : CanAdd h g = p.1.0 in
      let laid : FillerLaid build h g = p.1.1 in
      let ended = filler_ended build g laid.some add.buckets (sym (filled_count laid) ∙ laid.full) in
      record {
        shelf = add;
        bucket = λ i k q. elim (dec_lt h (waste_of h g i)) [
          | yes l ↦ l
          | no n ↦ absurd (none-some _ (sym p.0 ∙ (offered_found w h g t i k (record { takeable = q; near = λ c. omega arith })).1))
        ];
        filler = record { some = laid.some; low = laid.low; column = laid.column; released = ended.0; full = ended.1 };
      }

  fills_to : Steady g → Fills build w h g → (search w h g ≡ None) × (CanAdd h g × FillerLaid build h g)
  fills_to t p =
      let f : FillerEnds build h g = p.filler in
      let laid : (plain_shelf build 0 g.head.room g).head.bucket_count ≡ records_most =
      filler_ends_law build g f.some p.shelf.buckets f.released f.full in (
        nothing_found (λ best e.
            let o = picked_offered (search_picks w h g t e) in
            omega (arith, p.bucket best.shelf best.bucket o.takeable, o.near p.shelf)),
        (
          p.shelf,
          record { some = f.some; low = f.low; column = f.column; full = filled_is build h g f.some f.low f.column ∙ laid },
        ),
      )

  wears_from : Steady g → (search w h g ≡ None) × ((CanAdd h g → ⊥) × RunIsWorn w h g) → Wears w h g
  wears_from t p = record {
    bucket = λ i k q. none-some _ (sym p.0 ∙ (offered_found w h g t i k (record { takeable = q; near = λ c. absurd (p.1.0 c) })).1);
    shelf = p.1.0;
    start = p.1.1.run.shelf;
    merge = merge_start w h g p.1.1.merges;
    items = p.1.1.items;
  }

  wears_to : Wears w h g → (search w h g ≡ None) × ((CanAdd h g → ⊥) × RunIsWorn w h g)
  wears_to p =
      let found = mergeable_run w h p.start p.merge.mergeable in
      let e : found.0.shelf ≡ p.start = first_mergeable_one (merge_start w h g found.1) p.merge in (
        nothing_found (λ best e. p.bucket best.shelf best.bucket (found_takeable {g = g} {w = w} {h = h} e).takeable),
        (p.shelf, record { run = found.0; merges = found.1; items = rw e p.items }),
      )

-- ---- the tests of a request: 4, 5, 22, 23

says_sides : Build → Atlas → Result (ℕ × ℕ) Refusal → List ℕ
says_sides build g s = placing_says (place_sides build s g).answer

module _ (build : Build) (w h : ℕ) (g : Atlas) where
  abbrev across : ℕ
  across = align g.head.align_width w

  abbrev down : ℕ
  down = align g.head.align_height h

  -- the tests behind 22, behind 5 and behind 4
  abbrev behind_wide : Result (ℕ × ℕ) Refusal
  behind_wide = if ltb g.head.height down then Err Refusal.Tall else Ok (across, down)

  abbrev behind_large : Result (ℕ × ℕ) Refusal
  behind_large = if ltb g.head.column_width across then Err Refusal.Wide else behind_wide

  abbrev behind_small : Result (ℕ × ℕ) Refusal
  behind_small = if ltb request_most w || ltb request_most h then Err Refusal.Large else behind_large

  -- a number that is none of theirs, nor the aligned request's
  module _ (n : ℕ) (rest : placing_says (place build across down g).answer ≡ n ∷ [] → ⊥) where
    not_23 : eqb 23 n ≡ false → says_sides build g behind_wide ≡ n ∷ [] → ⊥
    unfolding says_sides
    not_23 tall = never (says_sides build g) n (ltb g.head.height down) _ _ (other tall) rest

    not_22 : eqb 22 n ≡ false → eqb 23 n ≡ false → says_sides build g behind_large ≡ n ∷ [] → ⊥
    unfolding says_sides
    not_22 wide tall = never (says_sides build g) n (ltb g.head.column_width across) _ _ (other wide) (not_23 tall)

    not_5 : eqb 5 n ≡ false → eqb 22 n ≡ false → eqb 23 n ≡ false → says_sides build g behind_small ≡ n ∷ [] → ⊥
    unfolding says_sides
    not_5 large wide tall = never (says_sides build g) n (ltb request_most w || ltb request_most h) _ _ (other large) (not_22 wide tall)

    not_4 : eqb 4 n ≡ false → eqb 5 n ≡ false → eqb 22 n ≡ false → eqb 23 n ≡ false → placing_says (request build w h g).answer ≡ n ∷ [] → ⊥
    unfolding request aligned_sides says_sides
    not_4 small large wide tall = never (says_sides build g) n (eqb w 0 || eqb h 0) _ _ (other small) (not_5 large wide tall)

  -- a number of theirs, where the tests before it have failed
  module _ (n : ℕ) (small : eqb 4 n ≡ false) {Q : Type 0} where
    past_4 : Exactly n (says_sides build g behind_small) Q → Exactly n (placing_says (request build w h g).answer) ((Small w h → ⊥) × Q)
    unfolding request aligned_sides says_sides
    past_4 q = later (says_sides build g) n (eqb w 0 || eqb h 0) _ _ (small_tells w h) (other small) q

    module _ (large : eqb 5 n ≡ false) where
      past_5 : Exactly n (says_sides build g behind_large) Q → Exactly n (says_sides build g behind_small) ((Large w h → ⊥) × Q)
      unfolding says_sides
      past_5 q = later (says_sides build g) n (ltb request_most w || ltb request_most h) _ _ (large_tells w h) (other large) q

      past_22 : eqb 22 n ≡ false → Exactly n (says_sides build g behind_wide) Q → Exactly n (says_sides build g behind_large) ((Wide w g.head → ⊥) × Q)
      unfolding says_sides
      past_22 wide q = later (says_sides build g) n (ltb g.head.column_width across) _ _ (wide_tells w g.head) (other wide) q

-- ---- allocate: 1, 4, 5, 22, 23, then 6, 7 or 8

-- sound tables, and a request that is not refused as 4, 5, 22 or 23
pub record Requested (build : Build) (w h : ℕ) (g : Atlas) : Type 0 where
  pub sound : SoundBy build g
  pub some : Small w h → ⊥
  pub few : Large w h → ⊥
  pub across : Wide w g.head → ⊥
  pub down : Tall h g.head → ⊥

-- the aligned sides
abbrev pub aligned_width : ℤ → Atlas → ℕ
aligned_width width g = align g.head.align_width (natural width)

abbrev pub aligned_height : ℤ → Atlas → ℕ
aligned_height height g = align g.head.align_height (natural height)

pub record AllocateRefusals (build : Build) (width height : ℤ) (g : Atlas) : Type 0 where
  pub one : Exactly 1 (placing_says (allocate_by build width height g).answer) (SoundBy build g → ⊥)
  pub four : Exactly 4 (placing_says (allocate_by build width height g).answer) (SoundBy build g × Small (natural width) (natural height))
  -- T-04: "5, 22 (width), 23 (height), in this order, in 5's old place"
  pub five : Exactly 5 (placing_says (allocate_by build width height g).answer)
      (SoundBy build g × ((Small (natural width) (natural height) → ⊥) × Large (natural width) (natural height)))
  pub twenty_two : Exactly 22 (placing_says (allocate_by build width height g).answer)
      (SoundBy build g × ((Small (natural width) (natural height) → ⊥) × ((Large (natural width) (natural height) → ⊥) × Wide (natural width) g.head)))
  pub twenty_three : Exactly 23 (placing_says (allocate_by build width height g).answer)
      (SoundBy build g × ((Small (natural width) (natural height) → ⊥) × ((Large (natural width) (natural height) → ⊥)
      × ((Wide (natural width) g.head → ⊥) × Tall (natural height) g.head))))
  pub six : Exactly 6 (placing_says (allocate_by build width height g).answer)
      (Requested build (natural width) (natural height) g × NoPlace (aligned_width width g) (aligned_height height g) g)
  pub seven : Exactly 7 (placing_says (allocate_by build width height g).answer)
      (Requested build (natural width) (natural height) g × Fills build (aligned_width width g) (aligned_height height g) g)
  pub eight : Exactly 8 (placing_says (allocate_by build width height g).answer)
      (Requested build (natural width) (natural height) g × Wears (aligned_width width g) (aligned_height height g) g)
  -- no other number stands alone
  pub others : (n : ℕ) → n ≢ 1 → n ≢ 4 → n ≢ 5 → n ≢ 22 → n ≢ 23 → n ≢ 6 → n ≢ 7 → n ≢ 8
      → placing_says (allocate_by build width height g).answer ≡ n ∷ [] → ⊥

-- a refusal of the aligned request is the call's
requested : (build : Build) (n : ℕ) (width height : ℤ) (g : Atlas) {Q : Type 0} → eqb 1 n ≡ false → eqb 4 n ≡ false → eqb 5 n ≡ false → eqb 22 n ≡ false
    → eqb 23 n ≡ false → Exactly n (placing_says (place build (aligned_width width g) (aligned_height height g) g).answer) Q
    → Exactly n (placing_says (allocate_by build width height g).answer) (Requested build (natural width) (natural height) g × Q)
unfolding allocate_by says says_sides
requested build n width height g sound small large wide tall q =
    let w : ℕ = natural width in
    let h : ℕ = natural height in
    exactly_map
    (passed says n (is_sound_by build g) _ _ (sound_tells g)
    (past_4 build w h g n small (past_5 build w h g n small large (past_22 build w h g n small large wide
    (later (says_sides build g) n (ltb g.head.height (aligned_height height g)) _ _ (tall_tells h g.head) (other tall) q))))
    (other sound))
    (λ p. (
      record { sound = p.0; some = p.1.0; few = p.1.1.0; across = p.1.1.1.0; down = p.1.1.1.1.0 },
      p.1.1.1.1.1,
    ))
    (λ p. (p.0.sound, (p.0.some, (p.0.few, (p.0.across, (p.0.down, p.1))))))

pub allocate_refusals : (build : Build) (width height : ℤ) (g : Atlas) → AllocateRefusals build width height g
unfolding allocate_by request aligned_sides says says_sides
allocate_refusals build width height g =
    let w : ℕ = natural width in
    let h : ℕ = natural height in
    let aw : ℕ = aligned_width width g in
    let ah : ℕ = aligned_height height g in
    let rest : (n : ℕ) → eqb 6 n ≡ false → eqb 7 n ≡ false → eqb 8 n ≡ false → placing_says (place build aw ah g).answer ≡ n ∷ [] → ⊥ =
    place_never build aw ah g in
    record {
      one = failed says 1 (is_sound_by build g) _ _ (sound_tells g) (not_4 build w h g 1 (rest 1 refl refl refl) refl refl refl refl) refl;
      four = passed says 4 (is_sound_by build g) _ _ (sound_tells g)
          (first (says_sides build g) 4 (eqb w 0 || eqb h 0) _ _ (small_tells w h) refl (not_5 build w h g 4 (rest 4 refl refl refl) refl refl refl))
          (other refl);
      five = passed says 5 (is_sound_by build g) _ _ (sound_tells g)
          (past_4 build w h g 5 refl
          (first (says_sides build g) 5 (ltb request_most w || ltb request_most h) _ _ (large_tells w h) refl
          (not_22 build w h g 5 (rest 5 refl refl refl) refl refl)))
          (other refl);
      twenty_two = passed says 22 (is_sound_by build g) _ _ (sound_tells g)
          (past_4 build w h g 22 refl (past_5 build w h g 22 refl refl
          (first (says_sides build g) 22 (ltb g.head.column_width aw) _ _ (wide_tells w g.head) refl
          (not_23 build w h g 22 (rest 22 refl refl refl) refl))))
          (other refl);
      twenty_three = passed says 23 (is_sound_by build g) _ _ (sound_tells g)
          (past_4 build w h g 23 refl (past_5 build w h g 23 refl refl (past_22 build w h g 23 refl refl refl
          (first (says_sides build g) 23 (ltb g.head.height ah) _ _ (tall_tells h g.head) refl (rest 23 refl refl refl)))))
          (other refl);
      six = exactly_map (requested build 6 width height g refl refl refl refl refl (place_6 build aw ah g))
          (λ p. (p.0, no_place_from build aw ah g p.0.sound.steady p.1))
          (λ p. (p.0, no_place_to build aw ah g p.1));
      seven = exactly_map (requested build 7 width height g refl refl refl refl refl (place_7 build aw ah g))
          (λ p. (p.0, fills_from build aw ah g p.0.sound.steady p.1))
          (λ p. (p.0, fills_to build aw ah g p.0.sound.steady p.1));
      eight = exactly_map (requested build 8 width height g refl refl refl refl refl (place_8 build aw ah g))
          (λ p. (p.0, wears_from build aw ah g p.0.sound.steady p.1))
          (λ p. (p.0, wears_to build aw ah g p.1));
      others = λ n n1 n4 n5 n22 n23 n6 n7 n8.
          never says n (is_sound_by build g) _ _
          (not_4 build w h g n (rest n (differs 6 n n6) (differs 7 n n7) (differs 8 n n8)) (differs 4 n n4) (differs 5 n n5) (differs 22 n n22)
          (differs 23 n n23))
          (other (differs 1 n n1));
    }
  where
    differs : (m n : ℕ) → n ≢ m → eqb m n ≡ false
    differs m n ne = ne_eqb m n (λ e. ne (sym e))

-- "no place" is said exactly when there is none
pub no_place : (build : Build) (width height : ℤ) (g : Atlas) → Requested build (natural width) (natural height) g
    → Exactly 6 (placing_says (allocate_by build width height g).answer) (NoPlace (aligned_width width g) (aligned_height height g) g)
no_place build width height g r = record {
  when = λ p. (allocate_refusals build width height g).six.when (r, p);
  only = λ e. ((allocate_refusals build width height g).six.only e).1;
}

-- ---- nothing else is refused

accepts : (p : Result Allocation Refusal) → ((r : Refusal) → placing_says p ≡ number r ∷ [] → ⊥) → Accepted (placing_says p)
accepts (Ok a) f = (_, refl)
accepts (Err r) f = absurd (f r refl)

-- a request that is refused as none of 4 to 8, 22 and 23 is placed
placed_unless : (build : Build) (width height : ℤ) (g : Atlas) → Requested build (natural width) (natural height) g
    → (NoPlace (aligned_width width g) (aligned_height height g) g → ⊥) → (Fills build (aligned_width width g) (aligned_height height g) g → ⊥)
    → placing_says (allocate_by build width height g).answer ≢ 8 ∷ [] → Accepted (placing_says (allocate_by build width height g).answer)
placed_unless build width height g q n6 n7 n8 =
    let a : AllocateRefusals build width height g = allocate_refusals build width height g in
    let said : List ℕ = placing_says (allocate_by build width height g).answer in
    let is : (m n : ℕ) → said ≡ m ∷ [] → m ≡ n → said ≡ n ∷ [] = λ m n s e. s ∙ ap (λ (k : ℕ). k ∷ []) e in
    accepts (allocate_by build width height g).answer (λ r s.
    a.others (number r)
    (λ e. a.one.only (is (number r) 1 s e) q.sound)
    (λ e. q.some (a.four.only (is (number r) 4 s e)).1)
    (λ e. q.few (a.five.only (is (number r) 5 s e)).1.1)
    (λ e. q.across (a.twenty_two.only (is (number r) 22 s e)).1.1.1)
    (λ e. q.down (a.twenty_three.only (is (number r) 23 s e)).1.1.1.1)
    (λ e. n6 (a.six.only (is (number r) 6 s e)).1)
    (λ e. n7 (a.seven.only (is (number r) 7 s e)).1)
    (λ e. n8 (is (number r) 8 s e)) s)

-- T-08: "8 can't arise", whatever the tables; on sound ones an unreferenced bucket has item count 0
pub never_8 : (width height : ℤ) (g : Atlas) → placing_says (allocate width height g).answer ≢ 8 ∷ []
never_8 width height g s =
    let p = (requested present 8 width height g refl refl refl refl refl (place_8 present (aligned_width width g) (aligned_height height g) g)).only s in
    let worn : RunIsWorn (aligned_width width g) (aligned_height height g) g = p.1.1.1 in
    omega (arith, worn.items, run_fresh (aligned_width width g) (aligned_height height g) g p.0.sound.steady (p.0.sound.rested refl) worn.merges)

pub request_placed : (width height : ℤ) (g : Atlas) → Requested present (natural width) (natural height) g
    → (NoPlace (aligned_width width g) (aligned_height height g) g → ⊥) → (Fills present (aligned_width width g) (aligned_height height g) g → ⊥)
    → Accepted (placing_says (allocate width height g).answer)
request_placed width height g q n6 n7 = placed_unless present width height g q n6 n7 (never_8 width height g)
