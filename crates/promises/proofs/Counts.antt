-- T-06, how many buckets a new shelf gets: at least 4 above ratio 32, before the cap; at every other ratio what it got. Of a request that is placed
-- it is said of the tables: the shelf that it brings, and the filler before it.
use Rattle.std.specs.Prelude.{Result}
use Rattle.rules.specs.declared.Refusal.{Refusal}
use Prim.Native.Nat.{ℕ, ◌-◌, ◌/◌, ◌≤◌, ◌<◌}
use mathlib.Core.Path.{◌≡◌, refl, sym, ap, ◌∙◌}
use native.Mathlib.Omega.{arith}
use lib.IntN.{ℤ}
use lib.ListN.{length}
use Rattle.rules.specs.declared.Allocation.{Allocation}
use Rattle.rules.specs.declared.Head.{Head}
use Rattle.rules.specs.Limits.{records_most}
use Rattle.rules.specs.Builds.{Build, present, least_count}
use Rattle.rules.specs.BucketCount.{power_of_two, by_ratio, ratio, bucket_count}
use Rattle.rules.specs.Tables.{Atlas, Outcome, shelf_at}
use Rattle.rules.specs.Chains.{chain_of}
use Rattle.rules.specs.Issue.{issue}
use Rattle.rules.specs.Sound.{Steady}
use Rattle.rules.specs.Calls.{issue_first, place, allocate}
use Rattle.laws.proofs.Numbers.BucketCount.{power_some, ratio_more, ratio_least, ratio_narrow, ratio_wide, ratio_between}
use Rattle.laws.proofs.Issue.Keep.{IssueFacts, issue_facts}
use Rattle.laws.proofs.Merge.Merged.{merged_head}
use Rattle.laws.proofs.NewShelf.Rows.{ShelfCounts, new_rows}
use Rattle.laws.proofs.Calls.Runs.{run_facts}
use Rattle.laws.proofs.Calls.Request.{Aligned, asked_sound, asked_aligned}
use Rattle.laws.proofs.Calls.Ways.{allocate_ways, place_ways}
use Rattle.laws.proofs.Calls.Keep.{added, added_issuable}
use Rattle.promises.proofs.NoPlace.{aligned_width}

-- ---- the count by the ratio

-- "From now on every ratio above 32 gives at least 4 buckets before the cap."
pub count_four : (n : ℕ) → 32 < n → 4 ≤ by_ratio present n
count_four n l = ratio_least present n l

-- before T-06 it was document 01's in every build
pub count_before : (n : ℕ) → 32 < n → (by_ratio Build.keeping n ≡ power_of_two (n / 16 - 1)) × (by_ratio Build.holding n ≡ power_of_two (n / 16 - 1))
    × (by_ratio Build.naming n ≡ power_of_two (n / 16 - 1))
count_before n l = (was Build.keeping refl, was Build.holding refl, was Build.naming refl)
  where
    was : (build : Build) → least_count build ≡ 1 → by_ratio build n ≡ power_of_two (n / 16 - 1)
    was build e = let m = ratio_more build n l in omega (arith, power_some (n / 16 - 1), e)

-- nothing else changed: 33 to 63, which gave 1 or 2, give 4, and every other ratio what it gave in any build
pub record CountNow (n : ℕ) : Type 0 where
  pub narrow : n ≤ 32 → (build : Build) → by_ratio present n ≡ by_ratio build n
  pub between : 32 < n → n < 64 → by_ratio present n ≡ 4
  pub wide : 64 ≤ n → (build : Build) → by_ratio present n ≡ by_ratio build n

pub count_now : (n : ℕ) → CountNow n
count_now n = record {
  narrow = λ l build. ratio_narrow present build n l;
  between = λ l h. omega (arith, ratio_least present n l, ratio_between present n l h);
  wide = λ l build. sym (ratio_wide present n l) ∙ ratio_wide build n l;
}

-- the cap comes after the 4: a table that holds fewer than 4 more gives what it holds
pub record CountCap (column_width w height buckets : ℕ) : Type 0 where
  pub most : bucket_count present column_width w height buckets ≤ records_most - buckets
  pub four : 32 < ratio column_width w height → 4 ≤ records_most - buckets → 4 ≤ bucket_count present column_width w height buckets
  pub left : 32 < ratio column_width w height → records_most - buckets ≤ 4 → bucket_count present column_width w height buckets ≡ records_most - buckets

pub count_cap : (column_width w height buckets : ℕ) → CountCap column_width w height buckets
unfolding bucket_count
count_cap column_width w height buckets = record {
  most = omega arith;
  four = λ l h. omega (arith, count_four (ratio column_width w height) l);
  left = λ l h. omega (arith, count_four (ratio column_width w height) l);
}

-- ---- the shelves that a request brings

-- each has module 2's count of buckets
abbrev Says : ℕ → Atlas → Outcome (Result Allocation Refusal) → Type 0
Says w g o = g.head.shelf_count < o.state.head.shelf_count → ShelfCounts present w g o.state (o.state.head.shelf_count - 1)

issued_rows : {w : ℕ} {g n : Atlas} {i : ℕ} {o : Outcome Allocation} {k : ℕ} → IssueFacts i k w n o
    → ShelfCounts present w g n i → ShelfCounts present w g o.state i
issued_rows f r = record {
  filler = λ j a b. rw (f.changes.chains j, f.shelves) (r.filler j a b);
  found = r.found;
  fewest = r.fewest;
  most = omega (arith, r.most, ap (λ (h : Head). h.bucket_count) f.head);
  row = rw (f.changes.chains _, f.shelves) r.row;
}

place_rows : (w h : ℕ) (g : Atlas) → Steady g → Aligned w h g.head → Says w g (place present w h g)
unfolding issue_first issue
place_rows w h g t al =
    place_ways present (Says w g) w h g (λ r l. absurd (omega arith)) (λ best e l. absurd (omega arith))
    (λ e z l.
    let f = issue_facts (added al present t e z).steady _ _ _ (added_issuable al present t e z) in
    issued_rows f (new_rows present g t w h al.low al.within al.some al.fits al.even e z))
    (λ e run d z l. absurd (omega (arith, ap (λ (h : Head). h.shelf_count) (merged_head t run (run_facts w h g d)))))

pub allocate_rows : (width height : ℤ) (g : Atlas) → Says (aligned_width width g) g (allocate width height g)
allocate_rows width height g =
    allocate_ways present (Says (aligned_width width g) g) width height g (λ r l. absurd (omega arith))
    (λ r. place_rows _ _ g (asked_sound r).steady (asked_aligned r))

-- 4 buckets and more each: said where the bucket count is at most 4,091 after it, so that there were 4 for each
pub record FourEach (w : ℕ) (g after : Atlas) (i : ℕ) : Type 0 where
  pub row : 32 < ratio g.head.column_width w (shelf_at after.shelves i).height → 4 ≤ length (chain_of after i)
  -- "Filler shelves follow the same rule."
  pub filler : (j : ℕ) → g.head.shelf_count ≤ j → j < i → 32 < ratio g.head.column_width 0 (shelf_at after.shelves j).height
      → 4 ≤ length (chain_of after j)

divided_of : (w : ℕ) (g after : Atlas) (i : ℕ) → ShelfCounts present w g after i → after.head.bucket_count ≤ 4091 → FourEach w g after i
divided_of w g after i r few = record {
  row = λ l. omega (arith, r.row, (count_cap g.head.column_width w (shelf_at after.shelves i).height r.found).four l (omega (arith, r.most)));
  filler = λ j a b l. omega (
    arith,
    r.filler j a b,
    (count_cap g.head.column_width 0 (shelf_at after.shelves j).height g.head.bucket_count).four l (omega (arith, r.fewest, r.most)),
  );
}

pub rows_divided : (width height : ℤ) (g : Atlas) → (let after : Atlas = (allocate width height g).state in
    g.head.shelf_count < after.head.shelf_count → after.head.bucket_count ≤ 4091
    → FourEach (aligned_width width g) g after (after.head.shelf_count - 1))
rows_divided width height g l few = divided_of _ g _ _ (allocate_rows width height g l) few
