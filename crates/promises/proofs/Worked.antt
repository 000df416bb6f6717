-- Worked histories of a build without the list, computed: what demand 3's words come to on a small atlas, and what happens to a caller outside its
-- premise. All of it is worked out by the rules alone.
use Rattle.std.specs.Prelude.{Err}
use Prim.Native.Nat.{ℕ}
use mathlib.Core.Path.{◌≡◌, refl}
use mathlib.Core.List.{List, [], ◌∷◌}
use lib.ListN.{replicate}
use lib.IntN.{pos}
use Rattle.rules.specs.declared.Allocation.{Allocation}
use Rattle.rules.specs.declared.Refusal.{Refusal}
use Rattle.rules.specs.Rounding.{shelf_height, step as roundingStep, align}
use Rattle.rules.specs.BucketCount.{by_ratio, power_of_two, doubled, ratio, bucket_count}
use Rattle.rules.specs.Tables.{Atlas, atlas, shelf_at, put_shelf, bucket_at, put_bucket}
use Rattle.rules.specs.Chains.{chain_from, next, first, chain, hit}
use Rattle.rules.specs.Store.{new_index, new_generation, new_store, add_bucket, lay_one, lay_many}
use Rattle.rules.specs.NewShelf.{another_column, short, opened, tall, bucket_width, pushed, laid_shelf, plain_shelf, filled, new_shelf, filler_ends}
use Rattle.rules.specs.Search.{can_add, skipped, takes, pick_in, considered, searched, search}
use Rattle.rules.specs.Merging.{unreferenced, follows, follow, run_at, first_run, merge_run, flattened_to, merged, run_worn}
use Rattle.rules.specs.Issue.{issue}
use Rattle.rules.specs.Return.{returned_bucket, freed_area, uncleaned, released_table, stepped_back, popped, cleaned, last_emptied, returned}
use Rattle.rules.specs.Grow.{cleared_head}
use Rattle.rules.specs.Sound.{column_of, is_lent, is_domain, is_columns, is_stacked, is_linked, is_chained}
use Rattle.rules.specs.Sound.{is_ordered, is_counted, is_stocked, is_last_used, is_steady, is_rested, is_sound_by}
use Rattle.rules.specs.Calls.{fresh_head, natural, outside, column_width, clear_by, issue_first, place_new}
use Rattle.rules.specs.Calls.{place_merged, place, aligned_sides, request, allocate_by, return_id, deallocate_by}
use Rattle.rules.specs.Builds.{Build, present}
use Rattle.rules.specs.History.{Call, Event, step, held, figure, issued_since, answered_by}

-- the history of some calls, the newest first, on a fresh atlas, with the state after them
pub record Ran : Type 0 where
  pub past : List Event
  pub state : Atlas

abbrev pub ran : Atlas → List Call → Ran
ran g [] = record { past = []; state = g }
ran g (c ∷ cs) =
    let before : Ran = ran g cs in
    record { past = answered_by Build.keeping (step Build.keeping c before.state).event ∷ before.past; state = (step Build.keeping c before.state).state }

-- 64 by 32, alignment 1, one column, lent tables with room for 4,095 of each
abbrev pub small : Atlas
small = atlas (fresh_head 64 32 1 1 1) (replicate 20475 0) (replicate 28665 0)

abbrev pub label : ℕ → ℕ → Call
label w h = Call.allocate (pos w) (pos h)

abbrev pub allocation : ℕ → ℕ → ℕ → ℕ → ℕ → Allocation
allocation id left top right bottom = record { id = id; rectangle = record { left = left; top = top; right = right; bottom = bottom } }

-- two labels in bucket 0, three tiles that fill the rows above it
abbrev pub full : List Call
full = label 60 8 ∷ label 60 8 ∷ label 60 8 ∷ label 30 8 ∷ label 30 8 ∷ []

-- one of the two returned
abbrev pub one : List Call
one = Call.deallocate 4096 ∷ full

-- the other too, and the tile above: then 60 by 16 merges the two rows
abbrev pub merging : List Call
merging = label 60 16 ∷ Call.deallocate 4097 ∷ Call.deallocate 8192 ∷ one

abbrev pub at : List Call → Ran
at cs = ran small cs

pub record Worked : Type 0 where
  -- five held: 480 from bucket 0 and 480 from each of three others
  pub all : figure (at full).past ≡ 1920
  -- the bucket of the one returned still has the other, so its area stays
  pub returned : (figure (at one).past ≡ 1920) × ((at one).state.head.occupied ≡ 1920)
  -- 960 of the merged row, and 480 from each of the two rows above
  pub merges : (figure (at merging).past ≡ 1920) × ((at merging).state.head.occupied ≡ 1920)
  pub holds : held (at merging).past ≡ allocation 12288 0 0 60 16 ∷ allocation 4099 0 24 60 32 ∷ allocation 4098 0 16 60 24 ∷ []
  pub clears : (held (at (Call.clear ∷ merging)).past ≡ []) × (figure (at (Call.clear ∷ merging)).past ≡ 0)
      × ((at (Call.clear ∷ merging)).state.head.occupied ≡ 0)
  -- wider than a column: 5 of a build before T-04, 22 of the present one
  pub wide : ((at (label 65 8 ∷ [])).past ≡ Event.allocated (Err Refusal.Large) ∷ [])
      × ((step present (label 65 8) small).event ≡ Event.allocated (Err Refusal.Wide))

-- Outside the premise: id 4096 is handed back twice. The second return ends the row under id 8192, which is still held, and the next label is
-- put over it: both have the pixels (20, 0) to (24, 7).
abbrev pub twice : List Call
twice = label 25 8 ∷ Call.deallocate 4096 ∷ Call.deallocate 4096 ∷ label 30 8 ∷ label 20 8 ∷ []

pub record TwiceReturned : Type 0 where
  pub both : held (at twice).past ≡ allocation 16781312 0 0 25 8 ∷ allocation 8192 20 0 50 8 ∷ []

computed : Worked × TwiceReturned
unfolding shelf_height roundingStep align by_ratio power_of_two doubled ratio bucket_count shelf_at put_shelf bucket_at put_bucket chain_from next first
    chain hit new_index new_generation new_store add_bucket lay_one lay_many another_column short opened tall bucket_width pushed laid_shelf plain_shelf
    filled new_shelf filler_ends can_add skipped takes pick_in considered searched search unreferenced follows follow run_at first_run merge_run
    flattened_to merged run_worn issue returned_bucket freed_area uncleaned released_table stepped_back popped cleaned last_emptied returned cleared_head
    column_of is_lent is_domain is_columns is_stacked is_linked is_chained is_ordered is_counted is_stocked is_last_used is_steady is_rested
    is_sound_by natural outside
    column_width clear_by issue_first place_new place_merged place aligned_sides request allocate_by return_id deallocate_by figure issued_since
computed = (
  record { all = refl; returned = (refl, refl); merges = (refl, refl); holds = refl; clears = (refl, refl, refl); wide = (refl, refl) },
  record { both = refl },
)

pub worked : Worked
worked = computed.0

pub twice_returned : TwiceReturned
twice_returned = computed.1
