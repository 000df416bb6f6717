-- T-06 computed: a row and a filler of ratio 33 in the build before it and in the present one; and a file of the build before it read and gone on
-- with, its row as it was and the next one divided. Over that restart it is a run, so demand 3 holds of it (History).
use Rattle.std.specs.Prelude.{Ok}
use mathlib.Core.Bool.{true}
use mathlib.Core.Path.{◌≡◌, refl}
use mathlib.Core.List.{List, [], ◌∷◌}
use lib.ListN.{length, replicate, take}
use lib.IntN.{pos}
use Rattle.rules.specs.declared.Allocation.{Allocation}
use Rattle.rules.specs.Rounding.{shelf_height, step as roundingStep, align}
use Rattle.rules.specs.Builds.{Build, present}
use Rattle.rules.specs.BucketCount.{by_ratio, power_of_two, doubled, ratio, bucket_count}
use Rattle.rules.specs.Tables.{Atlas, atlas, shelf_at, put_shelf, bucket_at, put_bucket}
use Rattle.rules.specs.Chains.{chain_from, next, first, chain, chain_of, hit}
use Rattle.rules.specs.Store.{new_index, new_generation, new_store, add_bucket, lay_one, lay_many}
use Rattle.rules.specs.NewShelf.{another_column, short, opened, tall, bucket_width, pushed, laid_shelf, plain_shelf, filled, new_shelf, filler_ends}
use Rattle.rules.specs.Search.{can_add, skipped, takes, pick_in, considered, searched, search}
use Rattle.rules.specs.Merging.{unreferenced}
use Rattle.rules.specs.Issue.{issue}
use Rattle.rules.specs.Sound.{column_of, is_lent, is_domain, is_columns, is_stacked, is_linked, is_chained}
use Rattle.rules.specs.Sound.{is_ordered, is_counted, is_stocked, is_last_used, is_steady, is_rested, is_sound_by}
use Rattle.rules.specs.Calls.{fresh_head, natural, outside, column_width, options_bad, made, new, issue_first, place_new, place, aligned_sides, request}
use Rattle.rules.specs.Calls as calls
use Rattle.rules.specs.Repair.{needs_repair, risen, repaired}
use Rattle.rules.specs.Files.{head_record, shelf_record, bucket_record, file_from, file_of, version_in, head_in, shelf_from, bucket_from, is_framed}
use Rattle.rules.specs.Files.{is_file, shelves_stored, buckets_stored, stored, Saved, Loaded, read_sound, read, read_by}
use Rattle.rules.specs.Saving.{saving}
use Rattle.rules.specs.Held.{blank, entries, added, place_of, place_for, belongs, overlap, clash, stands, fits}
use Rattle.rules.specs.Listed.{holding, verdict_by, allocate_by, write}
use Rattle.rules.specs.History.{Event, StepListed, listed_step, step, file_in, read_into, Listing, Run, Kept}
use Rattle.laws.proofs.Held.Test.{fits_test}
use Rattle.promises.proofs.History.{kept}
use Rattle.promises.proofs.Worked.{label, allocation}

-- 264 by 16, alignment 1, one column: a row 8 high has ratio 33
abbrev strip : Atlas
strip = atlas (fresh_head 264 16 1 1 1) (replicate 20475 0) (replicate 28665 0)

-- a list with room for three
abbrev list : List Allocation
list = replicate 3 blank

-- two labels by the build before T-06: the one bucket of the row is then full
abbrev one : StepListed
one = listed_step Build.naming (label 1 8) (holding strip list)

abbrev two : StepListed
two = listed_step Build.naming (label 263 8) one.left

abbrev file : Saved
file = write Build.naming two.left (replicate 69 0)

-- read by the present build, over tables that hold other numbers, and the list lent anew
abbrev again : Loaded
again = read (file_in file 69) (replicate 20475 7) (replicate 28665 7)

abbrev back : Atlas
back = read_into two.left.state.head again

abbrev anew : List Allocation
anew = allocation 4096 0 0 1 8 ∷ allocation 8192 1 0 264 8 ∷ blank ∷ []

-- 66 by 9, alignments 33 and 1, two columns: the room left under a row is 1 high, and a filler in it has ratio 33
abbrev narrow : Atlas
narrow = atlas (fresh_head 66 9 33 1 2) (replicate 20475 0) (replicate 28665 0)

abbrev filling : Build → Atlas
filling build = (step build (label 33 2) (step build (label 33 1) narrow).state).state

-- one bucket, and four: the label goes to the last that was laid
pub record CountsWorked : Type 0 where
  pub before : ((step Build.naming (label 1 8) strip).event ≡ Event.allocated (Ok (allocation 4096 0 0 1 8)))
      × (chain_of (step Build.naming (label 1 8) strip).state 0 ≡ 0 ∷ [])
  pub now : ((step present (label 1 8) strip).event ≡ Event.allocated (Ok (allocation 4099 198 0 199 8)))
      × (chain_of (step present (label 1 8) strip).state 0 ≡ 3 ∷ 2 ∷ 1 ∷ 0 ∷ [])
  -- a filler of one bucket 33 wide, and of four that are 0 wide
  pub fillers : (length (chain_of (filling Build.naming) 1) ≡ 1) × ((shelf_at (filling Build.naming).shelves 1).width ≡ 33)
      × (length (chain_of (filling present) 1) ≡ 4) × ((shelf_at (filling present).shelves 1).width ≡ 0)

-- "Tables and files made earlier stay sound and are not rearranged": the row keeps its one bucket, and the next is divided
pub record FileWorked : Type 0 where
  pub written : file.written ≡ Ok 69
  pub accepted : again.made ≡ Ok two.left.state.head
  pub fit : fits back anew ≡ true
  pub anew : (step present (label 1 8) back).event ≡ Event.allocated (Ok (allocation 4100 198 8 199 16))
  pub rows : (chain_of (step present (label 1 8) back).state 0 ≡ 0 ∷ []) × (chain_of (step present (label 1 8) back).state 1 ≡ 4 ∷ 3 ∷ 2 ∷ 1 ∷ [])

computed : CountsWorked × FileWorked
unfolding shelf_height roundingStep align by_ratio power_of_two doubled ratio bucket_count shelf_at put_shelf bucket_at put_bucket chain_from next first
    chain hit new_index new_generation new_store add_bucket lay_one lay_many another_column short opened tall bucket_width pushed laid_shelf plain_shelf
    filled new_shelf filler_ends can_add skipped takes pick_in considered searched search unreferenced issue
    column_of is_lent is_domain is_columns is_stacked is_linked is_chained is_ordered is_counted is_stocked is_last_used is_steady is_rested
    is_sound_by natural outside
    column_width issue_first place_new place aligned_sides request calls.allocate_by
    head_record shelf_record bucket_record file_from file_of saving version_in head_in shelf_from bucket_from is_framed is_file shelves_stored buckets_stored
    needs_repair risen repaired
    stored read_sound read_by entries added place_of place_for belongs overlap clash stands fits verdict_by allocate_by write
computed = (
  record { before = (refl, refl); now = (refl, refl); fillers = (refl, refl, refl, refl) },
  record { written = refl; accepted = refl; fit = refl; anew = refl; rows = (refl, refl) },
)

pub counts_worked : CountsWorked
counts_worked = computed.0

pub file_worked : FileWorked
file_worked = computed.1

-- ---- the run

strip_new : new (pos 264) (pos 16) (pos 1) (pos 1) (pos 1) 0 strip.shelves strip.buckets ≡ Ok strip.head
unfolding new made natural outside options_bad column_width is_lent
strip_new = refl

-- two calls of the build before T-06, its file, the list lent anew, and a call of the present one
abbrev past : List Event
past = Event.lent (take (entries back) anew) ∷ two.event ∷ one.event ∷ []

abbrev third : StepListed
third = listed_step present (label 1 8) (holding back anew)

pub count_run : Run present (third.event ∷ past) third.left.state (Listing.lent third.left.list)
count_run =
    let begun : Run Build.naming [] strip (Listing.lent list) =
    Run.fresh Build.naming (pos 264) (pos 16) (pos 1) (pos 1) (pos 1) 0 strip.shelves strip.buckets strip.head strip_new list in
    let first : Run Build.naming (one.event ∷ []) one.left.state (Listing.lent one.left.list) =
    Run.called Build.naming [] strip list begun (label 1 8) in
    let second : Run Build.naming (two.event ∷ one.event ∷ []) two.left.state (Listing.lent two.left.list) =
    Run.called Build.naming (one.event ∷ []) one.left.state one.left.list first (label 263 8) in
    let read : Run present (two.event ∷ one.event ∷ []) back Listing.none =
    Run.restored present Build.naming (two.event ∷ one.event ∷ []) two.left.state (Listing.lent two.left.list) second (replicate 69 0) 69
    file_worked.written (replicate 20475 7) (replicate 28665 7) two.left.state.head file_worked.accepted in
    let relent : Run present past back (Listing.lent anew) =
    Run.relent present (two.event ∷ one.event ∷ []) back read refl anew ((fits_test back anew).0 file_worked.fit) in
    Run.called present past back anew relent (label 1 8)

-- the three labels lie inside, apart, and the figure is theirs
pub count_kept : Kept (third.event ∷ past) third.left.state
count_kept = kept present (third.event ∷ past) third.left.state (Listing.lent third.left.list) count_run
