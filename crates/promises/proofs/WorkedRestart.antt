-- A worked restart of a build without the list, computed: two labels, a write, a third label, and the file read back over other tables. The third
-- label is not held there: asked for again, it gets the place and the id that it had. All of it is worked out by the rules alone.
use Rattle.std.specs.Prelude.{Ok}
use Prim.Native.Nat.{ℕ}
use mathlib.Core.Path.{◌≡◌, refl}
use mathlib.Core.List.{List, [], ◌∷◌}
use lib.ListN.{replicate}
use Rattle.rules.specs.Rounding.{shelf_height, step as roundingStep, align}
use Rattle.rules.specs.BucketCount.{by_ratio, power_of_two, doubled, ratio, bucket_count}
use Rattle.rules.specs.Tables.{Atlas, shelf_at, put_shelf, bucket_at, put_bucket}
use Rattle.rules.specs.Chains.{chain_from, next, first, chain, hit}
use Rattle.rules.specs.Store.{new_index, new_generation, new_store, add_bucket, lay_one, lay_many}
use Rattle.rules.specs.NewShelf.{another_column, short, opened, tall, bucket_width, pushed, laid_shelf, plain_shelf, filled, new_shelf, filler_ends}
use Rattle.rules.specs.Search.{can_add, skipped, takes, pick_in, considered, searched, search}
use Rattle.rules.specs.Merging.{unreferenced}
use Rattle.rules.specs.Issue.{issue}
use Rattle.rules.specs.Return.{returned_bucket, freed_area, uncleaned, released_table, stepped_back, popped, cleaned, last_emptied, returned}
use Rattle.rules.specs.Sound.{column_of, is_lent, is_domain, is_columns, is_stacked, is_linked, is_chained}
use Rattle.rules.specs.Sound.{is_ordered, is_counted, is_stocked, is_last_used, is_steady, is_rested, is_sound_by}
use Rattle.rules.specs.Calls.{natural, outside, column_width, issue_first, place_new, place, aligned_sides, request, allocate_by, return_id, deallocate_by}
use Rattle.rules.specs.Builds.{Build, present}
use Rattle.rules.specs.Repair.{needs_repair, risen, repaired}
use Rattle.rules.specs.Files.{head_record, shelf_record, bucket_record, file_from, file_of, write, version_in, head_in, shelf_from, bucket_from, is_framed}
use Rattle.rules.specs.Files.{is_file, shelves_stored, buckets_stored, stored, Loaded, read_sound, read, read_by}
use Rattle.rules.specs.Saving.{saving}
use Rattle.rules.specs.History.{Call, Event, step, held, file_in, read_into}
use Rattle.promises.proofs.Worked.{label, allocation, at, ran}

-- two labels, and the file of them
abbrev two : List Call
two = label 30 8 ∷ label 20 8 ∷ []

abbrev buffer : List ℕ
buffer = replicate 100 0

abbrev file_of_two : List ℕ
file_of_two = file_in (write Build.keeping (at two).state buffer) 69

-- read back over tables that hold other numbers
abbrev again : Loaded
again = read file_of_two (replicate 20475 7) (replicate 28665 7)

abbrev back : Atlas
back = read_into (at two).state.head again

pub record RestartWorked : Type 0 where
  pub written : (write Build.keeping (at two).state buffer).written ≡ Ok 69
  pub accepted : again.made ≡ Ok (at two).state.head
  pub holds : held (at two).past ≡ allocation 8192 20 0 50 8 ∷ allocation 4096 0 0 20 8 ∷ []
  -- the third label, before the restart and after it
  pub third : (step Build.keeping (label 10 8) (at two).state).event ≡ Event.allocated (Ok (allocation 12288 50 0 60 8))
  pub anew : (step present (label 10 8) back).event ≡ Event.allocated (Ok (allocation 12288 50 0 60 8))
  -- the two that were held go back, and nothing is left
  pub returned : (ran back (Call.deallocate 8192 ∷ Call.deallocate 4096 ∷ [])).past
      ≡ Event.deallocated 8192 (Ok tt) ∷ Event.deallocated 4096 (Ok tt) ∷ []
  pub empty : (ran back (Call.deallocate 8192 ∷ Call.deallocate 4096 ∷ [])).state.head.occupied ≡ 0

pub restart_worked : RestartWorked
unfolding shelf_height roundingStep align by_ratio power_of_two doubled ratio bucket_count shelf_at put_shelf bucket_at put_bucket chain_from next first
    chain hit new_index new_generation new_store add_bucket lay_one lay_many another_column short opened tall bucket_width pushed laid_shelf plain_shelf
    filled new_shelf filler_ends can_add skipped takes pick_in considered searched search unreferenced issue
    returned_bucket freed_area uncleaned released_table stepped_back popped cleaned last_emptied returned
    column_of is_lent is_domain is_columns is_stacked is_linked is_chained is_ordered is_counted is_stocked is_last_used is_steady is_rested
    is_sound_by natural outside
    column_width issue_first place_new place aligned_sides request allocate_by return_id deallocate_by
    head_record shelf_record bucket_record file_from file_of saving version_in head_in shelf_from bucket_from is_framed is_file shelves_stored buckets_stored
    needs_repair risen repaired stored
    read_sound read_by
restart_worked = record { written = refl; accepted = refl; holds = refl; third = refl; anew = refl; returned = refl; empty = refl }
