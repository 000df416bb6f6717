-- T-08 computed: tables of a build before it with a worn-out row. That build has no place for a 32 by 32 label; its file is read by the present one with
-- the row repaired, and the label is placed there. The id that was returned before the writing is refused, the one that was held is taken back.
use Rattle.std.specs.Prelude.{Ok, Err}
use Prim.Native.Nat.{ℕ}
use mathlib.Core.Bool.{true}
use mathlib.Core.Path.{◌≡◌, refl}
use lib.ListN.{replicate}
use lib.IntN.{pos}
use Rattle.rules.specs.declared.Head.{Head}
use Rattle.rules.specs.declared.Shelf.{Shelf}
use Rattle.rules.specs.declared.Bucket.{Bucket}
use Rattle.rules.specs.declared.Refusal.{Refusal}
use Rattle.rules.specs.Limits.{none}
use Rattle.rules.specs.Rounding.{shelf_height, step as roundingStep, align}
use Rattle.rules.specs.Ids.{id_of}
use Rattle.rules.specs.Builds.{Build}
use Rattle.rules.specs.BucketCount.{by_ratio, power_of_two, doubled, ratio, bucket_count}
use Rattle.rules.specs.Tables.{Atlas, atlas, shelf_at, put_shelf, bucket_at, put_bucket, with_shelves, with_store, with_room, with_occupied}
use Rattle.rules.specs.Chains.{chain_from, next, first, chain, hit}
use Rattle.rules.specs.NewShelf.{another_column}
use Rattle.rules.specs.Search.{can_add, skipped, takes, pick_in, considered, searched, search}
use Rattle.rules.specs.Merging.{unreferenced, follows, follow, run_at, first_run, merge_run}
use Rattle.rules.specs.Issue.{issue}
use Rattle.rules.specs.Return.{returned_bucket, freed_area, uncleaned, last_emptied, returned, released_table, stepped_back, popped, cleaned}
use Rattle.rules.specs.Sound.{column_of, is_lent, is_domain, is_columns, is_stacked, is_linked, is_chained}
use Rattle.rules.specs.Sound.{is_ordered, is_counted, is_stocked, is_last_used, is_steady, is_rested, is_sound_by}
use Rattle.rules.specs.Calls.{fresh_head, natural, column_width, place_merged, place, aligned_sides, request, allocate_by, allocate, return_id}
use Rattle.rules.specs.Calls.{deallocate_by, deallocate}
use Rattle.rules.specs.Repair.{needs_repair, risen, repaired}
use Rattle.rules.specs.Files.{head_record, shelf_record, bucket_record, file_from, file_of, version_in, head_in, shelf_from, bucket_from, is_framed}
use Rattle.rules.specs.Files.{is_file, shelves_stored, buckets_stored, stored, Saved, Loaded, write, read_sound, read_by, read}
use Rattle.rules.specs.Saving.{saving}
use Rattle.rules.specs.History.{file_in, read_into}
use Rattle.promises.proofs.Worked.{allocation}

-- 64 by 64, one column, with two rows 32 high of one bucket each: the first has issued 4,095 items and holds none, the second is full
abbrev head : Head
head = with_occupied (with_store (with_shelves (with_room (fresh_head 64 64 1 1 1) 0 0) 2) 2 none) 2048

abbrev row : ℕ → ℕ → Shelf
row y first = record { x = 0; y = y; height = 32; width = 64; first = first }

abbrev bucket : ℕ → ℕ → ℕ → ℕ → ℕ → Bucket
bucket free refs items shelf generation =
    record { x = 0; free = free; next = none; refs = refs; items = items; shelf = shelf; generation = generation }

abbrev tables : Bucket → Bucket → Atlas
tables a b = atlas head (put_shelf (put_shelf (replicate 20475 0) 0 (row 0 0)) 1 (row 32 1)) (put_bucket (put_bucket (replicate 28665 0) 0 a) 1 b)

abbrev worn : Atlas
worn = tables (bucket 64 0 4095 0 255) (bucket 0 1 1 1 0)

abbrev file : Saved
file = write Build.dividing worn (replicate 101 0)

-- read over tables that hold other numbers
abbrev again : Loaded
again = read (file_in file 101) (replicate 20475 7) (replicate 28665 7)

abbrev back : Atlas
back = read_into head again

pub record WearWorked : Type 0 where
  -- before: sound then, and not now; 6 for the label
  pub before : (is_sound_by Build.dividing worn ≡ true) × ((allocate_by Build.dividing (pos 32) (pos 32) worn).answer ≡ Err Refusal.NoPlace)
  pub written : file.written ≡ Ok 101
  pub accepted : again.made ≡ Ok head
  -- the worn bucket has item count 0, and 0 follows generation 255; the other is as it was
  pub repairs : (bucket_at back.buckets 0 ≡ bucket 64 0 0 0 0) × (bucket_at back.buckets 1 ≡ bucket 0 1 1 1 0)
  -- the label is placed
  pub placed : (allocate (pos 32) (pos 32) back).answer ≡ Ok (allocation 4096 0 0 32 32)
  -- the worn bucket's last label, returned before; the other's, which was held
  pub ids : ((deallocate (id_of 0 4095 255) back).answer ≡ Err Refusal.Stale) × ((deallocate (id_of 1 1 0) back).answer ≡ (Ok tt))

pub wear_worked : WearWorked
unfolding shelf_height roundingStep align by_ratio power_of_two doubled ratio bucket_count shelf_at put_shelf bucket_at put_bucket chain_from next first
    chain hit another_column can_add skipped takes pick_in considered searched search unreferenced follows follow run_at first_run merge_run issue
    returned_bucket freed_area uncleaned last_emptied returned released_table stepped_back popped cleaned
    column_of is_lent is_domain is_columns is_stacked is_linked is_chained is_ordered is_counted is_stocked is_last_used is_steady is_rested is_sound_by natural
    column_width place_merged place aligned_sides request allocate_by return_id deallocate_by head_record shelf_record bucket_record file_from file_of saving
    version_in head_in shelf_from bucket_from is_framed is_file shelves_stored buckets_stored needs_repair risen repaired stored read_sound read_by
wear_worked = record {
  before = (refl, refl);
  written = refl;
  accepted = refl;
  repairs = (refl, refl);
  placed = refl;
  ids = (refl, refl);
}
