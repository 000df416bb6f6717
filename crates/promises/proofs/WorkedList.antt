-- T-02, computed: the calls of the complaint (Worked's `twice`) with the list, and a restart with a list lent anew. All of it is worked out by the
-- rules alone.
use Rattle.std.specs.Prelude.{Ok, Err}
use mathlib.Core.Bool.{true}
use mathlib.Core.Path.{◌≡◌, refl, ap}
use mathlib.Core.List.{List, [], ◌∷◌}
use lib.ListN.{replicate}
use lib.IntN.{pos}
use Rattle.rules.specs.declared.Allocation.{Allocation}
use Rattle.rules.specs.declared.Refusal.{Refusal}
use Rattle.rules.specs.Rounding.{shelf_height, step as roundingStep, align}
use Rattle.rules.specs.BucketCount.{by_ratio, power_of_two, doubled, ratio, bucket_count}
use Rattle.rules.specs.Tables.{Atlas, atlas, shelf_at, put_shelf, bucket_at, put_bucket}
use Rattle.rules.specs.Chains.{chain_from, next, first, chain, hit}
use Rattle.rules.specs.Store.{new_index, new_generation, new_store, add_bucket, lay_one, lay_many}
use Rattle.rules.specs.NewShelf.{another_column, short, opened, tall, bucket_width, pushed, laid_shelf, plain_shelf, filled, new_shelf, filler_ends}
use Rattle.rules.specs.Search.{can_add, skipped, takes, pick_in, considered, searched, search}
use Rattle.rules.specs.Merging.{unreferenced}
use Rattle.rules.specs.Issue.{issue}
use Rattle.rules.specs.Return.{returned_bucket, freed_area, uncleaned, released_table, stepped_back, popped, cleaned, last_emptied, returned}
use Rattle.rules.specs.Sound.{column_of, is_lent, is_domain, is_columns, is_stacked, is_linked, is_chained}
use Rattle.rules.specs.Sound.{is_ordered, is_counted, is_stocked, is_last_used, is_steady, is_rested, is_sound_by}
use Rattle.rules.specs.Calls.{fresh_head, natural, outside, column_width, options_bad, made, new, issue_first, place_new, place, aligned_sides, request, return_id}
use Rattle.rules.specs.Calls as calls
use Rattle.rules.specs.Builds.{present}
use Rattle.rules.specs.Repair.{needs_repair, risen, repaired}
use Rattle.rules.specs.Files.{head_record, shelf_record, bucket_record, file_from, file_of, version_in, head_in, shelf_from, bucket_from, is_framed}
use Rattle.rules.specs.Files.{is_file, shelves_stored, buckets_stored, stored, Saved, Loaded, read_sound, read, read_by}
use Rattle.rules.specs.Saving.{saving}
use Rattle.rules.specs.Held.{blank, entries, added, removed, place_of, place_for, belongs, overlap, clash, stands, fits}
use Rattle.rules.specs.Listed.{Holding, holding, verdict_by, allocate_by, deallocate, deallocate_by, write}
use Rattle.rules.specs.History.{Call, Event, StepListed, listed_step, held, figure, issued_since, file_in, read_into, Listing, Run}
use Rattle.promises.proofs.Worked.{small, label, allocation, twice}

-- the history of some calls with the list, the newest first, and what they leave
pub record RanListed : Type 0 where
  pub past : List Event
  pub left : Holding

abbrev pub ran_listed : Holding → List Call → RanListed
ran_listed l [] = record { past = []; left = l }
ran_listed l (c ∷ cs) =
    let before : RanListed = ran_listed l cs in
    let s : StepListed = listed_step present c before.left in
    record { past = s.event ∷ before.past; left = s.left }

-- a list with room for three
abbrev pub beside : List Allocation
beside = replicate 3 blank

-- ---- the complaint, mended

-- two labels, the first handed back twice, a third label
abbrev pub mended : RanListed
mended = ran_listed (holding small beside) twice

pub record TwiceRefused : Type 0 where
  -- the first return is taken, the second answers 20; the third label then lies above the second's row
  pub past : mended.past
      ≡ Event.allocated (Ok (allocation 4097 0 8 25 16))
      ∷ Event.deallocated 4096 (Err Refusal.NotHeld)
      ∷ Event.deallocated 4096 (Ok tt)
      ∷ Event.allocated (Ok (allocation 8192 20 0 50 8))
      ∷ Event.allocated (Ok (allocation 4096 0 0 20 8)) ∷ []
  pub holds : held mended.past ≡ allocation 4097 0 8 25 16 ∷ allocation 8192 20 0 50 8 ∷ []
  -- the list has both, bucket by bucket, and what was last in a place that is not used stays there
  pub entries : entries mended.left.state ≡ 2
  pub list : mended.left.list ≡ allocation 8192 20 0 50 8 ∷ allocation 4097 0 8 25 16 ∷ blank ∷ []

-- ---- a restart

-- 64 by 64, alignment 1, one column; a label 10 by 7
abbrev square : Atlas
square = atlas (fresh_head 64 64 1 1 1) (replicate 20475 0) (replicate 28665 0)

abbrev one : RanListed
one = ran_listed (holding square beside) (label 10 7 ∷ [])

abbrev file : Saved
file = write present one.left (replicate 100 0)

-- read back over tables that hold other numbers
abbrev again : Loaded
again = read (file_in file 87) (replicate 20475 7) (replicate 28665 7)

abbrev back : Atlas
back = read_into one.left.state.head again

-- lent anew: the id that was held, and one column of what it had
abbrev anew : List Allocation
anew = allocation 4097 35 0 36 8 ∷ []

abbrev past_anew : List Event
past_anew = Event.lent anew ∷ one.past

pub record Relent : Type 0 where
  pub placed : one.past ≡ Event.allocated (Ok (allocation 4097 32 0 42 8)) ∷ []
  pub written : file.written ≡ Ok 87
  pub accepted : again.made ≡ Ok one.left.state.head
  pub fits : fits back anew ≡ true
  -- "only the areas in demand 3's figure stay those of T-01's history"
  pub stays : (held past_anew ≡ anew) × (figure past_anew ≡ 80) × (back.head.occupied ≡ 80)
  pub returned : (deallocate 4097 (holding back anew)).answer ≡ (Ok tt)
  pub gone : (held (Event.deallocated 4097 (Ok tt) ∷ past_anew) ≡ []) × (figure (Event.deallocated 4097 (Ok tt) ∷ past_anew) ≡ 0)
      × ((deallocate 4097 (holding back anew)).left.state.head.occupied ≡ 0)

-- ---- computed

-- call by call, each on what those before it leave
abbrev leaves : List Call → Holding
leaves cs = (ran_listed (holding small beside) cs).left

record OneByOne : Type 0 where
  first : (listed_step present (label 20 8) (leaves [])).event ≡ Event.allocated (Ok (allocation 4096 0 0 20 8))
  second : (listed_step present (label 30 8) (leaves (label 20 8 ∷ []))).event ≡ Event.allocated (Ok (allocation 8192 20 0 50 8))
  taken : (listed_step present (Call.deallocate 4096) (leaves (label 30 8 ∷ label 20 8 ∷ []))).event ≡ Event.deallocated 4096 (Ok tt)
  refused : (listed_step present (Call.deallocate 4096) (leaves (Call.deallocate 4096 ∷ label 30 8 ∷ label 20 8 ∷ []))).event
      ≡ Event.deallocated 4096 (Err Refusal.NotHeld)
  third : (listed_step present (label 25 8) (leaves (Call.deallocate 4096 ∷ Call.deallocate 4096 ∷ label 30 8 ∷ label 20 8 ∷ []))).event
      ≡ Event.allocated (Ok (allocation 4097 0 8 25 16))
  number : entries (leaves twice).state ≡ 2
  list : (leaves twice).list ≡ allocation 8192 20 0 50 8 ∷ allocation 4097 0 8 25 16 ∷ blank ∷ []

computed : OneByOne
unfolding shelf_height roundingStep align by_ratio power_of_two doubled ratio bucket_count shelf_at put_shelf bucket_at put_bucket chain_from next first
    chain hit new_index new_generation new_store add_bucket lay_one lay_many another_column short opened tall bucket_width pushed laid_shelf plain_shelf
    filled new_shelf filler_ends can_add skipped takes pick_in considered searched search unreferenced issue
    returned_bucket freed_area uncleaned released_table stepped_back popped cleaned last_emptied returned
    column_of is_lent is_domain is_columns is_stacked is_linked is_chained is_ordered is_counted is_stocked is_last_used is_steady is_rested
    is_sound_by natural outside
    column_width issue_first place_new place aligned_sides request calls.allocate_by return_id calls.deallocate_by
    head_record shelf_record bucket_record file_from file_of saving version_in head_in shelf_from bucket_from is_framed is_file shelves_stored buckets_stored
    needs_repair risen repaired
    stored read_sound read_by entries added removed place_of place_for belongs overlap clash stands fits verdict_by allocate_by deallocate_by write
    figure issued_since
computed = record { first = refl; second = refl; taken = refl; refused = refl; third = refl; number = refl; list = refl }

pub relent_worked : Relent
unfolding shelf_height roundingStep align by_ratio power_of_two doubled ratio bucket_count shelf_at put_shelf bucket_at put_bucket chain_from next first
    chain hit new_index new_generation new_store add_bucket lay_one lay_many another_column short opened tall bucket_width pushed laid_shelf plain_shelf
    filled new_shelf filler_ends can_add skipped takes pick_in considered searched search unreferenced issue
    returned_bucket freed_area uncleaned released_table stepped_back popped cleaned last_emptied returned
    column_of is_lent is_domain is_columns is_stacked is_linked is_chained is_ordered is_counted is_stocked is_last_used is_steady is_rested
    is_sound_by natural outside
    column_width issue_first place_new place aligned_sides request calls.allocate_by return_id calls.deallocate_by
    head_record shelf_record bucket_record file_from file_of saving version_in head_in shelf_from bucket_from is_framed is_file shelves_stored buckets_stored
    needs_repair risen repaired
    stored read_sound read_by entries added removed place_of place_for belongs overlap clash stands fits verdict_by allocate_by deallocate_by write
    figure issued_since
relent_worked = record {
  placed = refl;
  written = refl;
  accepted = refl;
  fits = refl;
  stays = (refl, refl, refl);
  returned = refl;
  gone = (refl, refl, refl);
}

behind : {x y : Event} {xs ys : List Event} → x ≡ y → xs ≡ ys → x ∷ xs ≡ y ∷ ys
behind p q = rw (p, q)

pub twice_refused : TwiceRefused
twice_refused =
    let c : OneByOne = computed in
    let past : mended.past ≡ _ = behind c.third (behind c.refused (behind c.taken (behind c.second (behind c.first refl)))) in
    record { past = past; holds = ap held past; entries = c.number; list = c.list }

-- ---- it is a run, so demand 3 holds of it (History)

small_new : new (pos 64) (pos 32) (pos 1) (pos 1) (pos 1) 0 small.shelves small.buckets ≡ Ok small.head
unfolding new made natural outside options_bad column_width is_lent
small_new = refl

listed_run : (cs : List Call) → Run present (ran_listed (holding small beside) cs).past (ran_listed (holding small beside) cs).left.state
    (Listing.lent (ran_listed (holding small beside) cs).left.list)
listed_run [] = Run.fresh present (pos 64) (pos 32) (pos 1) (pos 1) (pos 1) 0 small.shelves small.buckets small.head small_new beside
listed_run (c ∷ cs) =
    let before : RanListed = ran_listed (holding small beside) cs in
    Run.called present before.past before.left.state before.left.list (listed_run cs) c

pub mended_run : Run present mended.past mended.left.state (Listing.lent mended.left.list)
mended_run = listed_run twice
