-- The cases that document 01 marks P, in one list under one claim about the rules.
-- Each is computed from the rules, on tables with room for 4,095 of each; the trace with a list of as many entries.
use Prim.Native.Nat.{ℕ, ◌%◌, ◌/◌}
use mathlib.Core.Bool.{false}
use mathlib.Core.Path.{◌≡◌, refl}
use mathlib.Core.List.{List, [], ◌∷◌, ◌++◌}
use lib.ListN.{replicate}
use lib.IntN.{pos}
use Rattle.rules.specs.Rounding.{shelf_height, step, align}
use Rattle.rules.specs.Builds.{present}
use Rattle.rules.specs.BucketCount.{by_ratio, power_of_two, doubled, ratio, bucket_count}
use Rattle.rules.specs.Tables.{Atlas, atlas, shelf_at, put_shelf, bucket_at, put_bucket}
use Rattle.rules.specs.Chains.{chain_from, next, first, chain, hit}
use Rattle.rules.specs.Store.{new_index, new_generation, new_store, add_bucket, lay_one, lay_many}
use Rattle.rules.specs.NewShelf.{another_column, short, opened, tall, bucket_width, pushed, laid_shelf, plain_shelf, filled, new_shelf, filler_ends}
use Rattle.rules.specs.Search.{can_add, skipped, takes, pick_in, considered, searched, search}
use Rattle.rules.specs.Merging.{unreferenced}
use Rattle.rules.specs.Issue.{issue}
use Rattle.rules.specs.Return.{returned_bucket, freed_area, uncleaned, released_table, stepped_back, popped, cleaned, last_emptied, returned}
use Rattle.rules.specs.Grow.{free_space}
use Rattle.rules.specs.Sound.{column_of, is_lent, is_domain, is_columns, is_stacked, is_linked, is_chained}
use Rattle.rules.specs.Sound.{is_ordered, is_counted, is_stocked, is_last_used, is_steady, is_rested, is_sound_by}
use Rattle.rules.specs.Answers.{placing_says}
use Rattle.rules.specs.Calls.{fresh_head, natural, outside, column_width, options_bad, made, new, issue_first, place_new}
use Rattle.rules.specs.Calls.{place, aligned_sides, request, allocate, allocate_by, return_id, deallocate_by, allocated_space, free_space_of}
use Rattle.rules.specs.Held.{blank, entries, added, removed, place_of, place_for, belongs, overlap, clash, stands, fits}
use Rattle.rules.specs.Listed.{holding, verdict_by}
use Rattle.rules.specs.Listed as listed
use Rattle.rules.specs.Text.{bytes}
use Rattle.rules.specs.Trace.{Bench, bench, signed, digits, decimal, new_turn, allocate_turn, deallocate_turn}
use Rattle.rules.specs.Trace.{report_turn, length_of, call_turn, record_turn, misframed, malformed, replay_from, replay}

-- lent tables with room for 4,095 of each
abbrev lent : ℕ → ℕ → ℕ → ℕ → ℕ → Atlas
lent width height align_width align_height columns =
    atlas (fresh_head width height align_width align_height columns) (replicate 20475 0) (replicate 28665 0)

abbrev unmade : Bench
unmade = bench false (holding (lent 1 1 1 1 1) (replicate 4095 blank))

-- a number of four bytes, little-endian
abbrev four : ℕ → List ℕ
four n = n % 256 ∷ n / 256 % 256 ∷ n / 65536 % 256 ∷ n / 16777216 ∷ []

abbrev new_record : ℕ → ℕ → ℕ → ℕ → ℕ → List ℕ
new_record width height align_width align_height columns =
    23 ∷ 0 ∷ 1 ∷ 0 ∷ (four width ++ four height ++ four align_width ++ four align_height ++ four columns ++ (0 ∷ []))

abbrev allocate_record : ℕ → ℕ → List ℕ
allocate_record width height = 10 ∷ 0 ∷ 2 ∷ 0 ∷ (four width ++ four height)

abbrev return_record : ℕ → List ℕ
return_record id = 6 ∷ 0 ∷ 3 ∷ 0 ∷ four id

abbrev report_record : List ℕ
report_record = 2 ∷ 0 ∷ 6 ∷ 0 ∷ []

-- "a 64 by 64 atlas, alignment 1, one column; allocate 10 by 7; allocate 20 by 7; return 4097; return 8193; allocate 10 by 7; return 4097;
-- report"
abbrev marked_trace : List ℕ
marked_trace =
    new_record 64 64 1 1 1 ++ allocate_record 10 7 ++ allocate_record 20 7 ++ return_record 4097 ++ return_record 8193 ++ allocate_record 10 7
    ++ return_record 4097 ++ report_record

abbrev marked_output : List ℕ
marked_output = bytes "new ok\nalloc 4097 32 0 42 8\nalloc 8193 42 0 62 8\ndealloc ok\ndealloc ok\nalloc 16781312 32 0 42 8\nrefused 10\nspace 80 4016\n"

-- "On 64 by 64 with two columns"
abbrev two_columns : Atlas
two_columns = lent 64 64 1 1 2

pub record Marked : Type 0 where
  pub heights : (shelf_height 31 ≡ 32) × (shelf_height 33 ≡ 48) × (shelf_height 128 ≡ 128) × (shelf_height 129 ≡ 160)
  -- T-06: "The P cases for 33 and 48 become 4."
  pub ratios : (by_ratio present 4 ≡ 1) × (by_ratio present 16 ≡ 2) × (by_ratio present 17 ≡ 4) × (by_ratio present 32 ≡ 4)
      × (by_ratio present 33 ≡ 4) × (by_ratio present 48 ≡ 4)
  pub whole : placing_says (allocate (pos 24) (pos 46) two_columns).answer ≡ 0 ∷ 4096 ∷ 0 ∷ 0 ∷ 24 ∷ 48 ∷ []
  pub filler : placing_says (allocate (pos 24) (pos 32) (allocate (pos 24) (pos 46) two_columns).state).answer ≡ 0 ∷ 4098 ∷ 32 ∷ 0 ∷ 56 ∷ 32 ∷ []
  pub trace : (replay marked_trace unmade).line ≡ marked_output

pub marked : Marked
unfolding shelf_height step align by_ratio power_of_two doubled ratio bucket_count shelf_at put_shelf bucket_at put_bucket chain_from next first chain hit
    new_index new_generation new_store add_bucket lay_one lay_many another_column short opened tall bucket_width pushed laid_shelf plain_shelf filled new_shelf
    filler_ends can_add skipped takes pick_in considered searched search unreferenced issue returned_bucket freed_area uncleaned released_table stepped_back
    popped cleaned last_emptied returned free_space column_of is_lent is_domain is_columns is_stacked is_linked is_chained is_ordered is_counted is_stocked
    is_last_used is_steady is_rested is_sound_by natural outside column_width options_bad made new issue_first place_new place aligned_sides request
    allocate_by return_id
    deallocate_by allocated_space free_space_of entries added removed place_of place_for belongs overlap clash stands fits verdict_by listed.allocate_by
    listed.deallocate_by
    listed.allocated_space listed.free_space_of signed digits decimal new_turn allocate_turn deallocate_turn report_turn length_of call_turn
    record_turn misframed
    malformed replay_from replay
marked = record {
  heights = (refl, refl, refl, refl);
  ratios = (refl, refl, refl, refl, refl, refl);
  whole = refl;
  filler = refl;
  trace = refl;
}
