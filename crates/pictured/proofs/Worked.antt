-- Pictures of small atlases, computed: document 01's first two labels, a fresh atlas, and a row that a merge left flat. All of it is worked out by the
-- rules alone.
use Rattle.std.specs.Prelude.{Ok, Err}
use Prim.Native.Nat.{ℕ}
use mathlib.Core.Path.{◌≡◌, refl}
use mathlib.Core.List.{List, ◌++◌}
use lib.ListN.{replicate}
use lib.IntN.{pos}
use Rattle.rules.specs.declared.Refusal.{Refusal}
use Rattle.rules.specs.Rounding.{shelf_height, step as roundingStep, align}
use Rattle.rules.specs.BucketCount.{by_ratio, power_of_two, doubled, ratio, bucket_count}
use Rattle.rules.specs.Text.{bytes, digits, decimal}
use Rattle.rules.specs.Tables.{Atlas, atlas, shelf_at, put_shelf, bucket_at, put_bucket}
use Rattle.rules.specs.Chains.{chain_from, next, first, chain, hit}
use Rattle.rules.specs.Store.{new_index, new_generation, new_store, add_bucket, lay_one, lay_many}
use Rattle.rules.specs.NewShelf.{another_column, short, opened, tall, bucket_width, pushed, laid_shelf, plain_shelf, filled, new_shelf, filler_ends}
use Rattle.rules.specs.Search.{can_add, skipped, takes, pick_in, considered, searched, search}
use Rattle.rules.specs.Merging.{unreferenced, follows, follow, run_at, first_run, merge_run, flattened_to, merged, run_worn}
use Rattle.rules.specs.Issue.{issue}
use Rattle.rules.specs.Return.{returned_bucket, freed_area, uncleaned, released_table, stepped_back, popped, cleaned, last_emptied, returned}
use Rattle.rules.specs.Sound.{column_of, is_lent, is_domain, is_columns, is_stacked, is_linked, is_chained}
use Rattle.rules.specs.Sound.{is_ordered, is_counted, is_stocked, is_last_used, is_steady, is_rested, is_sound_by}
use Rattle.rules.specs.Calls.{fresh_head, natural, outside, column_width, issue_first, place_new}
use Rattle.rules.specs.Calls.{place_merged, place, aligned_sides, request, allocate, allocate_by, return_id, deallocate, deallocate_by}
use Rattle.rules.specs.Saving.{saved, saving}
use Rattle.rules.specs.Picture.{parts, drawing, first_line, rect_line, picture_of, picture}

-- alignment 1, one column, lent tables with room for 4,095 of each
abbrev fresh : ℕ → ℕ → Atlas
fresh width height = atlas (fresh_head width height 1 1 1) (replicate 20475 0) (replicate 28665 0)

abbrev label : ℕ → ℕ → Atlas → Atlas
label w h g = (allocate (pos w) (pos h) g).state

abbrev back : ℕ → Atlas → Atlas
back id g = (deallocate id g).state

-- 01's first two labels
abbrev two : Atlas
two = label 20 7 (label 10 7 (fresh 64 64))

-- two rows of 8 with a third above them, the first two returned; then 60 by 16 takes both, and the upper one is left flat
abbrev flat : Atlas
flat = label 60 16 (back 4097 (back 4096 (label 60 8 (label 60 8 (label 60 8 (fresh 64 32))))))

abbrev text_of_two : List ℕ
text_of_two =
    bytes "<svg xmlns=\"http://www.w3.org/2000/svg\" viewBox=\"0 0 64 64\">\n"
    ++ bytes "<rect x=\"0\" y=\"0\" width=\"64\" height=\"64\" fill=\"#282828\"/>\n"
    ++ bytes "<rect x=\"32\" y=\"0\" width=\"30\" height=\"8\" fill=\"#4646b4\"/>\n"
    ++ bytes "<rect x=\"62\" y=\"0\" width=\"2\" height=\"8\" fill=\"#323232\"/>\n"
    ++ bytes "<rect x=\"0\" y=\"0\" width=\"0\" height=\"8\" fill=\"#4646b4\"/>\n"
    ++ bytes "<rect x=\"0\" y=\"0\" width=\"32\" height=\"8\" fill=\"#323232\"/>\n"
    ++ bytes "</svg>\n"

abbrev text_of_fresh : List ℕ
text_of_fresh =
    bytes "<svg xmlns=\"http://www.w3.org/2000/svg\" viewBox=\"0 0 640 32\">\n"
    ++ bytes "<rect x=\"0\" y=\"0\" width=\"640\" height=\"32\" fill=\"#282828\"/>\n"
    ++ bytes "</svg>\n"

abbrev text_of_flat : List ℕ
text_of_flat =
    bytes "<svg xmlns=\"http://www.w3.org/2000/svg\" viewBox=\"0 0 64 32\">\n"
    ++ bytes "<rect x=\"0\" y=\"0\" width=\"64\" height=\"32\" fill=\"#282828\"/>\n"
    ++ bytes "<rect x=\"0\" y=\"0\" width=\"60\" height=\"16\" fill=\"#4646b4\"/>\n"
    ++ bytes "<rect x=\"60\" y=\"0\" width=\"4\" height=\"16\" fill=\"#323232\"/>\n"
    ++ bytes "<rect x=\"0\" y=\"16\" width=\"0\" height=\"0\" fill=\"#4646b4\"/>\n"
    ++ bytes "<rect x=\"0\" y=\"16\" width=\"64\" height=\"0\" fill=\"#323232\"/>\n"
    ++ bytes "<rect x=\"0\" y=\"16\" width=\"60\" height=\"8\" fill=\"#4646b4\"/>\n"
    ++ bytes "<rect x=\"60\" y=\"16\" width=\"4\" height=\"8\" fill=\"#323232\"/>\n"
    ++ bytes "</svg>\n"

pub record PictureWorked : Type 0 where
  pub labels : picture_of two ≡ text_of_two
  pub empty : picture_of (fresh 640 32) ≡ text_of_fresh
  -- the parts of a flat row are drawn with height 0
  pub flattened : picture_of flat ≡ text_of_flat
  -- a buffer that is just long enough, and one that is a byte shorter
  pub enough : picture (fresh 640 32) (replicate 128 0) ≡ saved (Ok 128) text_of_fresh
  pub short : picture (fresh 640 32) (replicate 127 0) ≡ saved (Err Refusal.Output) (replicate 127 0)

pub picture_worked : PictureWorked
unfolding shelf_height roundingStep align by_ratio power_of_two doubled ratio bucket_count shelf_at put_shelf bucket_at put_bucket chain_from next first
    chain hit new_index new_generation new_store add_bucket lay_one lay_many another_column short opened tall bucket_width pushed laid_shelf plain_shelf
    filled new_shelf filler_ends can_add skipped takes pick_in considered searched search unreferenced follows follow run_at first_run merge_run flattened_to
    merged run_worn issue returned_bucket freed_area uncleaned released_table stepped_back popped cleaned last_emptied returned
    column_of is_lent is_domain is_columns is_stacked is_linked is_chained is_ordered is_counted is_stocked is_last_used is_steady is_rested
    is_sound_by natural outside
    column_width issue_first place_new place_merged place aligned_sides request allocate_by return_id deallocate_by
    digits decimal saving parts drawing first_line rect_line picture_of
picture_worked = record { labels = refl; empty = refl; flattened = refl; enough = refl; short = refl }
