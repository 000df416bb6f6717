-- A run of panel calls, computed: two labels, one of them handed back twice, and a call whose out slice is too short.
use Prim.Native.Nat.{ℕ}
use mathlib.Core.Path.{◌≡◌, refl}
use mathlib.Core.List.{List, [], ◌∷◌}
use lib.ListN.{replicate, take}
use lib.IntN.{pos}
use Rattle.rules.specs.declared.Allocation.{Allocation}
use Rattle.rules.specs.Rounding.{shelf_height, step as roundingStep, align}
use Rattle.rules.specs.BucketCount.{by_ratio, power_of_two, doubled, ratio, bucket_count}
use Rattle.rules.specs.Tables.{shelf_at, put_shelf, bucket_at, put_bucket}
use Rattle.rules.specs.Chains.{chain_from, next, first, chain, hit}
use Rattle.rules.specs.Store.{new_index, new_generation, new_store, add_bucket, lay_one, lay_many}
use Rattle.rules.specs.NewShelf.{another_column, short, opened, tall, bucket_width, pushed, laid_shelf, plain_shelf, filled, new_shelf, filler_ends}
use Rattle.rules.specs.Search.{can_add, skipped, takes, pick_in, considered, searched, search}
use Rattle.rules.specs.Merging.{unreferenced, follows, follow, run_at, first_run, merge_run, flattened_to, merged, run_worn}
use Rattle.rules.specs.Issue.{issue}
use Rattle.rules.specs.Return.{returned_bucket, freed_area, uncleaned, released_table, stepped_back, popped, cleaned, last_emptied, returned}
use Rattle.rules.specs.Sound.{column_of, is_lent, is_domain, is_columns, is_stacked, is_linked, is_chained}
use Rattle.rules.specs.Sound.{is_ordered, is_counted, is_stocked, is_last_used, is_steady, is_rested, is_sound_by}
use Rattle.rules.specs.Calls as calls
use Rattle.rules.specs.Calls.{natural, outside, column_width, options_bad, made, issue_first, place_new, place_merged, place, aligned_sides, request, return_id}
use Rattle.rules.specs.Held.{entries, added, removed, place_of, place_for, belongs, overlap, clash, stands, fits}
use Rattle.rules.specs.Listed.{verdict_by}
use Rattle.rules.specs.Listed as listed
use Rattle.rules.specs.History.{Event, Listing, held}
use Rattle.promises.proofs.Worked.{allocation}
use Rattle.telling.specs.Header.{is_head, has_room, read_head, write_head, write_counts, write_allocation}
use Rattle.telling.specs.Told.{Told, told}
use Rattle.treadwharf.specs.Panel.{Back, changing}
use Rattle.treadwharf.specs.Panel as panel
use Rattle.boundary.specs.Calls.{PanelCall, PanelRun, NoRestart, answer, asks, event_of, refusal_of, made_of, reply_of, placing_of}

-- the history of some calls, the newest first, with the numbers after them
pub record PanelRan : Type 0 where
  pub past : List Event
  pub header : List ℕ
  pub shelves : List ℕ
  pub buckets : List ℕ
  pub list : List Allocation

-- what the next call hands back, and what it tells
abbrev backs : PanelCall → PanelRan → Back
backs c g = answer c g.header g.shelves g.buckets g.list

abbrev tells : PanelCall → PanelRan → Told
tells c g = (backs c g).told

abbrev pub panel_ran : PanelRan → List PanelCall → PanelRan
panel_ran g [] = g
panel_ran g (c ∷ cs) =
    let before : PanelRan = panel_ran g cs in
    record {
      past = event_of (asks c) (tells c before) ∷ before.past;
      header = (tells c before).header;
      shelves = (backs c before).shelves;
      buckets = (backs c before).buckets;
      list = (backs c before).list;
    }

-- a read is refused
abbrev pub Lawful : PanelRan → List PanelCall → Type 0
Lawful g [] = Unit {0}
Lawful g (c ∷ cs) =
    let before : PanelRan = panel_ran g cs in
    NoRestart c before.header before.shelves before.buckets × Lawful g cs

abbrev IsRun : PanelRan → Type 0
IsRun g = PanelRun g.past g.header g.shelves g.buckets (Listing.lent g.list)

pub ran_run : (g : PanelRan) → IsRun g → (cs : List PanelCall) → Lawful g cs → IsRun (panel_ran g cs)
ran_run g r [] l = r
ran_run g r (c ∷ cs) l =
    let before : PanelRan = panel_ran g cs in
    PanelRun.next before.past before.header before.shelves before.buckets before.list (ran_run g r cs l.1) c l.0

-- 64 by 32, alignment 1, one column, lent tables with room for 4,095 of each; 14 numbers are lent for the header
abbrev lent : List ℕ
lent = replicate 14 7

abbrev new_tells : Told
new_tells = panel.new (pos 64) (pos 32) (pos 1) (pos 1) (pos 1) 0 lent (replicate 20475 0) (replicate 28665 0)

-- what stands in the lent list
abbrev stood : Allocation
stood = allocation 7 7 7 7 7

abbrev pub start : PanelRan
start = record { past = []; header = new_tells.header; shelves = replicate 20475 0; buckets = replicate 28665 0; list = replicate 3 stood }

abbrev label : List ℕ → PanelCall
label out = PanelCall.allocate (pos 30) (pos 8) out

abbrev pub two : List PanelCall
two = label (replicate 6 9) ∷ label (replicate 5 9) ∷ []

abbrev pub back : List PanelCall
back = PanelCall.deallocate 4096 ∷ two

-- once more
abbrev pub again : List PanelCall
again = PanelCall.deallocate 4096 ∷ back

pub record PanelWorked : Type 0 where
  -- the twelve numbers, and the two behind them as they were
  pub made : new_tells ≡ told 0 (64 ∷ 32 ∷ 1 ∷ 1 ∷ 1 ∷ 64 ∷ 0 ∷ 32 ∷ 0 ∷ 0 ∷ 65535 ∷ 0 ∷ 7 ∷ 7 ∷ []) []
  -- id, left, top, right, bottom, and a sixth number as it was
  pub first : (tells (label (replicate 6 9)) start).out ≡ 4096 ∷ 0 ∷ 0 ∷ 30 ∷ 8 ∷ 9 ∷ []
  pub both : held (panel_ran start two).past ≡ allocation 8192 30 0 60 8 ∷ allocation 4096 0 0 30 8 ∷ []
  pub header : (panel_ran start two).header ≡ 64 ∷ 32 ∷ 1 ∷ 1 ∷ 1 ∷ 64 ∷ 0 ∷ 24 ∷ 1 ∷ 1 ∷ 65535 ∷ 480 ∷ 7 ∷ 7 ∷ []
  -- the one row of each table
  pub shelf : take 5 (panel_ran start two).shelves ≡ 0 ∷ 0 ∷ 8 ∷ 64 ∷ 0 ∷ []
  pub bucket : take 7 (panel_ran start two).buckets ≡ 0 ∷ 4 ∷ 65535 ∷ 2 ∷ 2 ∷ 0 ∷ 0 ∷ []
  -- the list has both; behind them, and where an entry has gone, stays what stood there
  pub list : (panel_ran start two).list ≡ allocation 4096 0 0 30 8 ∷ allocation 8192 30 0 60 8 ∷ stood ∷ []
  pub one : held (panel_ran start back).past ≡ allocation 8192 30 0 60 8 ∷ []
  pub left : (panel_ran start back).list ≡ allocation 8192 30 0 60 8 ∷ allocation 8192 30 0 60 8 ∷ stood ∷ []
  -- what is not held any more is refused with 20, and nothing is changed
  pub twice : (tells (PanelCall.deallocate 4096) (panel_ran start back)).number ≡ 20
  pub unchanged : (panel_ran start again).list ≡ allocation 8192 30 0 60 8 ∷ allocation 8192 30 0 60 8 ∷ stood ∷ []
  -- an out slice of four is refused with 1 and written nothing into; no refusal of the atlas is among the events
  pub short : ((tells (label (replicate 4 9)) (panel_ran start again)).number ≡ 1)
      × ((tells (label (replicate 4 9)) (panel_ran start again)).out ≡ replicate 4 9)
  pub run : IsRun (panel_ran start (label (replicate 4 9) ∷ again))

pub panel_worked : PanelWorked
unfolding shelf_height roundingStep align by_ratio power_of_two doubled ratio bucket_count shelf_at put_shelf bucket_at put_bucket chain_from next first
    chain hit new_index new_generation new_store add_bucket lay_one lay_many another_column short opened tall bucket_width pushed laid_shelf plain_shelf
    filled new_shelf filler_ends can_add skipped takes pick_in considered searched search unreferenced follows follow run_at first_run merge_run
    flattened_to merged run_worn issue returned_bucket freed_area uncleaned released_table stepped_back popped cleaned last_emptied returned column_of
    is_lent is_domain is_columns is_stacked is_linked is_chained is_ordered is_counted is_stocked is_last_used is_steady is_rested is_sound_by
    natural outside column_width
    options_bad made calls.new issue_first place_new place_merged place aligned_sides request calls.allocate_by return_id calls.deallocate_by is_head
    has_room read_head
    write_head write_counts write_allocation panel.new panel.allocate changing asks refusal_of made_of reply_of placing_of entries added removed place_of
    place_for belongs overlap clash stands fits verdict_by listed.allocate_by listed.deallocate_by
panel_worked = record {
  made = refl;
  first = refl;
  both = refl;
  header = refl;
  shelf = refl;
  bucket = refl;
  list = refl;
  one = refl;
  left = refl;
  twice = refl;
  unchanged = refl;
  short = (refl, refl);
  run = ran_run start
      (PanelRun.fresh (pos 64) (pos 32) (pos 1) (pos 1) (pos 1) 0 lent (replicate 20475 0) (replicate 28665 0) refl (replicate 3 stood))
      (label (replicate 4 9) ∷ again) (tt, (tt, (tt, (tt, (tt, tt)))));
}
