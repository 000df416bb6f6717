-- The public calls, each with its refusals in document 01's order. A refusal leaves the state as it was.
use Rattle.std.specs.Prelude.{ℕ, ◌-◌, ◌/◌, ◌%◌, Bool, ◌||◌, not, List, eqb, leb, ltb, ℤ, pos, negsuc, if◌then◌else◌, Ok, Err, Result, Option, Some, None, ⊤}
use Rattle.rules.specs.declared.Head.{Head}
use Rattle.rules.specs.declared.Allocation.{Allocation}
use Rattle.rules.specs.declared.Best.{Best}
use Rattle.rules.specs.declared.MergeRun.{MergeRun}
use Rattle.rules.specs.declared.Refusal.{Refusal}
use Rattle.rules.specs.Limits.{side_most, option_most, request_most, none}
use Rattle.rules.specs.Rounding.{align}
use Rattle.rules.specs.Ids.{id_bucket, id_generation}
use Rattle.rules.specs.Tables.{Atlas, Outcome, outcome, bucket_at, shelf_at}
use Rattle.rules.specs.Builds.{Build, present}
use Rattle.rules.specs.NewShelf.{new_shelf, filler_ends}
use Rattle.rules.specs.Search.{can_add, search}
use Rattle.rules.specs.Merging.{merge_run, merged, run_worn}
use Rattle.rules.specs.Issue.{issue}
use Rattle.rules.specs.Return.{returned}
use Rattle.rules.specs.Grow.{grown, cleared, free_space}
use Rattle.rules.specs.Sound.{is_lent, is_sound_by, is_sound}

-- a signed argument as a number: below 0 counts as 0, since every rule asks for at least 1
unfoldable pub natural : ℤ → ℕ
natural (pos n) = n
natural (negsuc n) = 0

-- outside 1 to m
unfoldable pub outside : ℕ → ℕ → Bool
outside n m = eqb n 0 || ltb m n

-- ---- new: 1 (room only), 2, 3

-- "at creation width / columns, less its remainder by the width alignment"
unfoldable pub column_width : ℕ → ℕ → ℕ → ℕ
column_width width columns align_width = width / columns - width / columns % align_width

abbrev pub fresh_head : ℕ → ℕ → ℕ → ℕ → ℕ → Head
fresh_head width height align_width align_height columns = record {
  width = width;
  height = height;
  align_width = align_width;
  align_height = align_height;
  columns = columns;
  column_width = column_width width columns align_width;
  column = 0;
  room = height;
  shelf_count = 0;
  bucket_count = 0;
  released = none;
  occupied = 0;
}

-- "new: alignment or columns outside the domain, column width 0, or vertical"; "Vertical other than 0 is refusal 3."
unfoldable pub options_bad : ℕ → ℕ → ℕ → ℕ → ℕ → Bool
options_bad width align_width align_height columns vertical =
    outside align_width option_most || outside align_height option_most || outside columns option_most
    || eqb (column_width width columns align_width) 0 || not (eqb vertical 0)

-- "new, grow: a side outside 1 to 46,340", then the options
unfoldable pub made : ℕ → ℕ → ℕ → ℕ → ℕ → ℕ → Result Head Refusal
made width height align_width align_height columns vertical =
    if outside width side_most || outside height side_most then Err Refusal.Side
    else if options_bad width align_width align_height columns vertical then Err Refusal.Options
    else Ok (fresh_head width height align_width align_height columns)

-- of the lent tables only the room is looked at, and nothing is written
unfoldable pub new : ℤ → ℤ → ℤ → ℤ → ℤ → ℕ → List ℕ → List ℕ → Result Head Refusal
new width height align_width align_height columns vertical shelves buckets =
    if is_lent shelves buckets
    then made (natural width) (natural height) (natural align_width) (natural align_height) (natural columns) vertical
    else Err Refusal.Tables

-- ---- clear: 1

unfoldable pub clear_by : Build → Atlas → Outcome (Result ⊤ Refusal)
clear_by build g = if is_sound_by build g then outcome (Ok tt) (cleared g) else outcome (Err Refusal.Tables) g

-- the present build's
abbrev pub clear : Atlas → Outcome (Result ⊤ Refusal)
clear g = clear_by present g

-- ---- grow: 1, 2, 12

-- "a side outside 1 to 46,340", "a side below the present one"
unfoldable pub grow_to : ℕ → ℕ → Atlas → Outcome (Result ⊤ Refusal)
grow_to width height g =
    if outside width side_most || outside height side_most then outcome (Err Refusal.Side) g
    else if ltb width g.head.width || ltb height g.head.height then outcome (Err Refusal.Shrink) g
    else outcome (Ok tt) (grown width height g)

unfoldable pub grow_by : Build → ℤ → ℤ → Atlas → Outcome (Result ⊤ Refusal)
grow_by build width height g =
    if is_sound_by build g then grow_to (natural width) (natural height) g else outcome (Err Refusal.Tables) g

-- the present build's
abbrev pub grow : ℤ → ℤ → Atlas → Outcome (Result ⊤ Refusal)
grow width height g = grow_by present width height g

-- ---- allocate: 1, 4, 5, 22, 23, then 6, 7 or 8

abbrev pub placed : Outcome Allocation → Outcome (Result Allocation Refusal)
placed o = outcome (Ok o.answer) o.state

-- "The request goes to its chain's first bucket, whatever that bucket's item count." Of shelf i, a merged one or a new one.
unfoldable pub issue_first : ℕ → ℕ → Atlas → Outcome (Result Allocation Refusal)
issue_first i w g = placed (issue i (shelf_at g.shelves i).first w g)

-- a new shelf, or 7
unfoldable pub place_new : Build → ℕ → ℕ → Atlas → Outcome (Result Allocation Refusal)
place_new build w h g =
    if filler_ends build h g then outcome (Err Refusal.Filler) g
    else (let n : Atlas = new_shelf build w h g in issue_first (n.head.shelf_count - 1) w n)

-- a merge, or 6, or 8. T-08: "8 can't arise and stays unused"; builds before it gave it
abbrev pub place_run : ℕ → Option MergeRun → Atlas → Outcome (Result Allocation Refusal)
place_run w None g = outcome (Err Refusal.NoPlace) g
place_run w (Some run) g = if run_worn run g then outcome (Err Refusal.Items) g else issue_first run.shelf w (merged run g)

unfoldable pub place_merged : ℕ → ℕ → Atlas → Outcome (Result Allocation Refusal)
place_merged w h g = place_run w (merge_run w h g) g

-- what the search found; or a new shelf where one can be added, or a merge
abbrev pub place_best : Build → ℕ → ℕ → Option Best → Atlas → Outcome (Result Allocation Refusal)
place_best build w h (Some best) g = placed (issue best.shelf best.bucket w g)
place_best build w h None g = if can_add h g.head then place_new build w h g else place_merged w h g

-- the aligned request
unfoldable pub place : Build → ℕ → ℕ → Atlas → Outcome (Result Allocation Refusal)
place build w h g = place_best build w h (search w h g) g

-- The aligned sides of a request, or the first refusal that applies: "request with a side below 1"; "a request side above 65,535"; "aligned width
-- above the column width"; "aligned height above the atlas height". The last three were one in document 01. T-04: "Keep 5 for a side above 65,535 as
-- asked; the two comparisons of aligned sides get numbers of their own", "5, 22 (width), 23 (height), in this order, in 5's old place".
unfoldable pub aligned_sides : ℕ → ℕ → Head → Result (ℕ × ℕ) Refusal
aligned_sides w h head =
    if eqb w 0 || eqb h 0 then Err Refusal.Small
    else if ltb request_most w || ltb request_most h then Err Refusal.Large
    else if ltb head.column_width (align head.align_width w) then Err Refusal.Wide
    else if ltb head.height (align head.align_height h) then Err Refusal.Tall
    else Ok ((align head.align_width w), (align head.align_height h))

-- T-04: "the trace line names the first that applies"
abbrev pub place_sides : Build → Result (ℕ × ℕ) Refusal → Atlas → Outcome (Result Allocation Refusal)
place_sides build (Ok (w, h)) g = place build w h g
place_sides build (Err r) g = outcome (Err r) g

unfoldable pub request : Build → ℕ → ℕ → Atlas → Outcome (Result Allocation Refusal)
request build w h g = place_sides build (aligned_sides w h g.head) g

unfoldable pub allocate_by : Build → ℤ → ℤ → Atlas → Outcome (Result Allocation Refusal)
allocate_by build width height g =
    if is_sound_by build g then request build (natural width) (natural height) g else outcome (Err Refusal.Tables) g

-- the present build's
abbrev pub allocate : ℤ → ℤ → Atlas → Outcome (Result Allocation Refusal)
allocate width height g = allocate_by present width height g

-- ---- deallocate: 1, 9, 10, 11

-- "id names a bucket not below the bucket count", "its generation differs from the bucket's", "the bucket's reference count is 0". "Item
-- bits are not looked at."
unfoldable pub return_id : Build → ℕ → Atlas → Outcome (Result ⊤ Refusal)
return_id build id g =
    if leb g.head.bucket_count (id_bucket id) then outcome (Err Refusal.Unknown) g
    else if not (eqb (bucket_at g.buckets (id_bucket id)).generation (id_generation id)) then outcome (Err Refusal.Stale) g
    else if eqb (bucket_at g.buckets (id_bucket id)).refs 0 then outcome (Err Refusal.Unheld) g
    else outcome (Ok tt) (returned build (id_bucket id) g)

unfoldable pub deallocate_by : Build → ℕ → Atlas → Outcome (Result ⊤ Refusal)
deallocate_by build id g = if is_sound_by build g then return_id build id g else outcome (Err Refusal.Tables) g

-- the present build's
abbrev pub deallocate : ℕ → Atlas → Outcome (Result ⊤ Refusal)
deallocate id g = deallocate_by present id g

-- ---- the four reading calls: 1. The tables test is `is_sound` of Sound.antt

unfoldable pub size : Atlas → Result (ℕ × ℕ) Refusal
size g = if is_sound g then Ok (g.head.width, g.head.height) else Err Refusal.Tables

unfoldable pub is_empty : Atlas → Result Bool Refusal
is_empty g = if is_sound g then Ok (eqb g.head.shelf_count 0) else Err Refusal.Tables

unfoldable pub allocated_space : Atlas → Result ℕ Refusal
allocated_space g = if is_sound g then Ok g.head.occupied else Err Refusal.Tables

unfoldable pub free_space_of : Atlas → Result ℕ Refusal
free_space_of g = if is_sound g then Ok (free_space g.head) else Err Refusal.Tables
