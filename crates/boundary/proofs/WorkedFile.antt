-- A file of the panel's, computed: the header and the tables after Worked's two labels written into a longer buffer, and read over other slices.
-- Cut by a byte, or of another version, it is refused. With a list that does not fit nothing is written; what was held, lent anew, fits.
use Prim.Native.Nat.{ℕ}
use mathlib.Core.Bool.{Bool, true, false}
use mathlib.Core.Path.{◌≡◌, refl}
use mathlib.Core.List.{List, [], ◌∷◌}
use lib.ListN.{replicate, set, take}
use Rattle.rules.specs.declared.Allocation.{Allocation}
use Rattle.rules.specs.Tables.{shelf_at, put_shelf, bucket_at, put_bucket}
use Rattle.rules.specs.Chains.{chain_from, next, first, chain, hit}
use Rattle.rules.specs.NewShelf.{another_column, short, opened, tall}
use Rattle.rules.specs.Sound.{column_of, is_lent, is_domain, is_columns, is_stacked, is_linked, is_chained}
use Rattle.rules.specs.Sound.{is_ordered, is_counted, is_stocked, is_last_used, is_steady, is_rested, is_sound_by}
use Rattle.rules.specs.Builds.{present}
use Rattle.rules.specs.Saving.{saving}
use Rattle.rules.specs.Files as files
use Rattle.rules.specs.Repair.{needs_repair, risen, repaired}
use Rattle.rules.specs.Files.{head_record, shelf_record, bucket_record, file_from, file_of, version_in, head_in, shelf_from, bucket_from, is_framed}
use Rattle.rules.specs.Files.{is_file, shelves_stored, buckets_stored, stored, read_sound}
use Rattle.rules.specs.Held.{entries, belongs, overlap, clash, stands, fits}
use Rattle.rules.specs.Listed.{verdict_by}
use Rattle.rules.specs.Listed as listed
use Rattle.promises.proofs.Worked.{allocation}
use Rattle.telling.specs.Header.{is_head, has_room, read_head, write_head, write_counts}
use Rattle.telling.specs.Told.{told}
use Rattle.treadwharf.specs.Panel.{Back, Filing, filing, putting}
use Rattle.treadwharf.specs.Panel as panel
use Rattle.boundary.specs.Calls.{text_told}

-- one shelf, one bucket; behind them zeros
abbrev header : List ℕ
header = 64 ∷ 32 ∷ 1 ∷ 1 ∷ 1 ∷ 64 ∷ 0 ∷ 24 ∷ 1 ∷ 1 ∷ 65535 ∷ 480 ∷ []

abbrev shelves : List ℕ
shelves = 0 ∷ 0 ∷ 8 ∷ 64 ∷ 0 ∷ replicate 20470 0

abbrev buckets : List ℕ
buckets = 0 ∷ 4 ∷ 65535 ∷ 2 ∷ 2 ∷ 0 ∷ 0 ∷ replicate 28658 0

abbrev list : List Allocation
list = allocation 4096 0 0 30 8 ∷ allocation 8192 30 0 60 8 ∷ []

-- 100 bytes and an out slice of two numbers are lent
abbrev writes : List Allocation → Filing
writes held = panel.write present header shelves buckets held (replicate 100 0) (replicate 2 9)

abbrev wrote : Filing
wrote = writes list

-- header: length, kind and version, its numbers, the flag byte and the figure; the shelf; the bucket; the end
abbrev pub file : List ℕ
file =
    31 ∷ 0 ∷ 16 ∷ 0 ∷ 1 ∷ 0
    ∷ 64 ∷ 0 ∷ 32 ∷ 0 ∷ 1 ∷ 0 ∷ 1 ∷ 0 ∷ 1 ∷ 0 ∷ 64 ∷ 0 ∷ 0 ∷ 0 ∷ 24 ∷ 0 ∷ 1 ∷ 0 ∷ 1 ∷ 0 ∷ 255 ∷ 255
    ∷ 0 ∷ 224 ∷ 1 ∷ 0 ∷ 0
    ∷ 12 ∷ 0 ∷ 17 ∷ 0 ∷ 0 ∷ 0 ∷ 0 ∷ 0 ∷ 8 ∷ 0 ∷ 64 ∷ 0 ∷ 0 ∷ 0
    ∷ 16 ∷ 0 ∷ 18 ∷ 0 ∷ 0 ∷ 0 ∷ 4 ∷ 0 ∷ 255 ∷ 255 ∷ 2 ∷ 0 ∷ 2 ∷ 0 ∷ 0 ∷ 0 ∷ 0 ∷ 0
    ∷ 2 ∷ 0 ∷ 19 ∷ 0 ∷ []

-- over 13 numbers, and tables that hold other ones
abbrev reads : List ℕ → Back
reads bytes = panel.read (replicate 13 7) (replicate 20475 7) (replicate 28665 7) bytes

abbrev fits_read : List Allocation → Bool
fits_read held = panel.fits (reads file).told.header (reads file).shelves (reads file).buckets held

pub record PanelFileWorked : Type 0 where
  -- how many bytes, and a second number as it was
  pub count : wrote.told ≡ told 0 header (69 ∷ 9 ∷ [])
  pub bytes : text_told wrote ≡ file
  -- one of the two is not in the list: 21, and nothing is written
  pub unlisted : writes (take 1 list) ≡ filing (told 21 header (replicate 2 9)) (replicate 100 0)
  -- the header, and a number behind it as it was
  pub read : (reads file).told ≡ told 0 (64 ∷ 32 ∷ 1 ∷ 1 ∷ 1 ∷ 64 ∷ 0 ∷ 24 ∷ 1 ∷ 1 ∷ 65535 ∷ 480 ∷ 7 ∷ []) []
  -- the one row of each table, and a number behind it as it was
  pub shelf : take 6 (reads file).shelves ≡ 0 ∷ 0 ∷ 8 ∷ 64 ∷ 0 ∷ 7 ∷ []
  pub bucket : take 8 (reads file).buckets ≡ 0 ∷ 4 ∷ 65535 ∷ 2 ∷ 2 ∷ 0 ∷ 0 ∷ 7 ∷ []
  -- the list lent anew
  pub anew : fits_read list ≡ true
  pub less : fits_read (take 1 list) ≡ false
  pub cut : (reads (take 68 file)).told ≡ told 16 (replicate 13 7) []
  pub version : (reads (set file 4 2)).told ≡ told 17 (replicate 13 7) []

pub panel_file_worked : PanelFileWorked
unfolding shelf_at put_shelf bucket_at put_bucket chain_from next first chain hit another_column short opened tall column_of is_lent is_domain is_columns
    is_stacked is_linked is_chained is_ordered is_counted is_stocked is_last_used is_steady is_rested is_sound_by head_record shelf_record
    bucket_record file_from file_of
    saving version_in head_in shelf_from bucket_from is_framed is_file shelves_stored buckets_stored needs_repair risen repaired stored read_sound files.read_by
    is_head has_room read_head
    write_head write_counts entries belongs overlap clash stands fits verdict_by listed.write putting panel.read panel.is_sound panel.fits
panel_file_worked = record {
  count = refl;
  bytes = refl;
  unlisted = refl;
  read = refl;
  shelf = refl;
  bucket = refl;
  anew = refl;
  less = refl;
  cut = refl;
  version = refl;
}
