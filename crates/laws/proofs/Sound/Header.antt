-- Headers that differ in the tables' numbers alone: column, room, counts, start of the released chain and figure. The domain stays.
-- `with_tables` is what the laws call such a header.
use Prim.Native.Nat.{ℕ, ◌≤◌}
use Rattle.rules.specs.declared.Head.{Head}
use Rattle.rules.specs.Limits.{records_most}
use Rattle.rules.specs.Tables.{with_occupied, with_store, with_room, with_shelves}
use Rattle.rules.specs.Sound.{Domain}

-- all of them but the figure
abbrev pub with_tables : Head → ℕ → ℕ → ℕ → ℕ → ℕ → Head
with_tables h column room shelves buckets released = with_store (with_shelves (with_room h column room) shelves) buckets released

pub domain_keeps : {h : Head} → Domain h → (column room shelves buckets released occupied : ℕ) → shelves ≤ records_most → buckets ≤ records_most
    → Domain (with_occupied (with_tables h column room shelves buckets released) occupied)
domain_keeps d column room shelves buckets released occupied ls lb = record {
  width = d.width;
  height = d.height;
  align_width = d.align_width;
  align_height = d.align_height;
  columns = d.columns;
  column_width = d.column_width;
  shelves = ls;
  buckets = lb;
}
