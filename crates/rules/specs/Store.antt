-- Module 4, the bucket store.
use Rattle.std.specs.Prelude.{ℕ, zero, suc, ◌+◌, eqb, if◌then◌else◌}
use Rattle.rules.specs.declared.Head.{Head}
use Rattle.rules.specs.declared.Bucket.{Bucket}
use Rattle.rules.specs.Limits.{none}
use Rattle.rules.specs.Ids.{next_generation}
use Rattle.rules.specs.Tables.{Atlas, atlas, bucket_at, put_bucket, with_store}

-- "Its free width is the bucket width, both its counts are 0."
abbrev pub fresh : ℕ → ℕ → ℕ → ℕ → ℕ → Bucket
fresh x width next shelf generation = record { x = x; free = width; next = next; refs = 0; items = 0; shelf = shelf; generation = generation }

-- "A new bucket takes the head of the released chain, .. or else extends the table"
unfoldable pub new_index : Head → ℕ
new_index head = if eqb head.released none then head.bucket_count else head.released

-- "with that generation plus 1, .. with generation 0". T-08: "A released bucket taken again rises once more, as before."
unfoldable pub new_generation : Atlas → ℕ
new_generation g = if eqb g.head.released none then 0 else next_generation (bucket_at g.buckets g.head.released).generation

-- the header with the bucket taken
unfoldable pub new_store : Atlas → Head
new_store g =
    if eqb g.head.released none
    then with_store g.head (g.head.bucket_count + 1) none
    else with_store g.head g.head.bucket_count (bucket_at g.buckets g.head.released).next

-- a new bucket at x, in front of `next`
unfoldable pub add_bucket : ℕ → ℕ → ℕ → ℕ → Atlas → Atlas
add_bucket x width next shelf g =
    atlas (new_store g) g.shelves (put_bucket g.buckets (new_index g.head) (fresh x width next shelf (new_generation g)))

-- ---- "Buckets are laid left to right, each put at the head of the chain."

-- the tables with buckets being laid in them: where the next one goes, and the head of the chain so far
pub record Lay : Type 0 where
  pub state : Atlas
  pub x : ℕ
  pub first : ℕ

abbrev pub laying : Atlas → ℕ → ℕ → Lay
laying g x first = record { state = g; x = x; first = first }

unfoldable pub lay_one : ℕ → ℕ → Lay → Lay
lay_one width shelf l = laying (add_bucket l.x width l.first shelf l.state) (l.x + width) (new_index l.state.head)

-- k buckets
unfoldable pub lay_many : ℕ → ℕ → ℕ → Lay → Lay
lay_many zero width shelf l = l
lay_many (suc k) width shelf l = lay_one width shelf (lay_many k width shelf l)
