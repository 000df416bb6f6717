-- A list tested in one pass where it is in order, and each entry against all before it where it is not. proofs/Passes.antt: a pass that comes out
-- good shows that the list fits, and so do the comparisons, which come out good for every list that does.
use Rattle.std.specs.Prelude.{ℕ, zero, suc, ◌+◌, Bool, false, ◌&&◌, List, eqb, leb, ltb, if◌then◌else◌, Option, Some, None, option_and_then}
use Rattle.rules.specs.declared.Allocation.{Allocation}
use Rattle.rules.specs.Ids.{id_bucket, id_item}
use Rattle.rules.specs.Tables.{Atlas}
use Rattle.rules.specs.Sound.{all_to}
use Rattle.rules.specs.Held.{entry, refs_of, bucket_of, shelf_under, belongs, clash}
use Rattle.entries.specs.declared.passing.Order.{Order}
use Rattle.entries.specs.Parts.{joins}

-- ---- in order

abbrev pub started : Order
started = record { next = 0; seen = 0; right = 0; item = 0 }

-- as an entry of bucket k finds it
unfoldable pub begun : Order → ℕ → Order
begun p k = if eqb (k + 1) p.next then p else record { next = p.next; seen = 0; right = 0; item = 0 }

-- its bucket is that of the entry before it or a later one, and has a reference left for it; it starts where that one ends, or behind, with a
-- larger item number; and it belongs there
unfoldable pub in_place : Atlas → Order → Allocation → Bool
in_place g p a =
    leb p.next (id_bucket a.id + 1) && ltb (id_bucket a.id) g.head.bucket_count && ltb p.seen (refs_of g (id_bucket a.id))
    && leb p.right a.rectangle.left && leb p.item (id_item a.id) && belongs (bucket_of g a) (shelf_under g a) a

abbrev pub moved : Order → Allocation → Order
moved p a = record { next = id_bucket a.id + 1; seen = p.seen + 1; right = a.rectangle.right; item = id_item a.id + 1 }

-- one entry more, where it is in place
unfoldable pub step : Atlas → Order → Allocation → Option Order
step g p a = if in_place g (begun p (id_bucket a.id)) a then Some (moved (begun p (id_bucket a.id)) a) else None

-- after the first n entries, where each of them is in place
unfoldable pub passed : Atlas → List Allocation → ℕ → Option Order
passed g list zero = Some started
passed g list (suc i) = option_and_then (λ p. step g p (entry list i)) (passed g list i)

-- ---- in any order

-- one more of those before a, n of which are of its bucket: how many are then, unless it shares a's id or a pixel
abbrev pub compared : Allocation → ℕ → Allocation → Option ℕ
compared a n b = if clash a b then None else Some (n + (if eqb (id_bucket b.id) (id_bucket a.id) then 1 else 0))

-- the first n of the list, before a: how many are of its bucket, unless one shares its id or a pixel
unfoldable pub seen : List Allocation → Allocation → ℕ → Option ℕ
seen list a zero = Some 0
seen list a (suc i) = option_and_then (λ n. compared a n (entry list i)) (seen list a i)

-- no entry before a shares its id or a pixel, and it joins the n that are of its bucket
abbrev pub admitted : Atlas → Allocation → Option ℕ → Bool
admitted g a None = false
admitted g a (Some n) = joins g a n

-- each of the first n entries, beside those before it
unfoldable pub all_admitted : Atlas → List Allocation → ℕ → Bool
all_admitted g list n = all_to n (λ i. admitted g (entry list i) (seen list (entry list i) i))
