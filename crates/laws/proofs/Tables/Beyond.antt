-- What lies past the counts: the records there are as they were, step after step; and from the records there to every number there.
use Prim.Native.Nat.{ℕ, zero, suc, ◌+◌, ◌-◌, ◌*◌, ◌/◌, ◌%◌, ◌≤◌, ◌<◌}
use mathlib.Core.Path.{◌≡◌, refl, sym, ap, ◌∙◌}
use mathlib.Core.List.{List}
use native.Mathlib.Nat.{add-zero}
use native.Mathlib.Omega.{arith}
use lib.ListN.{length, get_or, drop, length-drop}
use lib.Seq.{ext_get_or, get_or-drop}
use Rattle.rules.specs.declared.Bucket.{Bucket}
use Rattle.rules.specs.declared.Head.{Head}
use Rattle.rules.specs.declared.Shelf.{Shelf}
use Rattle.rules.specs.Tables.{Atlas, atlas, bucket_at, shelf_at}

-- the records at or past the new counts are as they were, and so are the lengths
pub record Beyond (g g' : Atlas) : Type 0 where
  pub shelves : (j : ℕ) → g'.head.shelf_count ≤ j → shelf_at g'.shelves j ≡ shelf_at g.shelves j
  pub buckets : (j : ℕ) → g'.head.bucket_count ≤ j → bucket_at g'.buckets j ≡ bucket_at g.buckets j
  pub shelf_table : length g'.shelves ≡ length g.shelves
  pub bucket_table : length g'.buckets ≡ length g.buckets

pub beyond_none : (g : Atlas) → Beyond g g
beyond_none g = record { shelves = λ j l. refl; buckets = λ j l. refl; shelf_table = refl; bucket_table = refl }

-- whatever the header was
pub beyond_tables : {h h' : Head} {s b : List ℕ} {n : Atlas} → Beyond (atlas h s b) n → Beyond (atlas h' s b) n
beyond_tables p = record { shelves = p.shelves; buckets = p.buckets; shelf_table = p.shelf_table; bucket_table = p.bucket_table }

-- two steps, of which the second lowers no count
pub beyond_then : {g n o : Atlas} → Beyond g n → Beyond n o → n.head.shelf_count ≤ o.head.shelf_count
    → n.head.bucket_count ≤ o.head.bucket_count → Beyond g o
beyond_then p q ls lb = record {
  shelves = λ j l. q.shelves j l ∙ p.shelves j (omega arith);
  buckets = λ j l. q.buckets j l ∙ p.buckets j (omega arith);
  shelf_table = q.shelf_table ∙ p.shelf_table;
  bucket_table = q.bucket_table ∙ p.bucket_table;
}

-- ---- from records to numbers

-- each of a bucket's seven numbers
bucket_cells : (b b' : List ℕ) (j : ℕ) → bucket_at b' j ≡ bucket_at b j → (d : ℕ) → d < 7 → get_or b' (7 * j + d) 0 ≡ get_or b (7 * j + d) 0
unfolding bucket_at
bucket_cells b b' j e zero l = rw add-zero (ap (λ (v : Bucket). v.x) e)
bucket_cells b b' j e (suc zero) l = ap (λ (v : Bucket). v.free) e
bucket_cells b b' j e (suc (suc zero)) l = ap (λ (v : Bucket). v.next) e
bucket_cells b b' j e (suc (suc (suc zero))) l = ap (λ (v : Bucket). v.refs) e
bucket_cells b b' j e (suc (suc (suc (suc zero)))) l = ap (λ (v : Bucket). v.items) e
bucket_cells b b' j e (suc (suc (suc (suc (suc zero))))) l = ap (λ (v : Bucket). v.shelf) e
bucket_cells b b' j e (suc (suc (suc (suc (suc (suc zero)))))) l = ap (λ (v : Bucket). v.generation) e
bucket_cells b b' j e (suc (suc (suc (suc (suc (suc (suc d))))))) l = absurd (omega arith)

-- each of a shelf's five
shelf_cells : (s s' : List ℕ) (j : ℕ) → shelf_at s' j ≡ shelf_at s j → (d : ℕ) → d < 5 → get_or s' (5 * j + d) 0 ≡ get_or s (5 * j + d) 0
unfolding shelf_at
shelf_cells s s' j e zero l = rw add-zero (ap (λ (v : Shelf). v.x) e)
shelf_cells s s' j e (suc zero) l = ap (λ (v : Shelf). v.y) e
shelf_cells s s' j e (suc (suc zero)) l = ap (λ (v : Shelf). v.height) e
shelf_cells s s' j e (suc (suc (suc zero))) l = ap (λ (v : Shelf). v.width) e
shelf_cells s s' j e (suc (suc (suc (suc zero)))) l = ap (λ (v : Shelf). v.first) e
shelf_cells s s' j e (suc (suc (suc (suc (suc d))))) l = absurd (omega arith)

-- two tables of one length whose numbers agree from place n on
same_from : (n : ℕ) (l l' : List ℕ) → length l' ≡ length l → ((i : ℕ) → n ≤ i → get_or l' i 0 ≡ get_or l i 0) → drop n l' ≡ drop n l
same_from n l l' e h =
    ext_get_or 0 (drop n l') (drop n l) (length-drop n l' ∙ ap (λ (k : ℕ). k - n) e ∙ sym (length-drop n l))
    (λ i b. get_or-drop n l' i 0 ∙ h (n + i) (omega arith) ∙ sym (get_or-drop n l i 0))

pub buckets_past : (n : ℕ) (b b' : List ℕ) → length b' ≡ length b → ((j : ℕ) → n ≤ j → bucket_at b' j ≡ bucket_at b j) → drop (7 * n) b' ≡ drop (7 * n) b
buckets_past n b b' e h = same_from (7 * n) b b' e (λ i l.
    let z : 7 * (i / 7) + i % 7 ≡ i = omega arith in
    rw z at (bucket_cells b b' (i / 7) (h (i / 7) (omega arith)) (i % 7) (omega arith)))

pub shelves_past : (n : ℕ) (s s' : List ℕ) → length s' ≡ length s → ((j : ℕ) → n ≤ j → shelf_at s' j ≡ shelf_at s j) → drop (5 * n) s' ≡ drop (5 * n) s
shelves_past n s s' e h = same_from (5 * n) s s' e (λ i l.
    let z : 5 * (i / 5) + i % 5 ≡ i = omega arith in
    rw z at (shelf_cells s s' (i / 5) (h (i / 5) (omega arith)) (i % 5) (omega arith)))
