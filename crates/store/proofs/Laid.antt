-- Buckets laid: one more, what is left for the next ones, and how many are added to the table.
use Prim.Native.Nat.{ℕ, zero, suc, ◌+◌, ◌≤◌}
use mathlib.Core.Path.{◌≡◌, refl, ap, ◌∙◌}
use mathlib.Core.List.{List}
use native.Mathlib.Omega.{arith}
use native.Mathlib.Nat.{suc-mul}
use native.Mathlib.Numerals.{add-one}
use lib.ListN.{length}
use Rattle.rules.specs.declared.Head.{Head}
use Rattle.rules.specs.Tables.{Atlas, with_store}
use Rattle.rules.specs.Store.{add_bucket, Lay, lay_one, lay_many}
use Rattle.laws.proofs.NewShelf.Laying.{one_length}
use Rattle.store.specs.Needs.{RoomFor, CanLay}
use Rattle.store.proofs.Adding.{Counts, add_keeps, add_counts, add_head}

pub lay_none : (width shelf : ℕ) (l : Lay) → l ≡ lay_many 0 width shelf l
unfolding lay_many
lay_none width shelf l = refl

pub lay_more : (k width shelf : ℕ) (l : Lay) → lay_many (k + 1) width shelf l ≡ lay_one width shelf (lay_many k width shelf l)
unfolding lay_many
lay_more k width shelf l = rw (add-one k)

-- ---- room for k more

abbrev pub LayRoom : ℕ → ℕ → Lay → Type 0
LayRoom k width l = CanLay k width l.x l.state.head l.state.buckets

pub lay_keeps : (k width shelf : ℕ) (l : Lay) → LayRoom (suc k) width l → LayRoom k width (lay_one width shelf l)
unfolding lay_one
lay_keeps k width shelf l c = record {
  room = add_keeps l.x width l.first shelf l.state k c.room;
  right = omega (arith, c.right, suc-mul k width);
}

-- as many fewer
room_fewer : (j k : ℕ) (h : Head) (b : List ℕ) → j ≤ k → RoomFor k h b → RoomFor j h b
room_fewer j k h b l c = record { few = omega arith; fits = omega arith; whole = c.whole }

-- ---- what laying leaves as it was, and how many it takes of each kind

one_head : (width shelf : ℕ) (l : Lay)
    → (lay_one width shelf l).state.head
    ≡ with_store l.state.head (lay_one width shelf l).state.head.bucket_count (lay_one width shelf l).state.head.released
unfolding lay_one
one_head width shelf l = add_head l.x width l.first shelf l.state

-- of the header only the number of buckets and the released chain change
pub lay_head : (k width shelf : ℕ) (l : Lay)
    → (lay_many k width shelf l).state.head
    ≡ with_store l.state.head (lay_many k width shelf l).state.head.bucket_count (lay_many k width shelf l).state.head.released
unfolding lay_many
lay_head zero width shelf l = refl
lay_head (suc k) width shelf l =
    one_head width shelf (lay_many k width shelf l)
    ∙ ap (λ (h : Head). with_store h (lay_many (suc k) width shelf l).state.head.bucket_count (lay_many (suc k) width shelf l).state.head.released)
    (lay_head k width shelf l)

-- the shelf table is as it was, and the bucket table as long
pub lay_shelves : (k width shelf : ℕ) (l : Lay) → (lay_many k width shelf l).state.shelves ≡ l.state.shelves
unfolding lay_many lay_one add_bucket
lay_shelves zero width shelf l = refl
lay_shelves (suc k) width shelf l = lay_shelves k width shelf l

pub lay_length : (k width shelf : ℕ) (l : Lay) → length (lay_many k width shelf l).state.buckets ≡ length l.state.buckets
unfolding lay_many
lay_length zero width shelf l = refl
lay_length (suc k) width shelf l = one_length width shelf (lay_many k width shelf l) ∙ lay_length k width shelf l

abbrev pub Room : ℕ → Atlas → Type 0
Room k g = RoomFor k g.head g.buckets

one_room : (j width shelf : ℕ) (l : Lay) → Room (suc j) l.state → Room j (lay_one width shelf l).state
unfolding lay_one
one_room j width shelf l c = add_keeps l.x width l.first shelf l.state j c

one_counts : (j width shelf : ℕ) (l : Lay) → Room (suc j) l.state → Counts 1 l.state (lay_one width shelf l).state
unfolding lay_one
one_counts j width shelf l c = add_counts l.x width l.first shelf l.state j c

-- room for j + k is room for j after k
pub lay_room : (j k width shelf : ℕ) (l : Lay) → Room (j + k) l.state → Room j (lay_many k width shelf l).state
unfolding lay_many
lay_room j zero width shelf l c = let z : j + 0 ≡ j = omega arith in rw z at c
lay_room j (suc k) width shelf l c =
    let z : j + suc k ≡ suc j + k = omega arith in
    one_room j width shelf (lay_many k width shelf l) (lay_room (suc j) k width shelf l (rw z at c))

pub lay_counts : (k width shelf : ℕ) (l : Lay) → Room k l.state → Counts k l.state (lay_many k width shelf l).state
unfolding lay_many
lay_counts zero width shelf l c = record { spared = omega arith; added = omega arith }
lay_counts (suc k) width shelf l c =
    let r : Room 1 (lay_many k width shelf l).state = lay_room 1 k width shelf l (let z : suc k ≡ 1 + k = omega arith in rw z at c) in
    let i : Counts k l.state (lay_many k width shelf l).state =
    lay_counts k width shelf l (room_fewer k (suc k) l.state.head l.state.buckets (omega arith) c) in
    let o : Counts 1 (lay_many k width shelf l).state (lay_one width shelf (lay_many k width shelf l)).state =
    one_counts 0 width shelf (lay_many k width shelf l) r in
    record { spared = omega arith; added = omega arith }
