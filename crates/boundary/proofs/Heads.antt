-- Reading back what was written: the header that an accepted call writes into the lent numbers is the one that the next call reads.
use Prim.Native.Nat.{ℕ, zero, suc, ◌-◌, ◌*◌, ◌≤◌, ◌<◌}
use mathlib.Core.Bool.{true}
use mathlib.Core.Path.{◌≡◌, refl}
use mathlib.Core.List.{List, [], ◌∷◌}
use native.Mathlib.Decide.{ℕ_discrete}
use native.Mathlib.Nat.{zero-add, mul-le-mul_left}
use native.Mathlib.Omega.{arith}
use lib.Dec.{leb, ltb}
use lib.ListN.{length, get_or}
use lib.Seq.{sets, length-sets}
use Rattle.rules.specs.declared.Head.{Head}
use Rattle.rules.specs.Limits.{records_most}
use Rattle.rules.specs.Tables.{Atlas}
use Rattle.rules.specs.Chains.{Linked, next, released_of}
use Rattle.rules.specs.Sound.{Sound, all_to, Domain}
use Rattle.laws.proofs.Tests.Tells.{Tells, tells_map, tells_and, tells_leb, tells_to, tells_ltb}
use Rattle.laws.proofs.Tables.Stores.{sets_in}
use Rattle.telling.specs.Header.{IsHead, is_head, read_head, write_head, write_counts}

-- a header is 12 numbers, 11 of them of 16 bits
pub head_test : (x : List ℕ) → Tells (is_head x) (IsHead x)
unfolding is_head
head_test x = tells_map
    (tells_and (leb 12 (length x)) (all_to 11 (λ i. ltb (get_or x i 0) 65536)) (tells_leb 12 (length x))
    (tells_to 11 (λ i. ltb (get_or x i 0) 65536) (λ i. get_or x i 0 < 65536) (λ i. tells_ltb (get_or x i 0) 65536)))
    (λ h. record { long = h.0; low = h.1 })
    (λ h. (h.long, h.low))

-- the numbers of a header
abbrev cells : Head → List ℕ
cells h =
    h.width ∷ h.height ∷ h.align_width ∷ h.align_height ∷ h.columns ∷ h.column_width ∷ h.column ∷ h.room ∷ h.shelf_count
    ∷ h.bucket_count ∷ h.released ∷ h.occupied ∷ []

written_is : (h : Head) (x : List ℕ) → write_head h x ≡ sets x 0 (cells h)
unfolding write_head write_counts
written_is h x = refl

written_length : (h : Head) (x : List ℕ) → length (write_head h x) ≡ length x
written_length h x = rw (written_is h x) (length-sets x 0 (cells h))

written_at : (h : Head) (x : List ℕ) → 12 ≤ length x → (k : ℕ) → k < 12 → get_or (write_head h x) k 0 ≡ get_or (cells h) k 0
written_at h x l k lk = rw (written_is h x) (rw (zero-add k) at (sets_in (cells h) x 0 k l lk))

-- whatever the header, in any numbers with room for the twelve
pub read_written : (h : Head) (x : List ℕ) → 12 ≤ length x → read_head (write_head h x) ≡ h
unfolding read_head
read_written h x l =
    let f : (k : ℕ) → k < 12 → get_or (write_head h x) k 0 ≡ get_or (cells h) k 0 = written_at h x l in
    rw (
      f 0 (omega arith),
      f 1 (omega arith),
      f 2 (omega arith),
      f 3 (omega arith),
      f 4 (omega arith),
      f 5 (omega arith),
      f 6 (omega arith),
      f 7 (omega arith),
      f 8 (omega arith),
      f 9 (omega arith),
      f 10 (omega arith),
      f 11 (omega arith),
    )

-- the 11 numbers of 16 bits
pub record Sixteen (h : Head) : Type 0 where
  pub width : h.width < 65536
  pub height : h.height < 65536
  pub align_width : h.align_width < 65536
  pub align_height : h.align_height < 65536
  pub columns : h.columns < 65536
  pub column_width : h.column_width < 65536
  pub column : h.column < 65536
  pub room : h.room < 65536
  pub shelves : h.shelf_count < 65536
  pub buckets : h.bucket_count < 65536
  pub released : h.released < 65536

-- the first n of a list are of 16 bits
abbrev Low : ℕ → List ℕ → Type 0
Low zero vs = Unit {0}
Low (suc n) [] = Unit {0}
Low (suc n) (v ∷ vs) = (v < 65536) × Low n vs

low_at : (n : ℕ) (vs : List ℕ) → Low n vs → (i : ℕ) → i < n → get_or vs i 0 < 65536
low_at zero vs p i l = absurd (omega arith)
low_at (suc n) [] p i l = omega arith
low_at (suc n) (v ∷ vs) p zero l = p.0
low_at (suc n) (v ∷ vs) p (suc i) l = low_at n vs p.1 i (omega arith)

pub is_written : (h : Head) (x : List ℕ) → 12 ≤ length x → Sixteen h → is_head (write_head h x) ≡ true
is_written h x l p =
    let low : Low 11 (cells h) = (
      p.width,
      (
        p.height,
        (
          p.align_width,
          (
            p.align_height,
            (
              p.columns,
              (
                p.column_width,
                (
                  p.column,
                  (
                    p.room,
                    (
                      p.shelves,
                      (
                        p.buckets,
                        (p.released, tt),
                      ),
                    ),
                  ),
                ),
              ),
            ),
          ),
        ),
      ),
    ) in
    (head_test (write_head h x)).shown (record {
      long = omega (arith, written_length h x);
      low = λ i li. rw (written_at h x l i (omega arith)) (low_at 11 (cells h) low i li);
    })

-- ---- sound tables have such a header

chain_start : (f : ℕ → ℕ) (n i : ℕ) (xs : List ℕ) → n ≤ records_most → Linked f n i xs → i < 65536
chain_start f n i [] l e = omega (arith, e)
chain_start f n i (x ∷ xs) l e = omega (arith, e.0, e.1)

pub sound_sixteen : {g : Atlas} → Sound g → Sixteen g.head
sound_sixteen {g} p =
    let h : Head = g.head in
    let d : Domain h = p.steady.domain in
    let c = p.steady.columns in
    let wide : h.column_width ≤ h.columns * h.column_width = omega (arith, mul-le-mul_left h.column_width d.columns.0) in
    record {
      width = omega (arith, d.width);
      height = omega (arith, d.height);
      align_width = omega (arith, d.align_width);
      align_height = omega (arith, d.align_height);
      columns = omega (arith, d.columns);
      column_width = omega (arith, wide, c.fit, d.width);
      column = omega (arith, c.current, d.columns);
      room = elim (ℕ_discrete h.shelf_count 0) [
        | yes z ↦ omega (arith, (c.empty z).1, d.height)
        | no ne ↦ omega (arith, (c.last (h.shelf_count - 1) (omega arith)).1, d.height)
      ];
      shelves = omega (arith, d.shelves);
      buckets = omega (arith, d.buckets);
      released = chain_start (next g.buckets) h.bucket_count h.released (released_of g) d.buckets p.steady.chained.released;
    }

-- so what an accepted call writes, the tables being sound after it, is a header and reads back as it was
pub sound_written : {g : Atlas} → Sound g → (x : List ℕ) → 12 ≤ length x
    → (is_head (write_head g.head x) ≡ true) × (read_head (write_head g.head x) ≡ g.head)
sound_written {g} p x l = (is_written g.head x l (sound_sixteen p), read_written g.head x l)
