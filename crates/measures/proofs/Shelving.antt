-- One shelf more: what it needs, what it leaves for the next, and the number of buckets after it.
use Prim.Native.Nat.{ℕ, ◌+◌, ◌-◌, ◌≤◌}
use mathlib.Core.Path.{◌≡◌, refl, sym, ap, subst}
use native.Mathlib.Omega.{arith}
use lib.ListN.{length}
use Rattle.rules.specs.declared.Head.{Head}
use Rattle.rules.specs.Limits.{records_most, none}
use Rattle.rules.specs.Tables.{Atlas, atlas, with_room, with_shelves, with_store}
use Rattle.rules.specs.Store.{Lay, laying, lay_many}
use Rattle.rules.specs.Builds.{present}
use Rattle.rules.specs.NewShelf.{opened, tall, bucket_width, column_left, shelf_for, pushed, laid_shelf, count_for, plain_shelf}
use Rattle.laws.proofs.Tables.Records.{length_put_s}
use Rattle.laws.proofs.Numbers.BucketCount.{bucket_count_room, bucket_count_some}
use Rattle.store.specs.Needs.{RoomFor, CanLay}
use Rattle.store.proofs.Adding.{Counts}
use Rattle.store.proofs.Laid.{lay_head, lay_shelves, lay_length, lay_room, lay_counts}
use Rattle.measures.specs.Needs.{Framed, Ready, CanStand, CanPlainShelf}
use Rattle.measures.proofs.Columns.{right_fits, open_room, open_head, open_ready, tall_room, tall_some}

-- ---- a shelf on the room of the current column

-- its buckets being laid, and all of them
abbrev start : Atlas → Lay
start g = laying g (column_left g.head) none

abbrev run : ℕ → Atlas → Lay
run count g = lay_many count (bucket_width g.head count) g.head.shelf_count (start g)

module _ (height count : ℕ) (g : Atlas) (c : CanStand height count g) where
  stand_room : RoomFor count g.head g.buckets
  stand_room = record { few = c.few; fits = omega (arith, c.few, c.ready.lent.buckets); whole = c.ready.released }

  pub stand_lay : CanLay count (bucket_width g.head count) (column_left g.head) g.head g.buckets
  stand_lay = record { room = stand_room; right = right_fits g.head count c.ready.framed }

  run_counts : Counts count g (run count g).state
  run_counts = lay_counts count (bucket_width g.head count) g.head.shelf_count (start g) stand_room

  run_room : RoomFor 0 (run count g).state.head (run count g).state.buckets
  run_room = lay_room 0 count (bucket_width g.head count) g.head.shelf_count (start g) (let z : count ≡ 0 + count = omega arith in rw z at stand_room)

  run_head : (run count g).state.head ≡ with_store g.head (run count g).state.head.bucket_count (run count g).state.head.released
  run_head = lay_head count (bucket_width g.head count) g.head.shelf_count (start g)

  laid_counts : Counts count g (laid_shelf height count g)
  unfolding laid_shelf pushed
  laid_counts = record { spared = run_counts.spared; added = run_counts.added }

  laid_few : (laid_shelf height count g).head.bucket_count ≤ records_most
  unfolding laid_shelf pushed
  laid_few = omega (arith, run_room.few)

  laid_column : ((laid_shelf height count g).head.column ≡ g.head.column) × ((laid_shelf height count g).head.columns ≡ g.head.columns)
  unfolding laid_shelf pushed
  laid_column = (refl, ap (λ (h : Head). h.columns) run_head)

  laid_ready : Ready (laid_shelf height count g)
  unfolding laid_shelf pushed
  laid_ready = let f : Framed g.head = c.ready.framed in record {
    framed = subst (λ (h : Head). Framed (with_shelves (with_room h g.head.column (g.head.room - height)) (g.head.shelf_count + 1))) (sym run_head)
        (record { align = f.align; high = f.high; within = omega arith; column = f.column; wide = f.wide });
    lent = record {
      shelves = omega (
        arith,
        c.ready.lent.shelves,
        length_put_s (run count g).state.shelves g.head.shelf_count (shelf_for g.head height (bucket_width g.head count) (run count g).first),
        ap length (lay_shelves count (bucket_width g.head count) g.head.shelf_count (start g)),
      );
      buckets = omega (arith, c.ready.lent.buckets, lay_length count (bucket_width g.head count) g.head.shelf_count (start g));
    };
    released = run_room.whole;
    owned = omega (arith, c.some, c.ready.owned, run_counts.spared, run_counts.added);
  }

-- ---- a shelf, in the column that is opened where it is time to

-- the state with the column opened
abbrev pub opened_in : Atlas → Atlas
opened_in g = atlas (opened g.head) g.shelves g.buckets

open_buckets : (h : Head) → (opened h).bucket_count ≡ h.bucket_count
open_buckets h = ap (λ (o : Head). o.bucket_count) (open_head h)

module _ (w height : ℕ) (g : Atlas) (c : CanPlainShelf height g) where
  plain_tall : 1 ≤ tall height (opened g.head)
  plain_tall = tall_some height (opened g.head) c.asked (open_room g.head height c.asked c.ready.framed.high c.add.room)

  -- what its bucket count needs
  pub plain_count : (1 ≤ tall height (opened g.head)) × ((opened g.head).bucket_count ≤ records_most)
  plain_count = (plain_tall, omega (arith, open_buckets g.head, c.add.buckets))

  pub plain_stand : CanStand (tall height (opened g.head)) (count_for present w height (opened g.head)) (opened_in g)
  plain_stand =
      let o : Head = opened g.head in
      let e : o.bucket_count ≡ g.head.bucket_count = open_buckets g.head in
      record {
        ready = open_ready g.head g.shelves g.buckets c.ready;
        room = tall_room height o;
        some = bucket_count_some present o.column_width w (tall height o) o.bucket_count (omega (arith, c.add.buckets));
        few = omega (arith, c.add.buckets, bucket_count_room present o.column_width w (tall height o) o.bucket_count);
      }

  pub plain_ready : Ready (plain_shelf present w height g)
  unfolding plain_shelf
  plain_ready = laid_ready (tall height (opened g.head)) (count_for present w height (opened g.head)) (opened_in g) plain_stand

  pub plain_few : (plain_shelf present w height g).head.bucket_count ≤ records_most
  unfolding plain_shelf
  plain_few = laid_few (tall height (opened g.head)) (count_for present w height (opened g.head)) (opened_in g) plain_stand

  pub plain_counts : Counts (count_for present w height (opened g.head)) (opened_in g) (plain_shelf present w height g)
  unfolding plain_shelf
  plain_counts = laid_counts (tall height (opened g.head)) (count_for present w height (opened g.head)) (opened_in g) plain_stand

  pub plain_column : ((plain_shelf present w height g).head.column ≡ (opened g.head).column)
      × ((plain_shelf present w height g).head.columns ≡ (opened g.head).columns)
  unfolding plain_shelf
  plain_column = laid_column (tall height (opened g.head)) (count_for present w height (opened g.head)) (opened_in g) plain_stand
