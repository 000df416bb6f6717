-- The cleanup: what each pop asks for, that a pop and a return leave it for the next, and the cases of the rules by the tests of the code.
use Prim.Native.Nat.{ℕ, suc, ◌+◌, ◌-◌, ◌*◌, ◌≤◌}
use mathlib.Core.Path.{◌≡◌, refl, sym, ap, ◌∙◌}
use mathlib.Core.Logic.{◌≢◌}
use mathlib.Core.Bool.{true, false, ◌&&◌}
use native.Mathlib.Omega.{arith}
use native.Mathlib.Decide.{ℕ_discrete}
use lib.Dec.{eqb}
use lib.ListN.{length}
use Rattle.rules.specs.declared.Bucket.{Bucket}
use Rattle.rules.specs.Tables.{Atlas, bucket_at}
use Rattle.rules.specs.Chains.{chain_of, next, first}
use Rattle.rules.specs.Merging.{unreferenced}
use Rattle.rules.specs.Return.{returned_bucket, uncleaned, popped, cleaned, last_emptied, returned}
use Rattle.rules.specs.Builds.{present}
use Rattle.rules.specs.Sound.{column_of}
use Rattle.laws.proofs.Tables.Records.{length_put, at_put, at_put_other}
use Rattle.laws.proofs.Chains.Ties.{chains_keep}
use Rattle.laws.proofs.Sound.Lies.{column_zero}
use Rattle.laws.proofs.Return.Pop.{Pops, pop}
use Rattle.laws.proofs.Return.StepBack.{pop_stacked, pop_columns}
use Rattle.chains.specs.Walk.{Walkable, SomeChain}
use Rattle.chains.proofs.Laws.{walkable_of}
use Rattle.returning.specs.Needs.{CanReturnUncleaned, CanStep, CanPop}

-- ---- the last shelf, m, of what can be popped

module _ (m : ℕ) (g : Atlas) (em : g.head.shelf_count ≡ suc m) (p : CanPop g) where
  pop_table : 5 * m + 5 ≤ length g.shelves
  pop_table = omega arith

  pub pop_walkable : Walkable g.buckets (first g.shelves m)
  pop_walkable = walkable_of g.buckets g.head.bucket_count (first g.shelves m) p.few p.buckets (p.chained.shelf m (omega arith))

  pub pop_some : SomeChain g.buckets (first g.shelves m)
  pop_some = record { walk = pop_walkable; some = p.some m (omega arith) }

  pub pop_steps : CanStep g.shelves m g.head
  pop_steps =
      let l = p.columns.last m (sym em) in
      record {
        table = pop_table;
        room = omega (arith, l.1);
        before = λ c.
            let z : m ≢ 0 = λ e. let w : column_of g.shelves m ≡ column_of g.shelves 0 = ap (column_of g.shelves) e in
            omega (arith, l.0, column_zero g.shelves) in
            (omega arith, (p.stacked (m - 1) (omega arith)).top);
      }

  pub pops : Pops m g
  pops = pop m g em p.few (omega (arith, p.few, p.buckets)) (p.some m (omega arith)) p.chained

  pub pop_keeps : CanPop (popped m g)
  unfolding popped
  pop_keeps =
      let q : Pops m g = pops in
      record {
        shelves = omega (arith, p.shelves);
        buckets = omega (arith, p.buckets, q.table);
        few = p.few;
        columns = pop_columns m g em (λ i l. p.stacked i (omega arith)) p.columns;
        stacked = λ i l. pop_stacked m g i (p.stacked i (omega arith));
        chained = q.chained;
        some = λ i l. p.some i (omega arith);
      }

pub popped_count : (m : ℕ) (g : Atlas) → (popped m g).head.shelf_count ≡ m
unfolding popped
popped_count m g = refl

-- ---- the cleanup by its tests

pub cleaned_none : (g : Atlas) → g.head.shelf_count ≡ 0 → g ≡ cleaned g.head.shelf_count g
unfolding cleaned
cleaned_none g e = rw e

module _ (m : ℕ) (g : Atlas) (em : g.head.shelf_count ≡ suc m) where
  pub cleaned_stop : unreferenced g.buckets (chain_of g m) ≡ false → g ≡ cleaned g.head.shelf_count g
  unfolding cleaned
  cleaned_stop e = rw em (simp e)

  pub cleaned_turn : unreferenced g.buckets (chain_of g m) ≡ true
      → cleaned (popped m g).head.shelf_count (popped m g) ≡ cleaned g.head.shelf_count g
  unfolding cleaned
  cleaned_turn e = ap (λ (n : ℕ). cleaned n (popped m g)) (popped_count m g) ∙ rw em (simp e)

-- ---- a return keeps every link, and so every chain

uncleaned_next : (k : ℕ) (g : Atlas) → 7 * k + 7 ≤ length g.buckets → (j : ℕ) → next (uncleaned present k g).buckets j ≡ next g.buckets j
unfolding uncleaned returned_bucket next
uncleaned_next k g l j = elim (ℕ_discrete j k) [
  | yes e ↦ rw e (ap (λ (v : Bucket). v.next) (at_put g.buckets k _ l))
  | no ne ↦ ap (λ (v : Bucket). v.next) (at_put_other g.buckets k _ j ne)
]

pub uncleaned_keeps : (k : ℕ) (g : Atlas) → CanReturnUncleaned k g → CanPop g → CanPop (uncleaned present k g)
unfolding uncleaned
uncleaned_keeps k g c p =
    let z = p.columns in
    let n = uncleaned_next k g c.bucket in
    record {
      shelves = p.shelves;
      buckets = rw length_put p.buckets;
      few = p.few;
      columns = record { fit = z.fit; current = z.current; empty = z.empty; last = z.last };
      stacked = λ i l. let q = p.stacked i l in record { x = q.x; top = q.top; starts = q.starts; first = q.first; follows = q.follows };
      chained = chains_keep (record { shelf_count = refl; bucket_count = refl; released = refl; next = n; first = λ i. refl }) p.chained;
      some = p.some;
    }

-- ---- the return by its test

uncleaned_count : (k : ℕ) (g : Atlas) → (uncleaned present k g).head.shelf_count ≡ g.head.shelf_count
unfolding uncleaned
uncleaned_count k g = refl

module _ (k : ℕ) (g : Atlas) where
  pub returned_cleans : (eqb (bucket_at g.buckets k).refs 1 && eqb ((bucket_at g.buckets k).shelf + 1) g.head.shelf_count) ≡ true
      → cleaned (uncleaned present k g).head.shelf_count (uncleaned present k g) ≡ returned present k g
  unfolding returned last_emptied
  returned_cleans e = rw (uncleaned_count k g) (simp e)

  pub returned_stays : (eqb (bucket_at g.buckets k).refs 1 && eqb ((bucket_at g.buckets k).shelf + 1) g.head.shelf_count) ≡ false
      → uncleaned present k g ≡ returned present k g
  unfolding returned last_emptied
  returned_stays e = simp e
