-- Sound tables give what a return asks for: `Steady`, and a referenced bucket below the count.
use Prim.Native.Nat.{ℕ, ◌<◌}
use native.Mathlib.Omega.{arith}
use Rattle.rules.specs.Tables.{Atlas, bucket_at}
use Rattle.rules.specs.Sound.{Steady}
use Rattle.laws.proofs.Sound.Lies.{Home, home_of}
use Rattle.laws.proofs.Return.Uncleaned.{used_occupied}
use Rattle.returning.specs.Needs.{CanReturnUncleaned, CanPop, CanReturn}

pub can_pop : {g : Atlas} → Steady g → CanPop g
can_pop t = record {
  shelves = omega (arith, t.lent.shelves, t.domain.shelves);
  buckets = t.lent.buckets;
  few = t.domain.buckets;
  columns = t.columns;
  stacked = t.stacked;
  chained = t.chained;
  some = λ i l. (t.stocked i l).some;
}

pub can_uncleaned : {g : Atlas} → Steady g → (k : ℕ) → k < g.head.bucket_count → 0 < (bucket_at g.buckets k).refs → CanReturnUncleaned k g
can_uncleaned {g} t k l r =
    let h : Home g k = home_of t k l (λ z. omega arith) in
    record {
      bucket = omega (arith, t.lent.buckets, t.domain.buckets);
      shelf = omega (arith, t.lent.shelves, t.domain.shelves, h.there);
      held = r;
      free = h.counted.free;
      counted = used_occupied t (bucket_at g.buckets k).shelf k h.there h.member;
    }

pub can_return : {g : Atlas} → Steady g → (k : ℕ) → k < g.head.bucket_count → 0 < (bucket_at g.buckets k).refs → CanReturn k g
can_return t k l r = record { uncleaned = can_uncleaned t k l r; pop = can_pop t }
