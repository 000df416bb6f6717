-- Sound tables give what a new shelf asks for.
use Prim.Native.Nat.{ℕ, ◌+◌, ◌≤◌}
use mathlib.Core.Path.{◌≡◌}
use mathlib.Core.Bool.{true, false}
use native.Mathlib.Omega.{arith}
use lib.ListN.{length}
use Rattle.rules.specs.Tables.{Atlas}
use Rattle.rules.specs.Chains.{chain_of, released_of}
use Rattle.rules.specs.Builds.{present}
use Rattle.rules.specs.NewShelf.{filler_ends}
use Rattle.rules.specs.Search.{can_add}
use Rattle.rules.specs.Sound.{Steady}
use Rattle.laws.proofs.Chains.Count.{sum_ones, sum_le}
use Rattle.laws.proofs.Sound.Lies.{lengths, chain_some}
use Rattle.laws.proofs.Calls.Found.{can_add_yes}
use Rattle.laws.proofs.NewShelf.Plain.{room_low}
use Rattle.measures.specs.Needs.{Ready, CanPlainShelf, CanNewShelf}

module _ (g : Atlas) (p : Steady g) where
  -- each shelf's chain has a bucket, and none of them is released
  granted_owned : g.head.shelf_count + length (released_of g) ≤ g.head.bucket_count
  granted_owned = omega (
    arith,
    lengths p,
    sum_ones g.head.shelf_count,
    sum_le g.head.shelf_count (λ i. 1) (λ i. length (chain_of g i)) (chain_some p),
  )

  pub granted_ready : Ready g
  granted_ready = record {
    framed = record {
      align = p.domain.align_width.0;
      high = p.domain.height.0;
      within = room_low p;
      column = p.columns.current;
      wide = omega (arith, p.columns.fit, p.domain.width.1);
    };
    lent = p.lent;
    released = p.chained.released;
    owned = granted_owned;
  }

  pub can_plain : (height : ℕ) → 1 ≤ height → can_add height g.head ≡ true → CanPlainShelf height g
  can_plain height a e =
      let c = can_add_yes height g e in
      record { ready = granted_ready; asked = a; add = record { room = c.room; buckets = c.buckets } }

  pub can_new_shelf : (height : ℕ) → 1 ≤ height → can_add height g.head ≡ true → filler_ends present height g ≡ false → CanNewShelf height g
  can_new_shelf height a e f = record { plain = can_plain height a e; filler = f }
