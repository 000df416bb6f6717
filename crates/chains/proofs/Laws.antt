-- What the walks turn by, and where the walks' `requires` come from.
use Prim.Native.Nat.{ℕ, ◌+◌, ◌*◌, ◌≤◌, ◌<◌}
use mathlib.Core.Path.{◌≡◌, refl}
use mathlib.Core.Logic.{◌≢◌}
use mathlib.Core.Bool.{true, false}
use mathlib.Core.List.{List, ◌∷◌}
use native.Mathlib.Omega.{arith}
use borrow.Author.Tests.{eq-eqb, ne_eqb}
use lib.ListN.{length}
use Rattle.rules.specs.Limits.{records_most, none}
use Rattle.rules.specs.Tables.{Atlas, bucket_at}
use Rattle.rules.specs.Chains.{next, first, chain, last_of, Linked}
use Rattle.rules.specs.Merging.{unreferenced}
use Rattle.rules.specs.Sound.{Steady}
use Rattle.laws.proofs.Chains.Links.{ChainStep, chain_step, chain_end, linked_frame, linked_below}
use Rattle.laws.proofs.Chains.Moves.{last_in}
use Rattle.chains.specs.Walk.{Walkable, SomeChain, WalkableShelves}

-- ---- where it comes from

-- a chain below a smaller count
pub walkable_of : (b : List ℕ) (n i : ℕ) → n ≤ records_most → 7 * records_most ≤ length b → Linked (next b) n i (chain b i) → Walkable b i
walkable_of b n i hn hb p = record { room = hb; linked = linked_frame (next b) (next b) n records_most i (chain b i) hn (λ k a. refl) p }

pub shelf_walkable : {g : Atlas} → Steady g → (i : ℕ) → i < g.head.shelf_count → Walkable g.buckets (first g.shelves i)
shelf_walkable {g} t i l =
    walkable_of g.buckets g.head.bucket_count (first g.shelves i) t.domain.buckets t.lent.buckets (t.chained.shelf i l)

pub steady_shelves : {g : Atlas} → Steady g → WalkableShelves g.shelves g.buckets g.head.shelf_count
steady_shelves t = record { few = t.domain.shelves; room = omega (arith, t.domain.shelves, t.lent.shelves); chains = λ i l. shelf_walkable t i l }

-- ---- one turn

pub walk_step : {b : List ℕ} {i : ℕ} → Walkable b i → i ≢ none → ChainStep b records_most i
walk_step {b} {i} p ne = chain_step b records_most i (omega arith) p.linked ne

pub walk_rest : {b : List ℕ} {i : ℕ} → Walkable b i → ChainStep b records_most i → Walkable b (next b i)
walk_rest p s = record { room = p.room; linked = s.rest }

-- the record at which a walk stands lies in the table
pub walk_room : {b : List ℕ} {i : ℕ} → Walkable b i → ChainStep b records_most i → 7 * i + 7 ≤ length b
walk_room p s = omega (arith, p.room, s.below)

-- ---- none referenced

pub unreferenced_end : (b : List ℕ) (i : ℕ) → i ≡ none → unreferenced b (chain b i) ≡ true
unfolding unreferenced
unreferenced_end b i e = rw (chain_end b i e) refl

module _ {b : List ℕ} {i : ℕ} (s : ChainStep b records_most i) where
  pub unreferenced_turn : (bucket_at b i).refs ≡ 0 → unreferenced b (chain b (next b i)) ≡ unreferenced b (chain b i)
  unfolding unreferenced
  unreferenced_turn e = rw s.turn (simp (eq-eqb (bucket_at b i).refs 0 e))

  pub unreferenced_stop : (bucket_at b i).refs ≢ 0 → false ≡ unreferenced b (chain b i)
  unfolding unreferenced
  unreferenced_stop e = rw s.turn (simp (ne_eqb (bucket_at b i).refs 0 e))

-- ---- the last

pub last_below : {b : List ℕ} {i : ℕ} → SomeChain b i → last_of i (chain b i) < records_most
last_below {b} {i} p =
    let s = walk_step p.walk p.some in
    let q : Linked (next b) records_most i (i ∷ chain b (next b i)) = rw s.turn at p.walk.linked in
    let l : last_of i (chain b (next b i)) < records_most =
    linked_below (next b) records_most i (i ∷ chain b (next b i)) _ q (last_in i (chain b (next b i))) in
    rw s.turn l

pub last_room : {b : List ℕ} {i : ℕ} → SomeChain b i → 7 * last_of i (chain b i) + 7 ≤ length b
last_room p = omega (arith, last_below p, p.walk.room)
