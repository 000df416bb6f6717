-- The area that leaves the figure is part of it.
use Prim.Native.Nat.{ℕ, ◌≤◌}
use native.Mathlib.Omega.{arith}
use native.Mathlib.Decide.{ℕ_discrete}
use borrow.Author.Tests.{eq-eqb, ne_eqb}
use Rattle.rules.specs.declared.Shelf.{Shelf}
use Rattle.rules.specs.declared.Bucket.{Bucket}
use Rattle.rules.specs.Return.{used_area, freed_area}

pub area_within : (s : Shelf) (v : Bucket) (n : ℕ) → used_area s v ≤ n → freed_area s v ≤ n
unfolding freed_area
area_within s v n p = elim (ℕ_discrete v.refs 1) [ yes e ↦ simp (eq-eqb _ _ e) p | no ne ↦ simp (ne_eqb _ _ ne) (omega arith) ]
