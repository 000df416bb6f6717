-- The verdict of the tests: what it is where they have led, and what it tells of the tables and of the list's room.
use Rattle.std.specs.Prelude.{Ok, Err, Result}
use Prim.Native.Nat.{ℕ}
use mathlib.Core.Bool.{Bool, true, false, not}
use mathlib.Core.Path.{◌≡◌, sym, ◌∙◌}
use mathlib.Core.List.{List}
use borrow.Author.Tests.{not-true, not-false}
use lib.ListN.{length}
use Rattle.rules.specs.declared.Allocation.{Allocation}
use Rattle.rules.specs.declared.Refusal.{Refusal}
use Rattle.rules.specs.Tables.{Atlas}
use Rattle.rules.specs.Sound.{is_sound}
use Rattle.rules.specs.Held.{entries, fits}
use Rattle.rules.specs.Listed.{holding, verdict, verdict_by}
use Rattle.laws.proofs.Held.Calls.{passed}
use Rattle.entries.specs.Verdicts.{Judged, Counted}

-- t is what the tables test told, and f what the list's did
module _ (g : Atlas) (list : List Allocation) (t : Bool) (e : t ≡ is_sound g) where
  pub verdict_tables : not t ≡ true → Err Refusal.Tables ≡ verdict (holding g list)
  unfolding verdict_by
  verdict_tables n = simp (sym e ∙ not-true t n)

  module _ (y : not t ≡ false) (f : Bool) (q : f ≡ fits g list) where
    pub verdict_list : not f ≡ true → Err Refusal.List ≡ verdict (holding g list)
    unfolding verdict_by
    verdict_list n = simp (sym e ∙ not-false t y, sym q ∙ not-true f n)

    pub verdict_fits : not f ≡ false → (n : ℕ) → n ≡ entries g → Ok n ≡ verdict (holding g list)
    unfolding verdict_by
    verdict_fits m n k = simp (sym e ∙ not-false t y, sym q ∙ not-false f m, k)

module _ (g : Atlas) (list : List Allocation) (v : Result ℕ Refusal) (e : v ≡ verdict (holding g list)) where
  pub judged : Judged v g
  judged = record {
    sound = λ n f. (passed (holding g list) e n f).passing.sound;
    count = λ n f. (passed (holding g list) e n f).count;
  }

  pub counted : Counted v (length list)
  counted n f =
      let p = passed (holding g list) e n f in
      rw p.count p.passing.fits.room
