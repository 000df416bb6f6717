-- T-02: treadwharf_fits returns true exactly where the lent numbers are a header, the tables are sound and the list fits them.
use Prim.Native.Nat.{ℕ}
use mathlib.Core.Bool.{true, ◌&&◌}
use mathlib.Core.Path.{◌≡◌}
use mathlib.Core.List.{List}
use Rattle.rules.specs.declared.Allocation.{Allocation}
use Rattle.rules.specs.Builds.{present}
use Rattle.rules.specs.Sound.{is_sound}
use Rattle.rules.specs.Held.{fits}
use Rattle.laws.proofs.Tests.Flags.{and_l, and_r}
use Rattle.laws.proofs.Sound.Test.{sound_test}
use Rattle.laws.proofs.Held.Test.{fits_test}
use Rattle.laws.proofs.Held.Ways.{Passing}
use Rattle.telling.specs.Header.{is_head}
use Rattle.treadwharf.specs.Panel.{lent}
use Rattle.treadwharf.specs.Panel as panel
use Rattle.boundary.specs.Calls.{atlas_of}

-- what passes every test of a call
pub record PanelPassing (x s b : List ℕ) (list : List Allocation) : Type 0 where
  pub head : is_head x ≡ true
  pub passing : Passing present (lent x s b list)

pub fits_passing : (x s b : List ℕ) (list : List Allocation) → panel.fits x s b list ≡ true → PanelPassing x s b list
unfolding panel.fits panel.is_sound
fits_passing x s b list e =
    let both : (is_head x && is_sound (atlas_of x s b)) ≡ true = and_l (is_head x && is_sound (atlas_of x s b)) (fits (atlas_of x s b) list) e in
    record {
      head = and_l (is_head x) (is_sound (atlas_of x s b)) both;
      passing = record {
        sound = (sound_test (atlas_of x s b)).0 (and_r (is_head x) (is_sound (atlas_of x s b)) both);
        fits = (fits_test (atlas_of x s b) list).0 (and_r (is_head x && is_sound (atlas_of x s b)) (fits (atlas_of x s b) list) e);
      };
    }

pub passing_fits : (x s b : List ℕ) (list : List Allocation) → PanelPassing x s b list → panel.fits x s b list ≡ true
unfolding panel.fits panel.is_sound
passing_fits x s b list p =
    simp (p.head, (sound_test (atlas_of x s b)).1 p.passing.sound, (fits_test (atlas_of x s b) list).1 p.passing.fits)
