-- What new and the list's test come to where the tables test has led.
use Rattle.std.specs.Prelude.{Err}
use Prim.Native.Nat.{ℕ}
use mathlib.Core.Bool.{Bool, true, false, not, ◌&&◌, true≢false}
use mathlib.Core.Path.{◌≡◌, refl, sym, ◌∙◌}
use mathlib.Core.List.{List}
use borrow.Author.Tests.{not-true, not-false}
use lib.IntN.{ℤ}
use Rattle.rules.specs.declared.Allocation.{Allocation}
use Rattle.rules.specs.declared.Refusal.{Refusal}
use Rattle.rules.specs.Tables.{Atlas}
use Rattle.rules.specs.Sound.{Lent, is_lent, is_sound}
use Rattle.rules.specs.Held.{fits}
use Rattle.rules.specs.Calls.{natural, made, new}
use Rattle.laws.proofs.Tests.Flags.{split}
use Rattle.laws.proofs.Tests.Tells.{Tells}
use Rattle.laws.proofs.Sound.Test.{lent_test}

-- ---- new

-- the room that was lent
lent_is : (s b : List ℕ) (t r : Bool) → Tells t (Lent s b) → t ≡ r → is_lent s b ≡ r
lent_is s b true r p e = (lent_test s b).shown (p.holds refl) ∙ e
lent_is s b false r p e = split (is_lent s b) (λ f. absurd (true≢false (sym (p.shown ((lent_test s b).holds f))))) (λ f. f) ∙ e

pub new_no : (s b : List ℕ) (t : Bool) (w h aw ah n : ℤ) (v : ℕ) → Tells t (Lent s b) → not t ≡ true
    → Err Refusal.Tables ≡ new w h aw ah n v s b
unfolding new
new_no s b t w h aw ah n v p e = simp (lent_is s b t false p (not-true t e))

pub new_yes : (s b : List ℕ) (t : Bool) (w h aw ah n : ℤ) (v : ℕ) → Tells t (Lent s b) → not t ≡ false
    → made (natural w) (natural h) (natural aw) (natural ah) (natural n) v ≡ new w h aw ah n v s b
unfolding new
new_yes s b t w h aw ah n v p e = simp (lent_is s b t true p (not-false t e))

-- ---- the list's test, behind that of the tables

module _ (g : Atlas) (list : List Allocation) (t : Bool) (e : t ≡ is_sound g) where
  pub fits_no : not t ≡ true → false ≡ (is_sound g && fits g list)
  fits_no n = simp (sym e ∙ not-true t n)

  pub fits_yes : not t ≡ false → fits g list ≡ (is_sound g && fits g list)
  fits_yes n = simp (sym e ∙ not-false t n)
