-- How a function that answers yes or no gives its answer, and what a caller reads from it.
use mathlib.Core.Bool.{Bool, true, false}
use mathlib.Core.Path.{◌≡◌, refl, sym, ◌∙◌}
use Rattle.laws.proofs.Tests.Tells.{Tells, true_false, false_true}

pub tells_yes : {P : Type 0} → P → Tells true P
tells_yes p = record { holds = λ e. p; shown = λ q. refl }

pub tells_no : {P : Type 0} → (P → ⊥) → Tells false P
tells_no n = record { holds = λ e. false_true e; shown = λ p. absurd (n p) }

-- by what its yes and what its no shows
pub tell : (r : Bool) {P : Type 0} → (r ≡ true → P) → (r ≡ false → P → ⊥) → Tells r P
tell true y n = tells_yes (y refl)
tell false y n = tells_no (n refl)

-- what a no refutes
pub refuted : {r : Bool} {P : Type 0} → Tells r P → r ≡ false → P → ⊥
refuted t e p = true_false (sym (t.shown p) ∙ e)

-- a part of P that is not so
pub short : {r : Bool} {P Q : Type 0} → Tells r Q → r ≡ false → (P → Q) → Tells r P
short t e f = record { holds = λ q. true_false (sym q ∙ e); shown = λ p. t.shown (f p) }

-- a flag that was set to a test's answer
pub told : {r s : Bool} {P : Type 0} → r ≡ s → Tells s P → Tells r P
told e t = record { holds = λ q. t.holds (sym e ∙ q); shown = λ p. e ∙ t.shown p }
