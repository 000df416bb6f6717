-- Tests and answers that the calls share.
use Prim.Native.Nat.{ℕ}
use mathlib.Core.Bool.{Bool, true, false, ◌||◌, not}
use mathlib.Core.Path.{◌≡◌, refl, sym, ◌∙◌}
use mathlib.Core.Logic.{◌⊎◌, inl, inr}
use mathlib.Core.List.{List}
use borrow.Author.Tests.{not-false}
use Rattle.rules.specs.declared.Head.{Head}
use Rattle.rules.specs.Tables.{Atlas, atlas, outcome}
use Rattle.rules.specs.Sound.{Sound, is_sound}
use Rattle.laws.proofs.Sound.Test.{sound_test}

-- ---- tests

-- r is the code's answer to a: where it says yes it answers for both, where it says no b does
pub or_first : (a b : Bool) {r : Bool} → r ≡ a → r ≡ true → r ≡ (a || b)
or_first a b q e = e ∙ simp (sym q ∙ e)

pub or_second : (a b : Bool) {r : Bool} → r ≡ a → r ≡ false → b ≡ (a || b)
or_second a b q e = simp (sym q ∙ e)

-- j is what `s || t` has come to, r being the code's answer to s: r itself on the way A, where it said yes, and t's on the way B
pub either : {A B : Type 0} {j r s t : Bool} → r ≡ s → A ⊎ B → (A → r ≡ true) → (A → j ≡ r) → (B → r ≡ false) → (B → j ≡ t)
    → j ≡ (s || t)
either {s = s} {t = t} q (inl x) yes' own no' other = own x ∙ or_first s t q (yes' x)
either {s = s} {t = t} q (inr x) yes' own no' other = other x ∙ or_second s t q (no' x)

-- ---- the tables test: t is what it told

pub sound_of : {t : Bool} (g : Atlas) → t ≡ is_sound g → not t ≡ false → Sound g
sound_of {t} g e f = (sound_test g).0 (sym e ∙ not-false t f)

-- ---- answers

-- an answer and a header, with the tables as they are
pub answered : {A : Type 0} {a a' : A} {head head' : Head} (shelves buckets : List ℕ) → (head ≡ head') × (a ≡ a')
    → outcome a (atlas head shelves buckets) ≡ outcome a' (atlas head' shelves buckets)
answered shelves buckets e = rw (e.0, e.1) refl
