use mathlib.Core.Path.{◌≡◌, sym, ◌∙◌}
use mathlib.Core.Logic.{inl, inr}
use mathlib.Core.Bool.{false, ◌&&◌, and-false}
use native.Mathlib.Omega.{arith}
use lib.Dec.{eqb}
use borrow.Author.Tests.{ne_eqb}
use Rattle.rules.specs.Limits.{none}
use Rattle.rules.specs.NewShelf.{short}
use Rattle.measures.proofs.Columns.{short_says}
use Rattle.measures.proofs.Filler.{ends_not, ends_full}
use Rattle.measures.proofs.filler_ends.Goals as goal

pub count_for-requires : goal.count_for-requires
count_for-requires c = ((short_says _ _ (sym c.is_short.ensures ∙ c.if-head-eq-NONE.true.0)).some, omega arith)

pub returns-then-head-eq-NONE : goal.returns-then-head-eq-NONE
returns-then-head-eq-NONE c = λ s b p.
    rw c.count_for.ensures
    (ends_full _ _ (sym c.is_short.ensures ∙ c.if-head-eq-NONE.true.0) p.ready p.add.buckets c.if-head-eq-NONE.true.1)

pub returns-else-head-eq-NONE : goal.returns-else-head-eq-NONE
returns-else-head-eq-NONE c = λ s b p.
    let no : (short c.args.height c.args.head && eqb c.args.head.released none) ≡ false = elim c.if-head-eq-NONE.either [
      | inl q ↦ simp (ne_eqb _ _ q.1, and-false)
      | inr n ↦ simp (sym c.is_short.ensures ∙ n)
    ] in
    c.if-head-eq-NONE.false-raw ∙ ends_not _ _ no p.ready p.add.buckets
