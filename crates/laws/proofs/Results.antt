-- An answer is accepted or refused, and an accepted one has one value.
use Rattle.std.specs.Prelude.{ℕ, Result, Ok, Err, IsErrAnd}
use Rattle.std.proofs.lemmas.Result.{err_from_is_err_and}
use mathlib.Core.Path.{◌≡◌, ap, ◌∙◌}
use native.Mathlib.Omega.{arith}

pub ok_one : {T E : Type 0} {x y : T} → ◌≡◌ {A = Result T E} (Ok x) (Ok y) → y ≡ x
ok_one e = cc

pub err_one : {T E : Type 0} {x y : E} → ◌≡◌ {A = Result T E} (Err x) (Err y) → x ≡ y
err_one e = cc

pub err_not_ok : {T E A : Type 0} {r : E} {x : T} → ◌≡◌ {A = Result T E} (Err r) (Ok x) → A
err_not_ok e = absurd (let z : ◌≡◌ {A = ℕ} 0 1 = cc in omega arith)

-- a refusal that `?` passed on
pub passed_on : {T E : Type 0} {x : E} (r : Result T E) → IsErrAnd r (λ (y : E). y ≡ x) → r ≡ Err x
passed_on r p = let q = err_from_is_err_and r p in q.1 ∙ ap Err q.2
