-- A value is there or not, and what is there is one value.
use Rattle.std.specs.Prelude.{◌≡◌, Option, Some, None, IfSome, is_some, Ok, Err}
use Rattle.std.specs.Option.{option_or, ok_or}
use mathlib.Core.Bool.{true, false, true≢false, false≢true}
use mathlib.Core.Path.{refl, sym, ap}
use Rattle.laws.proofs.Results.{ok_one, err_one, err_not_ok}

pub split_option : {T P : Type 0} (o : Option T) → (o ≡ None → P) → ((x : T) → o ≡ Some x → P) → P
split_option None p q = p refl
split_option (Some x) p q = q x refl

pub if_some : {T : Type 0} (P : T → Type 0) {o : Option T} {x : T} → IfSome o P → o ≡ Some x → P x
if_some P p e = rw e at p

pub is_there : {T : Type 0} (o : Option T) → is_some o ≡ true → (x : T) × (o ≡ Some x)
is_there None e = absurd (false≢true e)
is_there (Some x) e = (x, refl)

pub not_there : {T : Type 0} (o : Option T) → is_some o ≡ false → o ≡ None
not_there None e = refl
not_there (Some x) e = absurd (true≢false e)

-- the first of two that is there
pub if_either : {T : Type 0} (P : T → Type 0) (o p : Option T) → IfSome o P → IfSome p P → IfSome (option_or o p) P
if_either P None p a b = b
if_either P (Some x) p a b = a

pub some_one : {T : Type 0} {x y : T} → ◌≡◌ {A = Option T} (Some x) (Some y) → x ≡ y
some_one e = cc

-- a refusal in place of what is not there
module _ {T E : Type 0} (e : E) where
  pub ok_some : (o : Option T) {x : T} → ok_or o e ≡ Ok x → o ≡ Some x
  ok_some None q = err_not_ok q
  ok_some (Some y) q = ap Some (sym (ok_one q))

  pub err_none : (o : Option T) {r : E} → ok_or o e ≡ Err r → (o ≡ None) × (e ≡ r)
  err_none None q = (refl, err_one q)
  err_none (Some y) q = err_not_ok (sym q)
