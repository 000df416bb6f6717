-- The header's numbers: what their test told.
use Prim.Native.Nat.{ℕ, ◌<◌, ◌≤◌}
use mathlib.Core.Bool.{Bool, true, false}
use mathlib.Core.Path.{◌≡◌, sym, ◌∙◌}
use mathlib.Core.Logic.{inl, inr}
use mathlib.Core.List.{List}
use lib.Dec.{leb, ltb}
use lib.ListN.{length, get_or}
use native.Mathlib.Omega.{arith}
use borrow.Author.Tests.{le-leb, lt-leb, leb-true}
use Rattle.std.specs.Prelude.{Option, Some, None}
use Rattle.rules.specs.declared.Head.{Head}
use Rattle.rules.specs.Sound.{all_to}
use Rattle.laws.proofs.Tests.Flags.{flag, split, and_l, and_r}
use Rattle.laws.proofs.Tests.Tells.{Tells, tells_map, tells_and, tells_leb, tells_to, tells_ltb}
use Rattle.telling.specs.Header.{IsHead, is_head, has_room, read_head, head_in, head_beside}

tells_head : (x : List ℕ) → Tells (is_head x) (IsHead x)
unfolding is_head
tells_head x = tells_map
    (tells_and (leb 12 (length x)) (all_to 11 (λ i. ltb (get_or x i 0) 65536)) (tells_leb 12 (length x))
    (tells_to 11 (λ i. ltb (get_or x i 0) 65536) (λ i. get_or x i 0 < 65536) (λ i. tells_ltb (get_or x i 0) 65536)))
    (λ h. record { long = h.0; low = h.1 })
    (λ h. (h.long, h.low))

pub is_head_law : (x : List ℕ) → IsHead x → true ≡ is_head x
is_head_law x h = sym ((tells_head x).shown h)

pub no_head : (x : List ℕ) → (IsHead x → ⊥) → false ≡ is_head x
no_head x n = elim (flag (is_head x)) [ inl e ↦ absurd (n ((tells_head x).holds e)) | inr e ↦ sym e ]

-- from the code's test
pub head_yes : (x : List ℕ) {r : Bool} → r ≡ is_head x → r ≡ true → IsHead x
head_yes x e y = (tells_head x).holds (sym e ∙ y)

both : (x out : List ℕ) (room : ℕ) → has_room x out room ≡ true → IsHead x × (room ≤ length out)
unfolding has_room
both x out room e =
    ((tells_head x).holds (and_l (is_head x) (leb room (length out)) e), leb-true room (length out) (and_r (is_head x) (leb room (length out)) e))

module _ (x out : List ℕ) (room : ℕ) where
  pub beside_yes : room ≤ length out → head_in x ≡ head_beside x out room
  unfolding head_in head_beside has_room
  beside_yes l = split (is_head x) (λ e. simp (e, le-leb room (length out) l)) (λ e. simp e)

  pub beside_no : length out < room → None ≡ head_beside x out room
  unfolding head_beside has_room
  beside_no l = split (is_head x) (λ e. simp (e, lt-leb room (length out) l)) (λ e. simp e)

-- ---- what is known where a header was found, and where none was

some_one : {h k : Head} → ◌≡◌ {A = Option Head} (Some h) (Some k) → k ≡ h
some_one e = cc

none_some : {A : Type 0} {h : Head} → ◌≡◌ {A = Option Head} None (Some h) → A
none_some e = absurd (let z : ◌≡◌ {A = ℕ} 0 1 = cc in omega arith)

pub record FoundHead (x : List ℕ) (h : Head) : Type 0 where
  pub is : is_head x ≡ true
  pub read : h ≡ read_head x
  pub long : 12 ≤ length x

pub found_in : (x : List ℕ) (h : Head) → head_in x ≡ Some h → FoundHead x h
unfolding head_in
found_in x h = split (is_head x)
    (λ e. simp e (λ q. record { is = e; read = some_one q; long = ((tells_head x).holds e).long }))
    (λ e. simp e (λ q. none_some q))

pub none_in : (x : List ℕ) → head_in x ≡ None → is_head x ≡ false
unfolding head_in
none_in x = split (is_head x) (λ e. simp e (λ q. none_some (sym q))) (λ e q. e)

pub record FoundBeside (x out : List ℕ) (room : ℕ) (h : Head) : Type 0 where
  pub is : has_room x out room ≡ true
  pub read : h ≡ read_head x
  pub long : 12 ≤ length x
  pub spare : room ≤ length out

pub found_beside : (x out : List ℕ) (room : ℕ) (h : Head) → head_beside x out room ≡ Some h → FoundBeside x out room h
unfolding head_beside
found_beside x out room h = split (has_room x out room)
    (λ e. simp e (λ q. let m = both x out room e in
    record { is = e; read = some_one q; long = m.0.long; spare = m.1 }))
    (λ e. simp e (λ q. none_some q))

pub none_beside : (x out : List ℕ) (room : ℕ) → head_beside x out room ≡ None → has_room x out room ≡ false
unfolding head_beside
none_beside x out room = split (has_room x out room) (λ e. simp e (λ q. none_some (sym q))) (λ e q. e)
