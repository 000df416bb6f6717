-- Bytes written into a list, one text behind another. Bytes past the list's end are not written.
use Prim.Native.Nat.{ℕ, suc, ◌+◌, ◌-◌, ◌≤◌, min}
use mathlib.Core.Path.{◌≡◌, refl, sym, ap, ◌∙◌}
use mathlib.Core.List.{List, [], ◌∷◌, ◌++◌, append_assoc}
use native.Mathlib.Omega.{arith}
use native.Mathlib.Decide.{dec_le}
use native.Mathlib.Nat.{add-zero}
use borrow.Rule.Slice.PartMut.{put_mid}
use lib.ListN.{length, set, take, drop}
use lib.Seq.{sets, sets-eq, set_out, length-sets, take-length}
use Rattle.std.proofs.lemmas.List.{drop-drop, take-append-drop, length-take-le}

pub sets_append : (xs ys l : List ℕ) (i : ℕ) → sets l i (xs ++ ys) ≡ sets (sets l i xs) (i + length xs) ys
sets_append [] ys l i = rw add-zero refl
sets_append (x ∷ xs) ys l i =
    let e : i + suc (length xs) ≡ suc i + length xs = omega arith in
    rw e (sets_append xs ys (set l i x) (suc i))

pub puts_then : (xs ys l : List ℕ) (at to : ℕ) {mid after : List ℕ} → to ≡ at + length xs → mid ≡ sets l at xs → after ≡ sets mid to ys
    → after ≡ sets l at (xs ++ ys)
puts_then xs ys l at to e p q = q ∙ rw (p, e) (sym (sets_append xs ys l at))

-- a text that is copied whole
pub text_copied : (l text : List ℕ) (at k : ℕ) → at + length text ≤ length l → k ≡ length text → put_mid at k l text ≡ sets l at text
text_copied l text at k h e = rw (e, sets-eq text l at h, drop-drop, append_assoc) refl

sets_past : (vs l : List ℕ) (i : ℕ) → length l ≤ i → sets l i vs ≡ l
sets_past [] l i h = refl
sets_past (v ∷ vs) l i h = rw (set_out l i v h) (sets_past vs l (suc i) (omega arith))

-- a text that begins within the list and ends past it
text_cut : (l text : List ℕ) (at k : ℕ) → at + k ≡ length l → k ≤ length text → sets l at (take k text) ≡ sets l at text
text_cut l text at k e h =
    let long : length (take k text) ≡ k = length-take-le k text h in
    let whole : take k text ++ drop k text ≡ text = take-append-drop k text in
    sym (sets_past (drop k text) (sets l at (take k text)) (at + length (take k text)) (omega (arith, long, length-sets l at (take k text))))
    ∙ sym (sets_append (take k text) (drop k text) l at) ∙ ap (sets l at) whole

-- as much of a text as there is room for
pub text_fitted : (l text part : List ℕ) (at start end : ℕ) → start ≡ min at (length l) → end ≡ min (length l) (at + length text)
    → part ≡ take (end - start) text → put_mid start (end - start) l part ≡ sets l at text
text_fitted l text part at start end s e p = elim (dec_le (at + length text) (length l)) [
  | yes h ↦
      let f : start ≡ at = omega arith in
      let k : end - start ≡ length text = omega arith in
      rw (p, k, take-length text, f) (text_copied l text at (length text) h refl)
  | no h ↦ elim (dec_le at (length l)) [
    | yes g ↦
        let f : start ≡ at = omega arith in
        let k : end - start ≡ length l - at = omega arith in
        let long : length (take (length l - at) text) ≡ length l - at = length-take-le _ text (omega arith) in
        rw (p, k, f) (text_copied l (take (length l - at) text) at (length l - at) (omega (arith, long)) (sym long)
        ∙ text_cut l text at (length l - at) (omega arith) (omega arith))
    | no g ↦
        let f : start ≡ length l = omega arith in
        let k : end - start ≡ 0 = omega arith in
        rw (p, k, f) (text_copied l [] (length l) 0 (omega arith) refl ∙ sym (sets_past text l at (omega arith)))
  ]
]
