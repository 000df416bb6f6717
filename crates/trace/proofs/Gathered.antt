-- What is held over and the chunk after it, as bytes in a row.
use Prim.Native.Nat.{ℕ, ◌+◌, ◌-◌, ◌≤◌, min}
use mathlib.Core.Path.{◌≡◌, sym, ap, ap₂, ◌∙◌}
use mathlib.Core.List.{List, ◌++◌}
use native.Mathlib.Omega.{arith}
use native.Mathlib.Decide.{dec_le}
use lib.ListN.{length, take, drop, length-append, length-take}
use lib.Seq.{sets, length-take-le, take_all, take-add, drop_at, drop-append-le, drop-append-add}
use Rattle.laws.proofs.Files.Puts.{text_fitted}
use Rattle.lines.specs.Put.{Put}
use Rattle.lines.proofs.Puts.{put_length}
use Rattle.trace.proofs.Turns.{rest_is}

module _ (held chunk : List ℕ) (count : ℕ) (few : count ≤ length held) where
  pub all_length : length (take count held ++ chunk) ≡ count + length chunk
  all_length = omega (arith, length-append (take count held) chunk, length-take-le count held few)

  held_part : (from : ℕ) → from ≤ count → take (count - from) (drop from held) ≡ drop from (take count held)
  held_part from h =
      let e : count ≡ from + (count - from) = omega arith in
      sym (ap (λ (k : ℕ). drop from (take k held)) e ∙ ap (drop from) (take-add from (count - from) held)
      ∙ drop_at (take from held) (take (count - from) (drop from held)) from (length-take-le from held (omega arith)))

  -- the parts of both from a place on
  pub parts_are : (from : ℕ) {m k : ℕ} → m ≡ min from count → k ≡ from - count
      → take (count - m) (drop m held) ++ take (length chunk - k) (drop k chunk) ≡ drop from (take count held ++ chunk)
  parts_are from {m} {k} e f = elim (dec_le from count) [
    | yes h ↦
        let a : m ≡ from = omega arith in
        let b : k ≡ 0 = omega arith in
        ap₂ (λ (xs ys : List ℕ). xs ++ ys) (ap (λ (i : ℕ). take (count - i) (drop i held)) a ∙ held_part from h)
        (rest_is chunk k ∙ ap (λ (i : ℕ). drop i chunk) b)
        ∙ sym (drop-append-le from (take count held) chunk (omega (arith, length-take-le count held few)))
    | no h ↦
        let a : count - m ≡ 0 = omega arith in
        let b : length (take count held) + k ≡ from = omega (arith, length-take-le count held few) in
        ap₂ (λ (i : ℕ) (ys : List ℕ). take i (drop m held) ++ ys) a (rest_is chunk k)
        ∙ sym (drop-append-add (take count held) chunk k) ∙ ap (λ (i : ℕ). drop i (take count held ++ chunk)) b
  ]

-- of a text at the start only what there is room for is written
cut_text : (l text : List ℕ) → sets l 0 text ≡ sets l 0 (take (length l) text)
cut_text l text = elim (dec_le (length text) (length l)) [
  | yes h ↦ ap (sets l 0) (sym (take_all (length l) text h))
  | no h ↦
      let part : List ℕ = take (length l) text in
      let long : length part ≡ length l = length-take-le (length l) text (omega arith) in
      let z : length l ≡ length l - 0 = omega arith in
      sym (text_fitted l text part 0 0 (length l) (omega arith) (omega arith) (ap (λ (k : ℕ). take k text) z))
      ∙ text_fitted l part part 0 0 (length l) (omega arith) (omega (arith, long)) (sym (take_all (length l - 0) part (omega (arith, long))))
]

pub put_cut : {l out xs text : List ℕ} {end n : ℕ} → Put l out 0 end xs → xs ≡ text → n ≡ min (length out) end
    → Put l out 0 n (take (length l) text)
put_cut {l} {out} {xs} {text} {end} {n} p q e = record {
  ends = omega (arith, p.ends, ap length q, put_length p, length-take (length l) text);
  is = p.is ∙ ap (sets l 0) q ∙ cut_text l text;
}
