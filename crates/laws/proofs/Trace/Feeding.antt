-- A feed record by record: what is left is held over, stops the replay, or starts with a whole record, whatever fuel there is enough of.
use Prim.Native.Nat.{ℕ, zero, suc, ◌+◌, ◌≤◌}
use mathlib.Core.Bool.{true, false}
use mathlib.Core.Path.{◌≡◌, refl, sym, ap, ap₂, ◌∙◌}
use mathlib.Core.List.{List, [], ◌++◌}
use native.Mathlib.Omega.{arith}
use lib.ListN.{length, drop, length-drop}
use Rattle.rules.specs.declared.Refusal.{Refusal}
use Rattle.rules.specs.Trace.{u16_at, stop_line, Bench, Turn, record_turn, misframed, payload}
use Rattle.rules.specs.Chunks.{Fed, fed, stream, unfinished, feed_from}
use Rattle.laws.proofs.Tests.Flags.{split}
use Rattle.laws.proofs.Trace.Came.{few_unfinished, Settled, settled, finished_front, misframed_front, length_front, kind_front}
use Rattle.laws.proofs.Trace.Came.{payload_front, drop_front}

-- the turn of the record that is there, and what is left behind it
abbrev pub here : List ℕ → Bench → Turn
here left t = record_turn (u16_at left 2) (payload left) t

abbrev pub behind : List ℕ → List ℕ
behind left = drop (2 + u16_at left 0) left

-- lines in front of those of a feed
abbrev pub led : List ℕ → Fed → Fed
led line f = fed (line ++ f.line) f.after

pub feed_holds : (d offset : ℕ) (left : List ℕ) (t : Bench) → unfinished offset left ≡ true → feed_from d offset left t ≡ fed [] (stream false offset left t)
unfolding feed_from
feed_holds zero offset left t e = refl
feed_holds (suc d) offset left t e = simp e

pub feed_stops : (d offset : ℕ) (left : List ℕ) (t : Bench) → unfinished offset left ≡ false → misframed offset left ≡ true
    → feed_from (suc d) offset left t ≡ fed (stop_line Refusal.Malformed offset) (stream true offset [] t)
unfolding feed_from
feed_stops d offset left t e m = simp (e, m)

pub feed_goes : (d offset : ℕ) (left : List ℕ) (t : Bench) → unfinished offset left ≡ false → misframed offset left ≡ false
    → feed_from (suc d) offset left t ≡ led (here left t).line (feed_from d (offset + 2 + u16_at left 0) (behind left) (here left t).after)
unfolding feed_from
feed_goes d offset left t e m = simp (e, m)

-- a record has a byte at least, so what is behind it is shorter
pub behind_short : (offset : ℕ) (left : List ℕ) (d : ℕ) → Settled offset left → length left ≤ suc d → length (behind left) ≤ d
behind_short offset left d r h = omega (arith, length-drop (2 + u16_at left 0) left, r.head)

fuel : (d e offset : ℕ) (left : List ℕ) (t : Bench) → length left ≤ d → length left ≤ e → feed_from d offset left t ≡ feed_from e offset left t
fuel zero e offset left t h k =
    let u : unfinished offset left ≡ true = few_unfinished offset left (omega arith) in
    feed_holds zero offset left t u ∙ sym (feed_holds e offset left t u)
fuel (suc d) zero offset left t h k =
    let u : unfinished offset left ≡ true = few_unfinished offset left (omega arith) in
    feed_holds (suc d) offset left t u ∙ sym (feed_holds zero offset left t u)
fuel (suc d) (suc e) offset left t h k = split (unfinished offset left)
    (λ u. feed_holds (suc d) offset left t u ∙ sym (feed_holds (suc e) offset left t u))
    (λ u. split (misframed offset left)
    (λ m. feed_stops d offset left t u m ∙ sym (feed_stops e offset left t u m))
    (λ m.
    let r : Settled offset left = settled offset left u in
    feed_goes d offset left t u m
    ∙ ap (led (here left t).line) (fuel d e (offset + 2 + u16_at left 0) (behind left) (here left t).after (behind_short offset left d r h)
    (behind_short offset left e r k))
    ∙ sym (feed_goes e offset left t u m)))

-- with a turn for each byte
abbrev pub feeding : ℕ → List ℕ → Bench → Fed
feeding offset left t = feed_from (length left) offset left t

pub feeding_stops : (offset : ℕ) (left : List ℕ) (t : Bench) → unfinished offset left ≡ false → misframed offset left ≡ true
    → feeding offset left t ≡ fed (stop_line Refusal.Malformed offset) (stream true offset [] t)
feeding_stops offset left t u m =
    fuel (length left) (suc (length left)) offset left t (omega arith) (omega arith) ∙ feed_stops (length left) offset left t u m

pub feeding_goes : (offset : ℕ) (left : List ℕ) (t : Bench) → unfinished offset left ≡ false → misframed offset left ≡ false
    → feeding offset left t ≡ led (here left t).line (feeding (offset + 2 + u16_at left 0) (behind left) (here left t).after)
feeding_goes offset left t u m =
    let r : Settled offset left = settled offset left u in
    fuel (length left) (suc (length left)) offset left t (omega arith) (omega arith) ∙ feed_goes (length left) offset left t u m
    ∙ ap (led (here left t).line)
    (fuel (length left) (length (behind left)) (offset + 2 + u16_at left 0) (behind left) (here left t).after
    (omega (arith, length-drop (2 + u16_at left 0) left)) (omega arith))

-- ---- further bytes behind it

-- the record that is there is the same one, whatever follows
pub here_front : (left more : List ℕ) (t : Bench) → 4 ≤ length left → 2 + u16_at left 0 ≤ length left → here (left ++ more) t ≡ here left t
here_front left more t h w =
    ap₂ (λ (kind : ℕ) (p : List ℕ). record_turn kind p t) (kind_front left more h) (payload_front left more h w)

module _ (offset : ℕ) (left more : List ℕ) (t : Bench) (u : unfinished offset left ≡ false) where
  pub front_stops : misframed offset left ≡ true
      → feeding offset (left ++ more) t ≡ fed (stop_line Refusal.Malformed offset) (stream true offset [] t)
  front_stops m =
      let r : Settled offset left = settled offset left u in
      feeding_stops offset (left ++ more) t (finished_front left more offset r) (misframed_front left more offset r.head ∙ m)

  pub front_goes : misframed offset left ≡ false
      → feeding offset (left ++ more) t
      ≡ led (here left t).line (feeding (offset + 2 + u16_at left 0) (behind left ++ more) (here left t).after)
  front_goes m =
      let r : Settled offset left = settled offset left u in
      let w : 2 + u16_at left 0 ≤ length left = r.whole m in
      feeding_goes offset (left ++ more) t (finished_front left more offset r) (misframed_front left more offset r.head ∙ m)
      ∙ ap (λ (n : ℕ). led (here (left ++ more) t).line (feeding (offset + 2 + n) (behind (left ++ more)) (here (left ++ more) t).after))
      (length_front left more r.head)
      ∙ ap₂ (λ (xs : List ℕ) (x : Turn). led x.line (feeding (offset + 2 + u16_at left 0) xs x.after)) (drop_front left more r.head w)
      (here_front left more t r.head w)
