-- One step by the answers of the tests, which are asked of the part of the bytes from its place on.
use Prim.Native.Nat.{ℕ, ◌+◌, ◌-◌, ◌≤◌}
use mathlib.Core.Path.{◌≡◌, refl, sym, ap, ◌∙◌, subst}
use mathlib.Core.Bool.{Bool, true, false}
use mathlib.Core.List.{List}
use native.Mathlib.Omega.{arith}
use lib.ListN.{length, drop, take, length-drop}
use lib.Seq.{take-length}
use Rattle.rules.specs.declared.Allocation.{Allocation}
use Rattle.rules.specs.Limits.{offset_most}
use Rattle.rules.specs.Trace.{u16_at, Bench, record_turn, misframed, payload}
use Rattle.rules.specs.Chunks.{unfinished}
use Rattle.laws.proofs.Trace.Came.{framed, Settled, settled}
use Rattle.framing.proofs.Whole.{Well, well}
use Rattle.turns.specs.declared.Stand.{Stand}
use Rattle.turns.specs.Turns.{bench_of, Wrote}
use Rattle.trace.specs.declared.walking.Walk.{Walk}
use Rattle.trace.specs.Walks.{Whole, Unread, path_of, Trod, stop_at, step}
use Rattle.trace.proofs.Steps.{step_waits, step_stops, step_goes}

-- the part of the bytes from a place on
pub rest_is : (bytes : List ℕ) (place : ℕ) → take (length bytes - place) (drop place bytes) ≡ drop place bytes
rest_is bytes place = ap (λ (n : ℕ). take n (drop place bytes)) (sym (length-drop place bytes)) ∙ take-length (drop place bytes)

-- the record ends inside the bytes, and its offset counts
pub inside : {bytes out : List ℕ} {w : Walk} {size : ℕ} → Unread bytes w out → Well (drop w.place bytes)
    → size ≡ u16_at (take (length bytes - w.place) (drop w.place bytes)) 0 → w.place + 2 + size ≤ length bytes
inside {bytes} {out} {w} {size} unread x n =
    let long : size ≡ u16_at (drop w.place bytes) 0 = n ∙ ap (λ (y : List ℕ). u16_at y 0) (rest_is bytes w.place) in
    omega (arith, x.whole, length-drop w.place bytes, unread.roomy.within, unread.inside)

pub counts : (bytes : List ℕ) (w : Walk) {size : ℕ} → w.offset + 2 + u16_at (drop w.place bytes) 0 ≤ offset_most
    → size ≡ u16_at (take (length bytes - w.place) (drop w.place bytes)) 0 → w.offset + 2 + size ≤ offset_most
counts bytes w {size} h n =
    let long : size ≡ u16_at (drop w.place bytes) 0 = n ∙ ap (λ (y : List ℕ). u16_at y 0) (rest_is bytes w.place) in omega arith

module _ {bytes out : List ℕ} {w : Walk} (unread : Unread bytes w out) {u : Bool}
    (asked : u ≡ unfinished w.offset (take (length bytes - w.place) (drop w.place bytes))) where
  abbrev left : List ℕ
  left = drop w.place bytes

  said : u ≡ unfinished w.offset left
  said = asked ∙ ap (unfinished w.offset) (rest_is bytes w.place)

  -- more bytes are waited for
  pub waits : u ≡ true → (s b : List ℕ) (l : List Allocation)
      → Trod out out w.stand.at (record { place = w.place; until = w.place; over = false; offset = w.offset; stand = w.stand }) s b l
      (step bytes (path_of w s b l))
  waits e s b l = subst
      (Trod out out w.stand.at (record { place = w.place; until = w.place; over = false; offset = w.offset; stand = w.stand }) s b l)
      (sym (step_waits bytes (path_of w s b l) (sym said ∙ e))) (record { put = record { ends = omega arith; is = refl }; path = refl })

  pub left_settled : u ≡ false → Settled w.offset left
  left_settled e = settled w.offset left (sym said ∙ e)

  -- room for a stop's line
  pub stop_room : u ≡ false → w.stand.at + 27 ≤ length out
  stop_room e =
      omega (arith, (left_settled e).head, length-drop w.place bytes, unread.roomy.room, unread.roomy.within, unread.inside)

  module _ {m : Bool} (told : m ≡ misframed w.offset (take (length bytes - w.place) (drop w.place bytes))) (e : u ≡ false) where
    framing : m ≡ misframed w.offset left
    framing = told ∙ ap (misframed w.offset) (rest_is bytes w.place)

    pub stops : m ≡ true → (s b : List ℕ) (l : List Allocation) {out' : List ℕ} {r : Walk}
        → Trod out out' w.stand.at r s b l (stop_at (path_of w s b l))
        → Trod out out' w.stand.at r s b l (step bytes (path_of w s b l))
    stops f s b l {out'} {r} = subst (Trod out out' w.stand.at r s b l) (sym (step_stops bytes (path_of w s b l) (sym said ∙ e) (sym framing ∙ f)))

    module _ (f : m ≡ false) where
      pub left_well : Well left
      left_well = well w.offset left (sym said ∙ e) (sym framing ∙ f)

      pub left_whole : Whole left w.stand.at out
      left_whole =
          let x : Well left = left_well in
          record {
            least = x.least;
            long = x.long;
            whole = x.whole;
            room = omega (arith, x.whole, length-drop w.place bytes, unread.roomy.room, unread.roomy.within, unread.inside);
          }

      -- the offset behind the record is one that counts
      pub within : w.offset + 2 + u16_at left 0 ≤ offset_most
      within = (framed w.offset left (sym framing ∙ f)).within

      pub went : {out' : List ℕ} {r : Stand} {size : ℕ} (s b : List ℕ) (l : List Allocation) {s' b' : List ℕ} {l' : List Allocation}
          → size ≡ u16_at (take (length bytes - w.place) (drop w.place bytes)) 0
          → Wrote out out' w.stand.at r s' b' l' (record_turn (u16_at (take (length bytes - w.place) (drop w.place bytes)) 2)
          (payload (take (length bytes - w.place) (drop w.place bytes))) (bench_of w.stand s b l))
          → Trod out out' w.stand.at
          (record { place = w.place + 2 + size; until = w.until; over = false; offset = w.offset + 2 + size; stand = r }) s' b' l'
          (step bytes (path_of w s b l))
      went {out'} {r} {size} s b l {s'} {b'} {l'} n wrote =
          let t : Bench = bench_of w.stand s b l in
          let long : size ≡ u16_at left 0 = n ∙ ap (λ (x : List ℕ). u16_at x 0) (rest_is bytes w.place) in
          let wrote' : Wrote out out' w.stand.at r s' b' l' (record_turn (u16_at left 2) (payload left) t) =
          subst (λ (x : List ℕ). Wrote out out' w.stand.at r s' b' l' (record_turn (u16_at x 2) (payload x) t)) (rest_is bytes w.place) wrote in
          subst (Trod out out' w.stand.at
          (record { place = w.place + 2 + size; until = w.until; over = false; offset = w.offset + 2 + size; stand = r }) s' b' l')
          (sym (step_goes bytes (path_of w s b l) (sym said ∙ e) (sym framing ∙ f)))
          (record { put = wrote'.put; path = rw (long, wrote'.bench) refl })
