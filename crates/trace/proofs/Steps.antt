-- One step of a replay, and step after step: what is known of each, how long its line is, and how it ends.
use Prim.Native.Nat.{ℕ, zero, suc, ◌+◌, ◌-◌, ◌*◌, ◌≤◌, ◌<◌}
use mathlib.Core.Path.{◌≡◌, refl, sym, ◌∙◌, subst}
use mathlib.Core.Bool.{Bool, true, false}
use mathlib.Core.List.{List, [], ◌++◌}
use native.Mathlib.Omega.{arith}
use native.Mathlib.Decide.{dec_lt}
use borrow.Author.Tests.{le-leb, lt-leb}
use lib.ListN.{length, drop, length-append, length-drop}
use Rattle.rules.specs.Trace.{u16_at, misframed, payload}
use Rattle.rules.specs.Chunks.{unfinished}
use Rattle.laws.proofs.Tests.Flags.{split}
use Rattle.framing.proofs.Whole.{Well, well, payload_length}
use Rattle.turns.specs.Turns.{Handed}
use Rattle.turns.proofs.Short.{record_short}
use Rattle.trace.specs.Walks.{Whole, Path, Stretch, stepped, stop_at, wait_at, go_on, step, walked}

-- a whole record, and its payload handed on
pub whole_well : {left : List ℕ} {at : ℕ} {out : List ℕ} → Whole left at out → Well left
whole_well w = record { head = omega (arith, w.least, w.whole); least = w.least; long = w.long; whole = w.whole }

pub whole_fits : {left : List ℕ} {at : ℕ} {out : List ℕ} → Whole left at out → Handed (u16_at left 2) at (payload left) out
whole_fits {left} w =
    let n : length (payload left) + 2 ≡ u16_at left 0 = payload_length left (whole_well w) in
    record { long = n ∙ w.long; room = omega (arith, w.room) }

-- the bytes that are left
abbrev pub left_of : List ℕ → Path → List ℕ
left_of bytes p = drop p.place bytes

module _ (bytes : List ℕ) (p : Path) where
  pub step_waits : unfinished p.offset (left_of bytes p) ≡ true → step bytes p ≡ wait_at p
  unfolding step
  step_waits e = simp e

  pub step_stops : unfinished p.offset (left_of bytes p) ≡ false → misframed p.offset (left_of bytes p) ≡ true → step bytes p ≡ stop_at p
  unfolding step
  step_stops e m = simp (e, m)

  pub step_goes : unfinished p.offset (left_of bytes p) ≡ false → misframed p.offset (left_of bytes p) ≡ false
      → step bytes p ≡ go_on (left_of bytes p) p
  unfolding step
  step_goes e m = simp (e, m)

-- ---- step after step

-- lines in front of those of further steps
abbrev pub ahead : List ℕ → Stretch → Stretch
ahead line x = stepped (line ++ x.line) x.path

pub walked_done : (d : ℕ) (bytes : List ℕ) (p : Path) → p.until ≤ p.place → walked d bytes p ≡ stepped [] p
unfolding walked
walked_done zero bytes p h = refl
walked_done (suc d) bytes p h = simp (le-leb p.until p.place h)

pub walked_more : (d : ℕ) (bytes : List ℕ) (p : Path) → p.place < p.until
    → walked (suc d) bytes p ≡ ahead (step bytes p).line (walked d bytes (step bytes p).path)
unfolding walked
walked_more d bytes p h = simp (lt-leb p.until p.place h)

-- ---- bounds

-- what a step keeps: it comes nearer to the end, inside the bytes, and its line is short beside the bytes that it passes
pub record Bounds (bytes : List ℕ) (p : Path) (x : Stretch) : Type 0 where
  pub nearer : x.path.until - x.path.place < p.until - p.place
  pub within : x.path.until ≤ length bytes
  pub inside : x.path.place ≤ length bytes
  pub few : x.path.place < x.path.until → length x.line + 7 * (length bytes - x.path.place) ≤ 7 * (length bytes - p.place)

module _ (bytes : List ℕ) (p : Path) (h : p.place < p.until) (i : p.until ≤ length bytes) where
  stop_bounds : Bounds bytes p (stop_at p)
  stop_bounds = record { nearer = omega arith; within = omega arith; inside = omega arith; few = λ z. absurd (omega arith) }

  wait_bounds : Bounds bytes p (wait_at p)
  wait_bounds = record { nearer = omega arith; within = omega arith; inside = omega arith; few = λ z. absurd (omega arith) }

  -- a record's line
  pub line_few : Well (left_of bytes p) → length (go_on (left_of bytes p) p).line ≤ 7 * (2 + u16_at (left_of bytes p) 0)
  line_few w =
      let left : List ℕ = left_of bytes p in
      let n : length (payload left) + 2 ≡ u16_at left 0 = payload_length left w in
      let l : length (go_on left p).line ≤ 28 + 7 * length (payload left) = record_short (u16_at left 2) (payload left) p.bench (n ∙ w.long) in
      omega arith

  go_bounds : Well (left_of bytes p) → Bounds bytes p (go_on (left_of bytes p) p)
  go_bounds w =
      let l : length (go_on (left_of bytes p) p).line ≤ 7 * (2 + u16_at (left_of bytes p) 0) = line_few w in
      let n : length (left_of bytes p) ≡ length bytes - p.place = length-drop p.place bytes in
      record {
        nearer = omega arith;
        within = i;
        inside = omega (arith, w.whole);
        few = λ z. omega (arith, w.whole);
      }

  pub step_bounds : Bounds bytes p (step bytes p)
  step_bounds = split (unfinished p.offset (left_of bytes p))
      (λ e. subst (Bounds bytes p) (sym (step_waits bytes p e)) wait_bounds)
      (λ e. split (misframed p.offset (left_of bytes p))
      (λ m. subst (Bounds bytes p) (sym (step_stops bytes p e m)) stop_bounds)
      (λ m. subst (Bounds bytes p) (sym (step_goes bytes p e m)) (go_bounds (well p.offset (left_of bytes p) e m))))

-- ---- the end

-- a stop was told; the next record starts at the bound or behind it; or what came of it is not the whole
pub data How (until : ℕ) (bytes : List ℕ) (q : Path) : Type 0 where
  stops : q.over ≡ true → How until bytes q
  passes : q.over ≡ false → until ≤ q.place → How until bytes q
  waits : q.over ≡ false → unfinished q.offset (drop q.place bytes) ≡ true → How until bytes q

pub record WalkEnds (bytes : List ℕ) (p : Path) (x : Stretch) : Type 0 where
  pub inside : x.path.place ≤ length bytes
  pub few : x.path.over ≡ false → length x.line + 7 * (length bytes - x.path.place) ≤ 7 * (length bytes - p.place)
  pub how : How p.until bytes x.path

module _ (bytes : List ℕ) where
  stays : (p : Path) → p.over ≡ false → p.place ≤ length bytes → p.until ≤ p.place → WalkEnds bytes p (stepped [] p)
  stays p o i h = record { inside = i; few = λ e. omega arith; how = How.passes o h }

  waited : (d : ℕ) (p : Path) → p.place ≤ length bytes → unfinished p.offset (left_of bytes p) ≡ true
      → WalkEnds bytes p (ahead [] (walked d bytes (wait_at p).path))
  waited d p i u = subst (λ (x : Stretch). WalkEnds bytes p (ahead [] x)) (sym (walked_done d bytes (wait_at p).path (omega arith)))
      (record { inside = i; few = λ e. omega arith; how = How.waits refl u })

  told : (d : ℕ) (p : Path) → p.place ≤ length bytes → WalkEnds bytes p (ahead (stop_at p).line (walked d bytes (stop_at p).path))
  told d p i = subst (λ (x : Stretch). WalkEnds bytes p (ahead (stop_at p).line x)) (sym (walked_done d bytes (stop_at p).path (omega arith)))
      (record { inside = i; few = λ (e : true ≡ false). absurd (subst (λ (b : Bool). pick b) e tt); how = How.stops refl })
    where
      pick : Bool → Type 0
      pick true = Unit {0}
      pick false = ⊥

  -- behind a record that was answered
  went : (d : ℕ) (p : Path) → Well (left_of bytes p) → p.place < p.until → p.until ≤ length bytes
      → WalkEnds bytes (go_on (left_of bytes p) p).path (walked d bytes (go_on (left_of bytes p) p).path)
      → WalkEnds bytes p (ahead (go_on (left_of bytes p) p).line (walked d bytes (go_on (left_of bytes p) p).path))
  went d p w h i e =
      let now : Stretch = go_on (left_of bytes p) p in
      let rest : Stretch = walked d bytes now.path in
      record {
        inside = e.inside;
        few = λ o.
            omega (arith, e.few o, line_few bytes p h i w, w.whole, length-drop p.place bytes, length-append now.line rest.line);
        how = e.how;
      }

  pub walk_ends : (d : ℕ) (p : Path) → p.over ≡ false → p.place ≤ length bytes → p.until ≤ length bytes → p.until ≤ p.place + d
      → WalkEnds bytes p (walked d bytes p)
  walk_ends zero p o i u enough = subst (WalkEnds bytes p) (sym (walked_done zero bytes p (omega arith))) (stays p o i (omega arith))
  walk_ends (suc d) p o i u enough = elim (dec_lt p.place p.until) [
    | no n ↦ subst (WalkEnds bytes p) (sym (walked_done (suc d) bytes p (omega arith))) (stays p o i (omega arith))
    | yes h ↦
        subst (WalkEnds bytes p) (sym (walked_more d bytes p h)) (split (unfinished p.offset (left_of bytes p))
        (λ e. subst (λ (x : Stretch). WalkEnds bytes p (ahead x.line (walked d bytes x.path))) (sym (step_waits bytes p e)) (waited d p i e))
        (λ e. split (misframed p.offset (left_of bytes p))
        (λ m. subst (λ (x : Stretch). WalkEnds bytes p (ahead x.line (walked d bytes x.path))) (sym (step_stops bytes p e m)) (told d p i))
        (λ m.
        let w : Well (left_of bytes p) = well p.offset (left_of bytes p) e m in
        subst (λ (x : Stretch). WalkEnds bytes p (ahead x.line (walked d bytes x.path))) (sym (step_goes bytes p e m))
        (went d p w h u (walk_ends d (go_on (left_of bytes p) p).path refl (omega (arith, w.whole, length-drop p.place bytes)) u
        (omega (arith, w.whole)))))))
  ]
