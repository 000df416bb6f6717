-- T-05: "Take it in whatever chunks come, records split across them too, holding over at most one unfinished record. Output, offsets and final tables
-- are those of the trace read whole." One theorem over all ways to cut a trace, `chunks_whole`; and what is held over, and what is told of it.
use Prim.Native.Nat.{ℕ, zero, suc, ◌+◌, ◌≤◌, ◌<◌}
use mathlib.Core.Bool.{true, false}
use mathlib.Core.Path.{◌≡◌, refl, sym, ap, ap₂, ◌∙◌, subst}
use mathlib.Core.Logic.{◌⊎◌, inl, inr}
use mathlib.Core.List.{List, [], ◌∷◌, ◌++◌, append-nil, append_assoc}
use native.Mathlib.Omega.{arith}
use borrow.Author.Tests.{ne_eqb}
use lib.Dec.{eqb}
use lib.ListN.{length, length-append, length-drop}
use Rattle.rules.specs.declared.Refusal.{Refusal}
use Rattle.std.specs.Prelude.{if◌then◌else◌}
use Rattle.rules.specs.Limits.{held_most}
use Rattle.rules.specs.Trace.{u16_at, stop_line, Bench, Turn, turn, misframed, malformed, replay_from, replay}
use Rattle.rules.specs.Chunks.{Stream, stream, Fed, fed, unfinished, feed_from, feed, cut_line, finish, started, joined, feeds, chunked}
use Rattle.laws.proofs.Tests.Flags.{split}
use Rattle.laws.proofs.Tests.Tells.{true_false}
use Rattle.laws.proofs.Trace.Came.{few_unfinished, Settled, settled, settled_malformed, settled_front, unfinished_short, unfinished_malformed, cut_short}
use Rattle.laws.proofs.Trace.Came.{length_front, misframed_front, drop_front}
use Rattle.laws.proofs.Trace.Feeding.{here, behind, behind_short, here_front, feed_holds, feed_stops, feed_goes}
use Rattle.laws.proofs.Trace.Replaying.{before, replaying, replaying_stops, replaying_goes}

-- ---- bytes that follow

-- what the whole trace still gives where these bytes follow
abbrev onward : Stream → List ℕ → Turn
onward s more = if s.over then turn [] s.bench else replaying s.offset (s.held ++ more) s.bench

before_assoc : (a b : List ℕ) (x : Turn) → before a (before b x) ≡ before (a ++ b) x
before_assoc a b x = ap (λ (l : List ℕ). turn l x.after) (sym (append_assoc a b x.line))

fed_onward : (d offset : ℕ) (left : List ℕ) (t : Bench) (more : List ℕ) → length left ≤ d
    → replaying offset (left ++ more) t ≡ before (feed_from d offset left t).line (onward (feed_from d offset left t).after more)
fed_onward zero offset left t more h =
    sym (ap (λ (f : Fed). before f.line (onward f.after more)) (feed_holds zero offset left t (few_unfinished offset left (omega arith))))
fed_onward (suc d) offset left t more h = split (unfinished offset left)
    (λ u. sym (ap (λ (f : Fed). before f.line (onward f.after more)) (feed_holds (suc d) offset left t u)))
    (λ u.
    let r : Settled offset left = settled offset left u in
    let some : 0 < length (left ++ more) = omega (arith, r.head, length-append left more) in
    let same : malformed offset (left ++ more) ≡ misframed offset left =
    settled_malformed offset (left ++ more) (settled_front left more offset r) ∙ misframed_front left more offset r.head in
    split (misframed offset left)
    (λ m.
    replaying_stops offset (left ++ more) t some (same ∙ m)
    ∙ ap (λ (l : List ℕ). turn l t) (sym (append-nil (stop_line Refusal.Malformed offset)))
    ∙ sym (ap (λ (f : Fed). before f.line (onward f.after more)) (feed_stops d offset left t u m)))
    (λ m.
    let w : 2 + u16_at left 0 ≤ length left = r.whole m in
    let t' : Bench = (here left t).after in
    let o' : ℕ = offset + 2 + u16_at left 0 in
    let f : Fed = feed_from d o' (behind left) t' in
    let rest : replaying (offset + 2 + u16_at (left ++ more) 0) (behind (left ++ more)) (here (left ++ more) t).after
    ≡ replaying o' (behind left ++ more) t' =
    ap (λ (n : ℕ). replaying (offset + 2 + n) (behind (left ++ more)) (here (left ++ more) t).after) (length_front left more r.head)
    ∙ ap₂ (λ (xs : List ℕ) (x : Turn). replaying o' xs x.after) (drop_front left more r.head w) (here_front left more t r.head w) in
    replaying_goes offset (left ++ more) t some (same ∙ m)
    ∙ ap₂ (λ (x : Turn) (y : Turn). before x.line y) (here_front left more t r.head w)
    (rest ∙ fed_onward d o' (behind left) t' more (behind_short offset left d r h))
    ∙ before_assoc (here left t).line f.line (onward f.after more)
    ∙ sym (ap (λ (f : Fed). before f.line (onward f.after more)) (feed_goes d offset left t u m))))

-- a chunk in front of the bytes that follow
feed_onward : (chunk : List ℕ) (s : Stream) (more : List ℕ)
    → onward s (chunk ++ more) ≡ before (feed chunk s).line (onward (feed chunk s).after more)
unfolding feed
feed_onward chunk s more = split s.over
    (λ e. simp e)
    (λ e. simp e (ap (λ (xs : List ℕ). replaying s.offset xs s.bench) (sym (append_assoc s.held chunk more))
    ∙ fed_onward (length (s.held ++ chunk)) s.offset (s.held ++ chunk) s.bench more (omega arith)))

feeds_onward : (chunks : List (List ℕ)) (s : Stream) → onward s (joined chunks) ≡ before (feeds chunks s).line (onward (feeds chunks s).after [])
feeds_onward [] s = refl
feeds_onward (chunk ∷ chunks) s =
    let now : Fed = feed chunk s in
    let rest : Fed = feeds chunks now.after in
    feed_onward chunk s (joined chunks) ∙ ap (before now.line) (feeds_onward chunks now.after)
    ∙ before_assoc now.line rest.line (onward rest.after [])

-- ---- what a feed leaves

-- a stop was told, and nothing is held over; or what is held over may still become a record
pub data Left (s : Stream) : Type 0 where
  told : s.over ≡ true → s.held ≡ [] → Left s
  waits : s.over ≡ false → unfinished s.offset s.held ≡ true → Left s

from_left : (d offset : ℕ) (left : List ℕ) (t : Bench) → length left ≤ d → Left (feed_from d offset left t).after
from_left zero offset left t h =
    let u : unfinished offset left ≡ true = few_unfinished offset left (omega arith) in
    subst (λ (f : Fed). Left f.after) (sym (feed_holds zero offset left t u)) (Left.waits refl u)
from_left (suc d) offset left t h = split (unfinished offset left)
    (λ u. subst (λ (f : Fed). Left f.after) (sym (feed_holds (suc d) offset left t u)) (Left.waits refl u))
    (λ u. split (misframed offset left)
    (λ m. subst (λ (f : Fed). Left f.after) (sym (feed_stops d offset left t u m)) (Left.told refl refl))
    (λ m. subst (λ (f : Fed). Left f.after) (sym (feed_goes d offset left t u m))
    (from_left d (offset + 2 + u16_at left 0) (behind left) (here left t).after (behind_short offset left d (settled offset left u) h))))

pub feed_left : (chunk : List ℕ) (s : Stream) → Left s → Left (feed chunk s).after
unfolding feed
feed_left chunk s l = split s.over
    (λ e. simp e l)
    (λ e. simp e (from_left (length (s.held ++ chunk)) s.offset (s.held ++ chunk) s.bench (omega arith)))

pub feeds_left : (chunks : List (List ℕ)) (s : Stream) → Left s → Left (feeds chunks s).after
feeds_left [] s l = l
feeds_left (chunk ∷ chunks) s l = feeds_left chunks (feed chunk s).after (feed_left chunk s l)

pub started_left : (t : Bench) → Left (started t)
unfolding unfinished
started_left t = Left.waits refl refl

-- ---- the end

finish_onward : (s : Stream) → Left s → turn (finish s) s.bench ≡ onward s []
unfolding cut_line replay_from
finish_onward s (Left.told e h) = simp e
finish_onward s (Left.waits e u) = simp e (held s.held s.offset s.bench u)
  where
    held : (xs : List ℕ) (offset : ℕ) (t : Bench) → unfinished offset xs ≡ true
        → turn (if eqb (length xs) 0 then [] else stop_line Refusal.Malformed offset) t ≡ replaying offset (xs ++ []) t
    held [] offset t u = refl
    held (x ∷ xs) offset t u =
        simp (ne_eqb (length (x ∷ xs)) 0 (λ e. omega arith))
        (sym (replaying_stops offset (x ∷ xs) t (omega arith) (unfinished_malformed offset (x ∷ xs) u))
        ∙ ap (λ (ys : List ℕ). replaying offset ys t) (sym (append-nil (x ∷ xs))))

-- "Output, offsets and final tables are those of the trace read whole", whatever the chunks
pub chunks_whole : (chunks : List (List ℕ)) (t : Bench) → chunked chunks (started t) ≡ replay (joined chunks) t
unfolding replay
chunks_whole chunks t =
    let all : Fed = feeds chunks (started t) in
    ap (before all.line) (finish_onward all.after (feeds_left chunks (started t) (started_left t))) ∙ sym (feeds_onward chunks (started t))

-- ---- what is held over

-- less than a record: the bytes before its length and kind end, or before what the length says; at most 24
pub record HeldOver (s : Stream) : Type 0 where
  pub less : (s.held ≡ []) ⊎ ((length s.held < 4) ⊎ (length s.held < 2 + u16_at s.held 0))
  pub few : length s.held ≤ held_most

pub held_over : (s : Stream) → Left s → HeldOver s
held_over s (Left.told e h) = record { less = inl h; few = omega (arith, ap length h) }
held_over s (Left.waits e u) = record { less = inr (cut_short s.offset s.held u); few = unfinished_short s.offset s.held u }

-- "told only at the end": of a record that is cut a chunk tells nothing, and it is held over
pub cut_waits : (chunk : List ℕ) (s : Stream) → s.over ≡ false → unfinished s.offset (s.held ++ chunk) ≡ true
    → feed chunk s ≡ fed [] (stream false s.offset (s.held ++ chunk) s.bench)
unfolding feed
cut_waits chunk s e u = simp e (feed_holds (length (s.held ++ chunk)) s.offset (s.held ++ chunk) s.bench u)

-- and the end tells 14 at its offset
pub cut_told : (s : Stream) → s.over ≡ false → 0 < length s.held → finish s ≡ stop_line Refusal.Malformed s.offset
unfolding cut_line
cut_told s e some = simp (e, ne_eqb (length s.held) 0 (λ z. omega arith))

-- "14 .. ends": behind a stop nothing is written, and nothing is done
pub record Over (s : Stream) : Type 0 where
  pub still : (chunk : List ℕ) → feed chunk s ≡ fed [] s
  pub silent : finish s ≡ []

pub over_silent : (s : Stream) → s.over ≡ true → Over s
unfolding feed cut_line
over_silent s e = record { still = λ chunk. simp e; silent = simp e }

-- ---- offsets

-- from the first chunk on: the next record's offset and the bytes of it that came are the bytes so far
from_offset : (d offset : ℕ) (left : List ℕ) (t : Bench) → length left ≤ d → (feed_from d offset left t).after.over ≡ false
    → (feed_from d offset left t).after.offset + length (feed_from d offset left t).after.held ≡ offset + length left
from_offset zero offset left t h e =
    ap (λ (f : Fed). f.after.offset + length f.after.held) (feed_holds zero offset left t (few_unfinished offset left (omega arith)))
from_offset (suc d) offset left t h e = split (unfinished offset left)
    (λ u. ap (λ (f : Fed). f.after.offset + length f.after.held) (feed_holds (suc d) offset left t u))
    (λ u. split (misframed offset left)
    (λ m. true_false (sym (ap (λ (f : Fed). f.after.over) (feed_stops d offset left t u m)) ∙ e))
    (λ m.
    let r : Settled offset left = settled offset left u in
    let o' : ℕ = offset + 2 + u16_at left 0 in
    let g : (feed_from (suc d) offset left t).after ≡ (feed_from d o' (behind left) (here left t).after).after =
    ap (λ (f : Fed). f.after) (feed_goes d offset left t u m) in
    ap (λ (s : Stream). s.offset + length s.held) g
    ∙ from_offset d o' (behind left) (here left t).after (behind_short offset left d r h) (sym (ap (λ (s : Stream). s.over) g) ∙ e)
    ∙ (let y : o' + length (behind left) ≡ offset + length left = omega (arith, length-drop (2 + u16_at left 0) left, r.whole m) in y)))

-- the bytes that came, by a stream
abbrev Counts : ℕ → Stream → Type 0
Counts n s = s.over ≡ false → s.offset + length s.held ≡ n

feed_counts : (chunk : List ℕ) (s : Stream) (n : ℕ) → Counts n s → Counts (n + length chunk) (feed chunk s).after
unfolding feed
feed_counts chunk s n c = split s.over
    (λ e. simp e (λ f. true_false f))
    (λ e. simp e (λ f.
    from_offset (length (s.held ++ chunk)) s.offset (s.held ++ chunk) s.bench (omega arith) f
    ∙ (let z : s.offset + length (s.held ++ chunk) ≡ n + length chunk = omega (arith, length-append s.held chunk, c e) in z)))

feeds_counts : (chunks : List (List ℕ)) (s : Stream) (n : ℕ) → Counts n s → Counts (n + length (joined chunks)) (feeds chunks s).after
feeds_counts [] s n c = λ e. c e ∙ (let z : n ≡ n + 0 = omega arith in z)
feeds_counts (chunk ∷ chunks) s n c = λ e.
    feeds_counts chunks (feed chunk s).after (n + length chunk) (feed_counts chunk s n c) e
    ∙ (let z : n + length chunk + length (joined chunks) ≡ n + length (chunk ++ joined chunks) = omega (arith, length-append chunk (joined chunks)) in z)

pub offsets_whole : (chunks : List (List ℕ)) (t : Bench) → (feeds chunks (started t)).after.over ≡ false
    → (feeds chunks (started t)).after.offset + length (feeds chunks (started t)).after.held ≡ length (joined chunks)
offsets_whole chunks t e =
    feeds_counts chunks (started t) 0 (λ f. refl) e ∙ (let z : 0 + length (joined chunks) ≡ length (joined chunks) = omega arith in z)
