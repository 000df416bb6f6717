-- A record's line is at most 7 times as long as the record, and so are the lines of a chunk beside what was held over and the chunk.
use Rattle.std.specs.Prelude.{Ok, Err, Result}
use Prim.Native.Nat.{ℕ, zero, suc, ◌+◌, ◌*◌, ◌/◌, ◌%◌, ◌≤◌}
use mathlib.Core.Bool.{Bool, true, false}
use mathlib.Core.Path.{◌≡◌, ap, ◌∙◌}
use mathlib.Core.List.{List, [], ◌∷◌, ◌++◌}
use native.Mathlib.Omega.{arith}
use lib.Dec.{ltb}
use lib.ListN.{length, length-append, length-drop}
use Rattle.rules.specs.declared.Refusal.{Refusal}
use Rattle.rules.specs.declared.Allocation.{Allocation}
use Rattle.rules.specs.Text.{bytes}
use Rattle.rules.specs.Answers.{number}
use Rattle.rules.specs.Builds.{present}
use Rattle.rules.specs.Listed.{Holding, allocated_space, free_space_of}
use Rattle.rules.specs.History.{Call, Event, listed_step}
use Rattle.rules.specs.Trace.{u16_at, digits, decimal, spaced, newline, stop_line, Bench, bench, lying, Turn, misframed, malformed}
use Rattle.rules.specs.Chunks.{Stream, Fed, unfinished, feed_from, feed}
use Rattle.laws.proofs.Tests.Flags.{split}
use Rattle.laws.proofs.Trace.Came.{Settled, settled, settled_malformed}
use Rattle.laws.proofs.Trace.Feeding.{here, behind, feed_holds, feed_stops, feed_goes}
use Rattle.promises.proofs.Framing.{Kind, Beginning, Taken, begins, begins_taken}
use Rattle.promises.proofs.RecordTurns.{refusal, event_line, called, on_atlas, answered, record_turn_law}

-- ---- a line

digits_fit : (d n : ℕ) (tail : List ℕ) → length (digits d n tail) ≤ d + length tail
unfolding digits
digits_fit zero n tail = omega arith
digits_fit (suc d) n tail = split (ltb n 10)
    (λ e. simp e (omega arith))
    (λ e. simp e (omega (arith, digits_fit d (n / 10) ((48 + n % 10) ∷ tail))))

decimal_fits : (n : ℕ) → length (decimal n) ≤ 10
unfolding decimal
decimal_fits n = omega (arith, digits_fit 10 n [])

append_fits : (xs ys : List ℕ) (m n : ℕ) → length xs ≤ m → length ys ≤ n → length (xs ++ ys) ≤ m + n
append_fits xs ys m n a b = omega (arith, length-append xs ys)

-- a text, numbers each behind a space, and the end of the line
spaced_fits : (xs : List ℕ) (m n : ℕ) → length xs ≤ m → length (xs ++ spaced n) ≤ m + 11
spaced_fits xs m n l = append_fits xs (spaced n) m 11 l (omega (arith, decimal_fits n))

ended_fits : (xs : List ℕ) (m : ℕ) → length xs ≤ m → length (xs ++ newline) ≤ m + 1
ended_fits xs m l = append_fits xs newline m 1 l (omega arith)

refusal_fits : (r : Refusal) → length (refusal r) ≤ 28
refusal_fits r =
    let fits : length (bytes "refused " ++ decimal (number r)) ≤ 18 =
    append_fits (bytes "refused ") (decimal (number r)) 8 10 (omega arith) (decimal_fits (number r)) in
    omega (arith, ended_fits (bytes "refused " ++ decimal (number r)) 18 fits)

placed_fits : (a : Allocation) (f k : Result ℕ Refusal) → length (event_line (Event.allocated (Ok a)) f k) ≤ 61
placed_fits a f k =
    let one : List ℕ = bytes "alloc" ++ spaced a.id in
    let two : List ℕ = one ++ spaced a.rectangle.left in
    let three : List ℕ = two ++ spaced a.rectangle.top in
    let four : List ℕ = three ++ spaced a.rectangle.right in
    let five : List ℕ = four ++ spaced a.rectangle.bottom in
    ended_fits five 60 (spaced_fits four 49 a.rectangle.bottom (spaced_fits three 38 a.rectangle.right
    (spaced_fits two 27 a.rectangle.top (spaced_fits one 16 a.rectangle.left (spaced_fits (bytes "alloc") 5 a.id (omega arith))))))

space_fits : (occupied free : ℕ) → length (event_line Event.read (Ok occupied) (Ok free)) ≤ 28
space_fits occupied free =
    ended_fits (bytes "space" ++ spaced occupied ++ spaced free) 27 (spaced_fits (bytes "space" ++ spaced occupied) 16 free
    (spaced_fits (bytes "space") 5 occupied (omega arith)))

-- an allocate's line is the longest
abbrev most : Event → ℕ
most (Event.made m) = 28
most (Event.allocated x) = 61
most (Event.deallocated id x) = 28
most (Event.cleared x) = 28
most (Event.grown x) = 28
most Event.read = 28
most (Event.lent ys) = 0

event_fits : (e : Event) (f k : Result ℕ Refusal) → length (event_line e f k) ≤ most e
event_fits (Event.made (Ok head)) f k = omega arith
event_fits (Event.made (Err r)) f k = refusal_fits r
event_fits (Event.allocated (Ok a)) f k = placed_fits a f k
event_fits (Event.allocated (Err r)) f k = omega (arith, refusal_fits r)
event_fits (Event.deallocated id (Ok tt)) f k = omega arith
event_fits (Event.deallocated id (Err r)) f k = refusal_fits r
event_fits (Event.cleared (Ok tt)) f k = omega arith
event_fits (Event.cleared (Err r)) f k = refusal_fits r
event_fits (Event.grown (Ok tt)) f k = omega arith
event_fits (Event.grown (Err r)) f k = refusal_fits r
event_fits Event.read (Ok occupied) (Ok free) = space_fits occupied free
event_fits Event.read (Ok occupied) (Err r) = refusal_fits r
event_fits Event.read (Err r) k = refusal_fits r
event_fits (Event.lent ys) f k = omega arith

-- ---- a record's line is at most 7 times as long as the record

called_fits : (c : Call) (l : Holding) → length (called c (bench true l)).line ≤ most (listed_step present c l).event
called_fits c l = event_fits (listed_step present c l).event (allocated_space l) (free_space_of l)

on_atlas_law : (c : Call) (made : Bool) (l : Holding) (n : ℕ) → most (listed_step present c l).event ≤ n → 28 ≤ n → length (on_atlas c (bench made l)).line ≤ n
on_atlas_law c true l n few m = omega (arith, called_fits c l)
on_atlas_law c false l n few m = omega arith

kind_fits : {p : List ℕ} {kind long : ℕ} {c : Call} → Kind p kind long c → (t : Bench) → length (answered c t).line ≤ 7 * (2 + long)
kind_fits {c = c} Kind.new t = omega (arith, event_fits (listed_step present c (lying t)).event (allocated_space (lying t)) (free_space_of (lying t)))
kind_fits {c = c} Kind.allocate t = on_atlas_law c t.made (lying t) 84 (omega arith) (omega arith)
kind_fits {c = c} Kind.deallocate t = on_atlas_law c t.made (lying t) 56 (omega arith) (omega arith)
kind_fits Kind.clear t = on_atlas_law Call.clear t.made (lying t) 28 (omega arith) (omega arith)
kind_fits {c = c} Kind.grow t = on_atlas_law c t.made (lying t) 84 (omega arith) (omega arith)
kind_fits Kind.report t = on_atlas_law Call.read t.made (lying t) 28 (omega arith) (omega arith)

-- the record that is there
here_fits : (offset : ℕ) (left : List ℕ) (t : Bench) → malformed offset left ≡ false → length (here left t).line ≤ 7 * (2 + u16_at left 0)
here_fits offset left t e =
    let b : Beginning offset left = begins offset left e in
    let k : Taken offset left b.0 b.1 b.2 = begins_taken b.3 in
    omega (arith, ap (λ (x : Turn). length x.line) (record_turn_law k.asked t), kind_fits k.asked t)

stop_fits : (offset : ℕ) → length (stop_line Refusal.Malformed offset) ≤ 27
stop_fits offset =
    ended_fits (bytes "stop" ++ spaced 14 ++ spaced offset) 26 (spaced_fits (bytes "stop" ++ spaced 14) 15 offset
    (spaced_fits (bytes "stop") 4 14 (omega arith)))

-- ---- the lines of a chunk

fed_fits : (d offset : ℕ) (left : List ℕ) (t : Bench) → length (feed_from d offset left t).line ≤ 7 * length left
unfolding feed_from
fed_fits zero offset left t = omega arith
fed_fits (suc d) offset left t = split (unfinished offset left)
    (λ u. omega (arith, ap (λ (f : Fed). length f.line) (feed_holds (suc d) offset left t u)))
    (λ u. split (misframed offset left)
    (λ m.
    omega (arith, ap (λ (f : Fed). length f.line) (feed_stops d offset left t u m), stop_fits offset, (settled offset left u).head))
    (λ m.
    let r : Settled offset left = settled offset left u in
    let rest : List ℕ = (feed_from d (offset + 2 + u16_at left 0) (behind left) (here left t).after).line in
    omega (
      arith,
      ap (λ (f : Fed). length f.line) (feed_goes d offset left t u m),
      length-append (here left t).line rest,
      here_fits offset left t (settled_malformed offset left r ∙ m),
      fed_fits d (offset + 2 + u16_at left 0) (behind left) (here left t).after,
      length-drop (2 + u16_at left 0) left,
      r.whole m,
    )))

pub feed_fits : (chunk : List ℕ) (s : Stream) → length (feed chunk s).line ≤ 7 * (length s.held + length chunk)
unfolding feed
feed_fits chunk s = split s.over
    (λ e. simp e (omega arith))
    (λ e. simp e (omega (arith, fed_fits (length (s.held ++ chunk)) s.offset (s.held ++ chunk) s.bench, length-append s.held chunk)))
