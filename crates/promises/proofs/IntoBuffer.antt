-- A feed into a lent buffer says 1 exactly where the buffer is shorter than the lines may be, or the pause holds more than is ever held over; and the
-- end exactly where the buffer is shorter than a stop's line. What is paused goes on where it was.
use Prim.Native.Nat.{ℕ, ◌+◌, ◌-◌, ◌*◌, ◌≤◌, ◌<◌}
use mathlib.Core.Bool.{Bool, true, false, ◌||◌}
use mathlib.Core.Path.{◌≡◌, refl, ap, ap₂, ◌∙◌}
use mathlib.Core.Logic.{◌⊎◌, inl, inr}
use mathlib.Core.List.{List, ◌++◌}
use native.Mathlib.Omega.{arith}
use native.Mathlib.Decide.{dec_lt}
use borrow.Author.Tests.{le-ltb}
use lib.Dec.{ltb}
use lib.ListN.{length, take, drop, replicate, length-take}
use lib.Seq.{sets, sets-eq, take-append_seam}
use Rattle.rules.specs.declared.Refusal.{Refusal}
use Rattle.rules.specs.declared.Allocation.{Allocation}
use Rattle.rules.specs.declared.Pause.{Pause}
use Rattle.std.specs.Prelude.{if◌then◌else◌, Ok, Err}
use Rattle.rules.specs.Limits.{held_most}
use Rattle.rules.specs.Answers.{lines_says}
use Rattle.rules.specs.Trace.{unmade}
use Rattle.rules.specs.Chunks.{Stream, stream, feed, started, cut_line, unfed, resumed, paused, Pushed, pushed, pushed_fed, feed_into, Ending, ending, finish_into}
use Rattle.laws.proofs.Tests.Flags.{split}
use Rattle.laws.proofs.Tests.Tells.{Tells, tells_ltb, tells_or}
use Rattle.promises.proofs.Exactly.{Exactly, other, never, first}
use Rattle.promises.proofs.LinesFit.{feed_fits}

-- ---- a feed

-- what a feed is not done for
abbrev pub NoRoom : List ℕ → List ℕ → Pause → Type 0
NoRoom chunk out p = (held_most < p.count) ⊎ (length out < 7 * (p.count + length chunk))

-- "1: lent room too short": exactly where the buffer has fewer bytes than the lines may take, or the pause is none that a feed left; then nothing is
-- written, and nothing done. Otherwise the answer is how many bytes of lines there are; they stand at the buffer's start, what is behind them is as it
-- was, and pause, tables and list are those of the feed.
pub record FeedInto (chunk out : List ℕ) (p : Pause) (shelves buckets : List ℕ) (list : List Allocation) : Type 0 where
  pub one : Exactly 1 (lines_says (feed_into chunk out p shelves buckets list).lines) (NoRoom chunk out p)
  pub nothing : NoRoom chunk out p
      → feed_into chunk out p shelves buckets list ≡ pushed (Err Refusal.Tables) out p shelves buckets list
  pub over : (NoRoom chunk out p → ⊥) → p.over ≡ true → feed_into chunk out p shelves buckets list ≡ pushed (Ok 0) out p shelves buckets list
  pub fed : (NoRoom chunk out p → ⊥) → p.over ≡ false
      → feed_into chunk out p shelves buckets list ≡ pushed_fed out (feed chunk (resumed p shelves buckets list))
  pub lines : (NoRoom chunk out p → ⊥) → p.over ≡ false → (line : List ℕ) → (feed chunk (resumed p shelves buckets list)).line ≡ line
      → (feed_into chunk out p shelves buckets list).out ≡ line ++ drop (length line) out

says_pushed : Pushed → List ℕ
says_pushed p = lines_says p.lines

-- the test of it
short_of : List ℕ → List ℕ → Pause → Bool
short_of chunk out p = ltb held_most p.count || ltb (length out) (7 * (p.count + length chunk))

short_tells : (chunk out : List ℕ) (p : Pause) → Tells (short_of chunk out p) (NoRoom chunk out p)
unfolding short_of
short_tells chunk out p = tells_or _ _ (tells_ltb held_most p.count) (tells_ltb (length out) (7 * (p.count + length chunk)))

-- what is not so is told false
untold : (b : Bool) {P : Type 0} → Tells b P → (P → ⊥) → b ≡ false
untold true t n = absurd (n (t.holds refl))
untold false t n = refl

few_most : (a b : ℕ) → (a < b → ⊥) → b ≤ a
few_most a b n = elim (dec_lt a b) [ yes l ↦ absurd (n l) | no m ↦ omega arith ]

held_length : (n : ℕ) (xs : List ℕ) → length (take n xs) ≤ n
held_length n xs = omega (arith, length-take n xs)

pub feed_into_law : (chunk out : List ℕ) (p : Pause) (shelves buckets : List ℕ) (list : List Allocation) → FeedInto chunk out p shelves buckets list
unfolding feed_into short_of says_pushed
feed_into_law chunk out p shelves buckets list =
    let s : Stream = resumed p shelves buckets list in
    let refused : Pushed = pushed (Err Refusal.Tables) out p shelves buckets list in
    let still : Pushed = pushed (Ok 0) out p shelves buckets list in
    let answer : Bool → Bool → Pushed = λ short over. if short then refused else if over then still else pushed_fed out (feed chunk s) in
    let roomy : (NoRoom chunk out p → ⊥) → short_of chunk out p ≡ false = untold (short_of chunk out p) (short_tells chunk out p) in
    let done : (NoRoom chunk out p → ⊥) → p.over ≡ false → feed_into chunk out p shelves buckets list ≡ pushed_fed out (feed chunk s) = λ n e.
    ap₂ answer (roomy n) e in
    record {
      one = first says_pushed 1 (short_of chunk out p) refused (if p.over then still else pushed_fed out (feed chunk s)) (short_tells chunk out p) refl
          (never says_pushed 1 p.over still (pushed_fed out (feed chunk s)) (other refl) (other refl));
      nothing = λ n. ap (λ (b : Bool). answer b p.over) ((short_tells chunk out p).shown n);
      over = λ n e. ap₂ answer (roomy n) e;
      fed = done;
      lines = λ n o line e.
          let fits : length line ≤ length out =
          omega (
            arith,
            ap length e,
            feed_fits chunk s,
            held_length p.count p.held,
            few_most (length out) (7 * (p.count + length chunk)) (λ l. n (inr l)),
          ) in
          ap (λ (x : Pushed). x.out) (done n o) ∙ ap (sets out 0) e ∙ sets-eq line out 0 (omega arith)
          ∙ ap (λ (n : ℕ). line ++ drop n out) (let z : 0 + length line ≡ length line = omega arith in z);
    }

-- ---- the end

-- "1: lent room too short", else the line of a cut record, or nothing
pub record FinishInto (out : List ℕ) (p : Pause) : Type 0 where
  pub one : Exactly 1 (lines_says (finish_into out p).lines) ((held_most < p.count) ⊎ (length out < 27))
  pub nothing : (held_most < p.count) ⊎ (length out < 27) → finish_into out p ≡ ending (Err Refusal.Tables) out
  pub told : p.count ≤ held_most → 27 ≤ length out
      → finish_into out p ≡ ending (Ok (length (cut_line p.over p.offset (take p.count p.held))))
      (sets out 0 (cut_line p.over p.offset (take p.count p.held)))

says_ending : Ending → List ℕ
says_ending e = lines_says e.lines

pub finish_into_law : (out : List ℕ) (p : Pause) → FinishInto out p
unfolding finish_into says_ending
finish_into_law out p =
    let line : List ℕ = cut_line p.over p.offset (take p.count p.held) in
    let refused : Ending = ending (Err Refusal.Tables) out in
    let written : Ending = ending (Ok (length line)) (sets out 0 line) in
    let tells : Tells (ltb held_most p.count || ltb (length out) 27) ((held_most < p.count) ⊎ (length out < 27)) =
    tells_or _ _ (tells_ltb held_most p.count) (tells_ltb (length out) 27) in
    record {
      one = first says_ending 1 (ltb held_most p.count || ltb (length out) 27) refused written tells refl (other refl);
      nothing = λ n. ap (λ (b : Bool). if b then refused else written) (tells.shown n);
      told = λ c l. simp (le-ltb held_most p.count c, le-ltb (length out) 27 l);
    }

-- ---- the replay by value

-- what a feed left goes on as it was, over the tables and the list that it left
pub resumed_paused : (s : Stream) → resumed (paused s) s.bench.state.shelves s.bench.state.buckets s.bench.list ≡ s
resumed_paused s =
    ap (λ (xs : List ℕ). stream s.over s.offset xs s.bench) (take-append_seam s.held (replicate (held_most - length s.held) 0))

-- so a feed of it, with room for the lines, is the feed of the rules
pub feed_paused : (chunk out : List ℕ) (s : Stream) → length s.held ≤ held_most → 7 * (length s.held + length chunk) ≤ length out
    → feed_into chunk out (paused s) s.bench.state.shelves s.bench.state.buckets s.bench.list ≡ pushed_fed out (feed chunk s)
unfolding feed
feed_paused chunk out s few room = split s.over
    (λ e. into.over (no_room few room) e ∙ simp e)
    (λ e. into.fed (no_room few room) e ∙ ap (λ (x : Stream). pushed_fed out (feed chunk x)) (resumed_paused s))
  where
    into : FeedInto chunk out (paused s) s.bench.state.shelves s.bench.state.buckets s.bench.list
    into = feed_into_law chunk out (paused s) s.bench.state.shelves s.bench.state.buckets s.bench.list

    no_room : length s.held ≤ held_most → 7 * (length s.held + length chunk) ≤ length out → NoRoom chunk out (paused s) → ⊥
    no_room a b (inl h) = omega arith
    no_room a b (inr h) = omega arith

-- and the first one starts a replay over what is lent
pub started_unfed : (shelves buckets : List ℕ) (list : List Allocation) → resumed unfed shelves buckets list ≡ started (unmade shelves buckets list)
started_unfed shelves buckets list = refl
