-- A feed and the end by the answers of their tests.
use Prim.Native.Nat.{ℕ, ◌+◌, ◌-◌, ◌*◌, ◌/◌, ◌≤◌, ◌<◌}
use mathlib.Core.Path.{◌≡◌, refl, sym, ap, ap₂, ◌∙◌}
use mathlib.Core.Logic.{◌≢◌}
use mathlib.Core.Bool.{Bool, true, false, ◌||◌}
use mathlib.Core.List.{List, [], ◌++◌}
use native.Mathlib.Omega.{arith}
use native.Mathlib.Decide.{dec_lt}
use borrow.Author.Tests.{ltb-false, lt-ltb, le-ltb, eq-eqb, ne_eqb}
use lib.Dec.{ltb}
use lib.ListN.{length, take, drop, replicate, length-take, length-drop, length-replicate, replicate-append-replicate}
use lib.Seq.{sets, sets-eq, length-take-le, take_all, drop_at}
use Rattle.std.specs.Prelude.{if◌then◌else◌, Ok, Err}
use Rattle.rules.specs.declared.Allocation.{Allocation}
use Rattle.rules.specs.declared.Pause.{Pause}
use Rattle.rules.specs.declared.Refusal.{Refusal}
use Rattle.rules.specs.Limits.{held_most, stop_most}
use Rattle.rules.specs.Trace.{stop_line, Bench}
use Rattle.rules.specs.Chunks.{Stream, stream, Fed, feed, cut_line, resumed, paused, pushed, pushed_fed, feed_into, ending, finish_into}
use Rattle.laws.proofs.Tests.Flags.{or_l, or_r}
use Rattle.lines.specs.Put.{Put}
use Rattle.turns.specs.Turns.{bench_of}
use Rattle.trace.specs.declared.walking.Walk.{Walk}
use Rattle.trace.specs.Chunk.{all_of, stream_of, Fit, Behind}

-- ---- the room of a feed

pub held_most_law : (count : ℕ) (short : Bool) → held_most < count → true ≡ (ltb held_most count || short)
held_most_law count short h = rw (lt-ltb held_most count h) refl

-- a seventh of the room is less than the bytes
seventh : (room n : ℕ) → ltb (room / 7) n ≡ ltb room (7 * n)
seventh room n = elim (dec_lt room (7 * n)) [
  | yes h ↦ lt-ltb (room / 7) n (omega arith) ∙ sym (lt-ltb room (7 * n) h)
  | no h ↦ le-ltb (room / 7) n (omega arith) ∙ sym (le-ltb room (7 * n) (omega arith))
]

pub room_short : (count chunk room : ℕ) → count ≤ held_most
    → ltb (room / 7) (count + chunk) ≡ (ltb held_most count || ltb room (7 * (count + chunk)))
room_short count chunk room h = rw (le-ltb held_most count h) (seventh room (count + chunk))

-- ---- the end

module _ (out : List ℕ) (p : Pause) where
  pub end_held : held_most < p.count → ending (Err Refusal.Tables) out ≡ finish_into out p
  unfolding finish_into
  end_held h = simp (lt-ltb held_most p.count h)

  pub end_short : p.count ≤ held_most → length out < stop_most → ending (Err Refusal.Tables) out ≡ finish_into out p
  unfolding finish_into
  end_short c h = simp (le-ltb held_most p.count c, lt-ltb (length out) stop_most h)

  module _ (c : p.count ≤ held_most) (h : stop_most ≤ length out) where
    told : (line : List ℕ) → cut_line p.over p.offset (take p.count p.held) ≡ line
        → ending (Ok (length line)) (sets out 0 line) ≡ finish_into out p
    unfolding finish_into
    told line e =
        simp (le-ltb held_most p.count c, le-ltb (length out) stop_most h)
        (ap (λ (l : List ℕ). ending (Ok (length l)) (sets out 0 l)) (sym e))

    pub end_over : p.over ≡ true → ending (Ok 0) out ≡ finish_into out p
    unfolding cut_line
    end_over o = told [] (simp o)

    pub end_none : p.count ≡ 0 → ending (Ok 0) out ≡ finish_into out p
    unfolding cut_line
    end_none z = told [] (nothing p.over)
      where
        nothing : (b : Bool) → cut_line b p.offset (take p.count p.held) ≡ []
        nothing true = refl
        nothing false = simp (eq-eqb (length (take p.count p.held)) 0 (omega (arith, length-take p.count p.held)))

    pub end_cut : p.over ≡ false → p.count ≢ 0 → p.count ≤ length p.held → {after : List ℕ} {end : ℕ}
        → Put out after 0 end (stop_line Refusal.Malformed p.offset) → ending (Ok end) after ≡ finish_into out p
    unfolding cut_line
    end_cut o n l {after} {end} put =
        let line : List ℕ = stop_line Refusal.Malformed p.offset in
        let some : length (take p.count p.held) ≢ 0 = λ z. n (sym (length-take-le p.count p.held l) ∙ z) in
        let e : end ≡ length line = omega (arith, put.ends) in
        rw (e, put.is) (told line (simp (o, ne_eqb (length (take p.count p.held)) 0 some)))

-- ---- what is left over

abbrev zeros : ℕ → List ℕ
zeros n = replicate n 0

-- zeros stand behind what is put into an array of zeros
zeros_behind : (n m : ℕ) → drop n (zeros (n + m)) ≡ zeros m
zeros_behind n m =
    ap (drop n) (sym (replicate-append-replicate {A = ℕ} n m 0)) ∙ drop_at (zeros n) (zeros m) n (length-replicate {A = ℕ} n 0)

padded : (xs : List ℕ) → length xs ≤ held_most → sets (zeros held_most) 0 xs ≡ xs ++ zeros (held_most - length xs)
padded xs h =
    let n : length xs + (held_most - length xs) ≡ held_most = omega arith in
    let z : 0 + length xs ≡ length xs = omega arith in
    sets-eq xs (zeros held_most) 0 (omega (arith, length-replicate {A = ℕ} held_most 0))
    ∙ ap₂ (λ (k m : ℕ). xs ++ drop k (zeros m)) z (sym n) ∙ ap (λ (ys : List ℕ). xs ++ ys) (zeros_behind (length xs) (held_most - length xs))

module _ (w : Walk) (all shelves buckets : List ℕ) (list : List Allocation) where
  abbrev left_as : Bool → ℕ → List ℕ → Pause
  left_as over count held = record { over = over; made = w.stand.made; offset = w.offset; count = count; held = held; head = w.stand.head }

  pub left_none : w.over ≡ true → left_as w.over 0 (zeros held_most) ≡ paused (stream_of w all shelves buckets list)
  left_none o = ap (λ (b : Bool). left_as b 0 (zeros held_most)) o ∙ sym (ap (λ (b : Bool).
      paused (if b then stream true w.offset [] (bench_of w.stand shelves buckets list)
      else stream false w.offset (drop w.place all) (bench_of w.stand shelves buckets list))) o)

  pub left_held : w.over ≡ false → w.place ≤ length all → length all ≤ w.place + held_most → {held : List ℕ} {count : ℕ}
      → Put (zeros held_most) held 0 count (take (length (zeros held_most)) (drop w.place all))
      → left_as w.over count held ≡ paused (stream_of w all shelves buckets list)
  left_held o i few {held} {count} put =
      let left : List ℕ = drop w.place all in
      let short : length left ≤ held_most = omega (arith, length-drop w.place all) in
      let whole : take (length (zeros held_most)) left ≡ left =
      take_all (length (zeros held_most)) left (omega (arith, length-replicate {A = ℕ} held_most 0)) in
      let n : count ≡ length left = omega (arith, put.ends, ap length whole) in
      let h : held ≡ left ++ zeros (held_most - length left) = put.is ∙ ap (sets (zeros held_most) 0) whole ∙ padded left short in
      ap (λ (b : Bool). left_as b count held) o ∙ ap₂ (left_as false) n h
      ∙ sym (ap (λ (b : Bool).
      paused (if b then stream true w.offset [] (bench_of w.stand shelves buckets list)
      else stream false w.offset left (bench_of w.stand shelves buckets list))) o)

-- ---- a feed

-- the bench, whether a stop was told or not
stream_bench : (over : Bool) (offset : ℕ) (left : List ℕ) (t : Bench)
    → (if over then stream true offset [] t else stream false offset left t).bench ≡ t
stream_bench true offset left t = refl
stream_bench false offset left t = refl

abbrev short_of : List ℕ → List ℕ → Pause → Bool
short_of chunk out p = ltb held_most p.count || ltb (length out) (7 * (p.count + length chunk))

pub feed_fit : (chunk out : List ℕ) (p : Pause) → short_of chunk out p ≡ false → p.over ≡ false → Fit p chunk out
feed_fit chunk out p e o = record {
  few = ltb-false held_most p.count (or_l (ltb held_most p.count) (ltb (length out) (7 * (p.count + length chunk))) e);
  going = o;
  room = ltb-false (length out) (7 * (p.count + length chunk)) (or_r (ltb held_most p.count) (ltb (length out) (7 * (p.count + length chunk))) e);
}

module _ (chunk out : List ℕ) (p : Pause) (shelves buckets : List ℕ) (list : List Allocation) where
  pub feed_short : short_of chunk out p ≡ true → pushed (Err Refusal.Tables) out p shelves buckets list ≡ feed_into chunk out p shelves buckets list
  unfolding feed_into
  feed_short e = simp e

  pub feed_over : short_of chunk out p ≡ false → p.over ≡ true → pushed (Ok 0) out p shelves buckets list ≡ feed_into chunk out p shelves buckets list
  unfolding feed_into
  feed_over e o = simp (e, o)

  pub feed_done : short_of chunk out p ≡ false → p.over ≡ false → {out' : List ℕ} {w : Walk} {s b : List ℕ} {l : List Allocation} {q : Pause}
      → Behind out out' (all_of p chunk) w s b l (feed chunk (resumed p shelves buckets list))
      → q ≡ paused (stream_of w (all_of p chunk) s b l)
      → pushed (Ok w.stand.at) out' q s b l ≡ feed_into chunk out p shelves buckets list
  unfolding feed_into
  feed_done e o {out'} {w} {s} {b} {l} {q} behind is =
      done (feed chunk (resumed p shelves buckets list)) behind ∙ sym (ap₂ (λ (c d : Bool).
      if c then pushed (Err Refusal.Tables) out p shelves buckets list
      else if d then pushed (Ok 0) out p shelves buckets list
      else pushed_fed out (feed chunk (resumed p shelves buckets list))) e o)
    where
      done : (f : Fed) → Behind out out' (all_of p chunk) w s b l f → pushed (Ok w.stand.at) out' q s b l ≡ pushed_fed out f
      done f x =
          let n : w.stand.at ≡ length f.line = omega (arith, x.put.ends) in
          let t : bench_of w.stand s b l ≡ f.after.bench =
          sym (stream_bench w.over w.offset (drop w.place (all_of p chunk)) (bench_of w.stand s b l)) ∙ ap (λ (y : Stream). y.bench) x.leaves in
          ap₂ (λ (m : ℕ) (o : List ℕ). pushed (Ok m) o q s b l) n x.put.is
          ∙ ap₂ (λ (r : Pause) (y : Bench).
          pushed (Ok (length f.line)) (sets out 0 f.line) r y.state.shelves y.state.buckets y.list) (is ∙ ap paused x.leaves) t
