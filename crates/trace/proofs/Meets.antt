-- The records of what was held over and of a chunk, read in two pieces, are those of a feed.
use Prim.Native.Nat.{ℕ, zero, suc, ◌+◌, ◌-◌, ◌≤◌, ◌<◌}
use mathlib.Core.Path.{◌≡◌, refl, sym, ap, ap₂, ◌∙◌, subst}
use mathlib.Core.Bool.{Bool, true, false}
use mathlib.Core.Logic.{◌⊎◌, inl, inr, ⊎_elim}
use mathlib.Core.List.{List, [], ◌++◌, append-nil, append_assoc}
use native.Mathlib.Omega.{arith}
use native.Mathlib.Decide.{dec_lt}
use lib.ListN.{length, take, drop, length-drop, take-append-drop, drop_of_length-le}
use lib.Seq.{take_all, length-take-le, drop-drop, drop-append-le}
use Rattle.std.specs.Prelude.{if◌then◌else◌}
use Rattle.rules.specs.declared.Refusal.{Refusal}
use Rattle.rules.specs.Limits.{held_most}
use Rattle.rules.specs.Trace.{u16_at, stop_line, Bench, misframed}
use Rattle.rules.specs.Chunks.{Stream, stream, Fed, fed, unfinished}
use Rattle.laws.proofs.Tests.Flags.{split}
use Rattle.laws.proofs.Tests.Tells.{true_false}
use Rattle.laws.proofs.Trace.Came.{unfinished_short}
use Rattle.laws.proofs.Trace.Feeding.{here, behind, led, feed_holds, feeding, front_stops, front_goes}
use Rattle.trace.specs.Walks.{Path, path, Stretch, stepped, stop_at, wait_at, go_on, walked}
use Rattle.trace.proofs.Steps.{left_of, step_waits, step_stops, step_goes, ahead, walked_done, walked_more, How, WalkEnds, walk_ends}

-- ---- one piece

-- what a feed still gives behind it, where these bytes follow
abbrev onward : Path → List ℕ → List ℕ → Fed
onward q bytes rest =
    if q.over then fed [] (stream true q.offset [] q.bench) else feeding q.offset (drop q.place bytes ++ rest) q.bench

led_assoc : (a b : List ℕ) (f : Fed) → led a (led b f) ≡ led (a ++ b) f
led_assoc a b f = ap (λ (l : List ℕ). fed l f.after) (sym (append_assoc a b f.line))

module _ (bytes rest : List ℕ) where
  -- steps in front
  abbrev Feeds : Path → Stretch → Type 0
  Feeds p x = feeding p.offset (left_of bytes p ++ rest) p.bench ≡ led x.line (onward x.path bytes rest)

  stays : (p : Path) → p.over ≡ false → Feeds p (stepped [] p)
  stays p o =
      sym (ap (λ (b : Bool). if b then fed [] (stream true p.offset [] p.bench) else feeding p.offset (left_of bytes p ++ rest) p.bench) o)

  told : (d : ℕ) (p : Path) → unfinished p.offset (left_of bytes p) ≡ false → misframed p.offset (left_of bytes p) ≡ true
      → Feeds p (ahead (stop_at p).line (walked d bytes (stop_at p).path))
  told d p u m =
      let line : List ℕ = stop_line Refusal.Malformed p.offset in
      let after : Stream = stream true p.offset [] p.bench in
      subst (λ (x : Stretch). Feeds p (ahead line x)) (sym (walked_done d bytes (stop_at p).path (omega arith)))
      (front_stops p.offset (left_of bytes p) rest p.bench u m
      ∙ ap (λ (l : List ℕ). fed l after) (sym (append-nil line) ∙ sym (append-nil (line ++ []))))

  went : (d : ℕ) (p : Path) → unfinished p.offset (left_of bytes p) ≡ false → misframed p.offset (left_of bytes p) ≡ false
      → Feeds (go_on (left_of bytes p) p).path (walked d bytes (go_on (left_of bytes p) p).path)
      → Feeds p (ahead (go_on (left_of bytes p) p).line (walked d bytes (go_on (left_of bytes p) p).path))
  went d p u m f =
      let left : List ℕ = left_of bytes p in
      let n : ℕ = u16_at left 0 in
      let now : Stretch = go_on left p in
      let x : Stretch = walked d bytes now.path in
      let further : behind left ≡ drop (p.place + 2 + n) bytes =
      drop-drop (2 + n) p.place bytes ∙ ap (λ (k : ℕ). drop k bytes) (let e : p.place + (2 + n) ≡ p.place + 2 + n = omega arith in e) in
      front_goes p.offset left rest p.bench u m
      ∙ ap (λ (xs : List ℕ). led now.line (feeding (p.offset + 2 + n) (xs ++ rest) (here left p.bench).after)) further
      ∙ ap (led now.line) f ∙ led_assoc now.line x.line (onward x.path bytes rest)

  pub walk_feeds : (d : ℕ) (p : Path) → p.over ≡ false → Feeds p (walked d bytes p)
  unfolding walked
  walk_feeds zero p o = stays p o
  walk_feeds (suc d) p o = elim (dec_lt p.place p.until) [
    | no n ↦ subst (Feeds p) (sym (walked_done (suc d) bytes p (omega arith))) (stays p o)
    | yes h ↦
        subst (Feeds p) (sym (walked_more d bytes p h)) (split (unfinished p.offset (left_of bytes p))
        (λ u. subst (λ (x : Stretch). Feeds p (ahead x.line (walked d bytes x.path))) (sym (step_waits bytes p u))
        (walk_feeds d (wait_at p).path refl))
        (λ u. split (misframed p.offset (left_of bytes p))
        (λ m. subst (λ (x : Stretch). Feeds p (ahead x.line (walked d bytes x.path))) (sym (step_stops bytes p u m)) (told d p u m))
        (λ m. subst (λ (x : Stretch). Feeds p (ahead x.line (walked d bytes x.path))) (sym (step_goes bytes p u m))
        (went d p u m (walk_feeds d (go_on (left_of bytes p) p).path refl)))))
  ]

-- ---- two pieces

-- the first bytes, as many as a record that starts in what was held over can need
abbrev pub seam_most : ℕ
seam_most = 49

-- what was held over are the first `count` of all the bytes, and the chunk is the rest
module _ (all chunk : List ℕ) (count offset : ℕ) (t : Bench) (few : count ≤ held_most) (long : length all ≡ count + length chunk)
    (rest : drop count all ≡ chunk) where
  abbrev seam : List ℕ
  seam = take seam_most all

  abbrev start : Path
  start = path 0 count false offset t

  pub seam_length : (length seam ≤ length all) × ((length seam ≡ length all) ⊎ (length seam ≡ seam_most))
  seam_length = elim (dec_lt (length all) seam_most) [
    | yes h ↦ let e : length seam ≡ length all = ap length (take_all seam_most all (omega arith)) in (omega arith, inl e)
    | no n ↦ let e : length seam ≡ seam_most = length-take-le seam_most all (omega arith) in (omega arith, inr e)
  ]

  module _ (d : ℕ) (enough : count ≤ d) where
    abbrev first : Stretch
    first = walked d seam start

    pub first_ends : WalkEnds seam start first
    first_ends = walk_ends seam d start refl (omega arith) (omega (arith, seam_within)) (omega arith)
      where
        seam_within : count ≤ length seam
        seam_within = ⊎_elim (λ (e : length seam ≡ length all). omega arith) (λ (e : length seam ≡ seam_most). omega arith) seam_length.1

    whole : feeding offset all t ≡ led first.line (onward first.path seam (drop seam_most all))
    whole =
        ap (λ (xs : List ℕ). feeding offset xs t) (sym (take-append-drop seam_most all))
        ∙ walk_feeds seam (drop seam_most all) d start refl

    -- a stop in the first piece
    pub first_stops : first.path.over ≡ true
        → feeding offset all t ≡ fed first.line (stream true first.path.offset [] first.path.bench)
    first_stops o =
        whole
        ∙ ap (λ (b : Bool). led first.line (if b then fed [] (stream true first.path.offset [] first.path.bench)
        else feeding first.path.offset (drop first.path.place seam ++ drop seam_most all) first.path.bench)) o
        ∙ ap (λ (l : List ℕ). fed l (stream true first.path.offset [] first.path.bench)) (append-nil first.line)

    onward_first : first.path.over ≡ false
        → feeding offset all t ≡ led first.line (feeding first.path.offset (drop first.path.place all) first.path.bench)
    onward_first o =
        whole
        ∙ ap (λ (b : Bool). led first.line (if b then fed [] (stream true first.path.offset [] first.path.bench)
        else feeding first.path.offset (drop first.path.place seam ++ drop seam_most all) first.path.bench)) o
        ∙ ap (λ (xs : List ℕ). led first.line (feeding first.path.offset xs first.path.bench))
        (sym (drop-append-le first.path.place seam (drop seam_most all) first_ends.inside)
        ∙ ap (drop first.path.place) (take-append-drop seam_most all))

    -- the record in the first piece is not whole: then that piece is all there is
    first_short : first.path.place < count → How count seam first.path → first.path.over ≡ false
        → (unfinished first.path.offset (drop first.path.place all) ≡ true) × (length all ≤ first.path.place + held_most)
    first_short h (How.stops e) o = true_false (sym e ∙ o)
    first_short h (How.passes e p) o = absurd (omega arith)
    first_short h (How.waits e u) o = ⊎_elim
        (λ (s : length seam ≡ length all).
        let same : seam ≡ all = take_all seam_most all (seam_few s) in
        (ap (λ (xs : List ℕ). unfinished first.path.offset (drop first.path.place xs)) (sym same) ∙ u, omega (arith, short, s)))
        (λ (s : length seam ≡ seam_most). absurd (omega (arith, short, s)))
        seam_length.1
      where
        short : length seam ≤ first.path.place + held_most
        short = omega (arith, unfinished_short first.path.offset (drop first.path.place seam) u, length-drop first.path.place seam)

        seam_few : length seam ≡ length all → length all ≤ seam_most
        seam_few s = omega (arith, short)

    pub first_waits : first.path.over ≡ false → first.path.place < count
        → (feeding offset all t ≡ fed first.line (stream false first.path.offset (drop first.path.place all) first.path.bench))
        × (length all ≤ first.path.place + held_most)
    first_waits o h =
        let f = first_short h first_ends.how o in
        let left : List ℕ = drop first.path.place all in (
          onward_first o
              ∙ ap (led first.line) (feed_holds (length left) first.path.offset left first.path.bench f.0)
              ∙ ap (λ (l : List ℕ). fed l (stream false first.path.offset left first.path.bench)) (append-nil first.line),
          f.1,
        )

    -- the second piece, from behind the first
    module _ (o : first.path.over ≡ false) (h : count ≤ first.path.place) (e : ℕ) (enough₂ : length chunk ≤ first.path.place - count + e) where
      abbrev second : Stretch
      second = walked e chunk (path (first.path.place - count) (length chunk) false first.path.offset first.path.bench)

      pub place_within : first.path.place ≤ length all
      place_within = omega (arith, first_ends.inside, seam_length.0)

      pub second_ends : WalkEnds chunk (path (first.path.place - count) (length chunk) false first.path.offset first.path.bench) second
      second_ends =
          walk_ends chunk e (path (first.path.place - count) (length chunk) false first.path.offset first.path.bench) refl
          (omega (arith, place_within)) (omega arith) enough₂

      in_chunk : (n : ℕ) → drop n chunk ≡ drop (n + count) all
      in_chunk n =
          ap (drop n) (sym rest) ∙ drop-drop n count all ∙ ap (λ (k : ℕ). drop k all) (let z : count + n ≡ n + count = omega arith in z)

      behind_first : feeding offset all t ≡ led (first.line ++ second.line) (onward second.path chunk [])
      behind_first =
          onward_first o
          ∙ ap (λ (xs : List ℕ). led first.line (feeding first.path.offset xs first.path.bench))
          (ap (λ (k : ℕ). drop k all) (let z : first.path.place ≡ first.path.place - count + count = omega arith in z)
          ∙ sym (in_chunk (first.path.place - count)) ∙ sym (append-nil (drop (first.path.place - count) chunk)))
          ∙ ap (led first.line)
          (walk_feeds chunk [] e (path (first.path.place - count) (length chunk) false first.path.offset first.path.bench) refl)
          ∙ led_assoc first.line second.line (onward second.path chunk [])

      pub second_stops : second.path.over ≡ true
          → feeding offset all t ≡ fed (first.line ++ second.line) (stream true second.path.offset [] second.path.bench)
      second_stops s =
          behind_first
          ∙ ap (λ (b : Bool). led (first.line ++ second.line) (if b then fed [] (stream true second.path.offset [] second.path.bench)
          else feeding second.path.offset (drop second.path.place chunk ++ []) second.path.bench)) s
          ∙ ap (λ (l : List ℕ). fed l (stream true second.path.offset [] second.path.bench)) (append-nil (first.line ++ second.line))

      second_left : How (length chunk) chunk second.path → second.path.over ≡ false
          → unfinished second.path.offset (drop second.path.place chunk) ≡ true
      unfolding unfinished
      second_left (How.stops s) n = true_false (sym s ∙ n)
      second_left (How.passes s p) n =
          ap (unfinished second.path.offset) (drop_of_length-le chunk p)
      second_left (How.waits s u) n = u

      pub second_waits : second.path.over ≡ false
          → (feeding offset all t
          ≡ fed (first.line ++ second.line) (stream false second.path.offset (drop (second.path.place + count) all) second.path.bench))
          × (length all ≤ second.path.place + count + held_most)
      second_waits n =
          let u : unfinished second.path.offset (drop second.path.place chunk) ≡ true = second_left second_ends.how n in
          let left : List ℕ = drop second.path.place chunk in
          let line : List ℕ = first.line ++ second.line in (
            behind_first
                ∙ ap (λ (b : Bool). led line (if b then fed [] (stream true second.path.offset [] second.path.bench)
                else feeding second.path.offset (left ++ []) second.path.bench)) n
                ∙ ap (λ (xs : List ℕ). led line (feeding second.path.offset xs second.path.bench)) (append-nil left)
                ∙ ap (led line) (feed_holds (length left) second.path.offset left second.path.bench u)
                ∙ ap₂ (λ (l xs : List ℕ). fed l (stream false second.path.offset xs second.path.bench)) (append-nil line)
                (in_chunk second.path.place),
            omega (arith, unfinished_short second.path.offset left u, length-drop second.path.place chunk, long),
          )
