-- The two pieces that a chunk is read in, in the code's terms: where their bytes stand, that there is room for their lines, and that what they leave
-- is what a feed does.
use Rattle.rules.specs.declared.Refusal.{Refusal}
use Prim.Native.Nat.{ℕ, ◌+◌, ◌-◌, ◌≤◌, ◌<◌}
use mathlib.Core.Path.{◌≡◌, refl, sym, ap, ap₂, ◌∙◌, subst}
use mathlib.Core.Bool.{Bool, true, false}
use mathlib.Core.Logic.{⊎_elim}
use mathlib.Core.List.{List, [], ◌++◌}
use native.Mathlib.Omega.{arith}
use lib.ListN.{length, take, drop, replicate, length-take, length-replicate}
use lib.Seq.{sets-eq, take_at, drop_at, length-take-le}
use Rattle.std.specs.Prelude.{if◌then◌else◌, Result}
use Rattle.rules.specs.declared.Allocation.{Allocation}
use Rattle.rules.specs.declared.Pause.{Pause}
use Rattle.rules.specs.Limits.{held_most}
use Rattle.rules.specs.Trace.{Bench}
use Rattle.rules.specs.Chunks.{stream, Fed, fed, feed, resumed}
use Rattle.laws.proofs.Tests.Flags.{split}
use Rattle.laws.proofs.Trace.Feeding.{feeding}
use Rattle.lines.specs.Put.{Put}
use Rattle.lines.proofs.Puts.{put_length, put_then}
use Rattle.trace.specs.declared.walking.Walk.{Walk}
use Rattle.trace.specs.Walks.{Room, Path, path, path_of, Stretch, Trod, walked}
use Rattle.trace.specs.Chunk.{all_of, moved_to, opened_of, Fit, Behind}
use Rattle.trace.proofs.Steps.{WalkEnds}
use Rattle.trace.proofs.Gathered.{all_length}
use Rattle.trace.proofs.Meets.{seam_most, seam_length, first_ends, first_stops, first_waits, second_ends, second_stops, second_waits}

-- ---- the seam

abbrev pub zeros : List ℕ
zeros = replicate seam_most 0

-- what was gathered stands at the front of the array
pub record Gathered (all seam : List ℕ) (n : ℕ) : Type 0 where
  pub is : take n seam ≡ take seam_most all
  pub few : n ≤ seam_most
  pub counted : n ≡ length (take n seam)

pub gathered : (all : List ℕ) {seam : List ℕ} {n : ℕ} → Put zeros seam 0 n (take (length zeros) (drop 0 all)) → Gathered all seam n
gathered all {seam} {n} put =
    let xs : List ℕ = take seam_most all in
    let few : length xs ≤ seam_most = omega (arith, length-take seam_most all) in
    let room : length zeros ≡ seam_most = length-replicate {A = ℕ} seam_most 0 in
    let e : n ≡ length xs = omega (arith, put.ends) in
    let is : take n seam ≡ xs =
    ap₂ take e (put.is ∙ sets-eq xs zeros 0 (omega arith)) ∙ take_at xs (drop (0 + length xs) zeros) (length xs) refl in
    record { is = is; few = omega arith; counted = e ∙ ap length (sym is) }

-- ---- what is left

-- the feed whose lines these are, and which is there
abbrev closing : List ℕ → List ℕ → Path → Fed
closing line all q =
    fed line (if q.over then stream true q.offset [] q.bench else stream false q.offset (drop q.place all) q.bench)

closing_over : (line all : List ℕ) (q : Path) → q.over ≡ true → fed line (stream true q.offset [] q.bench) ≡ closing line all q
closing_over line all q o =
    sym (ap (λ (b : Bool). fed line (if b then stream true q.offset [] q.bench else stream false q.offset (drop q.place all) q.bench)) o)

closing_held : (line all : List ℕ) (q : Path) → q.over ≡ false
    → fed line (stream false q.offset (drop q.place all) q.bench) ≡ closing line all q
closing_held line all q o =
    sym (ap (λ (b : Bool). fed line (if b then stream true q.offset [] q.bench else stream false q.offset (drop q.place all) q.bench)) o)

behind_is : {out out' all line : List ℕ} {w : Walk} {s b : List ℕ} {l : List Allocation} {f : Fed} {q : Path} → f ≡ closing line all q
    → path_of w s b l ≡ q → Put out out' 0 w.stand.at line → q.place ≤ length all → (q.over ≡ false → length all ≤ q.place + held_most)
    → Behind out out' all w s b l f
behind_is {out} {out'} {all} {line} {w} {s} {b} {l} {f} {q} is at put i few =
    let place : w.place ≡ q.place = ap (λ (x : Path). x.place) at in
    record {
      put = subst (λ (g : Fed). Put out out' 0 w.stand.at g.line) (sym is) put;
      leaves = ap (λ (x : Path). (closing line all x).after) at ∙ ap (λ (g : Fed). g.after) (sym is);
      within = omega arith;
      few = λ o. omega (arith, few (sym (ap (λ (x : Path). x.over) at) ∙ o));
    }

-- ---- a chunk behind what was held over

module _ {p : Pause} {chunk out : List ℕ} (fit : Fit p chunk out) (held : length p.held ≡ held_most) (verdict : Result ℕ Refusal) (s b : List ℕ)
    (l : List Allocation) where
  abbrev all : List ℕ
  all = all_of p chunk

  abbrev t : Bench
  t = (resumed p s b l).bench

  enough_held : p.count ≤ length p.held
  enough_held = omega (arith, fit.few)

  long : length all ≡ p.count + length chunk
  long = all_length p.held chunk p.count enough_held

  rest : drop p.count all ≡ chunk
  rest = drop_at (take p.count p.held) chunk p.count (length-take-le p.count p.held enough_held)

  feed_is : feed chunk (resumed p s b l) ≡ feeding p.offset all t
  unfolding feed
  feed_is = simp fit.going

  -- room in the first piece
  first_roomy : Room (take seam_most all) (opened_of p verdict) out
  first_roomy =
      let m = seam_length all chunk p.count p.offset t fit.few long rest in
      record { within = first_within; room = omega (arith, m.0, fit.room, long) }
    where
      first_within : p.count ≤ length (take seam_most all)
      first_within = ⊎_elim (λ (e : length (take seam_most all) ≡ length all). omega (arith, long))
          (λ (e : length (take seam_most all) ≡ seam_most). omega (arith, fit.few))
          (seam_length all chunk p.count p.offset t fit.few long rest).1

  pub first_room : {seam : List ℕ} {n : ℕ} {o : Walk} → Gathered all seam n → o ≡ opened_of p verdict → Room (take n seam) o out
  first_room {seam} {n} {o} g e = subst (λ (bytes : List ℕ). Room bytes o out) (sym g.is)
      (subst (λ (o : Walk). Room (take seam_most all) o out) (sym e) first_roomy)

  -- the first piece as it was read
  pub first_trod : {seam : List ℕ} {n : ℕ} {o : Walk} → Gathered all seam n → o ≡ opened_of p verdict
      → {out₁ : List ℕ} {first : Walk} {s₁ b₁ : List ℕ} {l₁ : List Allocation}
      → Trod out out₁ o.stand.at first s₁ b₁ l₁ (walked (o.until - o.place) (take n seam) (path_of o s b l))
      → Trod out out₁ 0 first s₁ b₁ l₁ (walked (p.count - 0) (take seam_most all) (path_of (opened_of p verdict) s b l))
  first_trod {seam} {n} {o} g e {out₁} {first} {s₁} {b₁} {l₁} trod =
      subst (λ (bytes : List ℕ). Trod out out₁ 0 first s₁ b₁ l₁ (walked (p.count - 0) bytes (path_of (opened_of p verdict) s b l))) g.is
      (subst (λ (o : Walk). Trod out out₁ o.stand.at first s₁ b₁ l₁ (walked (o.until - o.place) (take n seam) (path_of o s b l))) e trod)

  module _ {out₁ : List ℕ} {first : Walk} {s₁ b₁ : List ℕ} {l₁ : List Allocation}
      (trod : Trod out out₁ 0 first s₁ b₁ l₁ (walked (p.count - 0) (take seam_most all) (path_of (opened_of p verdict) s b l))) where
    abbrev x : Stretch
    x = walked (p.count - 0) (take seam_most all) (path_of (opened_of p verdict) s b l)

    fuel : p.count ≤ p.count - 0
    fuel = omega arith

    ends : WalkEnds (take seam_most all) (path 0 p.count false p.offset t) x
    ends = first_ends all chunk p.count p.offset t fit.few long rest (p.count - 0) fuel

    inside : x.path.place ≤ length all
    inside = omega (arith, ends.inside, (seam_length all chunk p.count p.offset t fit.few long rest).0)

    over_is : first.over ≡ x.path.over
    over_is = ap (λ (q : Path). q.over) trod.path

    place_is : first.place ≡ x.path.place
    place_is = ap (λ (q : Path). q.place) trod.path

    -- a stop
    pub stopped_first : first.over ≡ true → Behind out out₁ all first s₁ b₁ l₁ (feed chunk (resumed p s b l))
    stopped_first o =
        let v : x.path.over ≡ true = sym over_is ∙ o in
        behind_is {all = all} {q = x.path}
        (feed_is ∙ first_stops all chunk p.count p.offset t fit.few long rest (p.count - 0) fuel v ∙ closing_over x.line all x.path v)
        trod.path trod.put inside (λ n. absurd (clash v n))
      where
        clash : x.path.over ≡ true → x.path.over ≡ false → ⊥
        clash y z = let e : ◌≡◌ {A = ℕ} 0 1 = cc in omega arith

    -- more bytes are waited for
    pub waited_first : first.over ≡ false → first.place < p.count → Behind out out₁ all first s₁ b₁ l₁ (feed chunk (resumed p s b l))
    waited_first o h =
        let v : x.path.over ≡ false = sym over_is ∙ o in
        let f = first_waits all chunk p.count p.offset t fit.few long rest (p.count - 0) fuel v (omega (arith, place_is)) in
        behind_is {all = all} {q = x.path} (feed_is ∙ f.0 ∙ closing_held x.line all x.path v) trod.path trod.put inside (λ n. f.1)

    module _ (o : first.over ≡ false) (h : p.count ≤ first.place) where
      v : x.path.over ≡ false
      v = sym over_is ∙ o

      passed : p.count ≤ x.path.place
      passed = omega (arith, place_is)

      -- where the second piece starts
      start_is : path_of (moved_to first (first.place - p.count) (length chunk)) s₁ b₁ l₁
          ≡ path (x.path.place - p.count) (length chunk) false x.path.offset x.path.bench
      start_is =
          ap (λ (q : Path). path (q.place - p.count) (length chunk) q.over q.offset q.bench) trod.path
          ∙ ap (λ (c : Bool). path (x.path.place - p.count) (length chunk) c x.path.offset x.path.bench) v

      -- room in the second piece
      pub second_room : Room chunk (moved_to first (first.place - p.count) (length chunk)) out₁
      second_room = record {
        within = omega arith;
        room =
            omega (
              arith,
              place_is,
              passed,
              ends.few v,
              ends.inside,
              inside,
              long,
              trod.put.ends,
              put_length trod.put,
              fit.room,
            );
      }

      module _ {out₂ : List ℕ} {second : Walk} {s₂ b₂ : List ℕ} {l₂ : List Allocation}
          (trod₂ : Trod out₁ out₂ first.stand.at second s₂ b₂ l₂ (walked (length chunk - (first.place - p.count)) chunk
          (path_of (moved_to first (first.place - p.count) (length chunk)) s₁ b₁ l₁))) where
        -- as many steps as bytes are left
        abbrev steps : ℕ
        steps = length chunk - (first.place - p.count)

        fuel₂ : length chunk ≤ x.path.place - p.count + steps
        fuel₂ = omega (arith, place_is)

        abbrev y : Stretch
        y = walked steps chunk (path (x.path.place - p.count) (length chunk) false x.path.offset x.path.bench)

        trod_y : Trod out₁ out₂ first.stand.at second s₂ b₂ l₂ y
        trod_y = subst (λ (q : Path). Trod out₁ out₂ first.stand.at second s₂ b₂ l₂ (walked steps chunk q))
            start_is trod₂

        ends₂ : WalkEnds chunk (path (x.path.place - p.count) (length chunk) false x.path.offset x.path.bench) y
        ends₂ =
            second_ends all chunk p.count p.offset t fit.few long rest (p.count - 0) fuel v passed steps fuel₂

        pub second_place : second.place ≤ length chunk
        second_place = omega (arith, ap (λ (q : Path). q.place) trod_y.path, ends₂.inside)

        -- the place among all the bytes
        abbrev z : Path
        z = path (y.path.place + p.count) second.until y.path.over y.path.offset y.path.bench

        z_is : path_of (moved_to second (second.place + p.count) second.until) s₂ b₂ l₂ ≡ z
        z_is = ap (λ (q : Path). path (q.place + p.count) second.until q.over q.offset q.bench) trod_y.path

        lines : Put out out₂ 0 second.stand.at (x.line ++ y.line)
        lines = put_then trod.put trod_y.put

        is : feed chunk (resumed p s b l) ≡ closing (x.line ++ y.line) all z
        is = split y.path.over
            (λ c.
            feed_is
            ∙ second_stops all chunk p.count p.offset t fit.few long rest (p.count - 0) fuel v passed steps fuel₂ c
            ∙ closing_over (x.line ++ y.line) all z c)
            (λ c.
            feed_is
            ∙ (second_waits all chunk p.count p.offset t fit.few long rest (p.count - 0) fuel v passed steps fuel₂ c).0
            ∙ closing_held (x.line ++ y.line) all z c)

        pub left_second : Behind out out₂ all (moved_to second (second.place + p.count) second.until) s₂ b₂ l₂ (feed chunk (resumed p s b l))
        left_second = behind_is {all = all} {q = z} is z_is lines (omega (arith, ends₂.inside, long))
            (λ c.
            (second_waits all chunk p.count p.offset t fit.few long rest (p.count - 0) fuel v passed steps fuel₂ c).1)
