-- Step after step in a lent buffer: what a step keeps, what is still to come, and the whole.
use Prim.Native.Nat.{ℕ, zero, suc, ◌+◌, ◌-◌, ◌*◌, ◌≤◌, ◌<◌}
use mathlib.Core.Path.{◌≡◌, refl, sym, ap, ap₂, ◌∙◌}
use mathlib.Core.List.{List, [], ◌++◌}
use native.Mathlib.Omega.{arith}
use lib.ListN.{length, length-append}
use lib.Seq.{sets, length-sets}
use Rattle.rules.specs.declared.Allocation.{Allocation}
use Rattle.laws.proofs.Files.Puts.{sets_append}
use Rattle.trace.specs.declared.walking.Walk.{Walk}
use Rattle.trace.specs.Walks.{Room, Unread, Path, path_of, Stretch, Trod, step, walked}
use Rattle.trace.proofs.Steps.{ahead, walked_done, walked_more, Bounds, step_bounds}

-- The lines so far and those still to come are the whole: the loop's invariant.
pub record Walking (bytes out₀ out : List ℕ) (at₀ : ℕ) (whole : Stretch) (w : Walk) (s b : List ℕ) (l : List Allocation) : Type 0 where
  pub within : w.until ≤ length bytes
  pub room : w.place < w.until → w.stand.at + 7 * (length bytes - w.place) ≤ length out₀
  pub fuel : ℕ
  pub enough : w.until ≤ w.place + fuel
  pub lines : sets out w.stand.at (walked fuel bytes (path_of w s b l)).line ≡ sets out₀ at₀ whole.line
  pub long : w.stand.at + length (walked fuel bytes (path_of w s b l)).line ≡ at₀ + length whole.line
  pub path : (walked fuel bytes (path_of w s b l)).path ≡ whole.path

pub walking_start : {bytes out : List ℕ} {w : Walk} (s b : List ℕ) (l : List Allocation) → Room bytes w out
    → Walking bytes out out w.stand.at (walked (w.until - w.place) bytes (path_of w s b l)) w s b l
walking_start {w = w} s b l r = record {
  within = r.within;
  room = λ h. r.room;
  fuel = w.until - w.place;
  enough = omega arith;
  lines = refl;
  long = refl;
  path = refl;
}

pub walking_length : {bytes out₀ out : List ℕ} {at₀ : ℕ} {whole : Stretch} {w : Walk} {s b : List ℕ} {l : List Allocation}
    → Walking bytes out₀ out at₀ whole w s b l → length out ≡ length out₀
walking_length {bytes} {out₀} {out} {at₀} {whole} {w} {s} {b} {l} g =
    sym (length-sets out w.stand.at (walked g.fuel bytes (path_of w s b l)).line) ∙ ap length g.lines
    ∙ length-sets out₀ at₀ whole.line

pub walking_unread : {bytes out₀ out : List ℕ} {at₀ : ℕ} {whole : Stretch} {w : Walk} {s b : List ℕ} {l : List Allocation} → w.place < w.until
    → Walking bytes out₀ out at₀ whole w s b l → Unread bytes w out
walking_unread h g = record {
  inside = h;
  roomy = record { within = g.within; room = omega (arith, g.room h, walking_length g) };
}

-- the rest behind a step, of whatever fuel there was
behind : (bytes out₀ out out' : List ℕ) (at₀ : ℕ) (whole : Stretch) (w r : Walk) (s b s' b' : List ℕ) (l l' : List Allocation) (d : ℕ)
    → w.place < w.until → w.until ≤ length bytes → w.stand.at + 7 * (length bytes - w.place) ≤ length out₀ → w.until ≤ w.place + suc d
    → sets out w.stand.at (walked (suc d) bytes (path_of w s b l)).line ≡ sets out₀ at₀ whole.line
    → w.stand.at + length (walked (suc d) bytes (path_of w s b l)).line ≡ at₀ + length whole.line
    → (walked (suc d) bytes (path_of w s b l)).path ≡ whole.path
    → Trod out out' w.stand.at r s' b' l' (step bytes (path_of w s b l)) → Walking bytes out₀ out' at₀ whole r s' b' l'
behind bytes out₀ out out' at₀ whole w r s b s' b' l l' d inside within room enough lines long path trod =
    let p : Path = path_of w s b l in
    let now : List ℕ = (step bytes p).line in
    let rest : Stretch = walked d bytes (step bytes p).path in
    let bounds : Bounds bytes p (step bytes p) = step_bounds bytes p inside within in
    let m : walked (suc d) bytes p ≡ ahead now rest = walked_more d bytes p inside in
    let q : path_of r s' b' l' ≡ (step bytes p).path = trod.path in
    let place : r.place ≡ (step bytes p).path.place = ap (λ (x : Path). x.place) q in
    let until : r.until ≡ (step bytes p).path.until = ap (λ (x : Path). x.until) q in
    let at : r.stand.at ≡ w.stand.at + length now = trod.put.ends in
    let z : walked d bytes (path_of r s' b' l') ≡ rest = ap (walked d bytes) q in
    record {
      within = omega (arith, until, bounds.within);
      room = λ h. omega (arith, at, place, bounds.few (omega (arith, place, until)));
      fuel = d;
      enough = omega (arith, place, until, bounds.nearer);
      lines =
          ap (λ (x : Stretch). sets out' r.stand.at x.line) z
          ∙ ap₂ (λ (o : List ℕ) (k : ℕ). sets o k rest.line) trod.put.is at ∙ sym (sets_append now rest.line out w.stand.at)
          ∙ sym (ap (λ (x : Stretch). sets out w.stand.at x.line) m) ∙ lines;
      long =
          ap (λ (x : Stretch). r.stand.at + length x.line) z
          ∙ (let e : w.stand.at + length (now ++ rest.line) ≡ at₀ + length whole.line =
          sym (ap (λ (x : Stretch). w.stand.at + length x.line) m) ∙ long in
          omega (arith, at, length-append now rest.line));
      path = ap (λ (x : Stretch). x.path) z ∙ sym (ap (λ (x : Stretch). x.path) m) ∙ path;
    }

pub walking_turn : {bytes out₀ out out' : List ℕ} {at₀ : ℕ} {whole : Stretch} {w r : Walk} {s b s' b' : List ℕ} {l l' : List Allocation}
    → w.place < w.until → Walking bytes out₀ out at₀ whole w s b l
    → Trod out out' w.stand.at r s' b' l' (step bytes (path_of w s b l)) → Walking bytes out₀ out' at₀ whole r s' b' l'
walking_turn {bytes} {out₀} {out} {out'} {at₀} {whole} {w} {r} {s} {b} {s'} {b'} {l} {l'} inside g trod =
    cases g.fuel g.enough g.lines g.long g.path
  where
    cases : (d : ℕ) → w.until ≤ w.place + d
        → sets out w.stand.at (walked d bytes (path_of w s b l)).line ≡ sets out₀ at₀ whole.line
        → w.stand.at + length (walked d bytes (path_of w s b l)).line ≡ at₀ + length whole.line
        → (walked d bytes (path_of w s b l)).path ≡ whole.path → Walking bytes out₀ out' at₀ whole r s' b' l'
    cases zero enough lines long path = absurd (omega arith)
    cases (suc d) enough lines long path =
        behind bytes out₀ out out' at₀ whole w r s b s' b' l l' d inside g.within (g.room inside) enough lines long path trod

-- a turn comes nearer to the end
pub turn_nearer : (bytes : List ℕ) (p : Path) {out out' : List ℕ} {at : ℕ} {r : Walk} {s b : List ℕ} {l : List Allocation} → p.place < p.until
    → p.until ≤ length bytes → Trod out out' at r s b l (step bytes p) → r.until - r.place < p.until - p.place
turn_nearer bytes p {r = r} h i trod =
    let place : r.place ≡ (step bytes p).path.place = ap (λ (x : Path). x.place) trod.path in
    let until : r.until ≡ (step bytes p).path.until = ap (λ (x : Path). x.until) trod.path in
    omega (arith, place, until, (step_bounds bytes p h i).nearer)

pub walking_end : {bytes out₀ out : List ℕ} {at₀ : ℕ} {whole : Stretch} {w : Walk} {s b : List ℕ} {l : List Allocation} → w.until ≤ w.place
    → Walking bytes out₀ out at₀ whole w s b l → Trod out₀ out at₀ w s b l whole
walking_end {bytes} {out₀} {out} {at₀} {whole} {w} {s} {b} {l} h g =
    let z : walked g.fuel bytes (path_of w s b l) ≡ record { line = []; path = path_of w s b l } =
    walked_done g.fuel bytes (path_of w s b l) h in
    record {
      put = record {
        ends =
            (let q : w.stand.at + 0 ≡ at₀ + length whole.line = sym (ap (λ (x : Stretch). w.stand.at + length x.line) z) ∙ g.long in
            omega arith);
        is = sym (ap (λ (x : Stretch). sets out w.stand.at x.line) z) ∙ g.lines;
      };
      path = sym (ap (λ (x : Stretch). x.path) z) ∙ g.path;
    }
