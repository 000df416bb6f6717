-- A replay makes the calls of its records, one after another, and writes their lines one behind the other.
use Prim.Native.Nat.{ℕ, zero, suc, ◌+◌, ◌≤◌, ◌<◌}
use mathlib.Core.Bool.{false}
use mathlib.Core.Path.{◌≡◌, refl, sym, ap, ap₂, ◌∙◌}
use mathlib.Core.Logic.{inl}
use mathlib.Core.List.{List, [], ◌∷◌, ◌++◌, append_assoc}
use native.Mathlib.Omega.{arith}
use borrow.Author.Tests.{ne_eqb}
use lib.Dec.{eqb}
use lib.ListN.{length, drop}
use lib.Seq.{drop-append_seam}
use Rattle.rules.specs.History.{Call}
use Rattle.rules.specs.Text.{bytes}
use Rattle.rules.specs.Trace.{u16_at, payload, digits, decimal, newline, Bench, Turn, turn, malformed, replay_from, replay}
use Rattle.laws.proofs.Tests.Flags.{split}
use Rattle.promises.proofs.Framing.{Kind, Begins, Beginning, Malformed, Taken, malformed_tells, begins, begins_taken}
use Rattle.promises.proofs.RecordTurns.{answered, record_turn_law}

-- ---- a trace

-- `Records offset trace calls place left`: the trace from offset on starts with whole records, which are these calls, and then, from place on, this
-- is left
pub data Records : ℕ → List ℕ → List Call → ℕ → List ℕ → Type 0 where
  end : {offset : ℕ} {left : List ℕ} → Records offset left [] offset left
  next : {offset : ℕ} {trace : List ℕ} {c : Call} {further : ℕ} {rest : List ℕ} {cs : List Call} {place : ℕ} {left : List ℕ}
      → Begins offset trace c further rest → Records further rest cs place left → Records offset trace (c ∷ cs) place left

-- offsets count the bytes
pub records_place : {offset : ℕ} {trace : List ℕ} {cs : List Call} {place : ℕ} {left : List ℕ} → Records offset trace cs place left
    → offset + length trace ≡ place + length left
records_place Records.end = refl
records_place (Records.next b r) = omega (arith, (begins_taken b).longer, (begins_taken b).place, records_place r)

-- the calls are answered one after another: their lines, and the bench after the last
abbrev pub turns : List Call → Bench → Turn
turns [] t = turn [] t
turns (c ∷ cs) t =
    let rest : Turn = turns cs (answered c t).after in
    turn ((answered c t).line ++ rest.line) rest.after

-- `stop 14 ` and the record's offset
abbrev pub stop14 : ℕ → List ℕ
stop14 offset = bytes "stop 14 " ++ decimal offset ++ newline

abbrev pub followed : Turn → Turn → Turn
followed a b = turn (a.line ++ b.line) b.after

-- ---- the replay at a record

goes_on : (d offset : ℕ) (left : List ℕ) (t : Bench) (c : Call) → eqb (length left) 0 ≡ false → malformed offset left ≡ false
    → Kind (payload left) (u16_at left 2) (u16_at left 0) c
    → replay_from (suc d) offset left t
    ≡ followed (answered c t) (replay_from d (offset + 2 + u16_at left 0) (drop (2 + u16_at left 0) left) (answered c t).after)
unfolding replay_from
goes_on d offset left t c l m k =
    simp (l, m) (ap (λ (n : Turn). followed n (replay_from d (offset + 2 + u16_at left 0) (drop (2 + u16_at left 0) left) n.after)) (record_turn_law k t))

-- a whole record is next, with enough turns ahead
record Goes (d offset : ℕ) (left : List ℕ) (next : ℕ) (rest : List ℕ) (c : Call) (t : Bench) : Type 0 where
  turns_left : ℕ
  enough : length rest ≤ turns_left
  is : replay_from d offset left t ≡ followed (answered c t) (replay_from turns_left next rest (answered c t).after)

goes : {offset : ℕ} {left : List ℕ} {c : Call} {next : ℕ} {rest : List ℕ} → Begins offset left c next rest → (d : ℕ) → length left ≤ d
    → (t : Bench) → Goes d offset left next rest c t
goes b zero h t = absurd (omega (arith, (begins_taken b).longer))
goes {offset} {left} {c} {next} {rest} b (suc d) h t =
    let k : Taken offset left c next rest = begins_taken b in
    record {
      turns_left = d;
      enough = omega (arith, k.longer);
      is = goes_on d offset left t c (ne_eqb (length left) 0 (λ e. omega (arith, e, k.longer))) k.well k.asked
          ∙ ap₂ (λ (o : ℕ) (xs : List ℕ). followed (answered c t) (replay_from d o xs (answered c t).after)) (sym k.place) k.after;
    }

-- whole records are next, and then this is left: their lines come first
record Passes (d offset : ℕ) (trace : List ℕ) (place : ℕ) (left : List ℕ) (cs : List Call) (t : Bench) : Type 0 where
  turns_left : ℕ
  enough : length left ≤ turns_left
  is : replay_from d offset trace t ≡ followed (turns cs t) (replay_from turns_left place left (turns cs t).after)

followed_assoc : (a b c : Turn) → followed a (followed b c) ≡ followed (followed a b) c
followed_assoc a b c = ap (λ (l : List ℕ). turn l c.after) (sym (append_assoc a.line b.line c.line))

passes : {offset : ℕ} {trace : List ℕ} {cs : List Call} {place : ℕ} {left : List ℕ} → Records offset trace cs place left → (d : ℕ)
    → length trace ≤ d → (t : Bench) → Passes d offset trace place left cs t
passes Records.end d h t = record { turns_left = d; enough = h; is = refl }
passes {place = place} {left = left} (Records.next {c = c} {further = further} {rest = rest} {cs = cs} b r) d h t =
    let g : Goes d _ _ further rest c t = goes b d h t in
    let p : Passes g.turns_left further rest place left cs (answered c t).after = passes r g.turns_left g.enough (answered c t).after in
    record {
      turns_left = p.turns_left;
      enough = p.enough;
      is = g.is ∙ ap (followed (answered c t)) p.is
          ∙ followed_assoc (answered c t) (turns cs (answered c t).after)
          (replay_from p.turns_left place left (turns cs (answered c t).after).after);
    }

-- what is left is no whole record
stops_at : (d offset : ℕ) (left : List ℕ) → length left ≤ d → 0 < length left → Malformed offset left → (t : Bench)
    → replay_from d offset left t ≡ turn (stop14 offset) t
unfolding replay_from decimal digits
stops_at zero offset left h some m t = absurd (omega arith)
stops_at (suc d) offset left h some m t = simp (ne_eqb (length left) 0 (λ e. omega arith), (malformed_tells offset left).shown m)

-- nothing is left
ends_at : (d offset : ℕ) (t : Bench) → replay_from d offset [] t ≡ turn [] t
unfolding replay_from
ends_at zero offset t = refl
ends_at (suc d) offset t = refl

-- ---- every trace is such

-- whole records, and then what does not start with one: nothing, or what is malformed
pub record Divided (offset : ℕ) (trace : List ℕ) : Type 0 where
  pub calls : List Call
  pub place : ℕ
  pub left : List ℕ
  pub records : Records offset trace calls place left
  pub stop : Malformed place left

divides : (n offset : ℕ) (trace : List ℕ) → length trace ≤ n → Divided offset trace
divides zero offset trace l =
    record { calls = []; place = offset; left = trace; records = Records.end; stop = Malformed.cut_record (inl (omega arith)) }
divides (suc n) offset trace l = split (malformed offset trace)
    (λ e. record { calls = []; place = offset; left = trace; records = Records.end; stop = (malformed_tells offset trace).holds e })
    (λ e.
    let b : Beginning offset trace = begins offset trace e in
    let d : Divided b.1 b.2 = divides n b.1 b.2 (omega (arith, (begins_taken b.3).longer)) in
    record { calls = b.0 ∷ d.calls; place = d.place; left = d.left; records = Records.next b.3 d.records; stop = d.stop })

pub divided : (trace : List ℕ) → Divided 0 trace
divided trace = divides (length trace) 0 trace (omega arith)

-- ---- what follows the lines of the first records

-- The trace starts with these records, and then this is left: their lines come first, and then what the rest of the replay writes.
pub record Continues (trace : List ℕ) (cs : List Call) (place : ℕ) (left : List ℕ) (t : Bench) : Type 0 where
  pub rest : Turn
  pub is : replay trace t ≡ followed (turns cs t) rest
  pub ends : left ≡ [] → rest ≡ turn [] (turns cs t).after
  pub stops : 0 < length left → Malformed place left → rest ≡ turn (stop14 place) (turns cs t).after
  pub goes : (c : Call) (further : ℕ) (behind : List ℕ) → Begins place left c further behind
      → (more : List ℕ) × (rest.line ≡ (answered c (turns cs t).after).line ++ more)

pub continues : {trace : List ℕ} {cs : List Call} {place : ℕ} {left : List ℕ} → Records 0 trace cs place left → (t : Bench)
    → Continues trace cs place left t
unfolding replay
continues {trace} {cs} {place} {left} r t =
    let p : Passes (length trace) 0 trace place left cs t = passes r (length trace) (omega arith) t in
    let t' : Bench = (turns cs t).after in
    record {
      rest = replay_from p.turns_left place left t';
      is = p.is;
      ends = λ e. ap (λ (xs : List ℕ). replay_from p.turns_left place xs t') e ∙ ends_at p.turns_left place t';
      stops = λ some m. stops_at p.turns_left place left p.enough some m t';
      goes = λ c further behind b.
          let g : Goes p.turns_left place left further behind c t' = goes b p.turns_left p.enough t' in
          (_, ap (λ (x : Turn). x.line) g.is);
    }

-- what stands behind their lines is what the rest wrote
pub behind : {trace : List ℕ} {cs : List Call} {place : ℕ} {left : List ℕ} {t : Bench} (f : Continues trace cs place left t) (line : List ℕ)
    → (replay trace t).line ≡ (turns cs t).line ++ line → f.rest.line ≡ line
behind {cs = cs} {t = t} f line e =
    sym (drop-append_seam (turns cs t).line f.rest.line)
    ∙ ap (drop (length (turns cs t).line)) (sym (ap (λ (x : Turn). x.line) f.is) ∙ e)
    ∙ drop-append_seam (turns cs t).line line

-- nothing is left, or what is malformed, or a whole record is next
pub data Remains (offset : ℕ) (left : List ℕ) : Type 0 where
  nothing : left ≡ [] → Remains offset left
  broken : 0 < length left → Malformed offset left → Remains offset left
  whole : Beginning offset left → Remains offset left

pub remains : (offset : ℕ) (left : List ℕ) → Remains offset left
remains offset [] = Remains.nothing refl
remains offset (x ∷ xs) = split (malformed offset (x ∷ xs))
    (λ e. Remains.broken (omega arith) ((malformed_tells offset (x ∷ xs)).holds e))
    (λ e. Remains.whole (begins offset (x ∷ xs) e))
