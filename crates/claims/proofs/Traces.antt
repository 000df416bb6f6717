-- What specs/Traces.antt claims of a replay, each from the theorem that it names.
use Prim.Native.Nat.{ℕ, zero, suc, ◌+◌, ◌*◌, ◌≤◌}
use mathlib.Core.Bool.{Bool, true, false}
use mathlib.Core.Path.{◌≡◌, refl, sym, ap, ◌∙◌, subst}
use mathlib.Core.Logic.{inr}
use mathlib.Core.List.{List, [], ◌∷◌, ◌++◌}
use native.Mathlib.Omega.{arith}
use Rattle.rules.specs.History.{Call}
use Rattle.rules.specs.Listed.{Holding, clear, grow}
use Rattle.rules.specs.Text.{bytes}
use Rattle.rules.specs.Trace.{i32_at, digits, decimal, Bench, bench, lying, Turn, record_turn}
use Rattle.laws.proofs.Tests.Tells.{true_false, false_true}
use Rattle.claims.specs.Traces.{UnknownStops, LengthStops, CutStops, StopsAtOnce, NeverFifteen, report, ReportThirteen, times, EveryReport, ClearDone}
use Rattle.claims.specs.Traces.{GrowDone, DecimalReads, Negative}
use Rattle.promises.proofs.Framing.{Kind, Malformed, Begins}
use Rattle.promises.proofs.RecordTurns.{record_turn_law}
use Rattle.promises.proofs.Replays.{Records, turns}
use Rattle.promises.proofs.Stops.{stop_14, replay_ends, never_15}
use Rattle.promises.proofs.NoAtlas.{no_atlas_13}
use Rattle.promises.proofs.Decimals.{read_on, decimal_10}
use Rattle.promises.proofs.NumbersIn.{NumberIn, number_in}

-- ---- stops

-- no record comes before it, so it stands at offset 0
stops : (trace : List ℕ) (t : Bench) → Malformed 0 trace → StopsAtOnce trace t
unfolding decimal digits
stops trace t m some = (stop_14 Records.end t).when some m

kind_most : {p : List ℕ} {kind long : ℕ} {c : Call} → Kind p kind long c → kind ≤ 6
kind_most Kind.new = omega arith
kind_most Kind.allocate = omega arith
kind_most Kind.deallocate = omega arith
kind_most Kind.clear = omega arith
kind_most Kind.grow = omega arith
kind_most Kind.report = omega arith

pub unknown_stops : UnknownStops
unknown_stops trace t l = stops trace t (Malformed.unknown_kind (λ p long c k. omega (arith, kind_most k)))

pub length_stops : LengthStops
length_stops trace t e ne =
    stops trace t (Malformed.wrong_length [] 2 Call.read (subst (λ (kind : ℕ). Kind [] kind 2 Call.read) (sym e) Kind.report) ne)

pub cut_stops : CutStops
cut_stops trace t l = stops trace t (Malformed.cut_record (inr l))

pub never_fifteen : NeverFifteen
never_fifteen trace t more e = never_15 (Records.end {left = trace}) t more e

-- ---- reports

begins : (offset : ℕ) (rest : List ℕ) → offset + 4 ≤ 4294967295 → Begins offset (report ++ rest) Call.read (offset + 4) rest
begins offset rest h = record {
  low = 2;
  high = 0;
  kind_low = 6;
  kind_high = 0;
  part = [];
  bytes = refl;
  follows = refl;
  known = Kind.report;
  ends = omega arith;
  within = h;
}

pub report_thirteen : ReportThirteen
report_thirteen rest t =
    let n = no_atlas_13 (Records.end {left = report ++ rest}) t in
    (λ e. n.when Call.read 4 rest (begins 0 rest (omega arith)) tt e, λ more e. (n.only more e).5)

-- the calls that n reports are
abbrev reads : ℕ → List Call
reads zero = []
reads (suc n) = Call.read ∷ reads n

all_reports : (n offset : ℕ) → offset + 4 * n ≤ 4294967295 → (place : ℕ) × Records offset (times n report) (reads n) place []
all_reports zero offset h = (offset, Records.end)
all_reports (suc n) offset h =
    let r = all_reports n (offset + 4) (omega arith) in
    (r.0, Records.next (begins offset (times n report) (omega arith)) r.1)

report_lines : (n : ℕ) (l : Holding) → (turns (reads n) (bench false l)).line ≡ times n (bytes "refused 13\n")
report_lines zero l = refl
report_lines (suc n) l = ap (λ (line : List ℕ). bytes "refused 13\n" ++ line) (report_lines n l)

no_atlas_lines : (n : ℕ) (made : Bool) (l : Holding) → made ≡ false → (turns (reads n) (bench made l)).line ≡ times n (bytes "refused 13\n")
no_atlas_lines n true l e = true_false e
no_atlas_lines n false l e = report_lines n l

pub every_report : EveryReport
every_report n t l e =
    ap (λ (x : Turn). x.line) (replay_ends (all_reports n 0 (omega arith)).1 t) ∙ no_atlas_lines n t.made (lying t) e

-- ---- a clear, a grow

-- on an atlas that was made, the call is made
clear_made : (p : List ℕ) (made : Bool) (l : Holding) → made ≡ true → lying (record_turn 4 p (bench made l)).after ≡ (clear l).left
clear_made p true l e = ap (λ (x : Turn). lying x.after) (record_turn_law {p = p} Kind.clear (bench true l))
clear_made p false l e = false_true e

pub clear_done : ClearDone
clear_done p t e = clear_made p t.made (lying t) e

grow_made : (p : List ℕ) (made : Bool) (l : Holding) → made ≡ true → lying (record_turn 5 p (bench made l)).after ≡ (grow (i32_at p 0) (i32_at p 4) l).left
grow_made p true l e = ap (λ (x : Turn). lying x.after) (record_turn_law {p = p} Kind.grow (bench true l))
grow_made p false l e = false_true e

pub grow_done : GrowDone
grow_done p t e = grow_made p t.made (lying t) e

-- ---- numbers

pub decimal_reads : DecimalReads
decimal_reads m n l k e = sym (decimal_10 m l).reads ∙ ap (read_on 0) e ∙ (decimal_10 n k).reads

pub negative : Negative
negative p i l k =
    let n : NumberIn p i = number_in p i in
    let b = n.bits.high (omega (arith, n.unsigned)) (omega (arith, n.unsigned)) in
    (b.0, b.1)
