-- "13: replay: no atlas made yet", exactly when.
use Rattle.std.specs.Prelude.{Ok, Err, Result, ⊤}
use Rattle.rules.specs.declared.Head.{Head}
use Rattle.rules.specs.declared.Allocation.{Allocation}
use Prim.Native.Nat.{ℕ}
use mathlib.Core.Bool.{Bool, true, false}
use mathlib.Core.Path.{◌≡◌, refl, sym, ap, ◌∙◌, subst}
use mathlib.Core.Logic.{◌≢◌, inl}
use mathlib.Core.List.{List, [], ◌∷◌, ◌++◌}
use native.Mathlib.Omega.{arith}
use borrow.Author.Tests.{eqb-false}
use lib.ListN.{get_or}
use lib.IntN.{ℤ}
use Rattle.rules.specs.declared.Refusal.{Refusal}
use Rattle.rules.specs.Tables.{Outcome}
use Rattle.rules.specs.Text.{bytes}
use Rattle.rules.specs.Answers.{number, made_says, reply_says, placing_says, figure_says}
use Rattle.rules.specs.Builds.{present}
use Rattle.rules.specs.Calls.{new}
use Rattle.rules.specs.Calls as calls
use Rattle.rules.specs.Listed.{Holding, Ended, tested, refusing, clear, clear_by, grow, grow_by, allocate, allocate_by, deallocate, deallocate_by}
use Rattle.rules.specs.Listed.{allocated_space, free_space_of}
use Rattle.rules.specs.History.{Call, Event}
use Rattle.rules.specs.Trace.{Bench, bench, lying, Turn, turn, decimal, digits, replay}
use Rattle.laws.proofs.Tests.Tells.{true_false}
use Rattle.promises.proofs.Unsaid.{new_unsaid, clear_unsaid, grow_unsaid, deallocate_unsaid, allocate_unsaid, occupied_unsaid, free_unsaid}
use Rattle.promises.proofs.Unsaid.{enter_unsaid, leave_unsaid}
use Rattle.promises.proofs.ListedRefusals.{tested_own}
use Rattle.promises.proofs.Framing.{Begins}
use Rattle.promises.proofs.RecordTurns.{refusal, event_line, called, on_atlas, answered}
use Rattle.promises.proofs.Replays.{Records, turns, Continues, continues, behind, Remains, remains}
use Rattle.promises.proofs.Stops.{unlike}

-- ---- no call says 13

new_13 : (width height align_width align_height columns : ℤ) (vertical : ℕ) (s b : List ℕ)
    → made_says (new width height align_width align_height columns vertical s b) ≢ 13 ∷ []
new_13 = new_unsaid 13 (inl (omega arith))

-- 1 and 21 are other numbers
tested_13 : {A : Type 0} (says : A → List ℕ) (refuse : Refusal → A) (a : A) (l : Holding) → ((r : Refusal) → says (refuse r) ≡ number r ∷ [])
    → says a ≢ 13 ∷ [] → says (tested refuse a l) ≢ 13 ∷ []
tested_13 says refuse a l is ne e = ((tested_own present says refuse is l a 13 refl refl (λ p. record { when = absurd; only = ne })).only e).1

says_reply : Ended (Result ⊤ Refusal) → List ℕ
says_reply o = reply_says o.answer

says_placing : Ended (Result Allocation Refusal) → List ℕ
says_placing o = placing_says o.answer

clear_13 : (l : Holding) → reply_says (clear l).answer ≢ 13 ∷ []
unfolding clear_by says_reply
clear_13 l = tested_13 says_reply (refusing Err l) _ l (λ r. refl) (clear_unsaid 13 (inl (omega arith)) l.state)

grow_13 : (width height : ℤ) (l : Holding) → reply_says (grow width height l).answer ≢ 13 ∷ []
unfolding grow_by says_reply
grow_13 width height l = tested_13 says_reply (refusing Err l) _ l (λ r. refl) (grow_unsaid 13 (inl (omega arith)) width height l.state)

deallocate_13 : (id : ℕ) (l : Holding) → reply_says (deallocate id l).answer ≢ 13 ∷ []
unfolding deallocate_by says_reply
deallocate_13 id l =
    let o : Outcome (Result ⊤ Refusal) = calls.deallocate id l.state in
    tested_13 says_reply (refusing Err l) _ l (λ r. refl)
    (leave_unsaid 13 (λ e. omega arith) id o.answer o.state l (deallocate_unsaid 13 (inl (omega arith)) id l.state))

allocate_13 : (width height : ℤ) (l : Holding) → placing_says (allocate width height l).answer ≢ 13 ∷ []
unfolding allocate_by says_placing
allocate_13 width height l =
    let o : Outcome (Result Allocation Refusal) = calls.allocate width height l.state in
    tested_13 says_placing (refusing Err l) _ l (λ r. refl)
    (enter_unsaid 13 (λ e. omega arith) o.answer o.state l (allocate_unsaid 13 (omega arith) (omega arith) width height l.state))

occupied_13 : (l : Holding) → figure_says (allocated_space l) ≢ 13 ∷ []
unfolding allocated_space
occupied_13 l = tested_13 figure_says Err (calls.allocated_space l.state) l (λ r. refl) (occupied_unsaid 13 (inl (omega arith)) l.state)

free_13 : (l : Holding) → figure_says (free_space_of l) ≢ 13 ∷ []
unfolding free_space_of
free_13 l = tested_13 figure_says Err (calls.free_space_of l.state) l (λ r. refl) (free_unsaid 13 (inl (omega arith)) l.state)

-- ---- so no call writes it

-- a line's first, ninth and tenth bytes are those of `refused 13`
record Like13 (line : List ℕ) : Type 0 where
  first : get_or line 0 0 ≡ 114
  ninth : get_or line 8 0 ≡ 49
  tenth : get_or line 9 0 ≡ 51

-- the tenth is that of no other number but 23, whose ninth is another
refused_13 : (r : Refusal) (more : List ℕ) → get_or (refusal r ++ more) 8 0 ≡ 49 → get_or (refusal r ++ more) 9 0 ≡ 51 → number r ≡ 13
unfolding decimal digits
refused_13 Refusal.NoAtlas more n e = refl
refused_13 Refusal.Tables more n e = absurd (eqb-false _ 51 refl e)
refused_13 Refusal.Side more n e = absurd (eqb-false _ 51 refl e)
refused_13 Refusal.Options more n e = absurd (eqb-false _ 51 refl e)
refused_13 Refusal.Small more n e = absurd (eqb-false _ 51 refl e)
refused_13 Refusal.Large more n e = absurd (eqb-false _ 51 refl e)
refused_13 Refusal.NoPlace more n e = absurd (eqb-false _ 51 refl e)
refused_13 Refusal.Filler more n e = absurd (eqb-false _ 51 refl e)
refused_13 Refusal.Items more n e = absurd (eqb-false _ 51 refl e)
refused_13 Refusal.Unknown more n e = absurd (eqb-false _ 51 refl e)
refused_13 Refusal.Stale more n e = absurd (eqb-false _ 51 refl e)
refused_13 Refusal.Unheld more n e = absurd (eqb-false _ 51 refl e)
refused_13 Refusal.Shrink more n e = absurd (eqb-false _ 51 refl e)
refused_13 Refusal.Malformed more n e = absurd (eqb-false _ 51 refl e)
refused_13 Refusal.Long more n e = absurd (eqb-false _ 51 refl e)
refused_13 Refusal.Broken more n e = absurd (eqb-false _ 51 refl e)
refused_13 Refusal.Version more n e = absurd (eqb-false _ 51 refl e)
refused_13 Refusal.Buffer more n e = absurd (eqb-false _ 51 refl e)
refused_13 Refusal.Full more n e = absurd (eqb-false _ 51 refl e)
refused_13 Refusal.NotHeld more n e = absurd (eqb-false _ 51 refl e)
refused_13 Refusal.List more n e = absurd (eqb-false _ 51 refl e)
refused_13 Refusal.Wide more n e = absurd (eqb-false _ 51 refl e)
refused_13 Refusal.Tall more n e = absurd (eqb-false _ 49 refl n)
refused_13 Refusal.Output more n e = absurd (eqb-false _ 51 refl e)

refused_line : (r : Refusal) (more : List ℕ) → (number r ∷ [] ≢ 13 ∷ []) → Like13 (refusal r ++ more) → ⊥
refused_line r more ne e = ne (ap (λ (n : ℕ). n ∷ []) (refused_13 r more e.ninth e.tenth))

module _ (f k : Result ℕ Refusal) (more : List ℕ) where
  made_line : (m : Result Head Refusal) → made_says m ≢ 13 ∷ [] → Like13 (event_line (Event.made m) f k ++ more) → ⊥
  made_line (Ok head) ne e = eqb-false _ 114 refl e.first
  made_line (Err r) ne e = refused_line r more ne e

  placing_line : (x : Result Allocation Refusal) → placing_says x ≢ 13 ∷ [] → Like13 (event_line (Event.allocated x) f k ++ more) → ⊥
  placing_line (Ok a) ne e = eqb-false _ 114 refl e.first
  placing_line (Err r) ne e = refused_line r more ne e

  deallocated_line : (id : ℕ) (x : Result ⊤ Refusal) → reply_says x ≢ 13 ∷ [] → Like13 (event_line (Event.deallocated id x) f k ++ more) → ⊥
  deallocated_line id (Ok tt) ne e = eqb-false _ 114 refl e.first
  deallocated_line id (Err r) ne e = refused_line r more ne e

  cleared_line : (x : Result ⊤ Refusal) → reply_says x ≢ 13 ∷ [] → Like13 (event_line (Event.cleared x) f k ++ more) → ⊥
  cleared_line (Ok tt) ne e = eqb-false _ 114 refl e.first
  cleared_line (Err r) ne e = refused_line r more ne e

  grown_line : (x : Result ⊤ Refusal) → reply_says x ≢ 13 ∷ [] → Like13 (event_line (Event.grown x) f k ++ more) → ⊥
  grown_line (Ok tt) ne e = eqb-false _ 114 refl e.first
  grown_line (Err r) ne e = refused_line r more ne e

report_line : (f k : Result ℕ Refusal) (more : List ℕ) → figure_says f ≢ 13 ∷ [] → figure_says k ≢ 13 ∷ [] → Like13 (event_line Event.read f k ++ more) → ⊥
report_line (Ok occupied) (Ok free) more nf nk e = eqb-false _ 114 refl e.first
report_line (Ok occupied) (Err r) more nf nk e = refused_line r more nk e
report_line (Err r) k more nf nk e = refused_line r more nf e

called_line : (c : Call) (t : Bench) (more : List ℕ) → Like13 ((called c t).line ++ more) → ⊥
called_line (Call.new w h aw ah n v) t more =
    made_line _ _ more (new w h aw ah n v t.state.shelves t.state.buckets) (new_13 w h aw ah n v t.state.shelves t.state.buckets)
called_line (Call.allocate w h) t more = placing_line _ _ more (allocate w h (lying t)).answer (allocate_13 w h (lying t))
called_line (Call.deallocate id) t more = deallocated_line _ _ more id (deallocate id (lying t)).answer (deallocate_13 id (lying t))
called_line Call.clear t more = cleared_line _ _ more (clear (lying t)).answer (clear_13 (lying t))
called_line (Call.grow w h) t more = grown_line _ _ more (grow w h (lying t)).answer (grow_13 w h (lying t))
called_line Call.read t more = report_line (allocated_space (lying t)) (free_space_of (lying t)) more (occupied_13 (lying t)) (free_13 (lying t))

-- ---- refusal 13

-- a record that is no new
abbrev pub NotNew : Call → Type 0
NotNew (Call.new w h aw ah n v) = ⊥
NotNew (Call.allocate w h) = Unit {0}
NotNew (Call.deallocate id) = Unit {0}
NotNew Call.clear = Unit {0}
NotNew (Call.grow w h) = Unit {0}
NotNew Call.read = Unit {0}

-- of one record
record Thirteen (c : Call) (t : Bench) : Type 0 where
  when : NotNew c → t.made ≡ false → answered c t ≡ turn (bytes "refused 13\n") t
  only : (more : List ℕ) → Like13 ((answered c t).line ++ more) → NotNew c × (t.made ≡ false)

on_atlas_law : (c : Call) (made : Bool) (l : Holding) → NotNew c → answered c (bench made l) ≡ on_atlas c (bench made l) → Thirteen c (bench made l)
on_atlas_law c true l k is = record {
  when = λ n e. true_false e;
  only = λ more e. absurd (called_line c (bench true l) more (subst (λ (x : Turn). Like13 (x.line ++ more)) is e));
}
on_atlas_law c false l k is = record { when = λ n e. is; only = λ more e. (k, refl) }

answered_13 : (c : Call) (t : Bench) → Thirteen c t
answered_13 (Call.new w h aw ah n v) t = record { when = λ n e. absurd n; only = λ more e. absurd (called_line (Call.new w h aw ah n v) t more e) }
answered_13 (Call.allocate w h) t = on_atlas_law (Call.allocate w h) t.made (lying t) tt refl
answered_13 (Call.deallocate id) t = on_atlas_law (Call.deallocate id) t.made (lying t) tt refl
answered_13 Call.clear t = on_atlas_law Call.clear t.made (lying t) tt refl
answered_13 (Call.grow w h) t = on_atlas_law (Call.grow w h) t.made (lying t) tt refl
answered_13 Call.read t = on_atlas_law Call.read t.made (lying t) tt refl

-- The trace starts with these records, and then this is left. "any other well-formed record before an accepted new gives 13": the next line is
-- `refused 13` exactly where a whole record is next that is no new, and no atlas was made.
pub record NoAtlasExactly (trace : List ℕ) (cs : List Call) (place : ℕ) (left : List ℕ) (t : Bench) : Type 0 where
  pub when : (c : Call) (further : ℕ) (rest : List ℕ) → Begins place left c further rest → NotNew c → (turns cs t).after.made ≡ false
      → (more : List ℕ) × ((replay trace t).line ≡ (turns cs t).line ++ (bytes "refused 13\n" ++ more))
  pub only : (more : List ℕ) → (replay trace t).line ≡ (turns cs t).line ++ (bytes "refused 13\n" ++ more)
      → (c : Call) × (further : ℕ) × (rest : List ℕ) × Begins place left c further rest × NotNew c × ((turns cs t).after.made ≡ false)
  -- and it changes nothing
  pub same : (c : Call) → NotNew c → (turns cs t).after.made ≡ false → (answered c (turns cs t).after).after ≡ (turns cs t).after

thirteen_only : {trace : List ℕ} {cs : List Call} {place : ℕ} {left : List ℕ} {t : Bench} (f : Continues trace cs place left t) (more : List ℕ)
    → Remains place left → f.rest.line ≡ bytes "refused 13\n" ++ more
    → (c : Call) × (further : ℕ) × (rest : List ℕ) × Begins place left c further rest × NotNew c × ((turns cs t).after.made ≡ false)
thirteen_only f more (Remains.nothing e) is = absurd (unlike 0 refl (sym (ap (λ (x : Turn). x.line) (f.ends e)) ∙ is))
thirteen_only f more (Remains.broken some m) is = absurd (unlike 0 refl (sym (ap (λ (x : Turn). x.line) (f.stops some m)) ∙ is))
thirteen_only {cs = cs} {t = t} f more (Remains.whole b) is =
    let g = f.goes b.0 b.1 b.2 b.3 in
    let like : Like13 ((answered b.0 (turns cs t).after).line ++ g.0) =
    subst Like13 (sym is ∙ g.1) (record { first = refl; ninth = refl; tenth = refl }) in
    let n : NotNew b.0 × ((turns cs t).after.made ≡ false) = (answered_13 b.0 (turns cs t).after).only g.0 like in
    (b.0, b.1, b.2, b.3, n.0, n.1)

pub no_atlas_13 : {trace : List ℕ} {cs : List Call} {place : ℕ} {left : List ℕ} → Records 0 trace cs place left → (t : Bench)
    → NoAtlasExactly trace cs place left t
no_atlas_13 {trace} {cs} {place} {left} r t =
    let f : Continues trace cs place left t = continues r t in
    let t' : Bench = (turns cs t).after in
    record {
      when = λ c further rest b n e.
          let g = f.goes c further rest b in (
            g.0,
            ap (λ (x : Turn). x.line) f.is
                ∙ ap (λ (line : List ℕ). (turns cs t).line ++ line) (g.1 ∙ ap (λ (x : Turn). x.line ++ g.0) ((answered_13 c t').when n e)),
          );
      only = λ more e. thirteen_only f more (remains place left) (behind f (bytes "refused 13\n" ++ more) e);
      same = λ c n e. ap (λ (x : Turn). x.after) ((answered_13 c t').when n e);
    }
