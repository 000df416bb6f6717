-- Demand 3 after a replay, of any records at all: the held rectangles lie inside the atlas, no two share a pixel, the figure is that of the history
-- (T-02: "Demand 3 then holds for any returns"). And the replay's list has exactly the held rectangles.
use Rattle.std.specs.Prelude.{Ok, Result}
use Rattle.rules.specs.declared.Refusal.{Refusal}
use Prim.Native.Nat.{ℕ}
use mathlib.Core.Bool.{false}
use mathlib.Core.Path.{◌≡◌, sym, ap, ◌∙◌, subst}
use mathlib.Core.List.{List, [], ◌∷◌}
use lib.ListN.{take}
use lib.IntN.{ℤ}
use Rattle.rules.specs.declared.Head.{Head}
use Rattle.rules.specs.Tables.{atlas}
use Rattle.rules.specs.Calls.{new}
use Rattle.rules.specs.Builds.{present}
use Rattle.rules.specs.Held.{entries, Fits}
use Rattle.rules.specs.Listed.{Holding, holding}
use Rattle.rules.specs.History.{Call, Event, held, listed_step, after_made, Listing, Run, Kept, Exact}
use Rattle.rules.specs.Trace.{Bench, lying, replay}
use Rattle.promises.proofs.Framing.{Malformed}
use Rattle.promises.proofs.Replays.{Records}
use Rattle.promises.proofs.Replayed.{left_after, FromNew, replay_calls}
use Rattle.promises.proofs.History.{kept, listed_exact, listed_fits}

-- the history of calls, the newest first, behind what was before
abbrev pub past_after : List Call → List Event → Holding → List Event
past_after [] past l = past
past_after (c ∷ cs) past l = past_after cs ((listed_step present c l).event ∷ past) (listed_step present c l).left

-- a run of the present build that has come to what is lent
abbrev Come : List Event → Holding → Type 0
Come past l = Run present past l.state (Listing.lent l.list)

runs : {past : List Event} {l : Holding} → Come past l → (cs : List Call) → Come (past_after cs past l) (left_after cs l)
runs {past = past} r [] = r
runs {past = past} {l = l} r (c ∷ cs) = runs {past = (listed_step present c l).event ∷ past} (Run.called present past l.state l.list r c) cs

-- what is left after calls of that history
pub record ReplayKept (past : List Event) (l : Holding) : Type 0 where
  pub run : Run present past l.state (Listing.lent l.list)
  pub kept : Kept past l.state
  pub exact : Exact (take (entries l.state) l.list) (held past)
  pub fits : Fits l.state l.list

kept_run : {past : List Event} {l : Holding} → Come past l → ReplayKept past l
kept_run {past} {l} r = record {
  run = r;
  kept = kept present past l.state (Listing.lent l.list) r;
  exact = listed_exact present past l.state l.list r;
  fits = listed_fits present past l.state l.list r;
}

pub replay_kept : {trace : List ℕ} {cs : List Call} {place : ℕ} {left : List ℕ} → Records 0 trace cs place left → Malformed place left
    → (t : Bench) → t.made ≡ false → (w h aw ah n : ℤ) (v : ℕ) (ds : List Call) → FromNew t.state cs (Call.new w h aw ah n v ∷ ds)
    → (head : Head) → new w h aw ah n v t.state.shelves t.state.buckets ≡ Ok head
    → ReplayKept (past_after ds [] (holding (atlas head t.state.shelves t.state.buckets) t.list)) (lying (replay trace t).after)
replay_kept r m t e w h aw ah n v ds f head a =
    let s : List ℕ = t.state.shelves in
    let b : List ℕ = t.state.buckets in
    let fresh : Holding = holding (atlas head s b) t.list in
    let is : lying (replay _ t).after ≡ left_after ds fresh =
    ap lying ((replay_calls r m t).unmade (Call.new w h aw ah n v ∷ ds) e f)
    ∙ ap (λ (x : Result Head Refusal). left_after ds (holding (after_made x t.state) t.list)) a in
    subst (ReplayKept (past_after ds [] fresh)) (sym is)
    (kept_run (runs {l = fresh} (Run.fresh present w h aw ah n v s b head a t.list) ds))
