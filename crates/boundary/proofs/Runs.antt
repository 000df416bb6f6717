-- Demand 3 for those who link the panel: a run of panel calls is a run of the rules' calls. So what `kept`, `listed_exact` and `returns` say of those
-- holds of the numbers that panel calls hand out, and of the lent list.
use Rattle.std.specs.Prelude.{Ok, Err, Result, ⊤}
use Rattle.rules.specs.declared.Refusal.{Refusal}
use Prim.Native.Nat.{ℕ, ◌≤◌}
use mathlib.Core.Bool.{true}
use mathlib.Core.Path.{◌≡◌, refl, sym, ◌∙◌, ap, subst}
use mathlib.Core.List.{List, [], ◌∷◌}
use native.Mathlib.Decide.{ℕ_discrete}
use native.Mathlib.Omega.{arith}
use borrow.Author.Tests.{leb-true}
use lib.Dec.{leb}
use lib.IntN.{ℤ}
use lib.ListN.{length, get_or, take}
use Rattle.rules.specs.declared.Allocation.{Allocation}
use Rattle.rules.specs.declared.Head.{Head}
use Rattle.rules.specs.Tables.{Atlas, atlas}
use Rattle.rules.specs.Sound.{Sound}
use Rattle.rules.specs.Calls as calls
use Rattle.rules.specs.Builds.{present}
use Rattle.rules.specs.Files as files
use Rattle.rules.specs.Held.{entries}
use Rattle.rules.specs.Listed.{Holding, Ended}
use Rattle.rules.specs.Listed as listed
use Rattle.rules.specs.History.{Event, Listing, listed_step, Run, Kept, Exact, Holds, held, figure, read_into}
use Rattle.laws.proofs.Tests.Flags.{split}
use Rattle.laws.proofs.Sound.Test.{sound_test}
use Rattle.promises.proofs.Reached.{Reached}
use Rattle.promises.proofs.Sounds.{new_sound, reached_sound, listed_reached, run_reached}
use Rattle.promises.proofs.Lists.{ReturnsListed}
use Rattle.promises.proofs.History.{kept, listed_exact, listed_fits, returns}
use Rattle.telling.specs.Header.{is_head, read_head}
use Rattle.telling.specs.Told.{new_told, reply_told}
use Rattle.treadwharf.specs.Panel.{Back, lent, changing}
use Rattle.treadwharf.specs.Panel as panel
use Rattle.boundary.specs.Calls.{PanelCall, PanelRun, PanelReached, NoRestart, OutRoom, answer, asks, event_of, atlas_of, outs, heard, says_of}
use Rattle.boundary.proofs.Heads.{read_written, is_written, sound_sixteen}
use Rattle.boundary.proofs.ReadBack.{number_not_0}
use Rattle.boundary.proofs.Steps.{Leaves, Stepped, stepped}
use Rattle.boundary.proofs.Fitting.{fits_passing, passing_fits}
use Rattle.boundary.proofs.Files.{ReadIn, read_in}
use Rattle.boundary.proofs.Heard.{heard_says, text_heard}

-- ---- the theorem

-- the lent numbers are a header, and with the tables and the list what a run of the rules leaves
pub record RulesRun (past : List Event) (x s b : List ℕ) (listing : Listing) : Type 0 where
  pub head : is_head x ≡ true
  pub run : Run present past (atlas_of x s b) listing

pub run_sound : {past : List Event} {x s b : List ℕ} {listing : Listing} → RulesRun past x s b listing → Sound (atlas_of x s b)
run_sound r = reached_sound (run_reached r.run)

module _ (w h aw ah n : ℤ) (v : ℕ) (x s b : List ℕ) (list : List Allocation) where
  fresh_made : (m : Result Head Refusal) → calls.new w h aw ah n v s b ≡ m → 12 ≤ length x → (new_told m x).number ≡ 0
      → RulesRun [] (new_told m x).header s b (Listing.lent list)
  fresh_made (Ok head) q l z = record {
    head = is_written head x l (sound_sixteen (new_sound present w h aw ah n v s b head q));
    run = subst (λ (k : Head). Run present [] (atlas k s b) (Listing.lent list)) (sym (read_written head x l))
        (Run.fresh present w h aw ah n v s b head q list);
  }
  fresh_made (Err r) q l z = absurd (number_not_0 r z)

  fresh_run : (panel.new w h aw ah n v x s b).number ≡ 0 → RulesRun [] (panel.new w h aw ah n v x s b).header s b (Listing.lent list)
  unfolding panel.new
  fresh_run = split (leb 12 (length x))
      (λ l. simp l (fresh_made (calls.new w h aw ah n v s b) refl (leb-true 12 (length x) l)))
      (λ f. simp f (λ z. absurd (let k : ◌≡◌ {A = ℕ} 1 0 = z in omega arith)))

-- what a call leaves is that of a run
left_run : (past : List Event) (r : Back) (l : Holding) → Leaves r l → Run present past l.state (Listing.lent l.list)
    → RulesRun past r.told.header r.shelves r.buckets (Listing.lent r.list)
left_run past r l leaves run = record {
  head = leaves.head;
  run = subst (λ (z : Holding). Run present past z.state (Listing.lent z.list)) (sym leaves.state) run;
}

pub panel_run : {past : List Event} {x s b : List ℕ} {listing : Listing} → PanelRun past x s b listing → RulesRun past x s b listing
panel_run (PanelRun.fresh w h aw ah n v x s b e list) = fresh_run w h aw ah n v x s b list e
panel_run (PanelRun.next past x s b list before c k) =
    let r : RulesRun past x s b (Listing.lent list) = panel_run before in
    let l : Holding = lent x s b list in
    let t : Stepped (asks c) (answer c x s b list) (listed_step present (asks c) l) = stepped x s b list r.head (run_sound r) c k in
    left_run (event_of (asks c) (answer c x s b list).told ∷ past) (answer c x s b list) (listed_step present (asks c) l).left t.leaves
    (subst (λ (v : Event). Run present (v ∷ past) (listed_step present (asks c) l).left.state (Listing.lent (listed_step present (asks c) l).left.list))
    (sym t.event) (Run.called present past (atlas_of x s b) list r.run (asks c)))
panel_run (PanelRun.restored earlier past g listing r buffer n w file f x s b e) =
    let i : ReadIn s b file (panel.read x s b file) = read_in x s b file e in
    record {
      head = i.is;
      run = subst (λ (a : Atlas). Run present past a Listing.none) (sym i.state)
          (subst
          (λ (bytes : List ℕ). (h : Head) → (files.read bytes s b).made ≡ Ok h → Run present past (read_into h (files.read bytes s b)) Listing.none)
          (sym f) (Run.restored present earlier past g listing r buffer n w s b) i.head i.made);
    }
panel_run (PanelRun.relent past x s b before list f) =
    let r : RulesRun past x s b Listing.none = panel_run before in
    record { head = r.head; run = Run.relent present past (atlas_of x s b) r.run refl list (fits_passing x s b list f).passing.fits }

-- ---- what demand 3 says of the numbers handed out

pub panel_kept : {past : List Event} {x s b : List ℕ} {listing : Listing} → PanelRun past x s b listing → Kept past (atlas_of x s b)
panel_kept {past} {x} {s} {b} {listing} r = kept present past (atlas_of x s b) listing (panel_run r).run

-- the header's twelfth number is the figure worked out afresh
pub panel_figure : {past : List Event} {x s b : List ℕ} {listing : Listing} → PanelRun past x s b listing → get_or x 11 0 ≡ figure past
unfolding read_head
panel_figure r = (panel_kept r).occupied

-- ---- T-02: the lent list

-- of a return that answers in numbers
reply_0 : (a : Result ⊤ Refusal) (h : Head) (x : List ℕ) → (reply_told a h x).number ≡ 0 → a ≡ (Ok tt)
reply_0 (Ok tt) h x e = refl
reply_0 (Err r) h x e = absurd (number_not_0 r e)

reply_number : (call : Holding → Ended (Result ⊤ Refusal)) (x s b : List ℕ) (list : List Allocation) → is_head x ≡ true
    → (changing call x s b list).told.number ≡ (reply_told (call (lent x s b list)).answer (call (lent x s b list)).left.state.head x).number
unfolding changing
reply_number call x s b list e = simp e

-- what treadwharf_deallocate returns
pub record PanelReturns (past : List Event) (x s b : List ℕ) (list : List Allocation) (id : ℕ) : Type 0 where
  -- 0 where the id is held, and nowhere else
  pub accepted : Holds id (held past) → (panel.deallocate id x s b list).told.number ≡ 0
  pub only : (panel.deallocate id x s b list).told.number ≡ 0 → Holds id (held past)
  -- of any other id it is refused: 20, where 9 to 11 do not come first
  pub other : (Holds id (held past) → ⊥) → (calls.deallocate id (atlas_of x s b)).answer ≡ (Ok tt) → (panel.deallocate id x s b list).told.number ≡ 20

module _ {past : List Event} {x s b : List ℕ} {list : List Allocation} (r : PanelRun past x s b (Listing.lent list)) where
  -- the list has exactly the held rectangles, as issued, with their ids
  pub panel_listed : Exact (take (entries (atlas_of x s b)) list) (held past)
  panel_listed = listed_exact present past (atlas_of x s b) list (panel_run r).run

  -- treadwharf_fits returns true
  pub panel_fits : panel.fits x s b list ≡ true
  panel_fits =
      let q : RulesRun past x s b (Listing.lent list) = panel_run r in
      passing_fits x s b list (record {
        head = q.head;
        passing = record { sound = run_sound q; fits = listed_fits present past (atlas_of x s b) list q.run };
      })

  pub panel_returns : (id : ℕ) → PanelReturns past x s b list id
  panel_returns id =
      let q : RulesRun past x s b (Listing.lent list) = panel_run r in
      let u : ReturnsListed present past (atlas_of x s b) list id = returns present past (atlas_of x s b) list q.run id in
      let o : Ended (Result ⊤ Refusal) = listed.deallocate id (lent x s b list) in
      let n : (panel.deallocate id x s b list).told.number ≡ (reply_told o.answer o.left.state.head x).number =
      reply_number (listed.deallocate id) x s b list q.head in
      let says : Result ⊤ Refusal → ℕ = λ a. (reply_told a o.left.state.head x).number in
      record {
        accepted = λ h. n ∙ ap says (u.accepted h);
        only = λ z. u.only (reply_0 o.answer o.left.state.head x (sym n ∙ z));
        other = λ ne d. n ∙ ap says (u.other ne d);
      }

-- ---- any calls at all, whatever list is lent to each, and whatever is read

pub record RulesReached (x s b : List ℕ) : Type 0 where
  pub head : is_head x ≡ true
  pub reached : Reached present (atlas_of x s b)

left_reached : (r : Back) (l : Holding) → Leaves r l → Reached present l.state → RulesReached r.told.header r.shelves r.buckets
left_reached r l leaves reached = record { head = leaves.head; reached = subst (λ (z : Holding). Reached present z.state) (sym leaves.state) reached }

restored_reached : (x s b file : List ℕ) → (panel.read x s b file).told.number ≡ 0
    → RulesReached (panel.read x s b file).told.header (panel.read x s b file).shelves (panel.read x s b file).buckets
restored_reached x s b file e =
    let i : ReadIn s b file (panel.read x s b file) = read_in x s b file e in
    record { head = i.is; reached = subst (Reached present) (sym i.state) (Reached.restored present file s b i.head i.made) }

module _ (x s b : List ℕ) (r : RulesReached x s b) (list : List Allocation) where
  abbrev After : PanelCall → Type 0
  After c = RulesReached (answer c x s b list).told.header (answer c x s b list).shelves (answer c x s b list).buckets

  stepped_reached : (c : PanelCall) → NoRestart c x s b → After c
  stepped_reached c k =
      left_reached (answer c x s b list) _ (stepped x s b list r.head (reached_sound r.reached) c k).leaves
      (listed_reached present r.reached (asks c) list)

  next_reached : (c : PanelCall) → After c
  next_reached (PanelCall.new w h aw ah n v) = stepped_reached (PanelCall.new w h aw ah n v) tt
  next_reached PanelCall.clear = stepped_reached PanelCall.clear tt
  next_reached (PanelCall.grow w h) = stepped_reached (PanelCall.grow w h) tt
  next_reached (PanelCall.allocate w h out) = stepped_reached (PanelCall.allocate w h out) tt
  next_reached (PanelCall.deallocate id) = stepped_reached (PanelCall.deallocate id) tt
  next_reached PanelCall.is_sound = stepped_reached PanelCall.is_sound tt
  next_reached PanelCall.fits = stepped_reached PanelCall.fits tt
  next_reached (PanelCall.size out) = stepped_reached (PanelCall.size out) tt
  next_reached (PanelCall.is_empty out) = stepped_reached (PanelCall.is_empty out) tt
  next_reached (PanelCall.allocated_space out) = stepped_reached (PanelCall.allocated_space out) tt
  next_reached (PanelCall.free_space out) = stepped_reached (PanelCall.free_space out) tt
  next_reached (PanelCall.write file out) = stepped_reached (PanelCall.write file out) tt
  next_reached (PanelCall.picture text out) = stepped_reached (PanelCall.picture text out) tt
  next_reached (PanelCall.read file) = elim (ℕ_discrete (panel.read x s b file).told.number 0) [
    | yes z ↦ restored_reached x s b file z
    | no n ↦ stepped_reached (PanelCall.read file) n
  ]

pub panel_reached : {x s b : List ℕ} → PanelReached x s b → RulesReached x s b
panel_reached (PanelReached.fresh w h aw ah n v x s b e) =
    let r : RulesRun [] (panel.new w h aw ah n v x s b).header s b (Listing.lent []) = fresh_run w h aw ah n v x s b [] e in
    record { head = r.head; reached = run_reached r.run }
panel_reached (PanelReached.next x s b before list c) = next_reached x s b (panel_reached before) list c
panel_reached (PanelReached.restored x s b file e) = restored_reached x s b file e

-- a run of demand 3 is one of them
pub panel_run_reached : {past : List Event} {x s b : List ℕ} {listing : Listing} → PanelRun past x s b listing → PanelReached x s b
panel_run_reached (PanelRun.fresh w h aw ah n v x s b e list) = PanelReached.fresh w h aw ah n v x s b e
panel_run_reached (PanelRun.next past x s b list r c k) = PanelReached.next x s b (panel_run_reached r) list c
panel_run_reached (PanelRun.restored earlier past g listing r buffer n w file f x s b e) = PanelReached.restored x s b file e
panel_run_reached (PanelRun.relent past x s b r list f) = panel_run_reached r

-- ---- what is told is what was issued

module _ {x s b : List ℕ} (r : PanelReached x s b) where
  pub reached_head : is_head x ≡ true
  reached_head = (panel_reached r).head

  pub sound_reached : Sound (atlas_of x s b)
  sound_reached = reached_sound (panel_reached r).reached

  -- treadwharf_is_sound returns true
  pub panel_sound : panel.is_sound x s b ≡ true
  unfolding panel.is_sound
  panel_sound = simp (reached_head, (sound_test (atlas_of x s b)).1 sound_reached)

  module _ (list : List Allocation) where
    -- the event read from the numbers told is that of the rules' call
    pub panel_event : (c : PanelCall) → NoRestart c x s b
        → event_of (asks c) (answer c x s b list).told ≡ (listed_step present (asks c) (lent x s b list)).event
    panel_event c k = (stepped x s b list reached_head sound_reached c k).event

    -- with an out slice that is long enough the numbers are what the rules' call says, of the reading calls too
    pub panel_heard : (c : PanelCall) → OutRoom c → heard (outs c) (answer c x s b list).told ≡ says_of c (lent x s b list)
    panel_heard = heard_says x s b list reached_head

    -- and a write's buffer is as the rules' write leaves it
    pub panel_file : (buffer out : List ℕ) → 1 ≤ length out
        → (panel.write present x s b list buffer out).text ≡ (listed.write present (lent x s b list) buffer).out
    panel_file = text_heard x s b list reached_head (listed.write present)

    -- so is a picture's
    pub panel_text : (text out : List ℕ) → 1 ≤ length out → (panel.picture x s b list text out).text ≡ (listed.picture (lent x s b list) text).out
    panel_text = text_heard x s b list reached_head listed.picture
