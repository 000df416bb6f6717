-- To those who link the panel and lend what the last call left, with an out slice that is long enough, 1 is never returned, and 21 never: the tables
-- stay sound and the list fits them.
use Prim.Native.Nat.{ℕ, ◌<◌}
use mathlib.Core.Path.{◌≡◌, refl, sym, ◌∙◌}
use mathlib.Core.Logic.{◌≢◌, ◌⊎◌, inl, inr}
use mathlib.Core.Bool.{true}
use mathlib.Core.List.{List, [], ◌∷◌}
use native.Mathlib.Omega.{arith}
use borrow.Author.Tests.{leb-true, ne_eqb}
use lib.Dec.{eqb, leb}
use lib.ListN.{length}
use Rattle.rules.specs.declared.Allocation.{Allocation}
use Rattle.rules.specs.Tables.{Atlas}
use Rattle.rules.specs.Sound.{Sound, Lent, is_sound, is_lent}
use Rattle.rules.specs.Answers.{number, made_says}
use Rattle.rules.specs.Builds.{present}
use Rattle.rules.specs.Files.{Loaded, is_file, version_in, stored, read_sound}
use Rattle.rules.specs.Files as files
use Rattle.rules.specs.Listed.{Holding, holding}
use Rattle.rules.specs.History.{Event, Listing, Run}
use Rattle.laws.proofs.Tests.Flags.{split}
use Rattle.laws.proofs.Sound.Test.{lent_test, sound_test}
use Rattle.laws.proofs.Held.Ways.{tested_same}
use Rattle.promises.proofs.Exactly.{other, never}
use Rattle.promises.proofs.Unsaid.{new_unsaid}
use Rattle.promises.proofs.ListedRefusals.{tested_1, listed_clear, listed_reading, listed_grow, listed_deallocate, listed_allocate}
use Rattle.promises.proofs.ListedRefusals.{listed_write, listed_picture}
use Rattle.promises.proofs.Listing.{passing}
use Rattle.promises.proofs.History.{stays}
use Rattle.promises.proofs.Never.{sound_never_1, listed_never_21}
use Rattle.telling.specs.Header.{is_head, has_room}
use Rattle.telling.specs.Told.{Told}
use Rattle.treadwharf.specs.Panel.{lent, reading, putting}
use Rattle.treadwharf.specs.Panel as panel
use Rattle.boundary.specs.Calls.{PanelCall, PanelRun, PanelReached, OfRead, OutRoom, answer, outs, heard, says_of}
use Rattle.boundary.proofs.Runs.{panel_run, panel_run_reached, sound_reached, panel_heard}

-- a refusal heard
heard_refused : (n k : ℕ) (t : Told) → n ≢ 0 → t.number ≡ n → heard k t ≡ n ∷ []
unfolding heard
heard_refused n k t ne e = rw e (simp (ne_eqb n 0 ne))

-- ---- 1

-- of a read, where what is in the bytes is sound
read_1 : (file s b : List ℕ) → Lent s b → Sound (stored present file s b) → made_says (files.read file s b).made ≢ 1 ∷ []
unfolding files.read_by read_sound
read_1 file s b l p = simp ((lent_test s b).shown l, (sound_test (stored present file s b)).1 p)
    (never (λ (d : Loaded). made_says d.made) 1 (is_file file) _ _
    (never (λ (d : Loaded). made_says d.made) 1 (eqb (version_in file) 1) _ _ (other refl) (other refl)) (other refl))

says_1 : (l : Holding) → Sound l.state → (c : PanelCall) → OfRead (λ file. Sound (stored present file l.state.shelves l.state.buckets)) c
    → says_of c l ≢ 1 ∷ []
says_1 l p (PanelCall.new w h aw ah n v) k = (sound_never_1 p).new w h aw ah n v
says_1 l p PanelCall.clear k = λ e. (listed_clear l).one.only e p
says_1 l p (PanelCall.grow w h) k = λ e. (listed_grow w h l).one.only e p
says_1 l p (PanelCall.allocate w h out) k = λ e. (listed_allocate w h l).one.only e p
says_1 l p (PanelCall.deallocate id) k = λ e. (listed_deallocate id l).one.only e p
says_1 l p PanelCall.is_sound k = simp ((sound_test l.state).1 p) (other refl)
says_1 l p PanelCall.fits k = λ e. (tested_1 present (λ (n : ℕ). n ∷ []) number (λ r. refl) l 0 (λ z. absurd (other refl z))).only e p
says_1 l p (PanelCall.size out) k = λ e. (listed_reading l).size_one.only e p
says_1 l p (PanelCall.is_empty out) k = λ e. (listed_reading l).empty_one.only e p
says_1 l p (PanelCall.allocated_space out) k = λ e. (listed_reading l).allocated_one.only e p
says_1 l p (PanelCall.free_space out) k = λ e. (listed_reading l).free_one.only e p
says_1 l p (PanelCall.write file out) k = λ e. (listed_write present l file).one.only e p
says_1 l p (PanelCall.picture text out) k = λ e. (listed_picture l text).one.only e p
says_1 l p (PanelCall.read file) k = read_1 file l.state.shelves l.state.buckets p.steady.lent k

-- whatever is called next, with whatever list; of a read, where what is in the bytes is sound
pub panel_never_1 : {x s b : List ℕ} → PanelReached x s b → (list : List Allocation) (c : PanelCall) → OutRoom c
    → OfRead (λ file. Sound (stored present file s b)) c → (answer c x s b list).told.number ≢ 1
panel_never_1 {x} {s} {b} r list c l k e =
    says_1 (lent x s b list) (sound_reached r) c k
    (sym (panel_heard r list c l) ∙ heard_refused 1 (outs c) (answer c x s b list).told (λ z. omega arith) e)

-- ---- 21

read_21 : (file s b : List ℕ) → made_says (files.read file s b).made ≢ 21 ∷ []
unfolding files.read_by read_sound
read_21 file s b =
    let says : Loaded → List ℕ = λ d. made_says d.made in
    never says 21 (is_lent s b) _ _
    (never says 21 (is_file file) _ _
    (never says 21 (eqb (version_in file) 1) _ _ (never says 21 (is_sound (stored present file s b)) _ _ (other refl) (other refl)) (other refl)) (other refl))
    (other refl)

says_21 : {past : List Event} {g : Atlas} {list : List Allocation} → Run present past g (Listing.lent list) → (c : PanelCall)
    → says_of c (holding g list) ≢ 21 ∷ []
says_21 {g = g} r (PanelCall.new w h aw ah n v) = new_unsaid 21 (inl (let q : 12 < 21 = omega arith in q)) w h aw ah n v g.shelves g.buckets
says_21 r PanelCall.clear = (listed_never_21 r).clear
says_21 r (PanelCall.grow w h) = (listed_never_21 r).grow w h
says_21 r (PanelCall.allocate w h out) = (listed_never_21 r).allocate w h
says_21 r (PanelCall.deallocate id) = (listed_never_21 r).deallocate id
says_21 {g = g} r PanelCall.is_sound = never (λ (n : ℕ). n ∷ []) 21 (is_sound g) _ _ (other refl) (other refl)
says_21 {g = g} {list} r PanelCall.fits = rw (tested_same number 0 (holding g list) (passing (stays r))) (other refl)
says_21 r (PanelCall.size out) = (listed_never_21 r).size
says_21 r (PanelCall.is_empty out) = (listed_never_21 r).is_empty
says_21 r (PanelCall.allocated_space out) = (listed_never_21 r).allocated
says_21 r (PanelCall.free_space out) = (listed_never_21 r).free
says_21 r (PanelCall.write file out) = (listed_never_21 r).write file
says_21 r (PanelCall.picture text out) = (listed_never_21 r).picture text
says_21 {g = g} r (PanelCall.read file) = read_21 file g.shelves g.buckets

-- an out slice that is too short is refused as 1
module _ (x s b : List ℕ) (list : List Allocation) (e : is_head x ≡ true) where
  abbrev Long : PanelCall → Type 0
  Long c = OutRoom c ⊎ ((answer c x s b list).told.number ≡ 1)

  reading_long : {A : Type 0} (room : ℕ) (tell : A → List ℕ → List ℕ → Told) (call : Holding → A) (out : List ℕ) {R : Type 0}
      → (leb room (length out) ≡ true → R) → R ⊎ ((reading room tell call x s b list out).number ≡ 1)
  unfolding reading has_room
  reading_long room tell call out f = split (leb room (length out)) (λ q. inl (f q)) (λ q. inr (simp (e, q)))

  long : (c : PanelCall) → Long c
  unfolding panel.allocate putting has_room
  long (PanelCall.new w h aw ah n v) = inl tt
  long PanelCall.clear = inl tt
  long (PanelCall.grow w h) = inl tt
  long (PanelCall.allocate w h out) = split (leb 5 (length out)) (λ q. inl (leb-true 5 (length out) q)) (λ q. inr (simp (e, q)))
  long (PanelCall.deallocate id) = inl tt
  long PanelCall.is_sound = inl tt
  long PanelCall.fits = inl tt
  long (PanelCall.size out) = reading_long 2 _ _ out (leb-true 2 (length out))
  long (PanelCall.is_empty out) = reading_long 1 _ _ out (leb-true 1 (length out))
  long (PanelCall.allocated_space out) = reading_long 1 _ _ out (leb-true 1 (length out))
  long (PanelCall.free_space out) = reading_long 1 _ _ out (leb-true 1 (length out))
  long (PanelCall.write file out) = split (leb 1 (length out)) (λ q. inl (leb-true 1 (length out) q)) (λ q. inr (simp (e, q)))
  long (PanelCall.picture text out) = split (leb 1 (length out)) (λ q. inl (leb-true 1 (length out) q)) (λ q. inr (simp (e, q)))
  long (PanelCall.read file) = inl tt

-- whatever is called next, with the list as the last call left it or lent anew
pub panel_never_21 : {past : List Event} {x s b : List ℕ} {list : List Allocation} → PanelRun past x s b (Listing.lent list) → (c : PanelCall)
    → (answer c x s b list).told.number ≢ 21
panel_never_21 {past} {x} {s} {b} {list} r c e =
    told (long x s b list (panel_run r).head c)
  where
    told : OutRoom c ⊎ ((answer c x s b list).told.number ≡ 1) → ⊥
    told (inl l) = says_21 (panel_run r).run c (sym (panel_heard (panel_run_reached r) list c l)
        ∙ heard_refused 21 (outs c) (answer c x s b list).told (λ z. omega arith) e)
    told (inr q) = let z : ◌≡◌ {A = ℕ} 1 21 = sym q ∙ e in omega arith
