-- What is told is what was issued: on any header of 16 bit numbers, and with an out slice that is long enough, the number that a panel call
-- returns and, where it is 0, the numbers in the out slice are what the rules' call says in the numbers of its Answers: an accepted allocate's
-- five are the id and the rectangle, and any other number is that of the refusal.
use Prim.Native.Nat.{ℕ, ◌≤◌}
use mathlib.Core.Bool.{true}
use mathlib.Core.Path.{◌≡◌, refl}
use mathlib.Core.List.{List, [], ◌∷◌}
use native.Mathlib.Omega.{arith}
use borrow.Author.Tests.{le-leb, ne_eqb}
use lib.IntN.{ℤ}
use lib.ListN.{length, take}
use Rattle.rules.specs.declared.Head.{Head}
use Rattle.rules.specs.declared.Allocation.{Allocation}
use Rattle.rules.specs.declared.Refusal.{Refusal}
use Rattle.std.specs.Prelude.{if◌then◌else◌, Ok, Err, Result, ⊤, Bool}
use Rattle.rules.specs.Tables.{Atlas}
use Rattle.rules.specs.Answers.{number, refused, made_says, reply_says, placing_says, sides_says, flag_says, figure_says, written_says}
use Rattle.rules.specs.Sound.{is_sound}
use Rattle.rules.specs.Calls as calls
use Rattle.rules.specs.Builds.{present}
use Rattle.rules.specs.Saving.{Saved}
use Rattle.rules.specs.Files as files
use Rattle.rules.specs.Held.{fits}
use Rattle.rules.specs.Listed.{Holding, Ended, verdict, verdict_by, judged}
use Rattle.rules.specs.Listed as listed
use Rattle.laws.proofs.Tests.Flags.{split}
use Rattle.telling.specs.Header.{is_head, has_room, write_allocation}
use Rattle.telling.specs.Told.{Told, told, new_told, reply_told, placing_told, sides_told, flag_told, figure_told, written_told}
use Rattle.treadwharf.specs.Panel.{lent, changing, reading, putting}
use Rattle.treadwharf.specs.Panel as panel
use Rattle.boundary.specs.Calls.{PanelCall, OutRoom, answer, atlas_of, outs, heard, says_of, soundness, fitness}
use Rattle.boundary.proofs.ReadBack.{number_not_0}
use Rattle.boundary.proofs.Steps.{head_long}

-- ---- the answers

refused_heard : (k : ℕ) (r : Refusal) (x out : List ℕ) → heard k (told (number r) x out) ≡ refused r
unfolding heard
refused_heard k r x out = simp (ne_eqb (number r) 0 (number_not_0 r))

made_heard : (m : Result Head Refusal) (x : List ℕ) → heard 0 (new_told m x) ≡ made_says m
unfolding heard
made_heard (Ok h) x = refl
made_heard (Err r) x = refused_heard 0 r x []

reply_heard : (a : Result ⊤ Refusal) (h : Head) (x : List ℕ) → heard 0 (reply_told a h x) ≡ reply_says a
unfolding heard
reply_heard (Ok tt) h x = refl
reply_heard (Err r) h x = refused_heard 0 r x []

allocation_heard : (a : Allocation) (out : List ℕ) → 5 ≤ length out
    → take 5 (write_allocation a out) ≡ a.id ∷ a.rectangle.left ∷ a.rectangle.top ∷ a.rectangle.right ∷ a.rectangle.bottom ∷ []
unfolding write_allocation
allocation_heard a [] l = absurd (omega arith)
allocation_heard a (p ∷ []) l = absurd (omega arith)
allocation_heard a (p ∷ q ∷ []) l = absurd (omega arith)
allocation_heard a (p ∷ q ∷ r ∷ []) l = absurd (omega arith)
allocation_heard a (p ∷ q ∷ r ∷ t ∷ []) l = absurd (omega arith)
allocation_heard a (p ∷ q ∷ r ∷ t ∷ u ∷ out) l = refl

placing_heard : (a : Result Allocation Refusal) (h : Head) (x out : List ℕ) → 5 ≤ length out → heard 5 (placing_told a h x out) ≡ placing_says a
unfolding heard
placing_heard (Ok a) h x out l = rw (allocation_heard a out l)
placing_heard (Err r) h x out l = refused_heard 5 r x out

sides_heard : (a : Result (ℕ × ℕ) Refusal) (x out : List ℕ) → 2 ≤ length out → heard 2 (sides_told a x out) ≡ sides_says a
unfolding heard
sides_heard (Ok (w, h)) x [] l = absurd (omega arith)
sides_heard (Ok (w, h)) x (p ∷ []) l = absurd (omega arith)
sides_heard (Ok (w, h)) x (p ∷ q ∷ out) l = refl
sides_heard (Err r) x out l = refused_heard 2 r x out

flag_heard : (a : Result Bool Refusal) (x out : List ℕ) → 1 ≤ length out → heard 1 (flag_told a x out) ≡ flag_says a
unfolding heard
flag_heard (Ok t) x [] l = absurd (omega arith)
flag_heard (Ok t) x (p ∷ out) l = refl
flag_heard (Err r) x out l = refused_heard 1 r x out

figure_heard : (a : Result ℕ Refusal) (x out : List ℕ) → 1 ≤ length out → heard 1 (figure_told a x out) ≡ figure_says a
unfolding heard
figure_heard (Ok n) x [] l = absurd (omega arith)
figure_heard (Ok n) x (p ∷ out) l = refl
figure_heard (Err r) x out l = refused_heard 1 r x out

written_heard : (a : Result ℕ Refusal) (x out : List ℕ) → 1 ≤ length out → heard 1 (written_told a x out) ≡ written_says a
unfolding heard
written_heard (Ok n) x [] l = absurd (omega arith)
written_heard (Ok n) x (p ∷ out) l = refl
written_heard (Err r) x out l = refused_heard 1 r x out

-- ---- each call

module _ (x s b : List ℕ) (list : List Allocation) (e : is_head x ≡ true) where
  abbrev g : Atlas
  g = atlas_of x s b

  abbrev l : Holding
  l = lent x s b list

  new_heard : (w h aw ah n : ℤ) (v : ℕ) → heard 0 (panel.new w h aw ah n v x s b) ≡ made_says (calls.new w h aw ah n v s b)
  unfolding panel.new
  new_heard w h aw ah n v = simp (le-leb 12 (length x) (head_long x e)) (made_heard (calls.new w h aw ah n v s b) x)

  changing_heard : (call : Holding → Ended (Result ⊤ Refusal)) → heard 0 (changing call x s b list).told ≡ reply_says (call l).answer
  unfolding changing
  changing_heard call = simp e (reply_heard (call l).answer (call l).left.state.head x)

  allocate_heard : (w h : ℤ) (out : List ℕ) → 5 ≤ length out
      → heard 5 (panel.allocate w h x s b list out).told ≡ placing_says (listed.allocate w h l).answer
  unfolding panel.allocate has_room
  allocate_heard w h out k =
      let o : Ended (Result Allocation Refusal) = listed.allocate w h l in
      simp (e, le-leb 5 (length out) k) (placing_heard o.answer o.left.state.head x out k)

  soundness_heard : heard 0 (told (soundness x s b) x []) ≡ (if is_sound g then 0 else 1) ∷ []
  unfolding panel.is_sound heard
  soundness_heard = split (is_sound g) (λ q. simp (e, q)) (λ q. simp (e, q))

  fitness_heard : heard 0 (told (fitness x s b list) x []) ≡ judged number (λ n. 0) (verdict l) ∷ []
  unfolding panel.fits panel.is_sound heard verdict_by
  fitness_heard = split (is_sound g)
      (λ q. split (fits g list) (λ f. simp (e, q, f)) (λ f. simp (e, q, f)))
      (λ q. simp (e, q))

  reading_heard : {A : Type 0} (room : ℕ) (tell : A → List ℕ → List ℕ → Told) (call : Holding → A) (out : List ℕ) (says : List ℕ)
      → room ≤ length out → heard room (tell (call l) x out) ≡ says → heard room (reading room tell call x s b list out) ≡ says
  unfolding reading has_room
  reading_heard room tell call out says k q = simp (e, le-leb room (length out) k) q

  read_heard : (file : List ℕ) → heard 0 (panel.read x s b file).told ≡ made_says (files.read file s b).made
  unfolding panel.read
  read_heard file = simp (le-leb 12 (length x) (head_long x e)) (made_heard (files.read file s b).made x)

  putting_heard : (call : Holding → List ℕ → Saved) (text out : List ℕ) → 1 ≤ length out
      → heard 1 (putting call x s b list text out).told ≡ written_says (call l text).written
  unfolding putting has_room
  putting_heard call text out k = simp (e, le-leb 1 (length out) k) (written_heard (call l text).written x out k)

  -- and the buffer of a text is as the rules' call leaves it
  pub text_heard : (call : Holding → List ℕ → Saved) (text out : List ℕ) → 1 ≤ length out → (putting call x s b list text out).text ≡ (call l text).out
  unfolding putting has_room
  text_heard call text out k = simp (e, le-leb 1 (length out) k)

  pub heard_says : (c : PanelCall) → OutRoom c → heard (outs c) (answer c x s b list).told ≡ says_of c l
  heard_says (PanelCall.new w h aw ah n v) k = new_heard w h aw ah n v
  heard_says PanelCall.clear k = changing_heard listed.clear
  heard_says (PanelCall.grow w h) k = changing_heard (listed.grow w h)
  heard_says (PanelCall.allocate w h out) k = allocate_heard w h out k
  heard_says (PanelCall.deallocate id) k = changing_heard (listed.deallocate id)
  heard_says PanelCall.is_sound k = soundness_heard
  heard_says PanelCall.fits k = fitness_heard
  heard_says (PanelCall.size out) k = reading_heard 2 sides_told listed.size out _ k (sides_heard (listed.size l) x out k)
  heard_says (PanelCall.is_empty out) k = reading_heard 1 flag_told listed.is_empty out _ k (flag_heard (listed.is_empty l) x out k)
  heard_says (PanelCall.allocated_space out) k =
      reading_heard 1 figure_told listed.allocated_space out _ k (figure_heard (listed.allocated_space l) x out k)
  heard_says (PanelCall.free_space out) k = reading_heard 1 figure_told listed.free_space_of out _ k (figure_heard (listed.free_space_of l) x out k)
  heard_says (PanelCall.write file out) k = putting_heard (listed.write present) file out k
  heard_says (PanelCall.picture text out) k = putting_heard listed.picture text out k
  heard_says (PanelCall.read file) k = read_heard file
