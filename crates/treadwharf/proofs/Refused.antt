-- A number other than 0 is a refusal: the header's numbers, the out slice, the tables, every entry of the list and the buffer of a text are as they were.
use Rattle.rules.specs.declared.Head.{Head}
use Prim.Native.Nat.{ℕ}
use mathlib.Core.Path.{◌≡◌, refl}
use mathlib.Core.Logic.{◌≢◌}
use mathlib.Core.Bool.{Bool}
use mathlib.Core.List.{List, []}
use lib.Dec.{leb}
use lib.IntN.{ℤ}
use lib.ListN.{length}
use Rattle.rules.specs.declared.Allocation.{Allocation}
use Rattle.rules.specs.declared.Refusal.{Refusal}
use Rattle.std.specs.Prelude.{if◌then◌else◌, Ok, Err, Result, ⊤}
use Rattle.rules.specs.Tables.{Atlas, Outcome}
use Rattle.rules.specs.Calls as calls
use Rattle.rules.specs.Builds.{present}
use Rattle.rules.specs.Saving.{Saved, saved, saving}
use Rattle.rules.specs.Files.{file_of}
use Rattle.rules.specs.Picture.{picture_of}
use Rattle.rules.specs.Listed.{Holding, Ended, refusing, tested, beside, enter, leave}
use Rattle.rules.specs.Listed as listed
use Rattle.laws.proofs.Tests.Flags.{split}
use Rattle.laws.proofs.Files.Saving.{saving_ways}
use Rattle.laws.proofs.Files.Ways.{read_ways}
use Rattle.laws.proofs.Calls.Ways.{clear_ways, grow_ways}
use Rattle.laws.proofs.Held.Ways.{tested_ways, enter_ways, leave_ways}
use Rattle.telling.specs.Header.{is_head, has_room}
use Rattle.telling.specs.Told.{Told, told, new_told, sides_told, flag_told, figure_told}
use Rattle.treadwharf.specs.Panel.{Back, back, Filing, filing, lent, reply_back, placing_back, saved_filing, loaded_back, changing, reading}
use Rattle.treadwharf.specs.Panel as panel

-- the header's numbers and the out slice
pub record Unwritten (x out : List ℕ) (t : Told) : Type 0 where
  pub same : t.number ≢ 0 → t ≡ told t.number x out

-- and the tables and the list
pub record KeptAll (x out s b : List ℕ) (list : List Allocation) (r : Back) : Type 0 where
  pub same : r.told.number ≢ 0 → r ≡ back (told r.told.number x out) s b list

-- and the buffer
pub record KeptText (x out text : List ℕ) (r : Filing) : Type 0 where
  pub same : r.told.number ≢ 0 → r ≡ filing (told r.told.number x out) text

-- ---- the answers

new_told_law : (m : Result Head Refusal) (x : List ℕ) → Unwritten x [] (new_told m x)
new_told_law (Ok h) x = record { same = λ n. absurd (n refl) }
new_told_law (Err r) x = record { same = λ n. refl }

sides_told_law : (a : Result (ℕ × ℕ) Refusal) (x out : List ℕ) → Unwritten x out (sides_told a x out)
sides_told_law (Ok (w, h)) x out = record { same = λ n. absurd (n refl) }
sides_told_law (Err r) x out = record { same = λ n. refl }

flag_told_law : (a : Result Bool Refusal) (x out : List ℕ) → Unwritten x out (flag_told a x out)
flag_told_law (Ok t) x out = record { same = λ n. absurd (n refl) }
flag_told_law (Err r) x out = record { same = λ n. refl }

figure_told_law : (a : Result ℕ Refusal) (x out : List ℕ) → Unwritten x out (figure_told a x out)
figure_told_law (Ok k) x out = record { same = λ n. absurd (n refl) }
figure_told_law (Err r) x out = record { same = λ n. refl }

-- room too short, or a header of no atlas: 1, with nothing written
or_short : (t : Bool) (x out : List ℕ) (r : Told) → Unwritten x out r → Unwritten x out (if t then r else told 1 x out)
or_short t x out r k = split t (λ e. simp e k) (λ e. simp e (record { same = λ n. refl }))

or_short_all : (t : Bool) (x out s b : List ℕ) (list : List Allocation) (r : Back) → KeptAll x out s b list r
    → KeptAll x out s b list (if t then r else back (told 1 x out) s b list)
or_short_all t x out s b list r k = split t (λ e. simp e k) (λ e. simp e (record { same = λ n. refl }))

-- ---- each function

pub new_kept : (width height align_width align_height columns : ℤ) (vertical : ℕ) (x s b : List ℕ)
    → Unwritten x [] (panel.new width height align_width align_height columns vertical x s b)
unfolding panel.new
new_kept width height align_width align_height columns vertical x s b =
    or_short (leb 12 (length x)) x [] _ (new_told_law (calls.new width height align_width align_height columns vertical s b) x)

-- a call that changes the tables or the list, by what its answer keeps
changing_kept : (call : Holding → Ended (Result ⊤ Refusal)) (x s b : List ℕ) (list : List Allocation)
    → KeptAll x [] s b list (reply_back (call (lent x s b list)) x) → KeptAll x [] s b list (changing call x s b list)
unfolding changing
changing_kept call x s b list k = or_short_all (is_head x) x [] s b list _ k

-- a call that reads, by what its answer keeps
reading_kept : {A : Type 0} (room : ℕ) (tell : A → List ℕ → List ℕ → Told) (call : Holding → A) (x s b : List ℕ) (list : List Allocation) (out : List ℕ)
    → ((a : A) → Unwritten x out (tell a x out)) → Unwritten x out (reading room tell call x s b list out)
unfolding reading
reading_kept room tell call x s b list out k = or_short (has_room x out room) x out _ (k (call (lent x s b list)))

module _ (x s b : List ℕ) (list : List Allocation) where
  abbrev l : Holding
  l = lent x s b list

  abbrev g : Atlas
  g = l.state

  abbrev Kept : Ended (Result ⊤ Refusal) → Type 0
  Kept o = KeptAll x [] s b list (reply_back o x)

  pub clear_kept : KeptAll x [] s b list (panel.clear x s b list)
  unfolding listed.clear_by
  clear_kept =
      changing_kept listed.clear x s b list
      (tested_ways present Kept (refusing Err l) (beside (calls.clear g) list) l (λ r. record { same = λ n. refl }) (λ p.
      clear_ways present (λ o. Kept (beside o list)) g (λ r. record { same = λ n. refl }) (λ e. record { same = λ n. absurd (n refl) })))

  pub grow_kept : (width height : ℤ) → KeptAll x [] s b list (panel.grow width height x s b list)
  unfolding listed.grow_by
  grow_kept width height =
      changing_kept (listed.grow width height) x s b list
      (tested_ways present Kept (refusing Err l) (beside (calls.grow width height g) list) l (λ r. record { same = λ n. refl }) (λ p.
      grow_ways present (λ o. Kept (beside o list)) width height g (λ r. record { same = λ n. refl }) (λ e. record { same = λ n. absurd (n refl) })))

  pub deallocate_kept : (id : ℕ) → KeptAll x [] s b list (panel.deallocate id x s b list)
  unfolding listed.deallocate_by
  deallocate_kept id =
      let o : Outcome (Result ⊤ Refusal) = calls.deallocate id g in
      changing_kept (listed.deallocate id) x s b list
      (tested_ways present Kept (refusing Err l) (leave id o.answer o.state l) l (λ r. record { same = λ n. refl }) (λ p.
      leave_ways Kept id o.answer o.state l (λ r. record { same = λ n. refl }) (λ e m. record { same = λ n. absurd (n refl) })))

  module _ (out : List ℕ) where
    pub allocate_kept : (width height : ℤ) → KeptAll x out s b list (panel.allocate width height x s b list out)
    unfolding panel.allocate listed.allocate_by
    allocate_kept width height =
        let o : Outcome (Result Allocation Refusal) = calls.allocate width height g in
        let P : Ended (Result Allocation Refusal) → Type 0 = λ z. KeptAll x out s b list (placing_back z x out) in
        or_short_all (has_room x out 5) x out s b list _
        (tested_ways present P (refusing Err l) (enter o.answer o.state l) l (λ r. record { same = λ n. refl }) (λ p.
        enter_ways P o.answer o.state l (λ r. record { same = λ n. refl }) (λ a e m. record { same = λ n. absurd (n refl) })))

    pub size_kept : Unwritten x out (panel.size x s b list out)
    size_kept = reading_kept 2 sides_told listed.size x s b list out (λ a. sides_told_law a x out)

    pub is_empty_kept : Unwritten x out (panel.is_empty x s b list out)
    is_empty_kept = reading_kept 1 flag_told listed.is_empty x s b list out (λ a. flag_told_law a x out)

    pub allocated_space_kept : Unwritten x out (panel.allocated_space x s b list out)
    allocated_space_kept = reading_kept 1 figure_told listed.allocated_space x s b list out (λ a. figure_told_law a x out)

    pub free_space_kept : Unwritten x out (panel.free_space x s b list out)
    free_space_kept = reading_kept 1 figure_told listed.free_space_of x s b list out (λ a. figure_told_law a x out)

    -- a text that is put into a buffer, with the list tested before
    putting_kept : (call : Holding → List ℕ → Saved) (short : Refusal) (bytes text : List ℕ)
        → call l text ≡ tested (λ r. saved (Err r) text) (saving present short g bytes text) l
        → KeptText x out text (panel.putting call x s b list text out)
    unfolding panel.putting
    putting_kept call short bytes text is =
        let P : Saved → Type 0 = λ w. KeptText x out text (saved_filing w x out) in
        split (has_room x out 1)
        (λ e. simp (e, is)
        (tested_ways present P (λ r. saved (Err r) text) (saving present short g bytes text) l (λ r. record { same = λ n. refl }) (λ p.
        saving_ways present P short g bytes text (λ r. record { same = λ n. refl }) (λ k. record { same = λ n. absurd (n refl) }))))
        (λ e. simp e (record { same = λ n. refl }))

    -- T-01
    pub write_kept : (file : List ℕ) → KeptText x out file (panel.write present x s b list file out)
    unfolding listed.write
    write_kept file = putting_kept (listed.write present) Refusal.Buffer (file_of present g) file refl

    -- T-07
    pub picture_kept : (text : List ℕ) → KeptText x out text (panel.picture x s b list text out)
    unfolding listed.picture
    picture_kept text = putting_kept listed.picture Refusal.Output (picture_of g) text refl

-- no list is lent to a read
pub read_kept : (x s b file : List ℕ) → KeptAll x [] s b [] (panel.read x s b file)
unfolding panel.read
read_kept x s b file = or_short_all (leb 12 (length x)) x [] s b [] _ (read_ways present (λ l. KeptAll x [] s b [] (loaded_back l x)) file s b
    (λ r. record { same = λ n. refl }) (λ k. record { same = λ n. absurd (n refl) }))
