-- The ways through the functions: lent room too short or a header of no atlas, and the call. t is what the answer is in numbers.
use Prim.Native.Nat.{ℕ, ◌<◌, ◌≤◌}
use mathlib.Core.Bool.{Bool, true, false, ◌&&◌}
use mathlib.Core.Path.{◌≡◌, refl, sym, ap, ◌∙◌}
use mathlib.Core.List.{List, []}
use lib.IntN.{ℤ}
use lib.ListN.{length}
use borrow.Author.Tests.{lt-leb, le-leb}
use Rattle.std.specs.Prelude.{Result, Ok, Err, ⊤}
use Rattle.rules.specs.declared.Head.{Head}
use Rattle.rules.specs.declared.Allocation.{Allocation}
use Rattle.rules.specs.declared.Issued.{Issued}
use Rattle.rules.specs.declared.Refusal.{Refusal}
use Rattle.rules.specs.Tables.{atlas}
use Rattle.rules.specs.Left.{left_by, issued_by}
use Rattle.rules.specs.Sound as sound
use Rattle.rules.specs.Held as held
use Rattle.rules.specs.Calls as calls
use Rattle.rules.specs.Saving.{Saved, saved}
use Rattle.rules.specs.Files.{loaded}
use Rattle.rules.specs.Files as files
use Rattle.rules.specs.Listed.{Holding, holding, Ended, beside}
use Rattle.rules.specs.Listed as listed
use Rattle.telling.specs.Header.{is_head, has_room, read_head}
use Rattle.telling.specs.Told.{Told, told, new_told, issued_told, figure_told}
use Rattle.treadwharf.specs.Panel.{Back, back, filing, reply_back, placing_back, saved_filing, changing, reading, putting}
use Rattle.treadwharf.specs.Panel as panel

-- ---- new

module _ (width height align_width align_height columns : ℤ) (vertical : ℕ) (x s b : List ℕ) where
  pub new_short : length x < 12 → told 1 x [] ≡ panel.new width height align_width align_height columns vertical x s b
  unfolding panel.new
  new_short l = simp (lt-leb 12 (length x) l)

  pub new_told_law : (t : Told) (m : Result Head Refusal) → 12 ≤ length x → m ≡ calls.new width height align_width align_height columns vertical s b
      → t ≡ new_told m x → t ≡ panel.new width height align_width align_height columns vertical x s b
  unfolding panel.new
  new_told_law t m l e f = f ∙ simp (le-leb 12 (length x) l, e)

-- ---- a call that changes the header, the tables or the list

module _ (call : Holding → Ended (Result ⊤ Refusal)) (x s b : List ℕ) (list : List Allocation) where
  pub changing_no : is_head x ≡ false → back (told 1 x []) s b list ≡ changing call x s b list
  unfolding changing
  changing_no e = simp e

  answered : {o : Ended (Result ⊤ Refusal)} {t : Told} (head : Head) (s' b' : List ℕ) (list' : List Allocation) (a : Result Head Refusal)
      → beside (left_by head s' b' a) list' ≡ o → t ≡ new_told a x → back t s' b' list' ≡ reply_back o x
  answered head s' b' list' (Ok h) e f = rw (sym e, f) refl
  answered head s' b' list' (Err r) e f = rw (sym e, f) refl

  pub changing_yes : {head : Head} {s' b' : List ℕ} {list' : List Allocation} {t : Told} (a : Result Head Refusal) → is_head x ≡ true → head ≡ read_head x
      → beside (left_by head s' b' a) list' ≡ call (holding (atlas head s b) list) → t ≡ new_told a x → back t s' b' list' ≡ changing call x s b list
  unfolding changing
  changing_yes {head} {s'} {b'} {list'} a e q c f =
      answered head s' b' list' a c f ∙ ap (λ (h : Head). reply_back (call (holding (atlas h s b) list)) x) q ∙ simp e

-- ---- allocate

module _ (width height : ℤ) (x s b : List ℕ) (list : List Allocation) (out : List ℕ) where
  pub allocate_no : has_room x out 5 ≡ false → back (told 1 x out) s b list ≡ panel.allocate width height x s b list out
  unfolding panel.allocate
  allocate_no e = simp e

  issued : {o : Ended (Result Allocation Refusal)} {t : Told} (head : Head) (s' b' : List ℕ) (list' : List Allocation) (a : Result Issued Refusal)
      → beside (issued_by head s' b' a) list' ≡ o → t ≡ issued_told a x out → back t s' b' list' ≡ placing_back o x out
  issued head s' b' list' (Ok i) e f = rw (sym e, f) refl
  issued head s' b' list' (Err r) e f = rw (sym e, f) refl

  pub allocate_yes : {head : Head} {s' b' : List ℕ} {list' : List Allocation} {t : Told} (a : Result Issued Refusal) → has_room x out 5 ≡ true
      → head ≡ read_head x → beside (issued_by head s' b' a) list' ≡ listed.allocate width height (holding (atlas head s b) list)
      → t ≡ issued_told a x out → back t s' b' list' ≡ panel.allocate width height x s b list out
  unfolding panel.allocate
  allocate_yes {head} {s'} {b'} {list'} a e q c f =
      issued head s' b' list' a c f
      ∙ ap (λ (h : Head). placing_back (listed.allocate width height (holding (atlas h s b) list)) x out) q ∙ simp e

-- ---- the two tests

module _ (x s b : List ℕ) where
  pub sound_no : is_head x ≡ false → false ≡ panel.is_sound x s b
  unfolding panel.is_sound
  sound_no e = simp e

  pub sound_yes : {head : Head} {t : Bool} → is_head x ≡ true → head ≡ read_head x → t ≡ sound.is_sound (atlas head s b) → t ≡ panel.is_sound x s b
  unfolding panel.is_sound
  sound_yes e q f = f ∙ ap (λ (h : Head). sound.is_sound (atlas h s b)) q ∙ simp e

  pub fits_no : (list : List Allocation) → is_head x ≡ false → false ≡ panel.fits x s b list
  unfolding panel.fits panel.is_sound
  fits_no list e = simp e

  pub fits_yes : (list : List Allocation) {head : Head} {t : Bool} → is_head x ≡ true → head ≡ read_head x
      → t ≡ (sound.is_sound (atlas head s b) && held.fits (atlas head s b) list) → t ≡ panel.fits x s b list
  unfolding panel.fits panel.is_sound
  fits_yes list e q f = f ∙ ap (λ (h : Head). sound.is_sound (atlas h s b) && held.fits (atlas h s b) list) q ∙ simp e

-- ---- a call that reads, and one that puts a text into a buffer

module _ (x s b : List ℕ) (list : List Allocation) (out : List ℕ) where
  module _ {A : Type 0} (room : ℕ) (tell : A → List ℕ → List ℕ → Told) (call : Holding → A) where
    pub reading_no : has_room x out room ≡ false → told 1 x out ≡ reading room tell call x s b list out
    unfolding reading
    reading_no e = simp e

    pub reading_yes : {head : Head} {a : A} {t : Told} → has_room x out room ≡ true → head ≡ read_head x → a ≡ call (holding (atlas head s b) list)
        → t ≡ tell a x out → t ≡ reading room tell call x s b list out
    unfolding reading
    reading_yes e q c f =
        f ∙ ap (λ (a : A). tell a x out) c ∙ ap (λ (h : Head). tell (call (holding (atlas h s b) list)) x out) q ∙ simp e

  module _ (call : Holding → List ℕ → Saved) (text : List ℕ) where
    pub putting_no : has_room x out 1 ≡ false → filing (told 1 x out) text ≡ putting call x s b list text out
    unfolding putting
    putting_no e = simp e

    pub putting_yes : {head : Head} {text' : List ℕ} {t : Told} (a : Result ℕ Refusal) → has_room x out 1 ≡ true → head ≡ read_head x
        → saved a text' ≡ call (holding (atlas head s b) list) text → t ≡ figure_told a x out → filing t text' ≡ putting call x s b list text out
    unfolding putting
    putting_yes {head} {text'} {t} a e q c f =
        ap (λ (t : Told). filing t text') f ∙ told_saved a
        ∙ ap (λ (w : Saved). saved_filing w x out) c ∙ ap (λ (h : Head). saved_filing (call (holding (atlas h s b) list) text) x out) q ∙ simp e
      where
        told_saved : (a : Result ℕ Refusal) → filing (figure_told a x out) text' ≡ saved_filing (saved a text') x out
        told_saved (Ok n) = refl
        told_saved (Err r) = refl

-- ---- T-01: read

module _ (x s b file : List ℕ) where
  pub read_short : length x < 12 → back (told 1 x []) s b [] ≡ panel.read x s b file
  unfolding panel.read
  read_short l = simp (lt-leb 12 (length x) l)

  pub read_told : (s' b' : List ℕ) (t : Told) (m : Result Head Refusal) → 12 ≤ length x → loaded m s' b' ≡ files.read file s b → t ≡ new_told m x
      → back t s' b' [] ≡ panel.read x s b file
  unfolding panel.read
  read_told s' b' t m l c f = simp (le-leb 12 (length x) l, sym c, f)
