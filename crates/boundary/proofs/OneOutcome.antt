-- "no second outcome meets it": of each exported function, two answers that both meet the equation of its contract (treadwharf/src/lib.rt) are the
-- same number, the same header, the same out slice, the same tables, the same list and the same buffer of a text. What a function can not write is
-- as it came in, and is not named.
use Prim.Native.Nat.{ℕ}
use mathlib.Core.Bool.{Bool}
use mathlib.Core.Path.{◌≡◌, sym, ap, ◌∙◌}
use mathlib.Core.List.{List, []}
use lib.IntN.{ℤ}
use Rattle.rules.specs.declared.Allocation.{Allocation}
use Rattle.telling.specs.Told.{Told, told}
use Rattle.rules.specs.Builds.{present}
use Rattle.treadwharf.specs.Panel.{Back, back, Filing, filing}
use Rattle.treadwharf.specs.Panel as panel

-- the number, the header and the out slice
pub record SameTold (n n' : ℕ) (x x' o o' : List ℕ) : Type 0 where
  pub number : n ≡ n'
  pub header : x ≡ x'
  pub out : o ≡ o'

-- and the tables and the list
pub record SameBack (n n' : ℕ) (x x' o o' s s' b b' : List ℕ) (l l' : List Allocation) : Type 0 where
  pub told : SameTold n n' x x' o o'
  pub shelves : s ≡ s'
  pub buckets : b ≡ b'
  pub list : l ≡ l'

-- and the buffer of a text
pub record SameFiling (n n' : ℕ) (x x' o o' t t' : List ℕ) : Type 0 where
  pub told : SameTold n n' x x' o o'
  pub text : t ≡ t'

same_told : {n n' : ℕ} {x x' out out' : List ℕ} → told n x out ≡ told n' x' out' → SameTold n n' x x' out out'
same_told e = record { number = ap (λ (t : Told). t.number) e; header = ap (λ (t : Told). t.header) e; out = ap (λ (t : Told). t.out) e }

one_told : (rule : Told) (n n' : ℕ) (x x' out out' : List ℕ) → told n x out ≡ rule → told n' x' out' ≡ rule
    → SameTold n n' x x' out out'
one_told rule n n' x x' out out' p q = same_told (p ∙ sym q)

one_back : (rule : Back) (n n' : ℕ) (x x' out out' s s' b b' : List ℕ) (l l' : List Allocation) → back (told n x out) s b l ≡ rule
    → back (told n' x' out') s' b' l' ≡ rule → SameBack n n' x x' out out' s s' b b' l l'
one_back rule n n' x x' out out' s s' b b' l l' p q =
    let e : back (told n x out) s b l ≡ back (told n' x' out') s' b' l' = p ∙ sym q in
    record {
      told = same_told (ap (λ (r : Back). r.told) e);
      shelves = ap (λ (r : Back). r.shelves) e;
      buckets = ap (λ (r : Back). r.buckets) e;
      list = ap (λ (r : Back). r.list) e;
    }

one_filing : (rule : Filing) (n n' : ℕ) (x x' out out' text text' : List ℕ) → filing (told n x out) text ≡ rule
    → filing (told n' x' out') text' ≡ rule → SameFiling n n' x x' out out' text text'
one_filing rule n n' x x' out out' text text' p q =
    let e : filing (told n x out) text ≡ filing (told n' x' out') text' = p ∙ sym q in
    record { told = same_told (ap (λ (r : Filing). r.told) e); text = ap (λ (r : Filing). r.text) e }

-- what is lent is only read, and a bool is handed back
pub panel_is_sound_one : (x s b : List ℕ) (r r'' : Bool) → r ≡ panel.is_sound x s b → r'' ≡ panel.is_sound x s b → r ≡ r''
panel_is_sound_one x s b r r'' p q = p ∙ sym q

pub panel_fits_one : (x s b : List ℕ) (l : List Allocation) (r r'' : Bool) → r ≡ panel.fits x s b l → r'' ≡ panel.fits x s b l → r ≡ r''
panel_fits_one x s b l r r'' p q = p ∙ sym q

-- x, s, b, l and, where one is lent, out are what was lent to the function; n, x', out', s', b', l' one answer, n'', x'', out'', s'', b'', l'' another
module _ (x s b : List ℕ) (n n'' : ℕ) where
  module _ (x' x'' : List ℕ) where
    -- no list is lent
    pub panel_new_one : (width height align_width align_height columns : ℤ) (vertical : ℕ)
        → told n x' [] ≡ panel.new width height align_width align_height columns vertical x s b
        → told n'' x'' [] ≡ panel.new width height align_width align_height columns vertical x s b → SameTold n n'' x' x'' [] []
    panel_new_one width height align_width align_height columns vertical =
        one_told (panel.new width height align_width align_height columns vertical x s b) n n'' x' x'' [] []

    -- nor here; the file is only read
    pub panel_read_one : (s' s'' b' b'' file : List ℕ) → back (told n x' []) s' b' [] ≡ panel.read x s b file
        → back (told n'' x'' []) s'' b'' [] ≡ panel.read x s b file → SameBack n n'' x' x'' [] [] s' s'' b' b'' [] []
    panel_read_one s' s'' b' b'' file = one_back (panel.read x s b file) n n'' x' x'' [] [] s' s'' b' b'' [] []

  module _ (l : List Allocation) (x' x'' : List ℕ) where
    -- tables and list are only read
    pub panel_clear_one : back (told n x' []) s b l ≡ panel.clear x s b l → back (told n'' x'' []) s b l ≡ panel.clear x s b l
        → SameBack n n'' x' x'' [] [] s s b b l l
    panel_clear_one = one_back (panel.clear x s b l) n n'' x' x'' [] [] s s b b l l

    -- the shelf table is only read
    pub panel_deallocate_one : (b' b'' : List ℕ) (l' l'' : List Allocation) (id : ℕ) → back (told n x' []) s b' l' ≡ panel.deallocate id x s b l
        → back (told n'' x'' []) s b'' l'' ≡ panel.deallocate id x s b l → SameBack n n'' x' x'' [] [] s s b' b'' l' l''
    panel_deallocate_one b' b'' l' l'' id = one_back (panel.deallocate id x s b l) n n'' x' x'' [] [] s s b' b'' l' l''

    module _ (s' s'' b' b'' : List ℕ) (width height : ℤ) where
      -- the list is only read
      pub panel_grow_one : back (told n x' []) s' b' l ≡ panel.grow width height x s b l
          → back (told n'' x'' []) s'' b'' l ≡ panel.grow width height x s b l → SameBack n n'' x' x'' [] [] s' s'' b' b'' l l
      panel_grow_one = one_back (panel.grow width height x s b l) n n'' x' x'' [] [] s' s'' b' b'' l l

      pub panel_allocate_one : (out out' out'' : List ℕ) (l' l'' : List Allocation)
          → back (told n x' out') s' b' l' ≡ panel.allocate width height x s b l out
          → back (told n'' x'' out'') s'' b'' l'' ≡ panel.allocate width height x s b l out → SameBack n n'' x' x'' out' out'' s' s'' b' b'' l' l''
      panel_allocate_one out out' out'' = one_back (panel.allocate width height x s b l out) n n'' x' x'' out' out'' s' s'' b' b''

  -- header, tables and list are only read
  module _ (l : List Allocation) (out out' out'' : List ℕ) where
    pub panel_size_one : told n x out' ≡ panel.size x s b l out → told n'' x out'' ≡ panel.size x s b l out → SameTold n n'' x x out' out''
    panel_size_one = one_told (panel.size x s b l out) n n'' x x out' out''

    pub panel_is_empty_one : told n x out' ≡ panel.is_empty x s b l out → told n'' x out'' ≡ panel.is_empty x s b l out → SameTold n n'' x x out' out''
    panel_is_empty_one = one_told (panel.is_empty x s b l out) n n'' x x out' out''

    pub panel_allocated_space_one : told n x out' ≡ panel.allocated_space x s b l out → told n'' x out'' ≡ panel.allocated_space x s b l out
        → SameTold n n'' x x out' out''
    panel_allocated_space_one = one_told (panel.allocated_space x s b l out) n n'' x x out' out''

    pub panel_free_space_one : told n x out' ≡ panel.free_space x s b l out → told n'' x out'' ≡ panel.free_space x s b l out
        → SameTold n n'' x x out' out''
    panel_free_space_one = one_told (panel.free_space x s b l out) n n'' x x out' out''

    pub panel_write_one : (file file' file'' : List ℕ) → filing (told n x out') file' ≡ panel.write present x s b l file out
        → filing (told n'' x out'') file'' ≡ panel.write present x s b l file out → SameFiling n n'' x x out' out'' file' file''
    panel_write_one file file' file'' = one_filing (panel.write present x s b l file out) n n'' x x out' out'' file' file''

    pub panel_picture_one : (text text' text'' : List ℕ) → filing (told n x out') text' ≡ panel.picture x s b l text out
        → filing (told n'' x out'') text'' ≡ panel.picture x s b l text out → SameFiling n n'' x x out' out'' text' text''
    panel_picture_one text text' text'' = one_filing (panel.picture x s b l text out) n n'' x x out' out'' text' text''
