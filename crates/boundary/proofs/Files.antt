-- The bytes that an accepted treadwharf_write or treadwharf_picture told of are those of the rules' call, and the header and tables that an accepted
-- treadwharf_read leaves, read as an atlas, are the state that the rules' read leaves. Each is accepted where the rules' is, given room.
use Rattle.std.specs.Prelude.{Ok, Err, Result}
use Rattle.rules.specs.declared.Refusal.{Refusal}
use Prim.Native.Nat.{ℕ, ◌≤◌}
use mathlib.Core.Bool.{true}
use mathlib.Core.Path.{◌≡◌, refl, ap}
use mathlib.Core.List.{List, [], ◌∷◌}
use native.Mathlib.Omega.{arith}
use borrow.Author.Tests.{le-leb, leb-true}
use lib.Dec.{leb}
use lib.ListN.{length, get_or, set, take}
use Rattle.rules.specs.declared.Allocation.{Allocation}
use Rattle.rules.specs.declared.Head.{Head}
use Rattle.rules.specs.Saving.{Saved}
use Rattle.rules.specs.Files as files
use Rattle.rules.specs.Builds.{present}
use Rattle.rules.specs.Listed.{Holding}
use Rattle.rules.specs.History.{file_in, read_into}
use Rattle.laws.proofs.Tests.Flags.{split}
use Rattle.promises.proofs.Files.{read_sound_law}
use Rattle.telling.specs.Header.{is_head, has_room}
use Rattle.telling.specs.Told.{new_told, written_told}
use Rattle.treadwharf.specs.Panel.{Back, back, Filing, filing, lent, putting}
use Rattle.treadwharf.specs.Panel as panel
use Rattle.boundary.specs.Calls.{atlas_of, text_told}
use Rattle.boundary.proofs.Heads.{read_written, is_written, sound_sixteen}
use Rattle.boundary.proofs.ReadBack.{number_not_0}

-- room too short is told as 1
not_0 : {A : Type 0} → ◌≡◌ {A = ℕ} 1 0 → A
not_0 z = absurd (omega arith)

-- ---- a text of the atlas: a write's, a picture's

-- the call was accepted with so many bytes, and they are the text that was told of
pub record WroteText (call : Holding → List ℕ → Saved) (l : Holding) (buffer : List ℕ) (f : Filing) : Type 0 where
  pub bytes : ℕ
  pub written : (call l buffer).written ≡ Ok bytes
  pub text : text_told f ≡ file_in (call l buffer) bytes

first_set : (out : List ℕ) (n : ℕ) → 1 ≤ length out → get_or (set out 0 n) 0 0 ≡ n
first_set [] n l = absurd (omega arith)
first_set (k ∷ out) n l = refl

module _ (call : Holding → List ℕ → Saved) (x s b : List ℕ) (list : List Allocation) (buffer out : List ℕ) where
  abbrev l : Holding
  l = lent x s b list

  bytes_told : (w : Result ℕ Refusal) → (call l buffer).written ≡ w → 1 ≤ length out → (written_told w x out).number ≡ 0
      → WroteText call l buffer (filing (written_told w x out) (call l buffer).out)
  bytes_told (Ok n) q k z = record {
    bytes = n;
    written = q;
    text = ap (λ (j : ℕ). take j (call l buffer).out) (first_set out n k);
  }
  bytes_told (Err r) q k z = absurd (number_not_0 r z)

  pub wrote_text : is_head x ≡ true → (putting call x s b list buffer out).told.number ≡ 0 → WroteText call l buffer (putting call x s b list buffer out)
  unfolding putting has_room
  wrote_text e = split (leb 1 (length out))
      (λ k. simp (e, k) (bytes_told (call l buffer).written refl (leb-true 1 (length out) k)))
      (λ k. simp (e, k) not_0)

  pub text_accepted : (n : ℕ) → is_head x ≡ true → 1 ≤ length out → (call l buffer).written ≡ Ok n
      → (putting call x s b list buffer out).told.number ≡ 0
  unfolding putting has_room
  text_accepted n e k w = simp (e, le-leb 1 (length out) k, w)

-- ---- read

-- the read was accepted with that header, and is what is left
pub record ReadIn (s b file : List ℕ) (r : Back) : Type 0 where
  pub head : Head
  pub made : (files.read file s b).made ≡ Ok head
  pub is : is_head r.told.header ≡ true
  pub state : atlas_of r.told.header r.shelves r.buckets ≡ read_into head (files.read file s b)

module _ (x s b file : List ℕ) where
  made_in : (m : Result Head Refusal) → (files.read file s b).made ≡ m → 12 ≤ length x → (new_told m x).number ≡ 0
      → ReadIn s b file (back (new_told m x) (files.read file s b).shelves (files.read file s b).buckets [])
  made_in (Ok head) q k z = record {
    head = head;
    made = q;
    is = is_written head x k (sound_sixteen (read_sound_law present file s b head q));
    state = ap (λ (h : Head). read_into h (files.read file s b)) (read_written head x k);
  }
  made_in (Err r) q k z = absurd (number_not_0 r z)

  pub read_in : (panel.read x s b file).told.number ≡ 0 → ReadIn s b file (panel.read x s b file)
  unfolding panel.read
  read_in = split (leb 12 (length x))
      (λ k. simp k (made_in (files.read file s b).made refl (leb-true 12 (length x) k)))
      (λ k. simp k not_0)

  pub read_accepted : (head : Head) → 12 ≤ length x → (files.read file s b).made ≡ Ok head → (panel.read x s b file).told.number ≡ 0
  unfolding panel.read
  read_accepted head k m = simp (le-leb 12 (length x) k, m)
