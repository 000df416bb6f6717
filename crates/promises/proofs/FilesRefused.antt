-- T-01: which bytes are a file, and when a write and a read are refused, with which number and in which order. A refusal changes nothing.
-- What is written, and what is read of it, is in Files.
use Prim.Native.Nat.{ℕ, ◌≤◌, ◌<◌}
use mathlib.Core.Bool.{Bool, true, false}
use mathlib.Core.Path.{◌≡◌, refl}
use mathlib.Core.Logic.{◌≢◌, ◌⊎◌, inl, inr}
use mathlib.Core.List.{List, [], ◌∷◌, ◌++◌}
use native.Mathlib.Omega.{arith}
use lib.Dec.{eqb}
use lib.ListN.{length, take, length-append}
use lib.Seq.{take-append_seam}
use Rattle.rules.specs.declared.Head.{Head}
use Rattle.rules.specs.declared.Shelf.{Shelf}
use Rattle.rules.specs.declared.Bucket.{Bucket}
use Rattle.rules.specs.declared.Refusal.{Refusal}
use Rattle.std.specs.Prelude.{if◌then◌else◌, Ok, Err}
use Rattle.rules.specs.Answers.{made_says, written_says}
use Rattle.rules.specs.Tables.{Atlas}
use Rattle.rules.specs.Sound.{Lent, SoundBy, Sound, is_lent, is_sound}
use Rattle.rules.specs.Builds.{Build, present}
use Rattle.rules.specs.Files.{file_from, file_of, is_file, version_in, head_in, shelf_in, bucket_in, Bytes}
use Rattle.rules.specs.Files.{write, Loaded, stored, read_sound, read, read_by}
use Rattle.laws.proofs.Tests.Flags.{split}
use Rattle.laws.proofs.Tests.Tells.{Tells, tells_eqb, false_true}
use Rattle.laws.proofs.Sound.Test.{lent_test, sound_tells}
use Rattle.laws.proofs.Files.Layout.{version_in_law}
use Rattle.laws.proofs.Files.Shape.{is_file_law, start_not}
use Rattle.laws.proofs.Files.Back.{file_from_law}
use Rattle.laws.proofs.Files.Saving.{saving_refused}
use Rattle.laws.proofs.Files.Ways.{read_ways}
use Rattle.promises.proofs.Exactly.{Exactly, other, never, first, failed, passed}
use Rattle.promises.proofs.Saving.{SavingRefusals, saving_refusals}

-- ---- which bytes are a file

-- those that some version, header and rows make
pub record Formed (file : List ℕ) : Type 0 where
  pub version : ℕ
  pub head : Head
  pub shelf : ℕ → Shelf
  pub bucket : ℕ → Bucket
  pub is : file ≡ file_from version head shelf bucket

pub formed_file : {file : List ℕ} → Formed file → is_file file ≡ true
formed_file f = rw f.is (is_file_law f.version f.head f.shelf f.bucket)

pub formed_test : (file : List ℕ) → Bytes file → Tells (is_file file) (Formed file)
formed_test file bytes = record {
  holds = λ e. record { version = version_in file; head = head_in file; shelf = shelf_in file; bucket = bucket_in file; is = file_from_law file bytes e };
  shown = formed_file;
}

-- the bytes of a file say which version it has
pub formed_version : {file : List ℕ} (f : Formed file) → version_in file ≡ f.version
formed_version f = rw f.is (version_in_law f.version f.head f.shelf f.bucket)

-- ---- write: 1, 18

-- the buffer holds the file
abbrev pub Fits : Build → Atlas → List ℕ → Type 0
Fits build g out = length (file_of build g) ≤ length out

pub record WriteRefusals (build : Build) (g : Atlas) (out : List ℕ) : Type 0 where
  -- "1 first for the tables lent to a write"
  pub one : Exactly 1 (written_says (write build g out).written) (SoundBy build g → ⊥)
  -- "18 buffer too short for writing"
  pub eighteen : Exactly 18 (written_says (write build g out).written) (SoundBy build g × (length out < length (file_of build g)))
  -- else it is accepted, with as many bytes as the file has
  pub done : SoundBy build g → Fits build g out → (write build g out).written ≡ Ok (length (file_of build g))
  pub only : (n : ℕ) → (write build g out).written ≡ Ok n → SoundBy build g × Fits build g out × (n ≡ length (file_of build g))

pub write_refusals : (build : Build) (g : Atlas) (out : List ℕ) → WriteRefusals build g out
write_refusals build g out =
    let r : SavingRefusals build Refusal.Buffer g (file_of build g) out = saving_refusals build Refusal.Buffer (λ e. omega arith) g (file_of build g) out in
    record { one = r.one; eighteen = r.shorter; done = r.done; only = r.only }

-- ---- read: 1 (room only), 16, 17, 1

says_loaded : Loaded → List ℕ
says_loaded l = made_says l.made

-- the test's failing says n, and so does its passing where Q holds
either : {A : Type 0} (f : A → List ℕ) (n : ℕ) (t : Bool) (a b : A) {P Q : Type 0} → Tells t P → Exactly n (f a) Q → f b ≡ n ∷ []
    → Exactly n (f (if t then a else b)) ((P → ⊥) ⊎ (P × Q))
either f n true a b p q e = record {
  when = λ h. elim h [ inl no' ↦ absurd (no' (p.holds refl)) | inr h ↦ q.when h.1 ];
  only = λ s. inr (p.holds refl, q.only s);
}
either f n false a b p q e = record { when = λ h. e; only = λ s. inl (λ h. false_true (p.shown h)) }

-- "1 first for .. the room lent to a read; .. reading: 16 malformed or cut, 17 unknown version, then 1 for unsound contents"
pub record ReadRefusals (file s b : List ℕ) : Type 0 where
  pub one : Exactly 1 (made_says (read file s b).made)
      ((Lent s b → ⊥) ⊎ (Lent s b × (Formed file × ((version_in file ≡ 1) × (Sound (stored present file s b) → ⊥)))))
  pub sixteen : Exactly 16 (made_says (read file s b).made) (Lent s b × (Formed file → ⊥))
  pub seventeen : Exactly 17 (made_says (read file s b).made) (Lent s b × (Formed file × (version_in file ≢ 1)))
  pub done : Exactly 0 (made_says (read file s b).made) (Lent s b × (Formed file × ((version_in file ≡ 1) × Sound (stored present file s b))))

pub read_refusals : (file s b : List ℕ) → Bytes file → ReadRefusals file s b
unfolding read_by read_sound says_loaded
read_refusals file s b bytes =
    let f : Tells (is_file file) (Formed file) = formed_test file bytes in
    let one' : Bool = eqb (version_in file) 1 in
    let v : Tells one' (version_in file ≡ 1) = tells_eqb (version_in file) 1 in
    let sound : Bool = is_sound (stored present file s b) in
    let t : Tells sound (Sound (stored present file s b)) = sound_tells (stored present file s b) in
    record {
      one = either says_loaded 1 (is_lent s b) _ _ (lent_test s b)
          (passed says_loaded 1 (is_file file) _ _ f
          (passed says_loaded 1 one' _ _ v (failed says_loaded 1 sound _ _ t (other refl) refl) (other refl)) (other refl))
          refl;
      sixteen = passed says_loaded 16 (is_lent s b) _ _ (lent_test s b)
          (failed says_loaded 16 (is_file file) _ _ f
          (never says_loaded 16 one' _ _ (never says_loaded 16 sound _ _ (other refl) (other refl)) (other refl)) refl)
          (other refl);
      seventeen = passed says_loaded 17 (is_lent s b) _ _ (lent_test s b)
          (passed says_loaded 17 (is_file file) _ _ f
          (failed says_loaded 17 one' _ _ v (never says_loaded 17 sound _ _ (other refl) (other refl)) refl) (other refl))
          (other refl);
      done = passed says_loaded 0 (is_lent s b) _ _ (lent_test s b)
          (passed says_loaded 0 (is_file file) _ _ f
          (passed says_loaded 0 one' _ _ v (first says_loaded 0 sound _ _ t refl (other refl)) (other refl)) (other refl))
          (other refl);
    }

-- ---- "malformed or cut"

broken_16 : (file s b : List ℕ) → Lent s b → (is_file file ≡ true → ⊥) → made_says (read file s b).made ≡ 16 ∷ []
unfolding read_by
broken_16 file s b lent no' = simp ((lent_test s b).shown lent) (split (is_file file) (λ e. absurd (no' e)) (λ e. simp e))

-- a file that is cut anywhere
pub cut_16 : (file s b : List ℕ) → Formed file → (n : ℕ) → n < length file → Lent s b → made_says (read (take n file) s b).made ≡ 16 ∷ []
cut_16 file s b f n l lent = broken_16 (take n file) s b lent (start_not file n l (formed_file f))

-- and one with bytes behind its end
pub behind_16 : (file s b : List ℕ) → Formed file → (x : ℕ) (xs : List ℕ) → Lent s b → made_says (read (file ++ x ∷ xs) s b).made ≡ 16 ∷ []
behind_16 file s b f x xs lent = broken_16 (file ++ x ∷ xs) s b lent (λ e.
    start_not (file ++ x ∷ xs) (length file) (omega (arith, length-append file (x ∷ xs))) e (rw take-append_seam (formed_file f)))

-- ---- a refusal changes nothing

pub write_refused : (build : Build) (g : Atlas) (out : List ℕ) (r : Refusal) → (write build g out).written ≡ Err r
    → (write build g out).out ≡ out
write_refused build g out r = saving_refused build Refusal.Buffer g (file_of build g) out r

pub read_refused : (file s b : List ℕ) (r : Refusal) → (read file s b).made ≡ Err r → ((read file s b).shelves ≡ s) × ((read file s b).buckets ≡ b)
read_refused file s b r =
    read_ways present (λ (l : Loaded). l.made ≡ Err r → (l.shelves ≡ s) × (l.buckets ≡ b)) file s b (λ q e. (refl, refl)) (λ w e. (cc, cc))
