-- Numbers above 12 that a call never says: without the list none, with it only 19 in allocate, 20 in deallocate, 21 in each of them.
use Rattle.std.specs.Prelude.{Ok, Err, Result, ⊤}
use Rattle.rules.specs.declared.Allocation.{Allocation}
use Prim.Native.Nat.{ℕ, ◌<◌}
use mathlib.Core.Bool.{◌||◌, not}
use mathlib.Core.Path.{◌≡◌, sym, ◌∙◌}
use mathlib.Core.Logic.{◌≢◌, ◌⊎◌, inl, inr}
use mathlib.Core.List.{List, [], ◌∷◌}
use native.Mathlib.Omega.{arith}
use borrow.Author.Tests.{ne_eqb}
use lib.Dec.{eqb, leb, ltb}
use lib.ListN.{length, take}
use lib.IntN.{ℤ}
use Rattle.rules.specs.declared.Refusal.{Refusal}
use Rattle.rules.specs.Limits.{side_most}
use Rattle.rules.specs.Tables.{Atlas, Outcome, bucket_at}
use Rattle.rules.specs.Ids.{id_bucket, id_generation}
use Rattle.rules.specs.Answers.{made_says, reply_says, placing_says, sides_says, flag_says, figure_says, written_says}
use Rattle.rules.specs.Sound.{is_lent, is_sound}
use Rattle.rules.specs.Calls.{natural, outside, options_bad, made, new, clear, clear_by, grow, grow_by, grow_to, allocate, deallocate, deallocate_by, return_id}
use Rattle.rules.specs.Calls.{size, is_empty, allocated_space, free_space_of}
use Rattle.rules.specs.Builds.{Build, present}
use Rattle.rules.specs.Files.{file_of, write}
use Rattle.rules.specs.Picture.{picture_of, picture}
use Rattle.rules.specs.Held.{entries, place_of}
use Rattle.rules.specs.Listed.{Holding, Ended, enter, leave}
use Rattle.promises.proofs.Exactly.{other, never}
use Rattle.promises.proofs.Saving.{saving_unsaid}
use Rattle.promises.proofs.NoPlace.{allocate_refusals}

says_reply : Outcome (Result ⊤ Refusal) → List ℕ
says_reply o = reply_says o.answer

says_ended : Ended (Result ⊤ Refusal) → List ℕ
says_ended o = reply_says o.answer

says_placing : Ended (Result Allocation Refusal) → List ℕ
says_placing o = placing_says o.answer

-- a number above 12, or 8, which T-08 leaves unused
module _ (n : ℕ) (spare : (12 < n) ⊎ (n ≡ 8)) where
  -- any other number up to 12 is another
  low : {m : ℕ} {xs ys : List ℕ} → m < 13 → m ≢ 8 → m ∷ xs ≡ n ∷ ys → ⊥
  low {m} l ne = other (ne_eqb m n (λ e. elim spare [ inl h ↦ omega arith | inr z ↦ ne (e ∙ z) ]))

  -- ---- without the list

  pub new_unsaid : (width height align_width align_height columns : ℤ) (vertical : ℕ) (s b : List ℕ)
      → made_says (new width height align_width align_height columns vertical s b) ≢ n ∷ []
  unfolding new made
  new_unsaid width height align_width align_height columns vertical s b =
      never made_says n (is_lent s b) _ _
      (never made_says n (outside (natural width) side_most || outside (natural height) side_most) _ _ (low (omega arith) (λ e. omega arith))
      (never made_says n (options_bad (natural width) (natural align_width) (natural align_height) (natural columns) vertical) _ _
      (low (omega arith) (λ e. omega arith)) (low (omega arith) (λ e. omega arith))))
      (low (omega arith) (λ e. omega arith))

  pub clear_unsaid : (g : Atlas) → reply_says (clear g).answer ≢ n ∷ []
  unfolding clear_by says_reply
  clear_unsaid g = never says_reply n (is_sound g) _ _ (low (omega arith) (λ e. omega arith)) (low (omega arith) (λ e. omega arith))

  pub grow_unsaid : (width height : ℤ) (g : Atlas) → reply_says (grow width height g).answer ≢ n ∷ []
  unfolding grow_by grow_to says_reply
  grow_unsaid width height g =
      let w : ℕ = natural width in
      let h : ℕ = natural height in
      never says_reply n (is_sound g) _ _
      (never says_reply n (outside w side_most || outside h side_most) _ _ (low (omega arith) (λ e. omega arith))
      (never says_reply n (ltb w g.head.width || ltb h g.head.height) _ _ (low (omega arith) (λ e. omega arith))
      (low (omega arith) (λ e. omega arith))))
      (low (omega arith) (λ e. omega arith))

  pub deallocate_unsaid : (id : ℕ) (g : Atlas) → reply_says (deallocate id g).answer ≢ n ∷ []
  unfolding deallocate_by return_id says_reply
  deallocate_unsaid id g =
      never says_reply n (is_sound g) _ _
      (never says_reply n (leb g.head.bucket_count (id_bucket id)) _ _ (low (omega arith) (λ e. omega arith))
      (never says_reply n (not (eqb (bucket_at g.buckets (id_bucket id)).generation (id_generation id))) _ _ (low (omega arith) (λ e. omega arith))
      (never says_reply n (eqb (bucket_at g.buckets (id_bucket id)).refs 0) _ _ (low (omega arith) (λ e. omega arith))
      (low (omega arith) (λ e. omega arith)))))
      (low (omega arith) (λ e. omega arith))

  pub size_unsaid : (g : Atlas) → sides_says (size g) ≢ n ∷ []
  unfolding size
  size_unsaid g = never sides_says n (is_sound g) _ _ (low (omega arith) (λ e. omega arith)) (low (omega arith) (λ e. omega arith))

  pub empty_unsaid : (g : Atlas) → flag_says (is_empty g) ≢ n ∷ []
  unfolding is_empty
  empty_unsaid g = never flag_says n (is_sound g) _ _ (low (omega arith) (λ e. omega arith)) (low (omega arith) (λ e. omega arith))

  pub occupied_unsaid : (g : Atlas) → figure_says (allocated_space g) ≢ n ∷ []
  unfolding allocated_space
  occupied_unsaid g = never figure_says n (is_sound g) _ _ (low (omega arith) (λ e. omega arith)) (low (omega arith) (λ e. omega arith))

  pub free_unsaid : (g : Atlas) → figure_says (free_space_of g) ≢ n ∷ []
  unfolding free_space_of
  free_unsaid g = never figure_says n (is_sound g) _ _ (low (omega arith) (λ e. omega arith)) (low (omega arith) (λ e. omega arith))

pub allocate_unsaid : (n : ℕ) → 12 < n → n < 22 → (width height : ℤ) (g : Atlas) → placing_says (allocate width height g).answer ≢ n ∷ []
allocate_unsaid n high l width height g = (allocate_refusals present width height g).others n (λ e. omega arith) (λ e. omega arith) (λ e. omega arith)
    (λ e. omega arith) (λ e. omega arith) (λ e. omega arith) (λ e. omega arith) (λ e. omega arith)

pub write_unsaid : (n : ℕ) → n ≢ 1 → n ≢ 18 → (build : Build) (g : Atlas) (out : List ℕ) → written_says (write build g out).written ≢ n ∷ []
write_unsaid n one eighteen build g out = saving_unsaid build Refusal.Buffer g (file_of build g) out n one eighteen

pub picture_unsaid : (n : ℕ) → n ≢ 1 → n ≢ 24 → (g : Atlas) (out : List ℕ) → written_says (picture g out).written ≢ n ∷ []
picture_unsaid n one twenty_four g out = saving_unsaid present Refusal.Output g (picture_of g) out n one twenty_four

-- ---- what the list adds to a request that is placed, and to a return that is accepted

pub enter_unsaid : (n : ℕ) → n ≢ 19 → (p : Result Allocation Refusal) (g : Atlas) (l : Holding) → placing_says p ≢ n ∷ []
    → placing_says (enter p g l).answer ≢ n ∷ []
unfolding says_placing
enter_unsaid n ne (Ok a) g l q =
    never says_placing n (ltb (entries l.state) (length l.list)) _ _ q (other (ne_eqb 19 n (λ e. ne (sym e))))
enter_unsaid n ne (Err r) g l q = q

pub leave_unsaid : (n : ℕ) → n ≢ 20 → (id : ℕ) (p : Result ⊤ Refusal) (g : Atlas) (l : Holding) → reply_says p ≢ n ∷ []
    → reply_says (leave id p g l).answer ≢ n ∷ []
unfolding says_ended
leave_unsaid n ne id (Ok tt) g l q =
    never says_ended n (ltb (place_of id (take (entries l.state) l.list)) (entries l.state)) _ _ q (other (ne_eqb 20 n (λ e. ne (sym e))))
leave_unsaid n ne id (Err r) g l q = q
