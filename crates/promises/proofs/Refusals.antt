-- "Refusal numbers": each call gives each number exactly when document 01's table says so, and in its order: a refusal asks that those before
-- it were not given. Of new, clear, grow and deallocate, 0 is answered exactly when none of them is, so nothing else is refused. Allocate is
-- in NoPlace.
use Rattle.std.specs.Prelude.{Result, ⊤}
use Rattle.rules.specs.declared.Refusal.{Refusal}
use Prim.Native.Nat.{ℕ, ◌≤◌, ◌<◌}
use mathlib.Core.Path.{◌≡◌, refl}
use mathlib.Core.Logic.{◌≢◌, ◌⊎◌, inl, inr, ⊎_elim}
use mathlib.Core.Bool.{Bool, ◌||◌, not}
use mathlib.Core.List.{List}
use native.Mathlib.Omega.{arith}
use lib.Dec.{eqb, leb, ltb}
use lib.IntN.{ℤ}
use Rattle.rules.specs.declared.Head.{Head}
use Rattle.rules.specs.Limits.{side_most, option_most}
use Rattle.rules.specs.Tables.{Atlas, Outcome, bucket_at}
use Rattle.rules.specs.Ids.{id_bucket, id_generation}
use Rattle.rules.specs.Answers.{made_says, reply_says, sides_says, flag_says, figure_says}
use Rattle.rules.specs.Sound.{Lent, Sound, is_lent, is_sound}
use Rattle.rules.specs.Calls.{natural, outside, column_width, options_bad, made, new, clear, clear_by, grow, grow_by, grow_to}
use Rattle.rules.specs.Calls.{deallocate, deallocate_by, return_id, size, is_empty, allocated_space, free_space_of}
use Rattle.laws.proofs.Tests.Tells.{Tells, tells_leb, tells_ltb, tells_eqb, tells_not, tells_or, tells_map}
use Rattle.laws.proofs.Sound.Test.{lent_test, sound_tells}
use Rattle.promises.proofs.Exactly.{Exactly, other, never, first, later, failed, passed}

-- ---- the tests, in words

-- outside 1 to m
abbrev pub Outside : ℕ → ℕ → Type 0
Outside m n = (n < 1) ⊎ (m < n)

outside_tells : (n m : ℕ) → Tells (outside n m) (Outside m n)
unfolding outside
outside_tells n m = tells_or _ _ (tells_map (tells_eqb n 0) (λ e. omega arith) (λ e. omega arith)) (tells_ltb m n)

-- ---- clear and the four reading calls: 1

says_reply : Outcome (Result ⊤ Refusal) → List ℕ
says_reply o = reply_says o.answer

pub record ClearRefusals (g : Atlas) : Type 0 where
  pub done : Exactly 0 (reply_says (clear g).answer) (Sound g)
  pub one : Exactly 1 (reply_says (clear g).answer) (Sound g → ⊥)

pub clear_refusals : (g : Atlas) → ClearRefusals g
unfolding clear_by says_reply
clear_refusals g = record {
  done = first says_reply 0 (is_sound g) _ _ (sound_tells g) refl (other refl);
  one = failed says_reply 1 (is_sound g) _ _ (sound_tells g) (other refl) refl;
}

pub record ReadingRefusals (g : Atlas) : Type 0 where
  pub size : Exactly 1 (sides_says (size g)) (Sound g → ⊥)
  pub is_empty : Exactly 1 (flag_says (is_empty g)) (Sound g → ⊥)
  pub allocated : Exactly 1 (figure_says (allocated_space g)) (Sound g → ⊥)
  pub free : Exactly 1 (figure_says (free_space_of g)) (Sound g → ⊥)

pub reading_refusals : (g : Atlas) → ReadingRefusals g
unfolding size is_empty allocated_space free_space_of
reading_refusals g = record {
  size = failed sides_says 1 (is_sound g) _ _ (sound_tells g) (other refl) refl;
  is_empty = failed flag_says 1 (is_sound g) _ _ (sound_tells g) (other refl) refl;
  allocated = failed figure_says 1 (is_sound g) _ _ (sound_tells g) (other refl) refl;
  free = failed figure_says 1 (is_sound g) _ _ (sound_tells g) (other refl) refl;
}

-- ---- grow: 1, 2, 12

-- "new, grow: a side outside 1 to 46,340"
abbrev pub SideOut : ℕ → ℕ → Type 0
SideOut width height = Outside side_most width ⊎ Outside side_most height

-- "grow: a side below the present one"
abbrev pub Shrinks : ℕ → ℕ → Head → Type 0
Shrinks width height head = (width < head.width) ⊎ (height < head.height)

pub record GrowRefusals (width height : ℤ) (g : Atlas) : Type 0 where
  pub done : Exactly 0 (reply_says (grow width height g).answer)
      (Sound g × ((SideOut (natural width) (natural height) → ⊥) × (Shrinks (natural width) (natural height) g.head → ⊥)))
  pub one : Exactly 1 (reply_says (grow width height g).answer) (Sound g → ⊥)
  pub two : Exactly 2 (reply_says (grow width height g).answer) (Sound g × SideOut (natural width) (natural height))
  pub twelve : Exactly 12 (reply_says (grow width height g).answer)
      (Sound g × ((SideOut (natural width) (natural height) → ⊥) × Shrinks (natural width) (natural height) g.head))

pub grow_refusals : (width height : ℤ) (g : Atlas) → GrowRefusals width height g
unfolding grow_by grow_to says_reply
grow_refusals width height g =
    let w : ℕ = natural width in
    let h : ℕ = natural height in
    let out : Bool = outside w side_most || outside h side_most in
    let less : Bool = ltb w g.head.width || ltb h g.head.height in
    let outs : Tells out (SideOut w h) = tells_or _ _ (outside_tells w side_most) (outside_tells h side_most) in
    let shrinks : Tells less (Shrinks w h g.head) = tells_or _ _ (tells_ltb w g.head.width) (tells_ltb h g.head.height) in
    record {
      done = passed says_reply 0 (is_sound g) _ _ (sound_tells g)
          (later says_reply 0 out _ _ outs (other refl) (failed says_reply 0 less _ _ shrinks (other refl) refl))
          (other refl);
      one = failed says_reply 1 (is_sound g) _ _ (sound_tells g)
          (never says_reply 1 out _ _ (other refl) (never says_reply 1 less _ _ (other refl) (other refl))) refl;
      two = passed says_reply 2 (is_sound g) _ _ (sound_tells g)
          (first says_reply 2 out _ _ outs refl (never says_reply 2 less _ _ (other refl) (other refl)))
          (other refl);
      twelve = passed says_reply 12 (is_sound g) _ _ (sound_tells g)
          (later says_reply 12 out _ _ outs (other refl) (first says_reply 12 less _ _ shrinks refl (other refl)))
          (other refl);
    }

-- ---- deallocate: 1, 9, 10, 11

-- "id names a bucket not below the bucket count"
abbrev pub Unknown : ℕ → Atlas → Type 0
Unknown id g = g.head.bucket_count ≤ id_bucket id

-- "its generation differs from the bucket's"
abbrev pub Stale : ℕ → Atlas → Type 0
Stale id g = (bucket_at g.buckets (id_bucket id)).generation ≢ id_generation id

-- "the bucket's reference count is 0"
abbrev pub Unheld : ℕ → Atlas → Type 0
Unheld id g = (bucket_at g.buckets (id_bucket id)).refs ≡ 0

pub record DeallocateRefusals (id : ℕ) (g : Atlas) : Type 0 where
  pub done : Exactly 0 (reply_says (deallocate id g).answer) (Sound g × ((Unknown id g → ⊥) × ((Stale id g → ⊥) × (Unheld id g → ⊥))))
  pub one : Exactly 1 (reply_says (deallocate id g).answer) (Sound g → ⊥)
  pub nine : Exactly 9 (reply_says (deallocate id g).answer) (Sound g × Unknown id g)
  pub ten : Exactly 10 (reply_says (deallocate id g).answer) (Sound g × ((Unknown id g → ⊥) × Stale id g))
  pub eleven : Exactly 11 (reply_says (deallocate id g).answer) (Sound g × ((Unknown id g → ⊥) × ((Stale id g → ⊥) × Unheld id g)))

pub deallocate_refusals : (id : ℕ) (g : Atlas) → DeallocateRefusals id g
unfolding deallocate_by return_id says_reply
deallocate_refusals id g =
    let a : Bool = leb g.head.bucket_count (id_bucket id) in
    let b : Bool = not (eqb (bucket_at g.buckets (id_bucket id)).generation (id_generation id)) in
    let c : Bool = eqb (bucket_at g.buckets (id_bucket id)).refs 0 in
    let unknown : Tells a (Unknown id g) = tells_leb g.head.bucket_count (id_bucket id) in
    let stale : Tells b (Stale id g) = tells_not _ (tells_eqb (bucket_at g.buckets (id_bucket id)).generation (id_generation id)) in
    let unheld : Tells c (Unheld id g) = tells_eqb (bucket_at g.buckets (id_bucket id)).refs 0 in
    record {
      done = passed says_reply 0 (is_sound g) _ _ (sound_tells g)
          (later says_reply 0 a _ _ unknown (other refl)
          (later says_reply 0 b _ _ stale (other refl) (failed says_reply 0 c _ _ unheld (other refl) refl)))
          (other refl);
      one = failed says_reply 1 (is_sound g) _ _ (sound_tells g)
          (never says_reply 1 a _ _ (other refl)
          (never says_reply 1 b _ _ (other refl) (never says_reply 1 c _ _ (other refl) (other refl))))
          refl;
      nine = passed says_reply 9 (is_sound g) _ _ (sound_tells g)
          (first says_reply 9 a _ _ unknown refl
          (never says_reply 9 b _ _ (other refl) (never says_reply 9 c _ _ (other refl) (other refl))))
          (other refl);
      ten = passed says_reply 10 (is_sound g) _ _ (sound_tells g)
          (later says_reply 10 a _ _ unknown (other refl)
          (first says_reply 10 b _ _ stale refl (never says_reply 10 c _ _ (other refl) (other refl))))
          (other refl);
      eleven = passed says_reply 11 (is_sound g) _ _ (sound_tells g)
          (later says_reply 11 a _ _ unknown (other refl)
          (later says_reply 11 b _ _ stale (other refl) (first says_reply 11 c _ _ unheld refl (other refl))))
          (other refl);
    }

-- ---- new: 1 (room only), 2, 3

-- "new: alignment or columns outside the domain, column width 0, or vertical"
pub data BadOptions (width align_width align_height columns vertical : ℕ) : Type 0 where
  align_width : Outside option_most align_width → BadOptions width align_width align_height columns vertical
  align_height : Outside option_most align_height → BadOptions width align_width align_height columns vertical
  column_number : Outside option_most columns → BadOptions width align_width align_height columns vertical
  column_zero : column_width width columns align_width ≡ 0 → BadOptions width align_width align_height columns vertical
  is_vertical : vertical ≢ 0 → BadOptions width align_width align_height columns vertical

bad_options : (width align_width align_height n v : ℕ)
    → Tells (options_bad width align_width align_height n v) (BadOptions width align_width align_height n v)
unfolding options_bad
bad_options width aw ah n v = tells_map
    (tells_or _ _ (tells_or _ _ (tells_or _ _ (tells_or _ _
    (outside_tells aw option_most)
    (outside_tells ah option_most))
    (outside_tells n option_most))
    (tells_eqb (column_width width n aw) 0))
    (tells_not _ (tells_eqb v 0)))
    (⊎_elim (⊎_elim (⊎_elim (⊎_elim
    BadOptions.align_width
    BadOptions.align_height)
    BadOptions.column_number)
    BadOptions.column_zero)
    BadOptions.is_vertical)
    back
  where
    back : BadOptions width aw ah n v
        → ((((Outside option_most aw ⊎ Outside option_most ah) ⊎ Outside option_most n)
        ⊎ (column_width width n aw ≡ 0)) ⊎ (v ≡ 0 → ⊥))
    back (BadOptions.align_width p) = inl (inl (inl (inl p)))
    back (BadOptions.align_height p) = inl (inl (inl (inr p)))
    back (BadOptions.column_number p) = inl (inl (inr p))
    back (BadOptions.column_zero p) = inl (inr p)
    back (BadOptions.is_vertical p) = inr p

pub record NewRefusals (width height align_width align_height columns : ℤ) (vertical : ℕ) (s b : List ℕ) : Type 0 where
  pub done : Exactly 0 (made_says (new width height align_width align_height columns vertical s b))
      (Lent s b × ((SideOut (natural width) (natural height) → ⊥)
      × (BadOptions (natural width) (natural align_width) (natural align_height) (natural columns) vertical → ⊥)))
  pub one : Exactly 1 (made_says (new width height align_width align_height columns vertical s b)) (Lent s b → ⊥)
  pub two : Exactly 2 (made_says (new width height align_width align_height columns vertical s b)) (Lent s b × SideOut (natural width) (natural height))
  pub three : Exactly 3 (made_says (new width height align_width align_height columns vertical s b))
      (Lent s b × ((SideOut (natural width) (natural height) → ⊥)
      × BadOptions (natural width) (natural align_width) (natural align_height) (natural columns) vertical))

pub new_refusals : (width height align_width align_height columns : ℤ) (vertical : ℕ) (s b : List ℕ)
    → NewRefusals width height align_width align_height columns vertical s b
unfolding new made
new_refusals width height aw ah columns vertical s b =
    let w : ℕ = natural width in
    let h : ℕ = natural height in
    let out : Bool = outside w side_most || outside h side_most in
    let bad : Bool = options_bad w (natural aw) (natural ah) (natural columns) vertical in
    let outs : Tells out (SideOut w h) = tells_or _ _ (outside_tells w side_most) (outside_tells h side_most) in
    let bads : Tells bad (BadOptions w (natural aw) (natural ah) (natural columns) vertical) =
    bad_options w (natural aw) (natural ah) (natural columns) vertical in
    record {
      done = passed made_says 0 (is_lent s b) _ _ (lent_test s b)
          (later made_says 0 out _ _ outs (other refl) (failed made_says 0 bad _ _ bads (other refl) refl)) (other refl);
      one = failed made_says 1 (is_lent s b) _ _ (lent_test s b)
          (never made_says 1 out _ _ (other refl) (never made_says 1 bad _ _ (other refl) (other refl))) refl;
      two = passed made_says 2 (is_lent s b) _ _ (lent_test s b)
          (first made_says 2 out _ _ outs refl (never made_says 2 bad _ _ (other refl) (other refl))) (other refl);
      three = passed made_says 3 (is_lent s b) _ _ (lent_test s b)
          (later made_says 3 out _ _ outs (other refl) (first made_says 3 bad _ _ bads refl (other refl))) (other refl);
    }
