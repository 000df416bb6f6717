-- The atlas in a file is the same over any lent tables, below its counts; so it is sound over all of them or over none.
-- A read can therefore test a file before it stores anything.
use Prim.Native.Nat.{ℕ, ◌≤◌}
use mathlib.Core.Path.{◌≡◌, refl, sym, ◌∙◌}
use mathlib.Core.List.{List}
use native.Mathlib.Omega.{arith}
use Rattle.rules.specs.Limits.{records_most}
use Rattle.rules.specs.Builds.{Build}
use Rattle.rules.specs.Files.{head_in, stored}
use Rattle.rules.specs.Sound.{Lent, SoundBy, is_sound_by}
use Rattle.laws.proofs.Tests.Tells.{tells_map, tells_same}
use Rattle.laws.proofs.Sound.Test.{sound_tells}
use Rattle.laws.proofs.Sound.Below.{SameBelow, sound_below}
use Rattle.laws.proofs.Files.Stored.{stored_shelf, stored_bucket, shelves_length, buckets_length}

module _ (build : Build) (file s b : List ℕ) (lent : Lent s b) where
  -- what is stored is as long as what was lent
  pub stored_lent : Lent (stored build file s b).shelves (stored build file s b).buckets
  unfolding stored
  stored_lent = record {
    shelves = omega (arith, lent.shelves, shelves_length (head_in file).shelf_count file s);
    buckets = omega (arith, lent.buckets, buckets_length build (head_in file).bucket_count file b);
  }

  pub stored_below : (s' b' : List ℕ) → Lent s' b' → (head_in file).shelf_count ≤ records_most → (head_in file).bucket_count ≤ records_most
      → SameBelow (stored build file s b) (stored build file s' b')
  unfolding stored
  stored_below s' b' lent' ls lb =
      let m : ℕ = (head_in file).shelf_count in
      let n : ℕ = (head_in file).bucket_count in
      record {
        head = refl;
        shelf = λ i l.
            stored_shelf m file s' (omega (arith, lent'.shelves)) i l ∙ sym (stored_shelf m file s (omega (arith, lent.shelves)) i l);
        bucket = λ k l.
            stored_bucket build n file b' (omega (arith, lent'.buckets)) k l ∙ sym (stored_bucket build n file b (omega (arith, lent.buckets)) k l);
      }

-- sound over some, sound over others
stored_sound : (build : Build) (file s b s' b' : List ℕ) → Lent s b → Lent s' b' → SoundBy build (stored build file s b)
    → SoundBy build (stored build file s' b')
unfolding stored
stored_sound build file s b s' b' lent lent' p =
    sound_below (stored_below build file s b lent s' b' lent' p.steady.domain.shelves p.steady.domain.buckets) (stored_lent build file s' b' lent') p

pub stored_any : (build : Build) (file s b s' b' : List ℕ) → Lent s b → Lent s' b'
    → is_sound_by build (stored build file s b) ≡ is_sound_by build (stored build file s' b')
stored_any build file s b s' b' lent lent' =
    tells_same (is_sound_by build (stored build file s b)) (is_sound_by build (stored build file s' b')) (sound_tells (stored build file s b))
    (tells_map (sound_tells (stored build file s' b')) (stored_sound build file s' b' s b lent' lent) (stored_sound build file s b s' b' lent lent'))
