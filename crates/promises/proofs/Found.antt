-- "Taking from a bucket found by the search changes that bucket's record and the figure, no other record."
-- Said of the whole step: header, both tables and the record of every other bucket.
use Rattle.std.specs.Prelude.{Some}
use Prim.Native.Nat.{ℕ}
use mathlib.Core.Path.{◌≡◌, refl}
use mathlib.Core.Logic.{◌≢◌}
use Rattle.rules.specs.declared.Best.{Best}
use Rattle.rules.specs.Tables.{Atlas, bucket_at, with_occupied}
use Rattle.rules.specs.Search.{search}
use Rattle.rules.specs.Issue.{issue}
use Rattle.rules.specs.Builds.{present}
use Rattle.rules.specs.Calls.{place}
use Rattle.laws.proofs.Tables.Records.{at_put_other}

-- g and what it became: bucket k's record and the figure are all that differs
pub record Alone (k : ℕ) (g g' : Atlas) : Type 0 where
  pub head : g'.head ≡ with_occupied g.head g'.head.occupied
  pub shelves : g'.shelves ≡ g.shelves
  pub others : (j : ℕ) → j ≢ k → bucket_at g'.buckets j ≡ bucket_at g.buckets j

issued_alone : (i k w : ℕ) (g : Atlas) → Alone k g (issue i k w g).state
unfolding issue
issued_alone i k w g = record { head = refl; shelves = refl; others = λ j ne. at_put_other _ _ _ j ne }

-- an aligned request of w by h
pub found_alone : (w h : ℕ) (g : Atlas) (best : Best) → search w h g ≡ Some best → Alone best.bucket g (place present w h g).state
unfolding place
found_alone w h g best e = simp e (issued_alone best.shelf best.bucket w g)
