-- What ties the held rectangles to the tables: the list of them is tied to them, and what was issued from a bucket since it had none is its used area.
-- What keeps the referenced buckets keeps that.
use Prim.Native.Nat.{ℕ, ◌+◌, ◌<◌}
use mathlib.Core.Path.{◌≡◌, refl, sym, ◌∙◌, subst}
use mathlib.Core.Logic.{◌≢◌}
use mathlib.Core.List.{List, [], ◌∷◌}
use native.Mathlib.Omega.{arith}
use borrow.Author.Tests.{eq-eqb, ne_eqb}
use Rattle.rules.specs.declared.Allocation.{Allocation}
use Rattle.rules.specs.Tables.{Atlas, bucket_at}
use Rattle.rules.specs.Return.{used_area}
use Rattle.rules.specs.Builds.{Build}
use Rattle.rules.specs.Sound.{SoundBy}
use Rattle.rules.specs.History.{Event, held, from_bucket, issued_from, issued_since}
use Rattle.laws.proofs.Sound.Apart.{Used}
use Rattle.laws.proofs.Calls.Frames.{Frame}
use Rattle.laws.proofs.Return.Uncleaned.{shelf_of}
use Rattle.laws.proofs.NewShelf.Buckets.{area_alike}
use Rattle.laws.proofs.Tied.To.{TiedTo, tied_none, frame_shelf, tied_frame}

-- ---- the statement

-- what was issued from a bucket since it had none is its used area
abbrev pub Areas : List Event → Atlas → Type 0
Areas past g =
    (k : ℕ) → k < g.head.bucket_count → 0 < (bucket_at g.buckets k).refs → issued_since k past ≡ used_area (shelf_of k g) (bucket_at g.buckets k)

pub record Ties (past : List Event) (g : Atlas) : Type 0 where
  pub tied : TiedTo (held past) g
  pub area : Areas past g

pub record Invariant (build : Build) (past : List Event) (g : Atlas) : Type 0 where
  pub sound : SoundBy build g
  pub ties : Ties past g

-- ---- what was issued since a bucket had none

pub since_more : (k : ℕ) (e : Event) (past : List Event) → from_bucket k (held (e ∷ past)) ≢ 0
    → issued_since k (e ∷ past) ≡ issued_from k e + issued_since k past
unfolding issued_since
since_more k e past ne = simp (ne_eqb (from_bucket k (held (e ∷ past))) 0 ne)

pub since_none : (k : ℕ) (past : List Event) → from_bucket k (held past) ≡ 0 → issued_since k past ≡ 0
unfolding issued_since
since_none k [] z = refl
since_none k (e ∷ past) z = simp (eq-eqb (from_bucket k (held (e ∷ past))) 0 z)

-- ---- nothing held

pub ties_none : {past : List Event} {g : Atlas} → held past ≡ [] → g.head.bucket_count ≡ 0 → Ties past g
ties_none {past} {g} e z = record {
  tied = subst (λ (xs : List Allocation). TiedTo xs g) (sym e) (tied_none z);
  area = λ k l r. absurd (omega arith);
}

-- ---- a call that issues nothing, and leaves of each referenced bucket one that is held

pub areas_quiet : (past : List Event) {g : Atlas} (e : Event) → ((k : ℕ) → issued_from k e ≡ 0) → TiedTo (held (e ∷ past)) g → Areas past g
    → Areas (e ∷ past) g
areas_quiet past {g} e none t area k l r =
    let more = since_more k e past (λ z. omega (arith, t.refs k l)) in
    omega (arith, none k, area k l r)

pub ties_quiet : {past : List Event} {g : Atlas} (e : Event) → held (e ∷ past) ≡ held past → ((k : ℕ) → issued_from k e ≡ 0) → Ties past g
    → Ties (e ∷ past) g
ties_quiet {past} {g} e same none t =
    let u : TiedTo (held (e ∷ past)) g = subst (λ (xs : List Allocation). TiedTo xs g) (sym same) t.tied in
    record { tied = u; area = areas_quiet past e none u t.area }

-- ---- what keeps the referenced buckets, and refers to no other

module _ {g g' : Atlas} (f : Frame g g') where
  pub ties_frame : {past : List Event} → Ties past g → Ties past g'
  ties_frame {past} t = record {
    tied = tied_frame f t.tied;
    area = λ k l r.
        let u : Used g k = f.only k (record { below = l; refs = r }) in
        let same = area_alike (shelf_of k g') (shelf_of k g) (bucket_at g'.buckets k) (bucket_at g.buckets k) (frame_shelf f k u) (f.bucket k u) in
        t.area k u.below u.refs ∙ sym same;
  }
