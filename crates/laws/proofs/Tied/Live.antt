-- The live part of a list: its first entries, as many as the tables count. What a call makes of it, from sound tables that the list fits, and how many
-- entries the tables count after it.
use Rattle.std.specs.Prelude.{Ok, Result}
use Rattle.rules.specs.declared.Refusal.{Refusal}
use Prim.Native.Nat.{ℕ, suc, ◌≤◌, ◌<◌}
use mathlib.Core.Path.{◌≡◌, refl, sym, ap, ◌∙◌, subst}
use mathlib.Core.Logic.{◌≢◌}
use mathlib.Core.List.{List, [], ◌∷◌}
use native.Mathlib.Decide.{dec_lt}
use native.Mathlib.Omega.{arith}
use lib.IntN.{ℤ}
use lib.ListN.{length, take}
use lib.Seq.{length-take-le}
use Rattle.rules.specs.declared.Allocation.{Allocation}
use Rattle.rules.specs.Ids.{id_bucket}
use Rattle.rules.specs.Tables.{Atlas}
use Rattle.rules.specs.Chains.{sum_to}
use Rattle.rules.specs.Sound.{SoundBy}
use Rattle.rules.specs.Builds.{Build}
use Rattle.rules.specs.Calls as calls
use Rattle.rules.specs.Held.{blank, refs_of, entries, insert_at, drop_at, added, removed, place_of, place_for, Fits}
use Rattle.rules.specs.History.{Event, without, held_after, Holds}
use Rattle.laws.proofs.Held.Each.{pairs_map, from_here}
use Rattle.laws.proofs.Held.Lists.{length_drop_at, length_added, length_removed, live_added, live_removed}
use Rattle.laws.proofs.Held.Among.{each_insert, pairs_insert, from_insert, without_drop, place_holds}
use Rattle.laws.proofs.Held.Places.{place_before}
use Rattle.laws.proofs.Tied.To.{SpotIn, Apart, TiedTo, tied_none}
use Rattle.laws.proofs.Tied.Fits.{tied_length, fits_tied, tied_fits}
use Rattle.laws.proofs.Tied.Calls.{allocate_tied, grow_tied, deallocate_tied}

-- the entries of list xs are ys, and tied to the tables
pub record Live (g : Atlas) (xs ys : List Allocation) : Type 0 where
  pub room : entries g ≤ length xs
  pub are : take (entries g) xs ≡ ys
  pub tied : TiedTo ys g

pub live_fits : {build : Build} {g : Atlas} {xs ys : List Allocation} → SoundBy build g → Live g xs ys → Fits g xs
live_fits p v = tied_fits p.steady v.room (rw v.are v.tied)

-- ---- one entry more, wherever it goes in

apart_back : (a b : Allocation) → Apart a b → Apart b a
apart_back a b r = record { ids = λ e. r.ids (sym e); spans = λ e x y cb ca. r.spans (sym e) x y ca cb }

tied_insert : {g : Atlas} (i : ℕ) (a : Allocation) (xs : List Allocation) → TiedTo (a ∷ xs) g → TiedTo (insert_at i a xs) g
tied_insert {g} i a xs t = record {
  refs = λ k l. from_insert k i a xs ∙ t.refs k l;
  none = λ k l. from_insert k i a xs ∙ t.none k l;
  spots = each_insert (SpotIn g) i a xs t.spots;
  apart = pairs_insert Apart apart_back i a xs t.apart;
}

-- the place of a new entry is one of the places, or the one behind them
place_within : {g : Atlas} (a : Allocation) (xs : List Allocation) → TiedTo (a ∷ xs) g → place_for (id_bucket a.id) g ≤ length xs
unfolding entries
place_within {g} a xs t =
    let k : ℕ = id_bucket a.id in
    let n : ℕ = g.head.bucket_count in
    let l : k < n = elim (dec_lt k n) [ yes q ↦ q | no q ↦ absurd (omega (arith, t.none k (omega arith), from_here k a xs refl)) ] in
    let all : suc (length xs) ≡ sum_to n (refs_of g) = tied_length t in
    omega (arith, place_before k g l)

-- ---- what a call makes of the entries

pub no_entries : (g : Atlas) → g.head.bucket_count ≡ 0 → entries g ≡ 0
unfolding entries
no_entries g z = rw z

pub live_none : {g : Atlas} (xs : List Allocation) → g.head.bucket_count ≡ 0 → Live g xs []
live_none {g} xs z =
    let none : entries g ≡ 0 = no_entries g z in
    record { room = omega (arith, none); are = rw none; tied = tied_none z }

module _ {build : Build} {g : Atlas} {xs : List Allocation} (p : SoundBy build g) (f : Fits g xs) where
  -- how long the live part is
  long : length (take (entries g) xs) ≡ entries g
  long = length-take-le (entries g) xs f.room

  -- ---- a request is placed, and its entry goes in

  module _ (w h : ℤ) (a : Allocation) (e : (calls.allocate_by build w h g).answer ≡ Ok a) where
    one_more : TiedTo (a ∷ take (entries g) xs) (calls.allocate_by build w h g).state
    one_more =
        subst (λ (z : Result Allocation Refusal). TiedTo (held_after (Event.allocated z) (take (entries g) xs)) (calls.allocate_by build w h g).state) e
        (allocate_tied p (take (entries g) xs) (fits_tied f) w h)

    pub entered_more : entries (calls.allocate_by build w h g).state ≡ suc (entries g)
    entered_more = sym (tied_length one_more) ∙ ap suc long

    pub entered : entries g < length xs
        → Live (calls.allocate_by build w h g).state (added (entries g) (place_for (id_bucket a.id) (calls.allocate_by build w h g).state) a xs)
        (insert_at (place_for (id_bucket a.id) (calls.allocate_by build w h g).state) a (take (entries g) xs))
    entered l =
        let n : ℕ = entries g in
        let live : List Allocation = take (entries g) xs in
        let i : ℕ = place_for (id_bucket a.id) (calls.allocate_by build w h g).state in
        let low : i ≤ n = omega (arith, place_within a live one_more, long) in
        record {
          room = omega (arith, entered_more, length_added n i a xs l);
          are = rw entered_more (live_added n i a xs low);
          tied = tied_insert i a live one_more;
        }

  -- ---- a return is accepted, and its entry goes

  module _ (id : ℕ) (l : place_of id (take (entries g) xs) < entries g) where
    -- its id is that of an entry
    pub left_holds : Holds id (take (entries g) xs)
    left_holds = place_holds id (take (entries g) xs) (omega (arith, long))

    less : without id (take (entries g) xs) ≡ drop_at (place_of id (take (entries g) xs)) (take (entries g) xs)
    less =
        let live : List Allocation = take (entries g) xs in
        without_drop id live (pairs_map Apart (λ (a b : Allocation). a.id ≢ b.id) live (λ a b r. r.ids) (fits_tied f).apart)

    module _ (e : (calls.deallocate_by build id g).answer ≡ (Ok tt)) where
      one_less : TiedTo (without id (take (entries g) xs)) (calls.deallocate_by build id g).state
      one_less = deallocate_tied p (take (entries g) xs) (fits_tied f) id left_holds e

      pub left_fewer : suc (entries (calls.deallocate_by build id g).state) ≡ entries g
      left_fewer =
          ap suc (sym (tied_length one_less) ∙ ap length less)
          ∙ length_drop_at (place_of id (take (entries g) xs)) (take (entries g) xs) (omega (arith, long)) ∙ long

      pub left : Live (calls.deallocate_by build id g).state (removed blank (entries g) (place_of id (take (entries g) xs)) xs)
          (without id (take (entries g) xs))
      left =
          let n : ℕ = entries g in
          let i : ℕ = place_of id (take (entries g) xs) in
          let m : ℕ = entries (calls.deallocate_by build id g).state in
          record {
            room = omega (arith, f.room, left_fewer, length_removed blank n i xs (omega (arith, f.room)));
            are =
                subst (λ (z : ℕ). take m (removed blank z i xs) ≡ drop_at i (take z xs)) left_fewer
                (live_removed blank m i xs (omega (arith, left_fewer)) (omega (arith, left_fewer, f.room))) ∙ sym less;
            tied = one_less;
          }

  -- ---- growing leaves the entries and keeps each referenced bucket

  module _ (w h : ℤ) where
    kept : TiedTo (take (entries g) xs) (calls.grow_by build w h g).state
    kept = grow_tied p (take (entries g) xs) (fits_tied f) w h

    pub grown_same : entries (calls.grow_by build w h g).state ≡ entries g
    grown_same = sym (tied_length kept) ∙ long

    pub grown : Live (calls.grow_by build w h g).state xs (take (entries g) xs)
    grown = record { room = omega (arith, grown_same, f.room); are = rw grown_same; tied = kept }
