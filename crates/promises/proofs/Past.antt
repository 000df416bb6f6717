-- "An accepted call too leaves the records past its new counts as they were": every number of both lent tables from the new count's record on,
-- however much was lent, and no table gets longer or shorter. A refused call leaves everything (Outcomes).
use Prim.Native.Nat.{ℕ, ◌*◌}
use mathlib.Core.Path.{◌≡◌, refl}
use lib.ListN.{length, drop}
use lib.IntN.{ℤ}
use Rattle.rules.specs.Tables.{Atlas, Outcome}
use Rattle.rules.specs.Builds.{present}
use Rattle.rules.specs.Calls.{clear, grow, issue_first, allocate, deallocate}
use Rattle.laws.proofs.Tables.Beyond.{Beyond, buckets_past, shelves_past}
use Rattle.laws.proofs.Sound.Test.{sound_test}
use Rattle.laws.proofs.Calls.Runs.{run_facts}
use Rattle.laws.proofs.Calls.Ways.{clear_ways, grow_ways, allocate_ways, place_ways, deallocate_ways}
use Rattle.laws.proofs.Calls.Request.{asked_sound, asked_aligned}
use Rattle.laws.proofs.Return.Keep.{deallocate_facts}
use Rattle.laws.proofs.Merge.Keep.{steady_merged}
use Rattle.laws.proofs.Calls.Keep.{found_issuable, added, added_issuable, merge_issuable, grow_keeps}
use Rattle.laws.proofs.Calls.Past.{issue_beyond, then_issue, merged_beyond, returned_beyond}

-- g before a call, after it g': a shelf is five numbers and a bucket seven
pub record PastCounts (g g' : Atlas) : Type 0 where
  pub shelves : drop (5 * g'.head.shelf_count) g'.shelves ≡ drop (5 * g'.head.shelf_count) g.shelves
  pub buckets : drop (7 * g'.head.bucket_count) g'.buckets ≡ drop (7 * g'.head.bucket_count) g.buckets
  pub shelf_table : length g'.shelves ≡ length g.shelves
  pub bucket_table : length g'.buckets ≡ length g.buckets

past : {g g' : Atlas} → Beyond g g' → PastCounts g g'
past {g} {g'} p = record {
  shelves = shelves_past g'.head.shelf_count g.shelves g'.shelves p.shelf_table p.shelves;
  buckets = buckets_past g'.head.bucket_count g.buckets g'.buckets p.bucket_table p.buckets;
  shelf_table = p.shelf_table;
  bucket_table = p.bucket_table;
}

-- of the state that a call leaves, whatever it answers
abbrev After : {A : Type 0} → Atlas → Outcome A → Type 0
After g o = PastCounts g o.state

same : (g : Atlas) → PastCounts g g
same g = record { shelves = refl; buckets = refl; shelf_table = refl; bucket_table = refl }

-- clear drops the records by its counts alone and writes nothing
pub clear_past : (g : Atlas) → PastCounts g (clear g).state
clear_past g =
    clear_ways present (After g) g (λ r. same g)
    (λ e. record { shelves = refl; buckets = refl; shelf_table = refl; bucket_table = refl })

pub grow_past : (width height : ℤ) (g : Atlas) → PastCounts g (grow width height g).state
grow_past width height g =
    grow_ways present (After g) width height g (λ r. same g)
    (λ r. past (grow_keeps ((sound_test g).0 r.sound).steady r).keeps.beyond)

pub allocate_past : (width height : ℤ) (g : Atlas) → PastCounts g (allocate width height g).state
unfolding issue_first
allocate_past width height g =
    allocate_ways present (After g) width height g (λ r. same g) (λ r.
    let a = asked_aligned r in
    let t = (asked_sound r).steady in
    place_ways present (After g) _ _ g (λ r. same g)
    (λ best e. past (issue_beyond t _ _ _ (found_issuable a e)))
    (λ e f. past (then_issue (added a present t e f).steady _ _ _ (added_issuable a present t e f) (added a present t e f).stays.beyond))
    (λ e run f z.
    let facts = run_facts _ _ _ f in
    past (then_issue (steady_merged t run facts) _ _ _ (merge_issuable a t f) (merged_beyond t run facts))))

pub deallocate_past : (id : ℕ) (g : Atlas) → PastCounts g (deallocate id g).state
deallocate_past id g =
    deallocate_ways present (After g) id g (λ r. same g)
    (λ r. past (returned_beyond (deallocate_facts id g ((sound_test g).0 r.sound) r)))
