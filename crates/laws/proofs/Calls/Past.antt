-- What an issue, a merge and a return leave of what lies past the counts.
-- Both tables keep their lengths, and every record at or past the new counts is as it was.
use Prim.Native.Nat.{ℕ, zero, suc}
use mathlib.Core.Path.{◌≡◌, refl, ap, ◌∙◌}
use mathlib.Core.List.{List}
use native.Mathlib.Omega.{arith}
use lib.ListN.{length}
use Rattle.rules.specs.declared.Head.{Head}
use Rattle.rules.specs.declared.MergeRun.{MergeRun}
use Rattle.rules.specs.Tables.{Atlas, bucket_at, shelf_at}
use Rattle.rules.specs.Chains.{chain_of}
use Rattle.rules.specs.Merging.{merged, unreferenced}
use Rattle.rules.specs.Issue.{issue}
use Rattle.rules.specs.Return.{uncleaned, popped, cleaned, last_emptied, returned, released_table}
use Rattle.rules.specs.Builds.{Build}
use Rattle.rules.specs.Sound.{Steady}
use Rattle.laws.proofs.Tests.Flags.{split}
use Rattle.laws.proofs.Tables.Records.{length_put}
use Rattle.laws.proofs.Tables.Beyond.{Beyond, beyond_then}
use Rattle.laws.proofs.Sound.Lies.{member_below}
use Rattle.laws.proofs.Calls.Runs.{RunFacts}
use Rattle.laws.proofs.Issue.Keep.{Issuable, IssueFacts, issue_facts}
use Rattle.laws.proofs.Return.Keep.{ReturnFacts}
use Rattle.laws.proofs.Merge.Merged.{merged_length}
use Rattle.laws.proofs.Merge.Keep.{MergeFacts, merge_facts}

module _ {g : Atlas} (st : Steady g) (i k w : ℕ) (p : Issuable i k w g) where
  issue_length : length (issue i k w g).state.buckets ≡ length g.buckets
  unfolding issue
  issue_length = length_put g.buckets k _

  pub issue_beyond : Beyond g (issue i k w g).state
  issue_beyond =
      let f : IssueFacts i k w g (issue i k w g) = issue_facts st i k w p in
      let e : (issue i k w g).state.head.bucket_count ≡ g.head.bucket_count = ap (λ (h : Head). h.bucket_count) f.head in
      record {
        shelves = λ j l. ap (λ (s : List ℕ). shelf_at s j) f.shelves;
        buckets = λ j l. f.changes.others j (λ q. omega (arith, member_below st i k p.there p.member));
        shelf_table = ap length f.shelves;
        bucket_table = issue_length;
      }

  -- a step that keeps what lies past the counts, and then the issue
  pub then_issue : {g₀ : Atlas} → Beyond g₀ g → Beyond g₀ (issue i k w g).state
  then_issue q =
      let f : IssueFacts i k w g (issue i k w g) = issue_facts st i k w p in
      beyond_then q issue_beyond (omega (arith, ap (λ (h : Head). h.shelf_count) f.head)) (omega (arith, ap (λ (h : Head). h.bucket_count) f.head))

pub merged_beyond : {w h : ℕ} {g : Atlas} → Steady g → (run : MergeRun) → RunFacts w h g run → Beyond g (merged run g)
merged_beyond {w} {h} {g} st run f =
    let m : MergeFacts run g (merged run g) = merge_facts st run f in
    let e : (merged run g).head.shelf_count ≡ g.head.shelf_count = ap (λ (h : Head). h.shelf_count) m.head in
    record {
      shelves = λ j l. m.others j (λ a b. omega (arith, f.there));
      buckets = λ j l. ap (λ (b : List ℕ). bucket_at b j) m.buckets;
      shelf_table = merged_length st run f;
      bucket_table = ap length m.buckets;
    }

-- ---- a return

popped_length : (m : ℕ) (g : Atlas) → length (popped m g).buckets ≡ length g.buckets
unfolding popped released_table
popped_length m g = length_put g.buckets _ _

cleaned_length : (m : ℕ) (g : Atlas) → length (cleaned m g).buckets ≡ length g.buckets
unfolding cleaned
cleaned_length zero g = refl
cleaned_length (suc m) g =
    split (unreferenced g.buckets (chain_of g m)) (λ e. simp e (cleaned_length m (popped m g) ∙ popped_length m g)) (λ e. simp e)

uncleaned_length : (build : Build) (k : ℕ) (g : Atlas) → length (uncleaned build k g).buckets ≡ length g.buckets
unfolding uncleaned
uncleaned_length build k g = length_put g.buckets k _

pub returned_length : (build : Build) (k : ℕ) (g : Atlas) → length (returned build k g).buckets ≡ length g.buckets
unfolding returned
returned_length build k g =
    split (last_emptied k g) (λ e. simp e (cleaned_length g.head.shelf_count (uncleaned build k g) ∙ uncleaned_length build k g))
    (λ e. simp e (uncleaned_length build k g))

pub returned_beyond : {build : Build} {k : ℕ} {g : Atlas} → ReturnFacts build k g (returned build k g) → Beyond g (returned build k g)
returned_beyond {build} {k} {g} f =
    let e : (returned build k g).head.bucket_count ≡ g.head.bucket_count = ap (λ (h : Head). h.bucket_count) f.head in
    record {
      shelves = λ j l. ap (λ (s : List ℕ). shelf_at s j) f.shelves;
      buckets = λ j l. f.past j (omega arith);
      shelf_table = ap length f.shelves;
      bucket_table = returned_length build k g;
    }
