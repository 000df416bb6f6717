-- "Clear drops both tables, so generations start at 0 again.": clear leaves what new leaves for the same numbers.
use Rattle.std.specs.Prelude.{Ok, Result, ⊤}
use Rattle.rules.specs.declared.Refusal.{Refusal}
use Prim.Native.Nat.{ℕ, zero, suc, ◌+◌, ◌*◌, ◌≤◌, ◌<◌}
use mathlib.Core.Bool.{◌&&◌}
use mathlib.Core.Path.{◌≡◌, refl, sym, ap, ◌∙◌}
use mathlib.Core.List.{List, [], ◌∷◌}
use native.Mathlib.Decide.{ℕ_discrete}
use native.Mathlib.Omega.{arith}
use borrow.Author.Tests.{eq-eqb}
use lib.Dec.{eqb}
use lib.ListN.{length}
use lib.IntN.{ℤ, pos}
use Rattle.rules.specs.declared.Head.{Head}
use Rattle.rules.specs.declared.Bucket.{Bucket}
use Rattle.rules.specs.declared.Allocation.{Allocation}
use Rattle.rules.specs.declared.MergeRun.{MergeRun}
use Rattle.rules.specs.Limits.{records_most, none}
use Rattle.rules.specs.Ids.{id_bucket, id_generation}
use Rattle.rules.specs.Tables.{Atlas, atlas, Outcome, outcome, bucket_at, put_bucket}
use Rattle.rules.specs.Store.{Lay, laying, fresh, new_index, new_generation, new_store, add_bucket, lay_one, lay_many}
use Rattle.rules.specs.Builds.{present}
use Rattle.rules.specs.NewShelf.{another_column, opened, tall, bucket_width, column_left, pushed, laid_shelf, count_for, plain_shelf, short, filled, new_shelf}
use Rattle.rules.specs.Grow.{cleared_head, cleared}
use Rattle.rules.specs.Answers.{reply_says}
use Rattle.rules.specs.Sound.{Sound}
use Rattle.rules.specs.Calls.{natural, column_width, fresh_head, new, clear, clear_by, issue_first, allocate}
use Rattle.laws.proofs.Tests.Flags.{split}
use Rattle.laws.proofs.Tables.Records.{length_put, at_put, at_put_other}
use Rattle.laws.proofs.Numbers.BucketCount.{bucket_count_room}
use Rattle.laws.proofs.Sound.Test.{sound_test}
use Rattle.laws.proofs.Calls.Ways.{clear_ways, allocate_ways, place_ways}
use Rattle.laws.proofs.Calls.Request.{asked_aligned, asked_sound}
use Rattle.laws.proofs.Calls.Empty.{sound_new}
use Rattle.laws.proofs.Calls.Runs.{run_facts}
use Rattle.laws.proofs.Calls.Keep.{found_issuable, added, added_issuable, merge_issuable}
use Rattle.laws.proofs.Issue.Keep.{IssueFacts, issue_facts}
use Rattle.laws.proofs.Merge.Keep.{MergeFacts, merge_facts}
use Rattle.promises.proofs.Exactly.{refused_not}
use Rattle.promises.proofs.Told.{new_head}
use Rattle.promises.proofs.Asked.{placed_id}

-- ---- what clear leaves

-- g before an accepted clear, after it g'
pub record ClearLeaves (g g' : Atlas) : Type 0 where
  -- nothing is laid, in column 0 with full room; no bucket, no released one either, is left with its generation
  pub column : g'.head.column ≡ 0
  pub room : g'.head.room ≡ g'.head.height
  pub shelves : g'.head.shelf_count ≡ 0
  pub buckets : g'.head.bucket_count ≡ 0
  pub released : g'.head.released ≡ none
  pub occupied : g'.head.occupied ≡ 0
  -- sides, alignments and columns are as they were
  pub width : g'.head.width ≡ g.head.width
  pub height : g'.head.height ≡ g.head.height
  pub align_width : g'.head.align_width ≡ g.head.align_width
  pub align_height : g'.head.align_height ≡ g.head.align_height
  pub columns : g'.head.columns ≡ g.head.columns
  pub column_width : g'.head.column_width ≡ g.head.column_width
  -- no number of a table is written
  pub shelf_table : g'.shelves ≡ g.shelves
  pub bucket_table : g'.buckets ≡ g.buckets

pub clear_fresh : (g : Atlas) → reply_says (clear g).answer ≡ 0 ∷ [] → ClearLeaves g (clear g).state
unfolding cleared_head
clear_fresh g =
    clear_ways present (λ (o : Outcome (Result ⊤ Refusal)). reply_says o.answer ≡ 0 ∷ [] → ClearLeaves g o.state) g (λ r e. absurd (refused_not r ([], e)))
    (λ s e. record {
      column = refl;
      room = refl;
      shelves = refl;
      buckets = refl;
      released = refl;
      occupied = refl;
      width = refl;
      height = refl;
      align_width = refl;
      align_height = refl;
      columns = refl;
      column_width = refl;
      shelf_table = refl;
      bucket_table = refl;
    })

-- ---- as new

clear_done : (g : Atlas) → Sound g → clear g ≡ outcome (Ok tt) (cleared g)
unfolding clear_by
clear_done g p = simp ((sound_test g).1 p)

cleared_fresh : (width height align_width align_height columns : ℕ)
    → cleared_head (fresh_head width height align_width align_height columns) ≡ fresh_head width height align_width align_height columns
unfolding cleared_head
cleared_fresh width height align_width align_height columns = refl

-- what an accepted new makes, clear leaves as it is
pub clear_new : (width height align_width align_height columns : ℤ) (vertical : ℕ) (s b : List ℕ) (head : Head)
    → new width height align_width align_height columns vertical s b ≡ Ok head → clear (atlas head s b) ≡ outcome (Ok tt) (atlas head s b)
clear_new width height align_width align_height columns vertical s b head e =
    let h = new_head width height align_width align_height columns vertical s b head e in
    let same : cleared_head head ≡ head = ap cleared_head h ∙ cleared_fresh _ _ _ _ _ ∙ sym h in
    clear_done (atlas head s b) (sound_new width height align_width align_height columns vertical s b head e)
    ∙ ap (λ (z : Head). outcome (Ok tt) (atlas z s b)) same

cleared_as : (h : Head) → h.column_width ≡ column_width h.width h.columns h.align_width
    → cleared_head h ≡ fresh_head h.width h.height h.align_width h.align_height h.columns
unfolding cleared_head
cleared_as h e = rw e

-- and where new would make an atlas of these sides, alignments and columns, with columns as wide, clear leaves that atlas
pub clear_as_new : (g : Atlas) → Sound g → (head : Head)
    → new (pos g.head.width) (pos g.head.height) (pos g.head.align_width) (pos g.head.align_height) (pos g.head.columns) 0
    g.shelves g.buckets ≡ Ok head
    → head.column_width ≡ g.head.column_width → clear g ≡ outcome (Ok tt) (atlas head g.shelves g.buckets)
unfolding natural
clear_as_new g p head e w =
    let h = new_head _ _ _ _ _ 0 g.shelves g.buckets head e in
    let same : cleared_head g.head ≡ head = cleared_as g.head (sym w ∙ ap (λ (h : Head). h.column_width) h) ∙ sym h in
    clear_done g p ∙ ap (λ (z : Head). outcome (Ok tt) (atlas z g.shelves g.buckets)) same

-- ---- generations

-- no bucket was released, and each has generation 0
pub record Young (g : Atlas) : Type 0 where
  pub released : g.head.released ≡ none
  pub generations : (k : ℕ) → k < g.head.bucket_count → (bucket_at g.buckets k).generation ≡ 0
  pub few : g.head.bucket_count ≤ records_most
  pub lent : 7 * records_most ≤ length g.buckets

-- it stays so while buckets are laid: each extends the table with generation 0
record YoungMore (g g' : Atlas) (k : ℕ) : Type 0 where
  young : Young g'
  count : g'.head.bucket_count ≡ g.head.bucket_count + k

one_more : (width shelf : ℕ) (l : Lay) → Young l.state → l.state.head.bucket_count < records_most → YoungMore l.state (lay_one width shelf l).state 1
unfolding lay_one add_bucket new_store new_index new_generation
one_more width shelf l y few =
    let b : List ℕ = l.state.buckets in
    let n : ℕ = l.state.head.bucket_count in
    let v : Bucket = fresh l.x width l.first shelf 0 in
    simp (eq-eqb l.state.head.released none y.released) (record {
      young = record {
        released = refl;
        generations = λ k lk. elim (ℕ_discrete k n) [
          | yes e ↦ ap (λ (j : ℕ). (bucket_at (put_bucket b n v) j).generation) e ∙ ap (λ (u : Bucket). u.generation) (at_put b n v (omega (arith, y.lent)))
          | no ne ↦ ap (λ (u : Bucket). u.generation) (at_put_other b n v k ne) ∙ y.generations k (omega arith)
        ];
        few = omega arith;
        lent = rw (length_put b n v) y.lent;
      };
      count = refl;
    })

many_more : (k width shelf : ℕ) (g : Atlas) (x c : ℕ) → Young g → g.head.bucket_count + k ≤ records_most
    → YoungMore g (lay_many k width shelf (laying g x c)).state k
unfolding lay_many
many_more zero width shelf g x c y few = record { young = y; count = omega arith }
many_more (suc k) width shelf g x c y few =
    let q : YoungMore g (lay_many k width shelf (laying g x c)).state k = many_more k width shelf g x c y (omega arith) in
    let r = one_more width shelf (lay_many k width shelf (laying g x c)) q.young (omega (arith, q.count)) in
    record { young = r.young; count = omega (arith, q.count, r.count) }

laid_young : (height k : ℕ) (g : Atlas) → Young g → g.head.bucket_count + k ≤ records_most → Young (laid_shelf height k g)
unfolding laid_shelf pushed
laid_young height k g y few =
    let q = (many_more k (bucket_width g.head k) g.head.shelf_count g (column_left g.head) none y few).young in
    record { released = q.released; generations = q.generations; few = q.few; lent = q.lent }

opened_young : (g : Atlas) → Young g → Young (atlas (opened g.head) g.shelves g.buckets)
unfolding opened
opened_young g y = split (eqb g.head.room 0 && another_column g.head)
    (λ e. simp e (record { released = y.released; generations = y.generations; few = y.few; lent = y.lent })) (λ e. simp e y)

plain_young : (w height : ℕ) (g : Atlas) → Young g → Young (plain_shelf present w height g)
unfolding plain_shelf
plain_young w height g y =
    let o : Atlas = atlas (opened g.head) g.shelves g.buckets in
    let q : Young o = opened_young g y in
    let room = bucket_count_room present o.head.column_width w (tall height o.head) o.head.bucket_count in
    laid_young (tall height o.head) (count_for present w height o.head) o q (omega (arith, room, q.few))

new_young : (w height : ℕ) (g : Atlas) → Young g → Young (new_shelf present w height g)
unfolding new_shelf filled
new_young w height g y = split (short height g.head)
    (λ e. simp e (plain_young w height _ (plain_young 0 g.head.room g y))) (λ e. simp e (plain_young w height g y))

issue_young : {i k w : ℕ} {g : Atlas} {o : Outcome Allocation} → Young g → IssueFacts i k w g o → Young o.state
issue_young {i} {k} {w} {g} {o} y f = record {
  released = ap (λ (h : Head). h.released) f.head ∙ y.released;
  generations = λ j l.
      let l' : j < g.head.bucket_count = omega (arith, ap (λ (h : Head). h.bucket_count) f.head) in
      elim (ℕ_discrete j k) [
        | yes e ↦ ap (λ (n : ℕ). (bucket_at o.state.buckets n).generation) e ∙ ap (λ (u : Bucket). u.generation) f.changes.bucket
            ∙ y.generations k (omega arith)
        | no ne ↦ ap (λ (u : Bucket). u.generation) (f.changes.others j ne) ∙ y.generations j l'
      ];
  few = omega (arith, ap (λ (h : Head). h.bucket_count) f.head, y.few);
  lent = f.changes.steady.lent.buckets;
}

merged_young : {run : MergeRun} {g g' : Atlas} → Young g → MergeFacts run g g' → Young g'
merged_young y q = record {
  released = ap (λ (h : Head). h.released) q.head ∙ y.released;
  generations = rw (q.head, q.buckets) y.generations;
  few = rw q.head y.few;
  lent = rw q.buckets y.lent;
}

-- every request, placed or not
allocate_young : (width height : ℤ) (g : Atlas) → Young g → Young (allocate width height g).state
unfolding issue_first
allocate_young width height g y =
    allocate_ways present (λ (o : Outcome (Result Allocation Refusal)). Young o.state) width height g (λ r. y) (λ r.
    let p : Sound g = asked_sound r in
    let a = asked_aligned r in
    place_ways present (λ (o : Outcome (Result Allocation Refusal)). Young o.state) _ _ g (λ r. y)
    (λ best e. issue_young y (issue_facts p.steady _ _ _ (found_issuable a e)))
    (λ e f. issue_young (new_young _ _ g y) (issue_facts (added a present p.steady e f).steady _ _ _ (added_issuable a present p.steady e f)))
    (λ e run f z.
    let q = merge_facts p.steady run (run_facts _ _ _ f) in
    issue_young (merged_young y q) (issue_facts q.steady _ _ _ (merge_issuable a p.steady f))))

cleared_young : (g : Atlas) → Sound g → Young (cleared g)
unfolding cleared_head
cleared_young g p = record { released = refl; generations = λ k l. absurd (omega arith); few = omega arith; lent = p.steady.lent.buckets }

pub clear_young : (g : Atlas) → reply_says (clear g).answer ≡ 0 ∷ [] → Young (clear g).state
clear_young g =
    clear_ways present (λ (o : Outcome (Result ⊤ Refusal)). reply_says o.answer ≡ 0 ∷ [] → Young o.state) g (λ r e. absurd (refused_not r ([], e)))
    (λ s e. cleared_young g ((sound_test g).0 s))

-- "so generations start at 0 again": a request placed after a clear, of which every bucket is new
pub clear_generation : (g : Atlas) → reply_says (clear g).answer ≡ 0 ∷ [] → (width height : ℤ) (a : Allocation)
    → (allocate width height (clear g).state).answer ≡ Ok a → id_generation a.id ≡ 0
clear_generation g e width height a f =
    let q = placed_id width height (clear g).state a f in
    q.generation ∙ (allocate_young width height (clear g).state (clear_young g e)).generations (id_bucket a.id) q.bucket

-- as after a new: "or else extends the table with generation 0", whatever the lent tables hold
pub new_generation_law : (width height align_width align_height columns : ℤ) (vertical : ℕ) (s b : List ℕ) (head : Head)
    → new width height align_width align_height columns vertical s b ≡ Ok head → (w h : ℤ) (a : Allocation)
    → (allocate w h (atlas head s b)).answer ≡ Ok a → id_generation a.id ≡ 0
new_generation_law width height align_width align_height columns vertical s b head e w h a f =
    let c = clear_new width height align_width align_height columns vertical s b head e in
    clear_generation (atlas head s b) (ap (λ (o : Outcome (Result ⊤ Refusal)). reply_says o.answer) c) w h a
    (ap (λ (o : Outcome (Result ⊤ Refusal)). (allocate w h o.state).answer) c ∙ f)
