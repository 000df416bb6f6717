-- All that specs/Claims.antt claims of the rules, each from the theorem that it names. So where a claim is false of other rules, that theorem is.
use Rattle.std.specs.Prelude.{Ok, Err, Result, ⊤}
use Rattle.rules.specs.declared.Allocation.{Allocation}
use Prim.Native.Nat.{ℕ, ◌≤◌}
use mathlib.Core.Path.{◌≡◌, sym, ap, ◌∙◌, subst}
use mathlib.Core.Logic.{inl, inr}
use native.Mathlib.Omega.{arith}
use lib.IntN.{pos}
use Rattle.rules.specs.declared.Refusal.{Refusal}
use Rattle.rules.specs.Tables.{Atlas, shelf_at, bucket_at}
use Rattle.rules.specs.Answers.{placing_says}
use Rattle.rules.specs.Builds.{Build, present}
use Rattle.rules.specs.Sound.{SoundBy}
use Rattle.rules.specs.Listed as listedCalls
use Rattle.rules.specs.Listed.{holding, Ended, refusing, beside}
use Rattle.rules.specs.Calls.{natural, allocate, clear_by}
use Rattle.laws.proofs.Sound.Test.{lent_test, sound_test}
use Rattle.laws.proofs.Held.Test.{fits_test}
use Rattle.laws.proofs.Held.Ways.{Passing, tested_same}
use Rattle.claims.specs.Histories.{NeverTables}
use Rattle.claims.specs.Lists.{NeverList}
use Rattle.claims.specs.Requests.{PlacedAsked, PlacedId, Lowest, Earliest, FirstBucket, FirstRaised, RaisedByOne, NewOnLast}
use Rattle.claims.specs.Requests.{RequestPlaced, AllocateOne, AllocateFive, AllocateTwentyTwo, AllocateTwentyThree, FiveBefore}
use Rattle.claims.specs.Requests.{SixOnly, SevenOnly, EightOnly, wide, high, Offers}
use Rattle.claims.specs.Claims.{Claims}
use Rattle.promises.proofs.Exactly.{Accepted, refused_not}
use Rattle.promises.proofs.Sounds.{run_reached, reached_sound}
use Rattle.promises.proofs.Refusals.{deallocate_refusals, new_refusals}
use Rattle.promises.proofs.Picks.{Offered, first_mergeable_one}
use Rattle.promises.proofs.NoPlace.{Small, Large, Wears, allocate_refusals, request_placed, never_8}
use Rattle.promises.proofs.TooLarge.{five_before}
use Rattle.promises.proofs.Listing.{passing}
use Rattle.promises.proofs.Outcomes.{grow_refused, allocate_refused, deallocate_refused}
use Rattle.promises.proofs.ListedOutcomes as listed
use Rattle.promises.proofs.Past.{clear_past}
use Rattle.promises.proofs.Found.{found_alone}
use Rattle.promises.proofs.Places.{place_lowest, place_earliest, place_first, place_raises, place_new}
use Rattle.promises.proofs.Counts.{count_four, count_before}
use Rattle.promises.proofs.Asked.{placed_asked, placed_id}
use Rattle.promises.proofs.Told.{new_size, grow_size, clear_size, deallocate_size, empty_held, space_held}
use Rattle.promises.proofs.Cleared.{clear_fresh, clear_generation}
use Rattle.promises.proofs.History.{kept, held_accepted, listed_exact, returns, stays}
use Rattle.promises.proofs.RecordTurns.{new_keeps}
use Rattle.promises.proofs.Chunks.{chunks_whole}
use Rattle.promises.proofs.Decimals.{decimal_10}
use Rattle.promises.proofs.NumbersIn.{number_in}
use Rattle.promises.proofs.Files.{read_sound_law, read_past}
use Rattle.promises.proofs.FilesRefused.{write_refusals, write_refused, read_refused}
use Rattle.promises.proofs.Pictures.{picture_refusals, picture_refused}
use Rattle.pictured.proofs.Used.{used_area}
use Rattle.pictured.proofs.Lines.{picture_lines}
use Rattle.claims.proofs.Traces.{unknown_stops, length_stops, cut_stops, never_fifteen, report_thirteen, every_report, clear_done, grow_done}
use Rattle.claims.proofs.Traces.{decimal_reads, negative}
use Rattle.claims.proofs.Chunks.{held_less, cut_at_end, over_still, up_to_offset, past_offset, buffer_short, end_short}
use Rattle.claims.proofs.Files.{reads_back, equal_bytes, different_bytes, taken_written, restarted, writes_bytes, head_places, figures_signed}
use Rattle.claims.proofs.Wear.{emptied, not_emptied, last_twice, unreferenced_takes}
use Rattle.claims.proofs.Files.{no_generations, negatives_unsound, table_places, write_one, write_eighteen, writes_file, read_one}
use Rattle.claims.proofs.Files.{read_sixteen, read_seventeen}
use Rattle.claims.proofs.Pictures.{picture_one, picture_twenty_four, pictures_text, one_used, spans_parts, inside_drawn, apart_parts, drawn_held}
use Rattle.claims.proofs.Counts.{count_between, count_same, count_capped, row_divided, filler_divided}
use Rattle.claims.proofs.Orders.{list_one, list_twenty_one, list_nineteen, list_twenty}

-- ---- a request, whose sides are numbers from 0 on

placed_as_asked : PlacedAsked
unfolding natural
placed_as_asked w h g a e = let p = placed_asked (pos w) (pos h) g a e in (p.wide, p.high)

placed_with_id : PlacedId
placed_with_id w h g a e = let p = placed_id (pos w) (pos h) g a e in (p.item, λ i l c. (p.risen i l c).0)

offered : (w h : ℕ) (g : Atlas) (j l : ℕ) → Offers w h g j l → Offered (wide w g) (high h g) g j l
offered w h g j l o = record { takeable = o.0; near = o.1 }

lowest : Lowest
unfolding natural
lowest w h g a e j l o = place_lowest (pos w) (pos h) g a e j l (offered w h g j l o)

earliest : Earliest
unfolding natural
earliest w h g a e j l o = place_earliest (pos w) (pos h) g a e j l (offered w h g j l o)

first_bucket : FirstBucket
unfolding natural
first_bucket w h g a e l ls c o = place_first (pos w) (pos h) g a e l ls c (offered w h g 0 l o)

first_raised : FirstRaised
unfolding natural
first_raised w h g a e j l raised = (place_raises (pos w) (pos h) g a e j l raised).mergeable.earlier

raised_by_one : RaisedByOne
unfolding natural
raised_by_one w h g a e j l raised = (place_raises (pos w) (pos h) g a e j l raised).one

new_on_last : NewOnLast
new_on_last w h g a e l = (place_new (pos w) (pos h) g a e l).top

-- ---- its refusals

not_small : (w h : ℕ) → 1 ≤ w → 1 ≤ h → Small w h → ⊥
not_small w h some low x = elim x [ inl p ↦ omega arith | inr p ↦ omega arith ]

not_large : (w h : ℕ) → w ≤ 65535 → h ≤ 65535 → Large w h → ⊥
not_large w h few low x = elim x [ inl p ↦ omega arith | inr p ↦ omega arith ]

not_refused : RequestPlaced
unfolding natural
not_refused w h g s some some' few few' across down j l t near r e =
    let a : Accepted (placing_says (allocate (pos w) (pos h) g).answer) =
    request_placed (pos w) (pos h) g
    (record {
      sound = (sound_test g).0 s;
      some = not_small w h some some';
      few = not_large w h few few';
      across = λ p. omega arith;
      down = λ p. omega arith;
    })
    (λ n. n.bucket j l t) (λ n. omega (arith, n.bucket j l t)) in
    refused_not r (subst (λ (x : Result Allocation Refusal). Accepted (placing_says x)) e a)

allocate_one : AllocateOne
allocate_one w h g = (allocate_refusals present (pos w) (pos h) g).one.when

allocate_five : AllocateFive
unfolding natural
allocate_five w h g s some low =
    let r = (allocate_refusals present (pos w) (pos h) g).five in
    (λ p. r.when ((sound_test g).0 s, (not_small w h some low, p)), λ e. (r.only e).1.1)

allocate_twenty_two : AllocateTwentyTwo
unfolding natural
allocate_twenty_two w h g s some low few few' =
    let r = (allocate_refusals present (pos w) (pos h) g).twenty_two in
    (λ p. r.when ((sound_test g).0 s, (not_small w h some low, (not_large w h few few', p))), λ e. (r.only e).1.1.1)

allocate_twenty_three : AllocateTwentyThree
unfolding natural
allocate_twenty_three w h g s some low few few' fits =
    let r = (allocate_refusals present (pos w) (pos h) g).twenty_three in
    (λ p. r.when ((sound_test g).0 s, (not_small w h some low, (not_large w h few few', (λ x. omega arith, p)))), λ e. (r.only e).1.1.1.1)

before_five : FiveBefore
unfolding natural
before_five w h g s some low =
    let r = five_before Build.holding (pos w) (pos h) g in
    (λ p. r.when ((sound_test g).0 s, (not_small w h some low, p)), λ e. (r.only e).1.1)

six_only : SixOnly
unfolding natural
six_only w h g e = let n = ((allocate_refusals present (pos w) (pos h) g).six.only e).1 in (n.bucket, n.shelf)

seven_only : SevenOnly
seven_only w h g e = ((allocate_refusals present (pos w) (pos h) g).seven.only e).1.filler.full

eight_only : EightOnly
unfolding natural
eight_only w h g e i m earlier =
    let n : Wears (wide w g) (high h g) g = ((allocate_refusals Build.dividing (pos w) (pos h) g).eight.only e).1 in
    let same : n.start ≡ i = first_mergeable_one n.merge (record { mergeable = m; earlier = earlier }) in
    ap (λ (j : ℕ). (bucket_at g.buckets (shelf_at g.shelves j).first).items) (sym same) ∙ n.items

-- ---- what is never said

never_tables : NeverTables
unfolding clear_by
never_tables build past g x r e =
    let p : SoundBy build g = reached_sound (run_reached r) in
    let d : (Ok tt) ≡ Err Refusal.Tables = simp ((sound_test g).1 p) at (ap (λ (a : Result ⊤ Refusal). a) e) in
    let z : ◌≡◌ {A = ℕ} 0 1 = cc in
    omega arith

never_list : NeverList
unfolding listedCalls.clear_by clear_by
never_list build past g xs r e =
    let p : Passing build (holding g xs) = passing (stays r) in
    let d = sym (tested_same (refusing Err (holding g xs)) (beside (clear_by build g) xs) (holding g xs) p) in
    let z : (clear_by build g).answer ≡ Err Refusal.List = ap (λ (o : Ended (Result ⊤ Refusal)). o.answer) d ∙ e in
    let q : (Ok tt) ≡ Err Refusal.List = simp ((sound_test g).1 p.sound) at z in
    let n : ◌≡◌ {A = ℕ} 0 1 = cc in
    omega arith

-- ---- all

pub claims : Claims
claims = record {
  all_kept = kept;
  never_tables = never_tables;
  held_accepted = held_accepted;
  empty_held = λ past g x r. ((empty_held past g x r).none, (empty_held past g x r).some);
  figures_held = λ past g x r. ((space_held past g x r).allocated, λ w h e. ((space_held past g x r).free w h e).0);
  placed_asked = placed_as_asked;
  placed_id = placed_with_id;
  lowest = lowest;
  earliest = earliest;
  first_bucket = first_bucket;
  first_raised = first_raised;
  raised_by_one = raised_by_one;
  new_on_last = new_on_last;
  found_alone = λ w h g best e. (found_alone w h g best e).others;
  request_placed = not_refused;
  allocate_one = allocate_one;
  allocate_five = allocate_five;
  allocate_twenty_two = allocate_twenty_two;
  allocate_twenty_three = allocate_twenty_three;
  five_before = before_five;
  six_only = six_only;
  seven_only = seven_only;
  eight_only = eight_only;
  count_four = count_four;
  count_between = count_between;
  count_same = count_same;
  count_before = count_before;
  count_capped = count_capped;
  row_divided = row_divided;
  filler_divided = filler_divided;
  new_size = new_size;
  grow_size = grow_size;
  keep_size = λ g. (λ id. deallocate_size id g, clear_size g);
  clear_fresh = λ g e. ((clear_fresh g e).buckets, (clear_fresh g e).align_height);
  clear_generation = clear_generation;
  clear_past = λ g. (clear_past g).shelves;
  grow_refused = λ w h g. (grow_refused w h g).same;
  allocate_refused = λ w h g. (allocate_refused w h g).same;
  deallocate_refused = λ id g. (deallocate_refused id g).same;
  deallocate_nine = λ id g s l. (deallocate_refusals id g).nine.when ((sound_test g).0 s, l);
  new_two = λ w h aw ah n v s b e l. (new_refusals w h aw ah n v s b).two.when ((lent_test s b).holds e, inl (inl l));
  sound_test = λ g. (sound_test g).0;
  unknown_stops = unknown_stops;
  length_stops = length_stops;
  cut_stops = cut_stops;
  never_fifteen = never_fifteen;
  report_thirteen = report_thirteen;
  every_report = every_report;
  new_kept = λ p t. (new_keeps p t).kept;
  new_taken = λ p t. (new_keeps p t).replaced;
  clear_done = clear_done;
  grow_done = grow_done;
  decimal_reads = decimal_reads;
  decimal_leads = λ n l. (decimal_10 n l).leads;
  little_endian = λ p i. (number_in p i).unsigned;
  negative = negative;
  chunks_whole = chunks_whole;
  held_less = held_less;
  cut_at_end = cut_at_end;
  over_still = over_still;
  up_to_offset = up_to_offset;
  past_offset = past_offset;
  buffer_short = buffer_short;
  end_short = end_short;
  read_back = reads_back;
  equal_bytes = equal_bytes;
  different_bytes = different_bytes;
  only_written = taken_written;
  read_sound = read_sound_law present;
  restarted = restarted;
  write_bytes = writes_bytes;
  head_places = head_places;
  figure_signed = figures_signed;
  negative_unsound = negatives_unsound;
  table_places = table_places;
  write_one = write_one;
  write_eighteen = write_eighteen;
  write_done = λ build g out e. (write_refusals build g out).done ((sound_test g).0 e);
  write_refused = write_refused;
  write_file = writes_file;
  read_one = read_one;
  read_sixteen = read_sixteen;
  read_seventeen = read_seventeen;
  read_refused = read_refused;
  read_past = read_past;
  no_generation = no_generations;
  emptied = emptied;
  not_emptied = not_emptied;
  last_twice = last_twice;
  unreferenced_takes = unreferenced_takes;
  never_eight = never_8;
  picture_one = picture_one;
  picture_twenty_four = picture_twenty_four;
  picture_done = λ g out e. (picture_refusals g out).done ((sound_test g).0 e);
  picture_refused = picture_refused;
  picture_text = pictures_text;
  picture_lines = picture_lines;
  used_area = λ g e. used_area g ((sound_test g).0 e);
  used_one = one_used;
  parts_span = spans_parts;
  drawn_inside = inside_drawn;
  parts_apart = apart_parts;
  held_drawn = drawn_held;
  list_exact = listed_exact;
  never_list = never_list;
  returns_held = λ build past g xs r id. let k = returns build past g xs r id in (k.accepted, k.only, k.other);
  fits_test = fits_test;
  list_refused = λ l r. (
    λ w h. (listed.allocate_refused w h l).same r,
    λ id. (listed.deallocate_refused id l).same r,
    (listed.clear_refused l).same r,
    λ w h. (listed.grow_refused w h l).same r,
    λ build out. listed.write_refused build l out r,
    λ out. listed.picture_refused l out r,
  );
  list_one = list_one;
  list_twenty_one = list_twenty_one;
  list_nineteen = list_nineteen;
  list_twenty = list_twenty;
}
