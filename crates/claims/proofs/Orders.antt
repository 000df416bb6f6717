-- The claims of specs/Orders.antt: the order of the refusals of the calls with the list.
use Rattle.std.specs.Prelude.{Result, ⊤}
use Rattle.rules.specs.declared.Allocation.{Allocation}
use Rattle.rules.specs.declared.Refusal.{Refusal}
use mathlib.Core.Bool.{true}
use mathlib.Core.Path.{◌≡◌, ap}
use Rattle.rules.specs.Answers.{reply_says, placing_says}
use Rattle.rules.specs.Builds.{present}
use Rattle.rules.specs.Sound.{is_sound}
use Rattle.rules.specs.Held.{fits}
use Rattle.rules.specs.Listed.{Holding, Ended}
use Rattle.laws.proofs.Sound.Test.{sound_test}
use Rattle.laws.proofs.Held.Test.{fits_test}
use Rattle.laws.proofs.Held.Ways.{Passing}
use Rattle.promises.proofs.Refusals.{deallocate_refusals}
use Rattle.promises.proofs.AsBefore.{as_before}
use Rattle.promises.proofs.ListedRefusals.{listed_clear, listed_grow, listed_allocate, listed_deallocate, listed_reading, listed_write, listed_picture}
use Rattle.claims.specs.Orders.{ListOne, ListTwentyOne, ListNineteen, ListTwenty}

pub list_one : ListOne
list_one l n = record {
  clear = (listed_clear l).one.when n;
  grow = λ w h. (listed_grow w h l).one.when n;
  allocate = λ w h. (listed_allocate w h l).one.when n;
  deallocate = λ id. (listed_deallocate id l).one.when n;
  size = (listed_reading l).size_one.when n;
  is_empty = (listed_reading l).empty_one.when n;
  allocated = (listed_reading l).allocated_one.when n;
  free = (listed_reading l).free_one.when n;
  write = λ out. (listed_write present l out).one.when n;
  picture = λ out. (listed_picture l out).one.when n;
}

pub list_twenty_one : ListTwentyOne
list_twenty_one l e n =
    let s = (sound_test l.state).0 e in
    record {
      clear = (listed_clear l).twenty_one.when (s, n);
      grow = λ w h. (listed_grow w h l).twenty_one.when (s, n);
      allocate = λ w h. (listed_allocate w h l).twenty_one.when (s, n);
      deallocate = λ id. (listed_deallocate id l).twenty_one.when (s, n);
      size = (listed_reading l).size_twenty_one.when (s, n);
      is_empty = (listed_reading l).empty_twenty_one.when (s, n);
      allocated = (listed_reading l).allocated_twenty_one.when (s, n);
      free = (listed_reading l).free_twenty_one.when (s, n);
      write = λ out. (listed_write present l out).twenty_one.when (s, n);
      picture = λ out. (listed_picture l out).twenty_one.when (s, n);
    }

passing : (l : Holding) → is_sound l.state ≡ true → fits l.state l.list ≡ true → Passing present l
passing l e f = record { sound = (sound_test l.state).0 e; fits = (fits_test l.state l.list).0 f }

pub list_nineteen : ListNineteen
list_nineteen w h l e f =
    let p : Passing present l = passing l e f in (
      λ r q. ap (λ (o : Ended (Result Allocation Refusal)). placing_says o.answer) ((as_before l p).refused w h r q),
      λ a q. (
        λ full. (listed_allocate w h l).nineteen.when (p, ((a, q), full)),
        λ room. ap (λ (o : Ended (Result Allocation Refusal)). placing_says o.answer) ((as_before l p).placed w h a q room),
      ),
    )

pub list_twenty : ListTwenty
list_twenty id l e f =
    let p : Passing present l = passing l e f in (
      λ r q. ap (λ (o : Ended (Result ⊤ Refusal)). reply_says o.answer) ((as_before l p).unreturned id r q),
      λ q.
          let k = (deallocate_refusals id l.state).done.only (ap reply_says q) in
          (λ n. (listed_deallocate id l).twenty.when (p, (k, n)), λ i. (listed_deallocate id l).done.when (p, (k, i))),
    )
