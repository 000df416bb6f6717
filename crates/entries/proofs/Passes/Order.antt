-- A list that comes through the pass fits the tables. Its entries stand bucket by bucket, each bucket's from left to right with rising item
-- numbers, so no two share an id or a pixel; and no bucket has more of them than references.
use Prim.Native.Nat.{ℕ, zero, suc, ◌+◌, ◌≤◌, ◌<◌}
use mathlib.Core.Bool.{Bool, true, false}
use mathlib.Core.Path.{◌≡◌, refl, sym, subst}
use mathlib.Core.List.{List}
use native.Mathlib.Decide.{ℕ_discrete}
use native.Mathlib.Omega.{arith}
use borrow.Author.Tests.{eq-eqb, ne_eqb}
use lib.Dec.{eqb}
use lib.ListN.{length, take}
use Rattle.rules.specs.declared.Allocation.{Allocation}
use Rattle.std.specs.Prelude.{if◌then◌else◌, Option, Some, None, is_some, IfSome, option_and_then}
use Rattle.rules.specs.Ids.{id_bucket, id_item}
use Rattle.rules.specs.Tables.{Atlas}
use Rattle.rules.specs.Sound.{Steady, Sound}
use Rattle.rules.specs.Held.{entry, entries, from_bucket, refs_of, bucket_of, shelf_under, fits}
use Rattle.laws.proofs.Tests.Tells.{Tells, false_true, tells_leb, tells_ltb, tells_map, tells_and}
use Rattle.laws.proofs.Chains.Count.{hit_same, hit_other}
use Rattle.laws.proofs.Sound.Apart.{Used}
use Rattle.laws.proofs.Held.Test.{Stands, Disjoint, AllStand, belongs_tells, fits_of, fits_tells}
use Rattle.laws.proofs.Held.Counts.{named, from_next, numbered_of}
use Rattle.laws.proofs.Held.Apart.{other_bucket, along_bucket}
use Rattle.entries.specs.declared.passing.Order.{Order}
use Rattle.entries.specs.Passes.{begun, in_place, moved, step, passed}

-- what a pass p behind the first i entries knows of them
record Known (list : List Allocation) (i : ℕ) (p : Order) : Type 0 where
  behind : (j : ℕ) → j < i → named list j < p.next
  last : (j : ℕ) → j < i → named list j + 1 ≡ p.next → ((entry list j).rectangle.right ≤ p.right) × (id_item (entry list j).id < p.item)
  seen : (k : ℕ) → k + 1 ≡ p.next → from_bucket k (take i list) ≡ p.seen
  ahead : (k : ℕ) → p.next ≤ k → from_bucket k (take i list) ≡ 0

-- the same as an entry of bucket k finds it
record Ready (list : List Allocation) (i k : ℕ) (p : Order) : Type 0 where
  behind : (j : ℕ) → j < i → named list j ≤ k
  last : (j : ℕ) → j < i → named list j ≡ k → ((entry list j).rectangle.right ≤ p.right) × (id_item (entry list j).id < p.item)
  seen : from_bucket k (take i list) ≡ p.seen
  ahead : (l : ℕ) → k < l → from_bucket l (take i list) ≡ 0

begun_next : (p : Order) (k : ℕ) → (begun p k).next ≡ p.next
unfolding begun
begun_next p k = by (eqb (k + 1) p.next)
  where
    by : (t : Bool) → (if t then p else record { next = p.next; seen = 0; right = 0; item = 0 }).next ≡ p.next
    by true = refl
    by false = refl

begun_ready : (list : List Allocation) (i k : ℕ) (p : Order) → Known list i p → p.next ≤ k + 1 → Ready list i k (begun p k)
unfolding begun
begun_ready list i k p h l = elim (ℕ_discrete (k + 1) p.next) [
  | yes e ↦ simp (eq-eqb (k + 1) p.next e) (record {
    behind = λ j m. omega (arith, h.behind j m);
    last = λ j m q. h.last j m (omega arith);
    seen = h.seen k e;
    ahead = λ n m. h.ahead n (omega arith);
  })
  | no ne ↦ simp (ne_eqb (k + 1) p.next ne) (record {
    behind = λ j m. omega (arith, h.behind j m);
    last = λ j m q. absurd (omega (arith, h.behind j m));
    seen = h.ahead k (omega arith);
    ahead = λ n m. h.ahead n (omega arith);
  })
]

-- what `in_place` asks
record InPlace (g : Atlas) (p : Order) (a : Allocation) : Type 0 where
  next : p.next ≤ id_bucket a.id + 1
  stands : Stands g a
  left : p.seen < refs_of g (id_bucket a.id)
  right : p.right ≤ a.rectangle.left
  item : p.item ≤ id_item a.id

place_tells : (g : Atlas) (p : Order) (a : Allocation) → Tells (in_place g p a) (InPlace g p a)
unfolding in_place
place_tells g p a = tells_map
    (tells_and _ _ (tells_and _ _ (tells_and _ _ (tells_and _ _ (tells_and _ _
    (tells_leb p.next (id_bucket a.id + 1))
    (tells_ltb (id_bucket a.id) g.head.bucket_count))
    (tells_ltb p.seen (refs_of g (id_bucket a.id))))
    (tells_leb p.right a.rectangle.left))
    (tells_leb p.item (id_item a.id)))
    (belongs_tells (bucket_of g a) (shelf_under g a) a))
    (λ h. record {
      next = h.0.0.0.0.0;
      stands = record { named = h.0.0.0.0.1; belongs = h.1 };
      left = h.0.0.0.1;
      right = h.0.0.1;
      item = h.0.1;
    })
    (λ h. (((((h.next, h.stands.named), h.left), h.right), h.item), h.stands.belongs))

module _ {g : Atlas} {list : List Allocation} {i : ℕ} {p : Order} (within : i < length list)
    (r : Ready list i (named list i) p) (h : InPlace g p (entry list i)) where
  -- behind the entry too
  moved_known : Known list (suc i) (moved p (entry list i))
  moved_known = record {
    behind = λ j l. elim (ℕ_discrete j i) [ yes e ↦ rw e (omega arith) | no ne ↦ omega (arith, r.behind j (omega arith)) ];
    last = λ j l q. elim (ℕ_discrete j i) [
      | yes e ↦ rw e (omega arith)
      | no ne ↦ let before = r.last j (omega arith) (omega arith) in omega (arith, before, h.right, h.item, h.stands.belongs.wide)
    ];
    seen = λ k q.
        let e : k ≡ named list i = omega arith in
        rw e (omega (arith, from_next (named list i) i list within, hit_same (named list i), r.seen));
    ahead = λ k l. omega (arith, from_next k i list within, hit_other (named list i) k (omega arith), r.ahead k (omega arith));
  }

  moved_within : ((k : ℕ) → k < g.head.bucket_count → from_bucket k (take i list) ≤ refs_of g k)
      → (k : ℕ) → k < g.head.bucket_count → from_bucket k (take (suc i) list) ≤ refs_of g k
  moved_within le k l = elim (ℕ_discrete (named list i) k) [
    | yes e ↦ rw (sym e) (omega (arith, from_next (named list i) i list within, hit_same (named list i), r.seen, h.left))
    | no ne ↦ omega (arith, from_next k i list within, hit_other (named list i) k ne, le k l)
  ]

  -- it shares neither id nor pixel with one before it
  moved_apart : Steady g → ((j : ℕ) → j < i → Stands g (entry list j)) → ((j : ℕ) → j < i → Used g (named list j))
      → (j : ℕ) → j < i → Disjoint (entry list i) (entry list j)
  moved_apart st stands used j l = elim (ℕ_discrete (named list i) (named list j)) [
    | yes e ↦
        let before = r.last j l (sym e) in
        along_bucket (omega (arith, before, h.right)) (omega (arith, before, h.item))
    | no ne ↦ other_bucket st h.stands (stands j l) (record { below = h.stands.named; refs = omega (arith, h.left) }) (used j l) ne
  ]

-- what a pass p after the first i entries shows of them
record Shown (g : Atlas) (list : List Allocation) (i : ℕ) (p : Order) : Type 0 where
  known : Known list i p
  standing : AllStand g list i
  used : (j : ℕ) → j < i → Used g (named list j)
  within : (k : ℕ) → k < g.head.bucket_count → from_bucket k (take i list) ≤ refs_of g k

-- one entry more of what holds of each
one_more : (P : ℕ → Type 0) (i : ℕ) → ((j : ℕ) → j < i → P j) → P i → (j : ℕ) → j < suc i → P j
one_more P i h e j l = elim (ℕ_discrete j i) [ yes q ↦ subst P (sym q) e | no ne ↦ h j (omega arith) ]

module _ {g : Atlas} (st : Steady g) (list : List Allocation) where
  shown_moved : (i : ℕ) (p : Order) → i < length list → Shown g list i p → InPlace g (begun p (named list i)) (entry list i)
      → Shown g list (suc i) (moved (begun p (named list i)) (entry list i))
  shown_moved i p l before h =
      let r : Ready list i (named list i) (begun p (named list i)) =
      begun_ready list i (named list i) p before.known (omega (arith, h.next, begun_next p (named list i))) in
      record {
        known = moved_known l r h;
        standing = record {
          stands = one_more (λ j. Stands g (entry list j)) i before.standing.stands h.stands;
          apart = one_more (λ j. (k : ℕ) → k < j → Disjoint (entry list j) (entry list k)) i before.standing.apart
              (moved_apart l r h st before.standing.stands before.used);
        };
        used = one_more (λ j. Used g (named list j)) i before.used (record { below = h.stands.named; refs = omega (arith, h.left) });
        within = moved_within l r h before.within;
      }

  step_shows : (i : ℕ) (p : Order) → i < length list → Shown g list i p → IfSome (step g p (entry list i)) (Shown g list (suc i))
  unfolding step
  step_shows i p l before = by (in_place g q (entry list i)) refl
    where
      q : Order
      q = begun p (named list i)

      by : (t : Bool) → in_place g q (entry list i) ≡ t → IfSome (if t then Some (moved q (entry list i)) else None) (Shown g list (suc i))
      by true e = shown_moved i p l before ((place_tells g q (entry list i)).holds e)
      by false e = tt

  pass_shows : (i : ℕ) → i ≤ length list → IfSome (passed g list i) (Shown g list i)
  unfolding passed
  pass_shows zero l = record {
    known = record { behind = λ j m. absurd (omega arith); last = λ j m. absurd (omega arith); seen = λ k q. refl; ahead = λ k m. refl };
    standing = record { stands = λ j m. absurd (omega arith); apart = λ j m. absurd (omega arith) };
    used = λ j m. absurd (omega arith);
    within = λ k m. omega arith;
  }
  pass_shows (suc i) l = on (passed g list i) (pass_shows i (omega arith))
    where
      on : (o : Option Order) → IfSome o (Shown g list i)
          → IfSome (option_and_then (λ p. step g p (entry list i)) o) (Shown g list (suc i))
      on None h = tt
      on (Some p) h = step_shows i p l h

some_of : {A : Type 0} (P : A → Type 0) (o : Option A) → is_some o ≡ true → IfSome o P → (a : A) × P a
some_of P None e h = false_true e
some_of P (Some a) e h = (a, h)

pub pass_fits : {g : Atlas} → Sound g → (list : List Allocation) → entries g ≤ length list → is_some (passed g list (entries g)) ≡ true
    → fits g list ≡ true
pass_fits {g} s list room e =
    let h = (some_of (Shown g list (entries g)) (passed g list (entries g)) e (pass_shows s.steady list (entries g) room)).1 in
    (fits_tells g list).shown (fits_of room h.standing (numbered_of g list room (λ i l. (h.standing.stands i l).named) h.within))
