-- An issue keeps what ties the held rectangles to the tables: the new one's area is what its bucket's used area grows by.
use Rattle.std.specs.Prelude.{Ok}
use Prim.Native.Nat.{ℕ, ◌+◌, ◌-◌, ◌*◌, ◌<◌}
use mathlib.Core.Path.{◌≡◌, sym, ◌∙◌, subst}
use mathlib.Core.Logic.{◌≢◌}
use mathlib.Core.List.{List, ◌∷◌}
use native.Mathlib.Decide.{ℕ_discrete}
use native.Mathlib.Omega.{arith}
use borrow.Author.Tests.{eq-eqb, ne_eqb}
use Rattle.rules.specs.declared.Shelf.{Shelf}
use Rattle.rules.specs.declared.Bucket.{Bucket}
use Rattle.rules.specs.declared.Rectangle.{Rectangle}
use Rattle.rules.specs.declared.Allocation.{Allocation}
use Rattle.rules.specs.Ids.{id_bucket}
use Rattle.rules.specs.Tables.{Atlas, Outcome, bucket_at, shelf_at}
use Rattle.rules.specs.Return.{used_area}
use Rattle.rules.specs.Issue.{area, taken}
use Rattle.rules.specs.Sound.{Counted, Steady}
use Rattle.rules.specs.History.{Event, held, issued_from, issued_since}
use Rattle.laws.proofs.Sound.Unreferenced.{unreferenced_area}
use Rattle.laws.proofs.Issue.Keep.{Issuable, IssueFacts, used_more}
use Rattle.laws.proofs.Return.Uncleaned.{shelf_of}
use Rattle.laws.proofs.Held.Each.{from_here, from_other}
use Rattle.laws.proofs.Tied.Issue.{Takes, below, counted, count_same, new_bucket, shelf_is, shelf_was, shelf_other, tied_issue}
use Rattle.promises.proofs.Invariant.{Ties, since_more, since_none}

-- the area of a rectangle w wide and `height` high
area_of : (r : Rectangle) (w height : ℕ) → r.right ≡ r.left + w → r.bottom ≡ r.top + height → area r ≡ w * height
area_of r w height ew eh =
    let across : r.right - r.left ≡ w = omega arith in
    let down : r.bottom - r.top ≡ height = omega arith in
    rw (across, down)

issued_here : (k : ℕ) (a : Allocation) → id_bucket a.id ≡ k → issued_from k (Event.allocated (Ok a)) ≡ area a.rectangle
issued_here k a e = simp (eq-eqb (id_bucket a.id) k e)

issued_other : (k : ℕ) (a : Allocation) → id_bucket a.id ≢ k → issued_from k (Event.allocated (Ok a)) ≡ 0
issued_other k a ne = simp (ne_eqb (id_bucket a.id) k ne)

module _ {g : Atlas} (st : Steady g) (i k w : ℕ) (p : Issuable i k w g) (o : Outcome Allocation) (f : IssueFacts i k w g o) where
  -- the bucket and its shelf
  abbrev v : Bucket
  v = bucket_at g.buckets k

  abbrev s : Shelf
  s = shelf_at g.shelves i

  there : k < g.head.bucket_count
  there = below st i k w p o f

  counts : Counted i s v
  counts = counted st i k w p o f

  its_bucket : id_bucket o.answer.id ≡ k
  its_bucket = new_bucket st i k w p o f

  -- ---- the areas

  module _ {past : List Event} (t : Ties past g) where
    -- what the call adds to the history
    abbrev event : Event
    event = Event.allocated (Ok o.answer)

    area_new : issued_from k event ≡ w * s.height
    area_new = issued_here k o.answer its_bucket
        ∙ area_of o.answer.rectangle w s.height f.lies.right (omega (arith, f.lies.bottom, f.lies.top))

    -- what was issued before is what was used before
    area_before : issued_since k past ≡ used_area s v
    area_before = elim (ℕ_discrete v.refs 0) [
      | yes z ↦ since_none k past (t.tied.refs k there ∙ z) ∙ sym (unreferenced_area i s v counts z)
      | no ne ↦ rw (shelf_was st i k w p o f) at (t.area k there (omega arith))
    ]

    area_after : issued_since k (event ∷ past) ≡ used_area s (taken v w)
    area_after =
        let more = since_more k event past (λ z. omega (arith, from_here k o.answer (held past) its_bucket)) in
        let used = used_more s.width v.free s.height w p.free counts.free in
        omega (arith, more, used, area_new, area_before)

    area_other : (j : ℕ) → j ≢ k → j < g.head.bucket_count → 0 < (bucket_at g.buckets j).refs
        → issued_since j (event ∷ past) ≡ used_area (shelf_of j g) (bucket_at g.buckets j)
    area_other j ne l r =
        let away : id_bucket o.answer.id ≢ j = λ e. ne (sym e ∙ its_bucket) in
        let more = since_more j event past (λ z. omega (arith, from_other j o.answer (held past) away, t.tied.refs j l)) in
        omega (arith, more, issued_other j o.answer away, t.area j l r)

    pub ties_issue : Takes k g → Ties (event ∷ past) o.state
    ties_issue takes = record {
      tied = tied_issue st i k w p o f takes t.tied;
      area = λ j l r. elim (ℕ_discrete j k) [
        | yes e ↦ subst (λ (z : ℕ). issued_since z (event ∷ past) ≡ used_area (shelf_of z o.state) (bucket_at o.state.buckets z)) (sym e)
            (rw (shelf_is st i k w p o f) (rw f.changes.bucket area_after))
        | no ne ↦ rw (shelf_other st i k w p o f j ne) (rw (f.changes.others j ne)
            (area_other j ne (omega (arith, count_same st i k w p o f)) (rw (f.changes.others j ne) at r)))
      ];
    }
