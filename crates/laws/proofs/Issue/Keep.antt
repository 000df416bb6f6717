-- An issue keeps the tables sound: it changes one bucket's free width and counts, and its rectangle lies in what was free of that bucket.
-- So the last shelf has a referenced bucket if it had one, or if the issue was on it.
use Prim.Native.Nat.{ℕ, suc, ◌+◌, ◌-◌, ◌*◌, ◌≤◌, ◌<◌}
use mathlib.Core.Bool.{true}
use mathlib.Core.Path.{◌≡◌, refl, ap, ◌∙◌, subst}
use mathlib.Core.Logic.{◌⊎◌, inl, inr}
use native.Mathlib.Decide.{ℕ_discrete}
use native.Mathlib.Omega.{arith}
use Rattle.rules.specs.declared.Allocation.{Allocation}
use Rattle.rules.specs.declared.Bucket.{Bucket}
use Rattle.rules.specs.declared.Head.{Head}
use Rattle.rules.specs.declared.Rectangle.{Rectangle}
use Rattle.rules.specs.declared.Shelf.{Shelf}
use Rattle.rules.specs.Tables.{Atlas, bucket_at, shelf_at, with_occupied, Outcome}
use Rattle.rules.specs.Chains.{In, chain_of}
use Rattle.rules.specs.Issue.{issue, rectangle_for, area, taken, allocation_for}
use Rattle.rules.specs.Return.{top_of}
use Rattle.rules.specs.Builds.{Build, renews}
use Rattle.rules.specs.Sound.{Counted, Steady, Rested, SoundBy, LastUsed}
use Rattle.laws.proofs.Sound.Lies.{member_below}
use Rattle.laws.proofs.Sound.Within.{BucketWithin, bucket_within}
use Rattle.laws.proofs.Issue.Change.{Suits, Changes, changes}

-- w can be issued from bucket k of shelf i
pub record Issuable (i k w : ℕ) (g : Atlas) : Type 0 where
  pub there : i < g.head.shelf_count
  pub member : In k (chain_of g i)
  pub some : 1 ≤ w
  pub free : w ≤ (bucket_at g.buckets k).free
  pub high : 1 ≤ (shelf_at g.shelves i).height

-- the rectangle is w of what was free of the bucket, as high as the shelf, and within the atlas
pub record Lies (i k w : ℕ) (g : Atlas) (r : Rectangle) : Type 0 where
  pub left : r.left ≡ (bucket_at g.buckets k).x + ((shelf_at g.shelves i).width - (bucket_at g.buckets k).free)
  pub right : r.right ≡ r.left + w
  pub top : r.top ≡ (shelf_at g.shelves i).y
  pub bottom : r.bottom ≡ top_of (shelf_at g.shelves i)
  pub wide : r.left < r.right
  pub high : r.top < r.bottom
  pub bucket : r.right ≤ (bucket_at g.buckets k).x + (shelf_at g.shelves i).width
  pub across : r.right ≤ g.head.width
  pub down : r.bottom ≤ g.head.height

-- what there is to know of an issue
pub record IssueFacts (i k w : ℕ) (g : Atlas) (o : Outcome Allocation) : Type 0 where
  pub changes : Changes g k (taken (bucket_at g.buckets k) w) o.state
  pub shelves : o.state.shelves ≡ g.shelves
  pub head : o.state.head ≡ with_occupied g.head (g.head.occupied + w * (shelf_at g.shelves i).height)
  pub answer : o.answer ≡ allocation_for k (shelf_at g.shelves i) (bucket_at g.buckets k) w
  pub lies : Lies i k w g o.answer.rectangle

-- the area of the rectangle
pub area_is : (s : Shelf) (v : Bucket) (w : ℕ) → area (rectangle_for s v w) ≡ w * s.height
area_is s v w =
    let across : v.x + s.width - v.free + w - (v.x + s.width - v.free) ≡ w = omega arith in
    let down : s.y + s.height - s.y ≡ s.height = omega arith in
    rw (across, down)

-- the used area with w more
pub used_more : (width free height w : ℕ) → w ≤ free → free ≤ width → (width - (free - w)) * height ≡ (width - free) * height + w * height
used_more width free height w lw lf =
    let e : width - (free - w) ≡ width - free + w = omega arith in
    rw e (omega arith)

module _ {g : Atlas} (st : Steady g) (i k w : ℕ) (p : Issuable i k w g) where
  pub taken_fits : Suits g i k (taken (bucket_at g.buckets k) w)
  taken_fits =
      let c : Counted i (shelf_at g.shelves i) (bucket_at g.buckets k) = (st.stocked i p.there).counted k p.member in
      record {
        x = refl;
        next = refl;
        generation = st.generations k (member_below st i k p.there p.member);
        counted = record {
          shelf = c.shelf;
          free = omega (arith, c.free);
          whole = λ z. absurd (omega arith);
          unused = λ z. absurd (omega (arith, c.free, p.some, p.free));
          items = omega (arith, c.items);
          flat = λ z. absurd (omega (arith, p.high));
        };
      }

  pub issue_facts : IssueFacts i k w g (issue i k w g)
  unfolding issue
  issue_facts =
      let c : Counted i (shelf_at g.shelves i) (bucket_at g.buckets k) = (st.stocked i p.there).counted k p.member in
      let b : BucketWithin g i k = bucket_within st i k p.there p.member in
      let a = area_is (shelf_at g.shelves i) (bucket_at g.buckets k) w in
      let more = used_more (shelf_at g.shelves i).width (bucket_at g.buckets k).free (shelf_at g.shelves i).height w p.free c.free in
      record {
        changes = changes st i k p.there p.member (taken (bucket_at g.buckets k) w) taken_fits
            (g.head.occupied + area (rectangle_for (shelf_at g.shelves i) (bucket_at g.buckets k) w)) (omega (arith, a, more));
        shelves = refl;
        head = rw a;
        answer = refl;
        lies = record {
          left = omega (arith, c.free);
          right = refl;
          top = refl;
          bottom = refl;
          wide = omega (arith, p.some);
          high = omega (arith, p.high);
          bucket = omega (arith, c.free, p.free);
          across = omega (arith, c.free, p.free, b.across);
          down = b.down;
        };
      }

  pub steady_issue : Steady (issue i k w g).state
  steady_issue = issue_facts.changes.steady

  -- the bucket is referenced now
  pub issued_refs : 0 < (bucket_at (issue i k w g).state.buckets k).refs
  issued_refs = rw issue_facts.changes.bucket (omega arith)

  -- the last shelf is used if it was, or if the bucket is on it
  pub last_issue : LastUsed g ⊎ (suc i ≡ g.head.shelf_count) → LastUsed (issue i k w g).state
  last_issue (inl u) j e =
      let r = u j (e ∙ ap (λ (h : Head). h.shelf_count) issue_facts.head) in
      elim (ℕ_discrete r.0 k) [
        | yes q ↦ (k, rw (issue_facts.changes.chains j) (subst (λ (a : ℕ). In a (chain_of g j)) q r.1), issued_refs)
        | no ne ↦ (r.0, rw (issue_facts.changes.chains j) r.1, rw (issue_facts.changes.others r.0 ne) r.2)
      ]
  last_issue (inr q) j e =
      let same : i ≡ j = omega (arith, e ∙ ap (λ (h : Head). h.shelf_count) issue_facts.head) in
      (k, rw (issue_facts.changes.chains j) (subst (λ (a : ℕ). In k (chain_of g a)) same p.member), issued_refs)

  -- and every other bucket is as it was
  pub rested_issue : Rested g → Rested (issue i k w g).state
  rested_issue p j l z = elim (ℕ_discrete j k) [
    | yes e ↦ absurd (omega (arith, issued_refs, subst (λ (a : ℕ). (bucket_at (issue i k w g).state.buckets a).refs ≡ 0) e z))
    | no ne ↦ rw (issue_facts.changes.others j ne)
        (p j (omega (arith, ap (λ (h : Head). h.bucket_count) issue_facts.head)) (rw (issue_facts.changes.others j ne) at z))
  ]

  pub sound_issue : {build : Build} → LastUsed g ⊎ (suc i ≡ g.head.shelf_count) → (renews build ≡ true → Rested g) → SoundBy build (issue i k w g).state
  sound_issue u p = record { steady = steady_issue; last_used = last_issue u; rested = λ e. rested_issue (p e) }
