-- Sound tables give what an issue asks for.
use Prim.Native.Nat.{ℕ, ◌+◌, ◌*◌, ◌<◌}
use mathlib.Core.Path.{ap}
use native.Mathlib.Omega.{arith}
use Rattle.rules.specs.declared.Head.{Head}
use Rattle.rules.specs.Limits.{items_last}
use Rattle.rules.specs.Tables.{Atlas, bucket_at, shelf_at}
use Rattle.rules.specs.Issue.{issue}
use Rattle.rules.specs.Sound.{Steady}
use Rattle.laws.proofs.Sound.Lies.{member_below, shelf_top, shelf_right, bucket_right, occupied_area, area_fits}
use Rattle.laws.proofs.Issue.Keep.{Issuable, IssueFacts, issue_facts, steady_issue}
use Rattle.issue.specs.Needs.{CanIssue}

module _ {g : Atlas} (st : Steady g) (i k w : ℕ) (p : Issuable i k w g) where
  -- the figure after it is at most the area of the atlas
  figure_fits : g.head.occupied + w * (shelf_at g.shelves i).height < 4294967296
  figure_fits =
      let f : IssueFacts i k w g (issue i k w g) = issue_facts st i k w p in
      let n = occupied_area (steady_issue st i k w p) in
      let a = area_fits (steady_issue st i k w p) in
      let e = ap (λ (h : Head). h.occupied) f.head in
      omega arith

  pub can_issue : (bucket_at g.buckets k).items < items_last → CanIssue i k w g
  can_issue few =
      let below = member_below st i k p.there p.member in
      let c = (st.stocked i p.there).counted k p.member in
      record {
        shelf = omega (arith, p.there, st.domain.shelves, st.lent.shelves);
        bucket = omega (arith, st.domain.buckets, st.lent.buckets);
        id = omega (arith, st.domain.buckets);
        take = record {
          free = p.free;
          within = c.free;
          right = omega (arith, bucket_right st i k p.there p.member, shelf_right st i p.there, st.domain.width.1);
          bottom = omega (arith, shelf_top st i p.there, st.domain.height.1);
          refs = omega (arith, c.items);
          items = few;
          generation = st.generations k below;
        };
        figure = figure_fits;
      }
