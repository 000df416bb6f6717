-- Shelves widened one by one: each leaves what the next one needs; and the header of a grow.
use Prim.Native.Nat.{ℕ, zero, suc, ◌+◌, ◌-◌, ◌*◌, ◌/◌, ◌≤◌, ◌<◌}
use mathlib.Core.Path.{◌≡◌, refl, ap, ◌∙◌}
use mathlib.Core.Logic.{◌≢◌}
use mathlib.Core.List.{List}
use native.Mathlib.Omega.{arith}
use native.Mathlib.Nat.{zero-add, mul-le-mul, div-mul-le_self}
use native.Mathlib.Numerals.{add-one}
use native.Mathlib.Decide.{ℕ_discrete}
use borrow.Author.Tests.{eq-eqb, ne_eqb}
use lib.ListN.{length}
use Rattle.rules.specs.declared.Head.{Head}
use Rattle.rules.specs.declared.Shelf.{Shelf}
use Rattle.rules.specs.Tables.{Atlas, atlas, shelf_at, put_shelf, with_sides}
use Rattle.rules.specs.Store.{Lay, laying, lay_many}
use Rattle.rules.specs.Grow.{grown_head, more_buckets, headed, widened, widened_to, grown}
use Rattle.laws.proofs.Tables.Records.{length_put_s, at_s_put, at_s_put_other}
use Rattle.store.proofs.Laid.{Room, lay_head, lay_shelves, lay_length, lay_room}
use Rattle.grow.specs.Needs.{CanWiden, CanWidenAll, CanGrow}

-- ---- one shelf

-- as many as the rule allows end at the new width
more_right : (added x : ℕ) (s : Shelf) (h : Head) → x + added ≤ 65535 → x + more_buckets added s h * s.width ≤ 65535
more_right added x s h r =
    let a : more_buckets added s h * s.width ≤ added / s.width * s.width = mul-le-mul (omega arith) (omega arith) in
    omega (arith, div-mul-le_self added s.width)

-- what is asked of shelf i
pub all_widens : (x added i : ℕ) (g : Atlas) → i < g.head.shelf_count → CanWidenAll x added g
    → CanWiden x (more_buckets added (shelf_at g.shelves i) g.head) i g
all_widens x added i g l c = record {
  shelf = omega (arith, c.shelves);
  lay = record {
    room = record { few = omega (arith, c.few); fits = omega (arith, c.buckets, c.few); whole = c.released };
    right = more_right added x (shelf_at g.shelves i) g.head c.right;
  };
}

-- a shelf whose first bucket changes is as wide as before
width_kept : (s : List ℕ) (i f : ℕ) → 5 * i + 5 ≤ length s → (j : ℕ) → (shelf_at (put_shelf s i (headed (shelf_at s i) f)) j).width ≡ (shelf_at s j).width
width_kept s i f l j = elim (ℕ_discrete j i) [
  | yes e ↦ rw e (ap (λ (v : Shelf). v.width) (at_s_put s i (headed (shelf_at s i) f) l))
  | no ne ↦ ap (λ (v : Shelf). v.width) (at_s_put_other s i (headed (shelf_at s i) f) j ne)
]

-- what the next one needs
pub widen_keeps : (x added i : ℕ) (g : Atlas) → i < g.head.shelf_count → CanWidenAll x added g
    → CanWidenAll x added (widened x (more_buckets added (shelf_at g.shelves i) g.head) i g)
unfolding widened
widen_keeps x added i g l c =
    let s : Shelf = shelf_at g.shelves i in
    let k : ℕ = more_buckets added s g.head in
    let m : Lay = lay_many k s.width i (laying g x s.first) in
    let e : m.state.shelves ≡ g.shelves = lay_shelves k s.width i (laying g x s.first) in
    let n : m.state.head.shelf_count ≡ g.head.shelf_count = ap (λ (h : Head). h.shelf_count) (lay_head k s.width i (laying g x s.first)) in
    let r : Room 0 m.state = lay_room 0 k s.width i (laying g x s.first) (rw (zero-add k) (all_widens x added i g l c).lay.room) in
    record {
      shelves = rw (length_put_s m.state.shelves i (headed s m.first), e) (omega (arith, c.shelves));
      buckets = omega (arith, c.buckets, lay_length k s.width i (laying g x s.first));
      few = omega (arith, r.few);
      released = r.whole;
      wide = λ j a. rw (e, width_kept g.shelves i m.first (omega (arith, c.shelves)) j) (c.wide j (omega arith));
      right = c.right;
    }

-- by what was laid
pub widened_by : (x count i : ℕ) (g : Atlas) (l : Lay) → l ≡ lay_many count (shelf_at g.shelves i).width i (laying g x (shelf_at g.shelves i).first)
    → atlas l.state.head (put_shelf l.state.shelves i (headed (shelf_at g.shelves i) l.first)) l.state.buckets ≡ widened x count i g
unfolding widened
widened_by x count i g l e = rw e

widen_count : (x count i : ℕ) (g : Atlas) → (widened x count i g).head.shelf_count ≡ g.head.shelf_count
unfolding widened
widen_count x count i g = ap (λ (h : Head). h.shelf_count) (lay_head count (shelf_at g.shelves i).width i (laying g x (shelf_at g.shelves i).first))

-- ---- all shelves

pub widened_none : (x added : ℕ) (g : Atlas) → g ≡ widened_to x added 0 g
unfolding widened_to
widened_none x added g = refl

pub widened_more : (x added k : ℕ) (g : Atlas) → widened_to x added (k + 1) g
    ≡ widened x (more_buckets added (shelf_at (widened_to x added k g).shelves k) (widened_to x added k g).head) k (widened_to x added k g)
unfolding widened_to
widened_more x added k g = rw (add-one k)

pub widened_count : (x added k : ℕ) (g : Atlas) → (widened_to x added k g).head.shelf_count ≡ g.head.shelf_count
unfolding widened_to
widened_count x added zero g = refl
widened_count x added (suc k) g = widen_count x _ k (widened_to x added k g) ∙ widened_count x added k g

-- ---- the header of a grow

module _ (width height : ℕ) (h : Head) where
  pub grown_one : h.columns ≡ 1 → with_sides h width height (h.room + (height - h.height)) 1 width ≡ grown_head width height h
  unfolding grown_head
  grown_one e = simp (eq-eqb _ _ e)

-- the tables are grown with the header sized
abbrev sized : ℕ → ℕ → Atlas → Atlas
sized width height g = atlas (grown_head width height g.head) g.shelves g.buckets

module _ (width height : ℕ) (g : Atlas) where
  module _ (e : g.head.columns ≡ 1) where
    pub grown_widens :
        widened_to g.head.column_width (width - g.head.column_width) (grown_head width height g.head).shelf_count (sized width height g)
        ≡ grown width height g
    unfolding grown
    grown_widens = rw (← grown_one width height g.head e) (simp (eq-eqb _ _ e))

    pub grown_can : CanGrow width height g → CanWidenAll g.head.column_width (width - g.head.column_width) (sized width height g)
    grown_can p =
        let c = p.widen e in
        rw (← grown_one width height g.head e)
        (record { shelves = c.shelves; buckets = c.buckets; few = c.few; released = c.released; wide = c.wide; right = c.right })

  pub grown_stays : g.head.columns ≢ 1 → sized width height g ≡ grown width height g
  unfolding grown
  grown_stays ne = simp (ne_eqb _ _ ne)
