-- What the search picks and where the merge starts, said of the shelves: "Shelves in order" with the least waste, the first takeable bucket of
-- the chain, an exact fit further on; "The first shelf, in order", and "one, if one will do".
use Rattle.std.specs.Prelude.{Option, Some, None}
use Rattle.std.specs.Option.{option_or}
use Prim.Native.Nat.{ℕ, zero, suc, ◌+◌, ◌-◌, ◌≤◌, ◌<◌}
use mathlib.Core.Bool.{Bool, true, false, ◌&&◌, ◌||◌, true≢false}
use mathlib.Core.Path.{◌≡◌, refl, sym, ◌∙◌, subst}
use mathlib.Core.Logic.{◌⊎◌, inl, inr, ⊎_elim}
use mathlib.Core.List.{List, [], ◌∷◌}
use native.Mathlib.Decide.{ℕ_discrete, dec_le, dec_lt}
use native.Mathlib.Omega.{arith}
use borrow.Author.Tests.{eq-eqb, ltb-true, ltb-false, leb-false, eqb-true}
use lib.Dec.{eqb, leb, ltb}
use Rattle.rules.specs.declared.Best.{Best}
use Rattle.rules.specs.declared.Bucket.{Bucket}
use Rattle.rules.specs.declared.Pick.{Pick}
use Rattle.rules.specs.declared.Shelf.{Shelf}
use Rattle.rules.specs.declared.MergeRun.{MergeRun}
use Rattle.rules.specs.Tables.{Atlas, bucket_at, shelf_at}
use Rattle.rules.specs.Chains.{In, chain_of, first}
use Rattle.rules.specs.Search.{can_add, skipped, takes, pick_in, best_of, least_waste, is_over, considered, searched, search, Takeable, CanAdd}
use Rattle.rules.specs.Merging.{merge_run, unreferenced, height_of, follows, follow, run_at, first_run, Mergeable}
use Rattle.rules.specs.Sound.{Steady}
use Rattle.laws.proofs.Options.{split_option}
use Rattle.laws.proofs.Tests.Flags.{flag, and_l, and_r, and_not, or_l, or_r, or_cases}
use Rattle.laws.proofs.Chains.Count.{hit_same, hit_other}
use Rattle.laws.proofs.Sound.Unreferenced.{unreferenced_all}
use Rattle.laws.proofs.Calls.Found.{can_add_yes, can_add_all, takes_wide, takes_items, takes_both}
use Rattle.laws.proofs.Calls.Runs.{follows_all, run_mergeable}

-- ---- in words

-- "waste (height - h)"
abbrev pub waste_of : ℕ → Atlas → ℕ → ℕ
waste_of h g i = (shelf_at g.shelves i).height - h

-- a takeable bucket that is not passed over: not, "when can add", on a shelf "whose waste is above h"
pub record Offered (w h : ℕ) (g : Atlas) (i k : ℕ) : Type 0 where
  pub takeable : Takeable w h g i k
  pub near : CanAdd h g → waste_of h g i ≤ h

-- "Takeable with waste 0 and free width exactly w"
pub record ExactFit (w h : ℕ) (g : Atlas) (i k : ℕ) : Type 0 where
  pub takeable : Takeable w h g i k
  pub waste : waste_of h g i ≡ 0
  pub free : (bucket_at g.buckets k).free ≡ w

-- k is the first of the list that is so
pub data FirstIn (P : ℕ → Type 0) (k : ℕ) : List ℕ → Type 0 where
  here : {ks : List ℕ} → P k → FirstIn P k (k ∷ ks)
  after : {j : ℕ} {ks : List ℕ} → (P j → ⊥) → FirstIn P k ks → FirstIn P k (j ∷ ks)

-- no shelf with less waste offers a bucket, nor an earlier one with as much; and k is the first takeable of its chain
pub record Foremost (w h : ℕ) (g : Atlas) (i k : ℕ) : Type 0 where
  pub offered : Offered w h g i k
  pub least : (j l : ℕ) → Offered w h g j l → waste_of h g i ≤ waste_of h g j
  pub earliest : (j l : ℕ) → j < i → Offered w h g j l → waste_of h g i < waste_of h g j
  pub bucket : FirstIn (Takeable w h g i) k (chain_of g i)

-- what the search picks: the bucket that leads, where it fits exactly or no later shelf has an exact fit; or else the first exact fit of the
-- shelves after it
pub data Picked (w h : ℕ) (g : Atlas) (i k : ℕ) : Type 0 where
  leading : Foremost w h g i k → ((j l : ℕ) → i < j → ExactFit w h g j l → ExactFit w h g i k) → Picked w h g i k
  fitting : (i₀ k₀ : ℕ) → Foremost w h g i₀ k₀ → (ExactFit w h g i₀ k₀ → ⊥) → i₀ < i
      → ((j l : ℕ) → i₀ < j → j < i → ExactFit w h g j l → ⊥) → FirstIn (ExactFit w h g i) k (chain_of g i) → Picked w h g i k

-- "The first shelf, in order" that starts a run
pub record FirstMergeable (w h : ℕ) (g : Atlas) (i : ℕ) : Type 0 where
  pub mergeable : Mergeable w h g i
  pub earlier : (j : ℕ) → j < i → Mergeable w h g j → ⊥

-- ---- the first of a list

pub first_in_is : {P : ℕ → Type 0} {k : ℕ} {ks : List ℕ} → FirstIn P k ks → P k
first_in_is (FirstIn.here p) = p
first_in_is (FirstIn.after n f) = first_in_is f

first_in_there : {P : ℕ → Type 0} (k : ℕ) {ks : List ℕ} → FirstIn P k ks → In k ks
first_in_there k (FirstIn.here p) = omega (arith, hit_same k)
first_in_there k (FirstIn.after n f) = omega (arith, first_in_there k f)

first_in_map : {P Q : ℕ → Type 0} {k : ℕ} {ks : List ℕ} → (P k → Q k) → ((j : ℕ) → Q j → P j) → FirstIn P k ks → FirstIn Q k ks
first_in_map to back (FirstIn.here p) = FirstIn.here (to p)
first_in_map to back (FirstIn.after n f) = FirstIn.after (λ q. n (back _ q)) (first_in_map to back f)

-- ---- one chain

abbrev Takes : List ℕ → ℕ → ℕ → Type 0
Takes b w k = takes w (bucket_at b k) ≡ true

abbrev Fits : List ℕ → ℕ → ℕ → ℕ → Type 0
Fits b w waste k = Takes b w k × (waste ≡ 0) × ((bucket_at b k).free ≡ w)

abbrev PickSays : List ℕ → ℕ → ℕ → ℕ → List ℕ → Pick → Type 0
PickSays b w waste best xs (Pick.Exact k) = Fits b w waste k × (waste < best → FirstIn (Takes b w) k xs) × (best ≤ waste → FirstIn (Fits b w waste) k xs)
PickSays b w waste best xs (Pick.First k) = (waste < best) × FirstIn (Takes b w) k xs × (Fits b w waste k → ⊥)
PickSays b w waste best xs Pick.Nothing = (k : ℕ) → In k xs → Takes b w k → (best ≤ waste) × (Fits b w waste k → ⊥)

module _ (b : List ℕ) (w waste best : ℕ) where
  fits_yes : (k : ℕ) → (takes w (bucket_at b k) && eqb waste 0 && eqb (bucket_at b k).free w) ≡ true → Fits b w waste k
  fits_yes k e =
      let fit : Bool = takes w (bucket_at b k) && eqb waste 0 in
      let l = and_l fit (eqb (bucket_at b k).free w) e in (
        and_l (takes w (bucket_at b k)) (eqb waste 0) l,
        eqb-true waste 0 (and_r (takes w (bucket_at b k)) (eqb waste 0) l),
        eqb-true (bucket_at b k).free w (and_r fit (eqb (bucket_at b k).free w) e),
      )

  fits_not : (k : ℕ) → (takes w (bucket_at b k) && eqb waste 0 && eqb (bucket_at b k).free w) ≡ false → Fits b w waste k → ⊥
  fits_not k e f =
      let yes' : (takes w (bucket_at b k) && eqb waste 0 && eqb (bucket_at b k).free w) ≡ true =
      simp (f.0, eq-eqb waste 0 f.1, eq-eqb (bucket_at b k).free w f.2) in
      true≢false (sym yes' ∙ e)

  says_more : (k : ℕ) (ks : List ℕ) (p : Pick) → (Fits b w waste k → ⊥) → (Takes b w k → best ≤ waste) → PickSays b w waste best ks p
      → PickSays b w waste best (k ∷ ks) p
  says_more k ks (Pick.Exact j) ne nt q =
      (q.0, (λ l. FirstIn.after (λ (t : Takes b w k). omega (arith, nt t)) (q.1 l)), (λ l. FirstIn.after ne (q.2 l)))
  says_more k ks (Pick.First j) ne nt q = (q.0, FirstIn.after (λ (t : Takes b w k). omega (arith, nt t, q.0)) q.1, q.2)
  says_more k ks Pick.Nothing ne nt q = λ j a t. elim (ℕ_discrete j k) [
    | yes e ↦ (nt (subst (λ (i : ℕ). Takes b w i) e t), (λ f. ne (subst (λ (i : ℕ). Fits b w waste i) e f)))
    | no n ↦ q j (omega (arith, hit_other j k n)) t
  ]

  pick_says : (xs : List ℕ) → PickSays b w waste best xs (pick_in b w waste best xs)
  unfolding pick_in
  pick_says [] = λ k a t. absurd (omega arith)
  pick_says (k ∷ ks) = elim (flag (takes w (bucket_at b k) && eqb waste 0 && eqb (bucket_at b k).free w)) [
    | inl e ↦ let f : Fits b w waste k = fits_yes k e in simp e ((f, (λ l. FirstIn.here f.0), (λ l. FirstIn.here f)))
    | inr e ↦ elim (flag (takes w (bucket_at b k) && ltb waste best)) [
      | inl f ↦ simp (e, f) ((
        ltb-true waste best (and_r (takes w (bucket_at b k)) (ltb waste best) f),
        FirstIn.here (and_l (takes w (bucket_at b k)) (ltb waste best) f),
        fits_not k e,
      ))
      | inr f ↦ simp (e, f) (says_more k ks (pick_in b w waste best ks) (fits_not k e)
          (λ t. ltb-false waste best (and_not (takes w (bucket_at b k)) (ltb waste best) f t)) (pick_says ks))
    ]
  ]

-- ---- the shelves, one by one

-- offered, where `add` is whether a shelf can be added
record OfferedWhen (w h : ℕ) (g : Atlas) (add : Bool) (i k : ℕ) : Type 0 where
  takeable : Takeable w h g i k
  near : add ≡ true → waste_of h g i ≤ h

-- leads among the first n shelves
record LeadsTo (w h : ℕ) (g : Atlas) (add : Bool) (n i k : ℕ) : Type 0 where
  below : i < n
  offered : OfferedWhen w h g add i k
  least : (j l : ℕ) → j < n → OfferedWhen w h g add j l → waste_of h g i ≤ waste_of h g j
  earliest : (j l : ℕ) → j < i → OfferedWhen w h g add j l → waste_of h g i < waste_of h g j
  bucket : FirstIn (Takeable w h g i) k (chain_of g i)

-- the best of the first n shelves
data FoundBest (w h : ℕ) (g : Atlas) (add : Bool) (n : ℕ) (b : Best) : Type 0 where
  leads : LeadsTo w h g add n b.shelf b.bucket → b.waste ≡ waste_of h g b.shelf → (b.exact ≡ true → ExactFit w h g b.shelf b.bucket)
      → (b.exact ≡ false → ExactFit w h g b.shelf b.bucket → ⊥)
      → (b.exact ≡ false → (j l : ℕ) → b.shelf < j → j < n → ExactFit w h g j l → ⊥) → FoundBest w h g add n b
  fits : (i₀ k₀ : ℕ) → LeadsTo w h g add n i₀ k₀ → (ExactFit w h g i₀ k₀ → ⊥) → i₀ < b.shelf → b.shelf < n → b.exact ≡ true
      → ((j l : ℕ) → i₀ < j → j < b.shelf → ExactFit w h g j l → ⊥) → FirstIn (ExactFit w h g b.shelf) b.bucket (chain_of g b.shelf)
      → FoundBest w h g add n b

-- or no bucket of theirs is offered
abbrev BestIs : ℕ → ℕ → Atlas → Bool → ℕ → Option Best → Type 0
BestIs w h g add n None = (j l : ℕ) → j < n → OfferedWhen w h g add j l → ⊥
BestIs w h g add n (Some b) = FoundBest w h g add n b

module _ (w h : ℕ) (g : Atlas) (t : Steady g) (add : Bool) where
  fit_offered : {i k : ℕ} → ExactFit w h g i k → OfferedWhen w h g add i k
  fit_offered f = record { takeable = f.takeable; near = λ e. omega (arith, f.waste) }

  -- one shelf more, with no less waste than the one that leads
  leads_more : {n i k : ℕ} → LeadsTo w h g add n i k → ((l : ℕ) → OfferedWhen w h g add n l → waste_of h g i ≤ waste_of h g n)
      → LeadsTo w h g add (suc n) i k
  leads_more {n} {i} {k} p q = record {
    below = omega (arith, p.below);
    offered = p.offered;
    least = λ j l s o. elim (ℕ_discrete j n) [
      | yes e ↦ subst (λ (m : ℕ). waste_of h g i ≤ waste_of h g m) (sym e) (q l (subst (λ (m : ℕ). OfferedWhen w h g add m l) e o))
      | no ne ↦ p.least j l (omega arith) o
    ];
    earliest = p.earliest;
    bucket = p.bucket;
  }

  -- a shelf that is passed over
  passed_over : (n : ℕ) (o : Option Best) → BestIs w h g add n o → is_over o ≡ false
      → ((l : ℕ) → OfferedWhen w h g add n l → least_waste o ≤ waste_of h g n)
      → ((l : ℕ) → OfferedWhen w h g add n l → waste_of h g n < 65535)
      → ((l : ℕ) → ExactFit w h g n l → ⊥) → BestIs w h g add (suc n) o
  passed_over n None q e more low ne = λ j l s o. elim (ℕ_discrete j n) [
    | yes m ↦
        let o' : OfferedWhen w h g add n l = subst (λ (m : ℕ). OfferedWhen w h g add m l) m o in
        omega (arith, more l o', low l o')
    | no m ↦ q j l (omega arith) o
  ]
  passed_over n (Some b) (FoundBest.leads p ew ex en later) e more low ne =
      FoundBest.leads (leads_more p (λ l o. omega (arith, more l o, ew))) ew ex en (λ z j l a s f. elim (ℕ_discrete j n) [
        | yes m ↦ ne l (subst (λ (m : ℕ). ExactFit w h g m l) m f)
        | no m ↦ later z j l a (omega arith) f
      ])
  passed_over n (Some b) (FoundBest.fits i₀ k₀ p nf a s ex between fb) e more low ne = absurd (true≢false (sym ex ∙ e))

  -- the search is over
  over : (n : ℕ) (o : Option Best) → BestIs w h g add n o → is_over o ≡ true → BestIs w h g add (suc n) o
  over n None q e = absurd (true≢false (sym e))
  over n (Some b) (FoundBest.leads p ew ex en later) e =
      FoundBest.leads (leads_more p (λ l o. omega (arith, (ex e).waste))) ew ex en (λ z. absurd (true≢false (sym e ∙ z)))
  over n (Some b) (FoundBest.fits i₀ k₀ p nf a s ex between fb) e =
      let f : ExactFit w h g b.shelf b.bucket = first_in_is fb in
      FoundBest.fits i₀ k₀ (leads_more p (λ l o. omega (arith, f.waste, p.least b.shelf b.bucket s (fit_offered f)))) nf a (omega arith) ex between fb

  -- nothing so far has less waste than the best
  best_low : (n : ℕ) (o : Option Best) → BestIs w h g add n o → is_over o ≡ false → (j l : ℕ) → j < n
      → OfferedWhen w h g add j l → least_waste o ≤ waste_of h g j
  best_low n None q e j l s o = absurd (q j l s o)
  best_low n (Some b) (FoundBest.leads p ew ex en later) e j l s o = omega (arith, ew, p.least j l s o)
  best_low n (Some b) (FoundBest.fits i₀ k₀ p nf a s ex between fb) e j l s' o = absurd (true≢false (sym ex ∙ e))

  -- a shelf that is skipped
  skip_says : (n best l : ℕ) → skipped w h add best (shelf_at g.shelves n) ≡ true → OfferedWhen w h g add n l → best < waste_of h g n
  unfolding skipped
  skip_says n best l e o =
      let s : Shelf = shelf_at g.shelves n in
      let p : Takeable w h g n l = o.takeable in
      let v = (t.stocked n p.shelf).counted l p.bucket in
      elim (or_cases (ltb s.height h || ltb s.width w || ltb best (s.height - h)) (add && ltb h (s.height - h)) e) [
        | inr f ↦ absurd (omega (arith, o.near (and_l add (ltb h (s.height - h)) f), ltb-true h (s.height - h) (and_r add (ltb h (s.height - h)) f)))
        | inl f ↦ elim (or_cases (ltb s.height h || ltb s.width w) (ltb best (s.height - h)) f) [
          | inr q ↦ ltb-true best (s.height - h) q
          | inl q ↦ elim (or_cases (ltb s.height h) (ltb s.width w) q) [
            | inl r ↦ absurd (omega (arith, p.high, ltb-true s.height h r))
            | inr r ↦ absurd (omega (arith, p.wide, v.free, ltb-true s.width w r))
          ]
        ]
      ]

  low_waste : {n l : ℕ} → OfferedWhen w h g add n l → waste_of h g n < 65535
  low_waste {n} {l} o = omega (arith, (t.stacked n o.takeable.shelf).top, t.domain.height.1)

  -- one that is looked at
  looked_high : (n best : ℕ) → skipped w h add best (shelf_at g.shelves n) ≡ false
      → (h ≤ (shelf_at g.shelves n).height) × (waste_of h g n ≤ best) × (add ≡ true → waste_of h g n ≤ h)
  unfolding skipped
  looked_high n best e =
      let s : Shelf = shelf_at g.shelves n in
      let three : Bool = ltb s.height h || ltb s.width w || ltb best (s.height - h) in
      let f = or_l three (add && ltb h (s.height - h)) e in (
        ltb-false s.height h (or_l (ltb s.height h) (ltb s.width w) (or_l (ltb s.height h || ltb s.width w) (ltb best (s.height - h)) f)),
        ltb-false best (s.height - h) (or_r (ltb s.height h || ltb s.width w) (ltb best (s.height - h)) f),
        λ z. ltb-false h (s.height - h) (and_not add (ltb h (s.height - h)) (or_r three (add && ltb h (s.height - h)) e) z),
      )

  module _ (n : ℕ) (there : n < g.head.shelf_count) (high : h ≤ (shelf_at g.shelves n).height) (near : add ≡ true → waste_of h g n ≤ h) where
    takes_takeable : (k : ℕ) → In k (chain_of g n) → Takes g.buckets w k → Takeable w h g n k
    takes_takeable k c q =
        let v : Bucket = bucket_at g.buckets k in
        record { shelf = there; bucket = c; high = high; wide = takes_wide w v q; items = takes_items w v q }

    takeable_takes : (k : ℕ) → Takeable w h g n k → Takes g.buckets w k
    takeable_takes k p = takes_both w (bucket_at g.buckets k) p.wide p.items

    fits_exact : (k : ℕ) → In k (chain_of g n) → Fits g.buckets w (waste_of h g n) k → ExactFit w h g n k
    fits_exact k c f = record { takeable = takes_takeable k c f.0; waste = f.1; free = f.2 }

    exact_fits : (k : ℕ) → ExactFit w h g n k → Fits g.buckets w (waste_of h g n) k
    exact_fits k f = (takeable_takes k f.takeable, f.waste, f.free)

    -- it leads from now on
    leads_now : (b : Option Best) → BestIs w h g add n b → is_over b ≡ false → waste_of h g n < least_waste b
        → (k : ℕ) → FirstIn (Takes g.buckets w) k (chain_of g n)
        → LeadsTo w h g add (suc n) n k
    leads_now b is e less k f =
        let c : In k (chain_of g n) = first_in_there k f in
        record {
          below = omega arith;
          offered = record { takeable = takes_takeable k c (first_in_is f); near = near };
          least = λ j l s o. elim (ℕ_discrete j n) [
            | yes q ↦ rw q (omega arith)
            | no ne ↦ omega (arith, best_low n b is e j l (omega arith) o)
          ];
          earliest = λ j l s o. omega (arith, best_low n b is e j l s o);
          bucket = first_in_map (takes_takeable k c) takeable_takes f;
        }

    picked_now : (b : Option Best) → BestIs w h g add n b → is_over b ≡ false → waste_of h g n ≤ least_waste b → (p : Pick)
        → PickSays g.buckets w (waste_of h g n) (least_waste b) (chain_of g n) p → BestIs w h g add (suc n) (best_of p (waste_of h g n) n b)
    picked_now b is e most Pick.Nothing q =
        passed_over n b is e
        (λ l o. (q l o.takeable.bucket (takeable_takes l o.takeable)).0) (λ l o. low_waste o)
        (λ l f. (q l f.takeable.bucket (takeable_takes l f.takeable)).1 (exact_fits l f))
    picked_now b is e most (Pick.First k) q =
        FoundBest.leads (leads_now b is e q.0 k q.1) refl (λ z. absurd (true≢false (sym z)))
        (λ z f. q.2 (exact_fits k f)) (λ z j l a s f. omega arith)
    picked_now b is e most (Pick.Exact k) q = elim (dec_le (least_waste b) (waste_of h g n)) [
      | no ne ↦
          let f = q.1 (omega arith) in
          FoundBest.leads (leads_now b is e (omega arith) k f) refl (λ z. fits_exact k (first_in_there k f) q.0)
          (λ z. absurd (true≢false z)) (λ z. absurd (true≢false z))
      | yes le ↦
          let f = q.2 le in
          fits_now b is e le k (first_in_map (fits_exact k (first_in_there k f)) exact_fits f)
    ]
      where
        fits_now : (b : Option Best) → BestIs w h g add n b → is_over b ≡ false → least_waste b ≤ waste_of h g n
            → (k : ℕ) → FirstIn (ExactFit w h g n) k (chain_of g n)
            → FoundBest w h g add (suc n) (record { waste = waste_of h g n; shelf = n; bucket = k; exact = true })
        fits_now None q e le k f = absurd (omega (arith, low_waste (fit_offered (first_in_is f))))
        fits_now (Some b) (FoundBest.leads p ew ex en later) e le k f =
            FoundBest.fits b.shelf b.bucket (leads_more p (λ l o. omega (arith, ew))) (en e) p.below (omega arith) refl (later e) f
        fits_now (Some b) (FoundBest.fits i₀ k₀ p nf a s ex between fb) e le k f = absurd (true≢false (sym ex ∙ e))

  best_is : (n : ℕ) → n ≤ g.head.shelf_count → BestIs w h g add n (searched w h add g.shelves g.buckets n)
  unfolding searched considered first
  best_is zero l = λ j k s o. omega arith
  best_is (suc n) l =
      let b : Option Best = searched w h add g.shelves g.buckets n in
      let is : BestIs w h g add n b = best_is n (omega arith) in
      elim (flag (is_over (searched w h add g.shelves g.buckets n))) [
        | inl e ↦ simp e (over n b is e)
        | inr e ↦ elim (flag (skipped w h add (least_waste (searched w h add g.shelves g.buckets n)) (shelf_at g.shelves n))) [
          | inl s ↦ simp (e, s) (passed_over n b is e
              (λ k o. let z = skip_says n (least_waste b) k s o in omega arith) (λ k o. low_waste o)
              (λ k f. let z = skip_says n (least_waste b) k s (fit_offered f) in omega (arith, f.waste)))
          | inr s ↦
              let k = looked_high n (least_waste b) s in
              simp (e, s) (picked_now n (omega arith) k.0 k.2 b is e k.1
              (pick_in g.buckets w (waste_of h g n) (least_waste b) (chain_of g n)) (pick_says g.buckets w (waste_of h g n) (least_waste b) (chain_of g n)))
        ]
      ]

-- ---- the whole search

module _ (w h : ℕ) (g : Atlas) (t : Steady g) where
  offered_when : {i k : ℕ} → Offered w h g i k → OfferedWhen w h g (can_add h g.head) i k
  offered_when o = record { takeable = o.takeable; near = λ e. o.near (can_add_yes h g e) }

  when_offered : {i k : ℕ} → OfferedWhen w h g (can_add h g.head) i k → Offered w h g i k
  when_offered o = record { takeable = o.takeable; near = λ c. o.near (can_add_all h g c) }

  leads_all : {i k : ℕ} → LeadsTo w h g (can_add h g.head) g.head.shelf_count i k → Foremost w h g i k
  leads_all p = record {
    offered = when_offered p.offered;
    least = λ j l o. p.least j l o.takeable.shelf (offered_when o);
    earliest = λ j l s o. p.earliest j l s (offered_when o);
    bucket = p.bucket;
  }

  search_is : BestIs w h g (can_add h g.head) g.head.shelf_count (search w h g)
  unfolding search
  search_is = best_is w h g t (can_add h g.head) g.head.shelf_count (omega arith)

  picked_of : (b : Best) → FoundBest w h g (can_add h g.head) g.head.shelf_count b → Picked w h g b.shelf b.bucket
  picked_of b (FoundBest.leads p ew ex en later) = Picked.leading (leads_all p) (λ j l a f. elim (flag b.exact) [
    | inl e ↦ ex e
    | inr e ↦ absurd (later e j l a f.takeable.shelf f)
  ])
  picked_of b (FoundBest.fits i₀ k₀ p nf a s ex between fb) = Picked.fitting i₀ k₀ (leads_all p) nf a between fb

  -- what the search finds
  pub search_picks : {best : Best} → search w h g ≡ Some best → Picked w h g best.shelf best.bucket
  search_picks {best} e = picked_of best (rw e at search_is)

  -- it finds one where one is offered
  pub offered_found : (i k : ℕ) → Offered w h g i k → (best : Best) × (search w h g ≡ Some best)
  offered_found i k o = split_option (search w h g)
      (λ e. let none : BestIs w h g (can_add h g.head) g.head.shelf_count None = rw e at search_is in
      absurd (none i k o.takeable.shelf (offered_when o)))
      (λ best e. (best, e))

module _ {w h : ℕ} {g : Atlas} {i k : ℕ} where
  pub picked_offered : Picked w h g i k → Offered w h g i k
  picked_offered (Picked.leading p q) = p.offered
  picked_offered (Picked.fitting i₀ k₀ p nf a between fb) = let f = first_in_is fb in record { takeable = f.takeable; near = λ c. omega (arith, f.waste) }

  -- nothing offered has less waste
  pub picked_least : Picked w h g i k → (j l : ℕ) → Offered w h g j l → waste_of h g i ≤ waste_of h g j
  picked_least (Picked.leading p q) j l o = p.least j l o
  picked_least (Picked.fitting i₀ k₀ p nf a between fb) j l o = omega (arith, (first_in_is fb).waste)

-- ---- at most one bucket is picked

pub first_in_one : {P : ℕ → Type 0} {j k : ℕ} {ks : List ℕ} → FirstIn P j ks → FirstIn P k ks → j ≡ k
first_in_one (FirstIn.here p) (FirstIn.here q) = refl
first_in_one (FirstIn.here p) (FirstIn.after n q) = absurd (n p)
first_in_one (FirstIn.after n p) (FirstIn.here q) = absurd (n q)
first_in_one (FirstIn.after n p) (FirstIn.after m q) = first_in_one p q

module _ {w h : ℕ} {g : Atlas} where
  leads_one : {i k j l : ℕ} → Foremost w h g i k → Foremost w h g j l → (i ≡ j) × (k ≡ l)
  leads_one {i} {k} {j} {l} p q =
      let e : i ≡ j = elim (dec_lt i j) [
        | yes s ↦ absurd (omega (arith, q.earliest i k s p.offered, p.least j l q.offered))
        | no n ↦ elim (dec_lt j i) [
          | yes s ↦ absurd (omega (arith, p.earliest j l s q.offered, q.least i k p.offered))
          | no n' ↦ omega arith
        ]
      ] in
      (e, first_in_one (subst (λ (m : ℕ). FirstIn (Takeable w h g m) k (chain_of g m)) e p.bucket) q.bucket)

  -- a bucket that leads and need not give way, and an exact fit after it
  not_both : {i k j l i₀ k₀ : ℕ} → Foremost w h g i k → ((j l : ℕ) → i < j → ExactFit w h g j l → ExactFit w h g i k) → Foremost w h g i₀ k₀
      → (ExactFit w h g i₀ k₀ → ⊥) → i₀ < j → ExactFit w h g j l → ⊥
  not_both {i} {k} {j} {l} {i₀} {k₀} p q p₀ nf a f =
      let e = leads_one p p₀ in
      let fit : ExactFit w h g i k = q j l (omega (arith, e.0)) f in
      nf (subst (λ (m : ℕ). ExactFit w h g m k₀) e.0 (subst (λ (m : ℕ). ExactFit w h g i m) e.1 fit))

  pub picked_one : {i k j l : ℕ} → Picked w h g i k → Picked w h g j l → (i ≡ j) × (k ≡ l)
  picked_one (Picked.leading p q) (Picked.leading p' q') = leads_one p p'
  picked_one (Picked.leading p q) (Picked.fitting i₀ k₀ p₀ nf a between fb) = absurd (not_both p q p₀ nf a (first_in_is fb))
  picked_one (Picked.fitting i₀ k₀ p₀ nf a between fb) (Picked.leading p q) = absurd (not_both p q p₀ nf a (first_in_is fb))
  picked_one {i} {k} {j} {l} (Picked.fitting i₀ k₀ p nf a between fb) (Picked.fitting j₀ l₀ q ng b within fc) =
      let z = (leads_one p q).0 in
      let e : i ≡ j = elim (dec_lt i j) [
        | yes s ↦ absurd (within i k (omega arith) s (first_in_is fb))
        | no n ↦ elim (dec_lt j i) [ yes s ↦ absurd (between j l (omega arith) s (first_in_is fc)) | no n' ↦ omega arith ]
      ] in
      (e, first_in_one (subst (λ (m : ℕ). FirstIn (ExactFit w h g m) k (chain_of g m)) e fb) fc)

-- ---- the merge

abbrev two : Atlas → ℕ → ℕ
two g i = height_of g i + height_of g (i + 1)

module _ (w h : ℕ) (g : Atlas) where
  -- shelf i starts no run; or it starts one, of two followers only where one will not do
  run_at_says : (i : ℕ) → ((run_at w h g i ≡ None) × (Mergeable w h g i → ⊥))
      ⊎ ((run : MergeRun) × (run_at w h g i ≡ Some run) × (run.shelf ≡ i) × (run.followers ≡ 2 → two g i < h))
  unfolding run_at follow
  run_at_says i = elim (flag (leb w (shelf_at g.shelves i).width)) [
    | inr a ↦ inl (simp a ((refl, λ m. omega (arith, m.wide, leb-false w (shelf_at g.shelves i).width a))))
    | inl a ↦ elim (flag (unreferenced g.buckets (chain_of g i))) [
      | inr z ↦ inl (simp (a, z) ((refl, λ m. true≢false (sym (unreferenced_all g.buckets (chain_of g i) m.unreferenced) ∙ z))))
      | inl z ↦ elim (flag (follows g i (i + 1))) [
        | inr f ↦ inl (simp (a, z, f) ((refl, λ m. true≢false (sym (follows_all i (i + 1) m.next) ∙ f))))
        | inl f ↦ elim (flag (leb h (height_of g i + height_of g (i + 1)))) [
          | inl p ↦ inr (simp (a, z, f, p) (_, refl, refl, λ e. absurd (omega arith)))
          | inr p ↦
              let less : two g i < h = leb-false h (two g i) p in
              let three : ℕ = height_of g i + height_of g (i + 1) + height_of g (i + 2) in
              elim (flag (follows g i (i + 2) && leb h (height_of g i + height_of g (i + 1) + height_of g (i + 2)))) [
                | inl q ↦ inr (simp (a, z, f, p, q) (_, refl, refl, λ e. less))
                | inr q ↦ inl (simp (a, z, f, p, q) ((
                  refl,
                  λ m. ⊎_elim (λ r. omega (arith, r, less))
                      (λ r. omega (arith, r.1, leb-false h three (and_not (follows g i (i + 2)) (leb h three) q (follows_all i (i + 2) r.0)))) m.reaches,
                )))
              ]
        ]
      ]
    ]
  ]

  -- among the first n shelves
  abbrev RunSays : ℕ → Option MergeRun → Type 0
  RunSays n None = (j : ℕ) → j < n → Mergeable w h g j → ⊥
  RunSays n (Some r) = (r.shelf < n) × ((j : ℕ) → j < r.shelf → Mergeable w h g j → ⊥) × (r.followers ≡ 2 → two g r.shelf < h)

  run_more : (n : ℕ) (o : Option MergeRun) → RunSays n o → RunSays (suc n) (option_or o (run_at w h g n))
  run_more n (Some r) p = (omega (arith, p.0), p.1, p.2)
  run_more n None p = elim (run_at_says n) [
    | inl q ↦ rw q.0 (λ j s m. elim (ℕ_discrete j n) [
      | yes z ↦ q.1 (subst (λ (i : ℕ). Mergeable w h g i) z m)
      | no ne ↦ p j (omega arith) m
    ])
    | inr q ↦ rw q.1 (omega (arith, q.2), (λ j s m. p j (omega (arith, q.2)) m), λ z. rw q.2 (q.3 z))
  ]

  first_run_says : (n : ℕ) → RunSays n (first_run w h g n)
  unfolding first_run
  first_run_says zero = λ j s m. omega arith
  first_run_says (suc n) = run_more n (first_run w h g n) (first_run_says n)

  merge_says : {run : MergeRun} → merge_run w h g ≡ Some run → RunSays g.head.shelf_count (Some run)
  unfolding merge_run
  merge_says e = rw e at (first_run_says g.head.shelf_count)

  -- the run that the merge takes starts at the first shelf that starts one
  pub merge_start : {run : MergeRun} → merge_run w h g ≡ Some run → FirstMergeable w h g run.shelf
  merge_start e = record { mergeable = (run_mergeable w h e).mergeable; earlier = (merge_says e).1 }

  -- "one, if one will do"
  pub merge_one : {run : MergeRun} → merge_run w h g ≡ Some run → run.followers ≡ 2 → two g run.shelf < h
  merge_one e = (merge_says e).2

-- there is at most one such shelf
pub first_mergeable_one : {w h i j : ℕ} {g : Atlas} → FirstMergeable w h g i → FirstMergeable w h g j → i ≡ j
first_mergeable_one {w} {h} {i} {j} p q = elim (dec_lt i j) [
  | yes l ↦ absurd (q.earlier i l p.mergeable)
  | no n ↦ elim (dec_lt j i) [ yes l ↦ absurd (p.earlier j l q.mergeable) | no n' ↦ omega arith ]
]
