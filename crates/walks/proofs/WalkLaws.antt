-- A walk that marks: what holds on the way, and what its end shows.
use Rattle.std.specs.Prelude.{Option, Some, None, MatchOption}
use Prim.Native.Nat.{ℕ, zero, suc, ◌+◌, ◌-◌, ◌*◌, ◌≤◌, ◌<◌}
use mathlib.Core.Path.{◌≡◌, refl, sym, ap, ◌∙◌, subst}
use mathlib.Core.Logic.{◌≢◌}
use mathlib.Core.List.{List, [], ◌∷◌, ◌++◌}
use native.Mathlib.Decide.{ℕ_discrete}
use native.Mathlib.Omega.{arith}
use native.Mathlib.Nat.{add-mul, one-mul, zero-mul}
use lib.ListN.{length, get_or, set, length-set, length-append}
use lib.Seq.{get_or-set_same, get_or-set_other}
use Rattle.rules.specs.declared.Shelf.{Shelf}
use Rattle.rules.specs.declared.Bucket.{Bucket}
use Rattle.rules.specs.Limits.{records_most, none}
use Rattle.rules.specs.Tables.{bucket_at}
use Rattle.rules.specs.Chains.{hit, count, In, sum_of, Linked, chain, next}
use Rattle.rules.specs.Return.{used_area}
use Rattle.rules.specs.Sound.{Counted, Ordered}
use Rattle.laws.proofs.Chains.Count.{hit_same, hit_other, hit_eq, count_append, sum_of_append, sum_of_times}
use Rattle.laws.proofs.Chains.Links.{linked_start, linked_length, chain_of_law}
use Rattle.asked.specs.declared.buckets.Tally.{Tally}
use Rattle.asked.specs.Buckets.{Serving, InChain, Closed, Freed, used_of, tallied, Tallies, bucket_most, Countable}
use Rattle.asked.proofs.TallyLaws.{widths_most, area_most}
use Rattle.walks.specs.Walks.{Member, Members, AllFreed, Marks, Walked, MetTwice, ShelfYes, ShelfNo, FreeYes, FreeNo}

-- f leads from i along xs to j
abbrev pub Leads : (ℕ → ℕ) → ℕ → ℕ → List ℕ → ℕ → Type 0
Leads f n i [] j = i ≡ j
Leads f n i (x ∷ xs) j = (i ≡ x) × (x < n) × Leads f n (f x) xs j

leads_more : (f : ℕ → ℕ) (n i : ℕ) (ps : List ℕ) (j : ℕ) → Leads f n i ps j → j < n → Leads f n i (ps ++ (j ∷ [])) (f j)
leads_more f n i [] j p l = (p, l, refl)
leads_more f n i (x ∷ xs) j p l = (p.0, p.1, leads_more f n (f x) xs j p.2 l)

leads_end : (f : ℕ → ℕ) (n i : ℕ) (ps : List ℕ) (j : ℕ) → Leads f n i ps j → j ≡ none → Linked f n i ps
leads_end f n i [] j p e = p ∙ e
leads_end f n i (x ∷ xs) j p e = (p.0, p.1, leads_end f n (f x) xs j p.2 e)

-- a chain, along which f has led by ps to j and is not at its end, is ps, then j, then more
pub record SplitAt (n : ℕ) (ps : List ℕ) (j : ℕ) (xs : List ℕ) : Type 0 where
  pub below : j < n
  pub more : List ℕ
  pub split : xs ≡ ps ++ (j ∷ more)

leads_split : (f : ℕ → ℕ) (n i : ℕ) (ps : List ℕ) (j : ℕ) (xs : List ℕ) → n ≤ records_most → j ≢ none
    → Leads f n i ps j → Linked f n i xs → SplitAt n ps j xs
leads_split f n i [] j [] hn ne p q = absurd (omega arith)
leads_split f n i [] j (x ∷ xs) hn ne p q =
    let e : x ≡ j = omega arith in
    record { below = omega arith; more = xs; split = ap (λ (z : ℕ). z ∷ xs) e }
leads_split f n i (x ∷ ps) j [] hn ne p q = absurd (omega arith)
leads_split f n i (x ∷ ps) j (y ∷ xs) hn ne p q =
    let e : y ≡ x = omega arith in
    let ih = leads_split f n (f x) ps j xs hn ne p.2 (linked_start f n (f y) (f x) xs (ap f e) q.2) in
    record { below = ih.below; more = ih.more; split = ap (λ (z : ℕ). z ∷ xs) e ∙ ap (λ (zs : List ℕ). x ∷ zs) ih.split }

split_counts : {n : ℕ} {ps : List ℕ} {j : ℕ} {xs : List ℕ} → SplitAt n ps j xs → count j ps < count j xs
split_counts {n} {ps} {j} {xs} a = omega (arith, ap (count j) a.split, count_append j ps (j ∷ a.more), hit_same j)

-- ---- marks

count_set : (m : List ℕ) (i v k : ℕ) → i < length m → count k (set m i v) + hit k (get_or m i 0) ≡ count k m + hit k v
count_set [] i v k l = absurd (omega arith)
count_set (x ∷ xs) zero v k l = omega arith
count_set (x ∷ xs) (suc i) v k l = let ih = count_set xs i v k (omega arith) in omega arith

-- a first mark leaves one index fewer without: the measure of a walk
marks_fall : (m : List ℕ) (i : ℕ) → i < length m → get_or m i 0 ≡ 0 → count 0 (set m i 1) < count 0 m
marks_fall m i l e = omega (arith, count_set m i 1 0 l, hit_eq 0 (get_or m i 0) (omega arith), hit_other 0 1 (omega arith))

-- the tally with this many buckets met
abbrev pub met_to : Tally → ℕ → Tally
met_to t seen = record { seen = seen; pixels = t.pixels }

-- on the way: from j along ps to i, with G of ps, which is counted by the marks and by the number of buckets met
pub record Midway (G : List ℕ → Type 0) (b : List ℕ) (n j : ℕ) (m m' : List ℕ) (t : Tally) (seen i : ℕ) : Type 0 where
  pub ps : List ℕ
  pub leads : Leads (next b) n j ps i
  pub good : G ps
  pub counts : (k : ℕ) → k < n → get_or m' k 0 ≡ get_or m k 0 + count k ps
  pub marked : Marks n m' (met_to t seen)
  pub met : seen ≡ t.seen + length ps
  pub same : length m' ≡ length m

module _ {G : List ℕ → Type 0} {b : List ℕ} {n j : ℕ} {m m' : List ℕ} {t : Tally} {seen i : ℕ} (g : Midway G b n j m m' t seen i) where
  -- the next mark is there
  pub midway_long : i < n → i < length m'
  midway_long l = omega (arith, g.marked.long)

  pub midway_falls : i < n → get_or m' i 0 ≡ 0 → count 0 (set m' i 1) < count 0 m'
  midway_falls l z = marks_fall m' i (midway_long l) z

  pub midway_same : length (set m' i 1) ≡ length m
  midway_same = length-set {A = ℕ} m' i 1 ∙ g.same

  pub midway_more : {G' : List ℕ → Type 0} → i < n → get_or m' i 0 ≡ 0 → (G g.ps → G' (g.ps ++ (i ∷ [])))
      → Midway G' b n j m (set m' i 1) t (seen + 1) (next b i)
  midway_more l z f =
      let lm : i < length m' = midway_long l in
      record {
        ps = g.ps ++ (i ∷ []);
        leads = leads_more (next b) n j g.ps i g.leads l;
        good = f g.good;
        counts = λ k lk. elim (ℕ_discrete k i) [
          | yes e ↦ omega (
            arith,
            hit_eq k i e,
            count_append k g.ps (i ∷ []),
            g.counts k lk,
            ap (λ (a : ℕ). get_or m' a 0) e,
            ap (λ (a : ℕ). get_or (set m' i 1) a 0) e,
            get_or-set_same m' i 1 0 lm,
          )
          | no ne ↦ omega (arith, hit_other k i ne, count_append k g.ps (i ∷ []), g.counts k lk, get_or-set_other m' i k 1 0 ne)
        ];
        marked = record {
          long = omega (arith, length-set m' i 1, g.marked.long);
          low = λ k lk. elim (ℕ_discrete k i) [
            | yes e ↦ omega (arith, ap (λ (a : ℕ). get_or (set m' i 1) a 0) e, get_or-set_same m' i 1 0 lm)
            | no ne ↦ omega (arith, g.marked.low k lk, get_or-set_other m' i k 1 0 ne)
          ];
          room = omega (arith, midway_falls l z, g.marked.room);
          pixels = omega (arith, g.marked.pixels);
        };
        met = omega (arith, g.met, length-append g.ps (i ∷ []));
        same = midway_same;
      }

  midway_split : n ≤ records_most → i ≢ none → Linked (next b) n j (chain b j) → SplitAt n g.ps i (chain b j)
  midway_split hn ne p = leads_split (next b) n j g.ps i (chain b j) hn ne g.leads p

  -- where a walk stops: past the buckets, at one that is marked, or at one that no chain with P has
  pub midway_out : {P : List ℕ → Type 0} → n ≤ records_most → i ≢ none → n ≤ i → MetTwice P b n j m
  midway_out hn ne l = record { twice = λ p q. absurd (omega (arith, (midway_split hn ne p).below)) }

  pub midway_twice : {P : List ℕ → Type 0} → n ≤ records_most → i < n → get_or m' i 0 ≢ 0 → MetTwice P b n j m
  midway_twice hn l z = record {
    twice = λ p q.
        let a = midway_split hn (λ e. omega arith) p in
        (i, a.below, omega (arith, g.counts i a.below, split_counts a));
  }

  pub midway_bad : {P : List ℕ → Type 0} → n ≤ records_most → i < n → ((xs : List ℕ) → P (g.ps ++ (i ∷ xs)) → ⊥) → MetTwice P b n j m
  midway_bad {P} hn l bad = record {
    twice = λ p q.
        let a = midway_split hn (λ e. omega arith) p in
        absurd (bad a.more (subst P a.split q));
  }

  pub midway_is : n ≤ records_most → i ≡ none → chain b j ≡ g.ps
  midway_is hn e =
      let p : Linked (next b) n j g.ps = leads_end (next b) n j g.ps i g.leads e in
      let len : length g.ps ≤ n = linked_length (next b) n j g.ps p (λ k l. omega (arith, g.counts k l, g.marked.low k l)) in
      chain_of_law b n j g.ps (omega arith) p (omega arith)

  pub midway_end : (t' : Tally) → n ≤ records_most → i ≡ none → t'.seen ≡ seen → t'.pixels ≤ seen * bucket_most
      → Walked b n j m m' t t'
  midway_end t' hn e es hp =
      let is : chain b j ≡ g.ps = midway_is hn e in
      record {
        links = rw is (leads_end (next b) n j g.ps i g.leads e);
        counts = rw is g.counts;
        marked = record {
          long = g.marked.long;
          low = g.marked.low;
          room = omega (arith, g.marked.room, es);
          pixels = omega (arith, hp, es);
        };
        seen = rw is (es ∙ g.met);
      }

-- ---- the buckets of a shelf's chain

-- the x of the last of a chain's buckets
abbrev pub edge_of : List ℕ → ℕ → List ℕ → ℕ
edge_of b right [] = right
edge_of b right (k ∷ ks) = edge_of b (bucket_at b k).x ks

edge_more : (b : List ℕ) (right : ℕ) (ps : List ℕ) (k : ℕ) → edge_of b right (ps ++ (k ∷ [])) ≡ (bucket_at b k).x
edge_more b right [] k = refl
edge_more b right (x ∷ xs) k = edge_more b (bucket_at b x).x xs k

-- buckets that follow, each one's end at most the x of the one before it
abbrev pub Lined : List ℕ → ℕ → Shelf → ℕ → List ℕ → Type 0
Lined b i s right [] = Unit {0}
Lined b i s right (k ∷ ks) = InChain i s right (bucket_at b k) × Lined b i s (bucket_at b k).x ks

lined_more : (b : List ℕ) (i : ℕ) (s : Shelf) (right : ℕ) (ps : List ℕ) (k : ℕ)
    → Lined b i s right ps → InChain i s (edge_of b right ps) (bucket_at b k) → Lined b i s right (ps ++ (k ∷ []))
lined_more b i s right [] k p q = (q, tt)
lined_more b i s right (x ∷ xs) k p q = (p.0, lined_more b i s (bucket_at b x).x xs k p.1 q)

member_follows : {i : ℕ} {s : Shelf} {edge : ℕ} {v : Bucket} → Member i s edge v → InChain i s edge v
member_follows m = record {
  names = m.counted.shelf;
  right = m.right;
  generation = m.serving.generation;
  agrees = record {
    free = m.counted.free;
    whole = m.counted.whole;
    unused = m.counted.unused;
    items = m.counted.items;
    rested = m.serving.rested;
  };
}

members_at : (b : List ℕ) (i : ℕ) (s : Shelf) (right : ℕ) (ps : List ℕ) (k : ℕ) (xs : List ℕ)
    → Members b i s right (ps ++ (k ∷ xs)) → Member i s (edge_of b right ps) (bucket_at b k)
members_at b i s right [] k xs p = p.0
members_at b i s right (x ∷ ps) k xs p = members_at b i s (bucket_at b x).x ps k xs p.1

-- the width used in a list of buckets, and the width free
abbrev used_in : List ℕ → Shelf → List ℕ → ℕ
used_in b s xs = sum_of (λ k. s.width - (bucket_at b k).free) xs

abbrev free_in : List ℕ → List ℕ → ℕ
free_in b xs = sum_of (λ k. (bucket_at b k).free) xs

lined_widths : (b : List ℕ) (i : ℕ) (s : Shelf) (right : ℕ) (xs : List ℕ) → Lined b i s right xs → used_in b s xs + free_in b xs ≡ length xs * s.width
lined_widths b i s right [] p = omega (arith, zero-mul s.width)
lined_widths b i s right (x ∷ xs) p =
    let e : (1 + length xs) * s.width ≡ 1 * s.width + length xs * s.width = add-mul 1 (length xs) s.width in
    omega (arith, e, one-mul s.width, p.0.agrees.free, lined_widths b i s (bucket_at b x).x xs p.1)

-- no x is above the one before it
lined_edge : (b : List ℕ) (i : ℕ) (s : Shelf) (right : ℕ) (xs : List ℕ) → Lined b i s right xs → edge_of b right xs ≤ right
lined_edge b i s right [] p = omega arith
lined_edge b i s right (x ∷ xs) p = omega (arith, p.0.right, lined_edge b i s (bucket_at b x).x xs p.1)

-- so the last x tells of each, and the width used of each reference count
lined_members : (b : List ℕ) (i : ℕ) (s : Shelf) (right : ℕ) (xs : List ℕ) → Lined b i s right xs → Closed s (edge_of b right xs) (used_in b s xs)
    → Members b i s right xs
lined_members b i s right [] p c = tt
lined_members b i s right (x ∷ xs) p c =
    let a = p.0.agrees in (
      record {
        left = omega (arith, c.left, lined_edge b i s (bucket_at b x).x xs p.1);
        right = p.0.right;
        counted = record {
          shelf = p.0.names;
          free = a.free;
          whole = a.whole;
          unused = a.unused;
          items = a.items;
          flat = λ e. a.unused (omega (arith, a.free, c.flat e));
        };
        serving = record { generation = p.0.generation; rested = a.rested };
      },
      lined_members b i s (bucket_at b x).x xs p.1 (record { left = c.left; flat = λ e. omega (arith, c.flat e) }),
    )

members_closed : (b : List ℕ) (i : ℕ) (s : Shelf) (right : ℕ) (xs : List ℕ) → s.x ≤ right → Members b i s right xs
    → Closed s (edge_of b right xs) (used_in b s xs)
members_closed b i s right [] l p = record { left = l; flat = λ e. refl }
members_closed b i s right (x ∷ xs) l p =
    let ih = members_closed b i s (bucket_at b x).x xs p.0.left p.1 in
    record { left = ih.left; flat = λ e. omega (arith, ih.flat e, p.0.counted.whole (p.0.counted.flat e)) }

-- ---- a walk along the chain of a shelf

-- what is so of the buckets passed, edge being the last x and free the sum of the free widths
pub record PassingBy (b : List ℕ) (i : ℕ) (s : Shelf) (right edge free : ℕ) (ps : List ℕ) : Type 0 where
  pub lined : Lined b i s right ps
  pub edge_is : edge ≡ edge_of b right ps
  pub free_is : free ≡ free_in b ps

-- on the way along the chain of shelf i
abbrev pub Along : List ℕ → ℕ → ℕ → Shelf → ℕ → List ℕ → List ℕ → Tally → ℕ → ℕ → ℕ → ℕ → Type 0
Along b n i s right m m' t k edge seen free = Midway (PassingBy b i s right edge free) b n s.first m m' t seen k

module _ {b : List ℕ} {n i : ℕ} {s : Shelf} {right : ℕ} {m m' : List ℕ} {t : Tally} {k edge seen free : ℕ}
    (a : Along b n i s right m m' t k edge seen free) where
  along_widths : used_in b s a.ps + free ≡ (seen - t.seen) * s.width
  along_widths =
      let e : seen - t.seen ≡ length a.ps = omega (arith, a.met) in
      rw e (omega (arith, a.good.free_is, lined_widths b i s right a.ps a.good.lined))

  along_used : used_of t s seen free ≡ used_in b s a.ps
  along_used = omega (arith, along_widths)

  pub along_countable : Marks n m t → Countable t s seen free
  along_countable h = record {
    since = omega (arith, a.met);
    room = omega (arith, a.marked.room);
    widths = omega (arith, along_widths);
    pixels = h.pixels;
  }

  -- the sum of the free widths is within 32 bits
  pub along_free : Marks n m t → s.width < 65536 → free ≤ records_most * 65535
  along_free h hw = omega (arith, along_widths, widths_most (along_countable h) hw, a.marked.room)

  pub along_more : k < n → get_or m' k 0 ≡ 0 → InChain i s edge (bucket_at b k)
      → Along b n i s right m (set m' k 1) t (next b k) (bucket_at b k).x (seen + 1) (free + (bucket_at b k).free)
  along_more l z q = midway_more a l z (λ p. record {
    lined = lined_more b i s right a.ps k p.lined (subst (λ (e : ℕ). InChain i s e (bucket_at b k)) p.edge_is q);
    edge_is = sym (edge_more b right a.ps k);
    free_is = omega (arith, p.free_is, sum_of_append (λ k. (bucket_at b k).free) a.ps (k ∷ []));
  })

  pub along_bad : n ≤ records_most → k < n → (InChain i s edge (bucket_at b k) → ⊥) → ShelfNo b n i s right m
  along_bad hn l bad = midway_bad a hn l (λ xs p.
      let q : InChain i s (edge_of b right a.ps) (bucket_at b k) = member_follows (members_at b i s right a.ps k xs p) in
      bad (subst (λ (e : ℕ). InChain i s e (bucket_at b k)) (sym a.good.edge_is) q))

  -- ---- at the end

  -- the area of the chain
  along_area : used_of t s seen free * s.height ≡ sum_of (λ k. used_area s (bucket_at b k)) a.ps
  along_area = rw along_used (sym (sum_of_times (λ k. s.width - (bucket_at b k).free) s.height a.ps))

  along_yes : {r : Tally} → n ≤ records_most → k ≡ none → s.width < 65536 → s.height < 65536 → Marks n m t
      → Tallies t s seen edge (used_of t s seen free) r → ShelfYes b n i s right m m' t r
  along_yes hn e hw hh h y =
      let is : chain b s.first ≡ a.ps = midway_is a hn e in
      let c : Closed s (edge_of b right a.ps) (used_in b s a.ps) = record {
        left = omega (arith, y.closed.left, a.good.edge_is);
        flat = λ z. omega (arith, y.closed.flat z, along_used);
      } in
      let most : t.pixels + used_of t s seen free * s.height ≤ seen * bucket_most =
      omega (arith, area_most (along_countable h) hw hh, h.pixels, a.met) in
      rw y.tally (record {
        walked = midway_end a (tallied t s seen (used_of t s seen free)) hn e refl most;
        members = rw is (lined_members b i s right a.ps a.good.lined c);
        pixels = rw is (ap (λ (p : ℕ). t.pixels + p) along_area);
      })

  along_no : n ≤ records_most → k ≡ none → s.x ≤ right → (Closed s edge (used_of t s seen free) → ⊥) → ShelfNo b n i s right m
  along_no hn e hx bad =
      let is : chain b s.first ≡ a.ps = midway_is a hn e in
      record {
        twice = λ p q.
            let c = members_closed b i s right a.ps hx (subst (Members b i s right) is q) in
            absurd (bad (record { left = omega (arith, c.left, a.good.edge_is); flat = λ z. omega (arith, c.flat z, along_used) }));
      }

  pub along_answers : (r : Option Tally) → n ≤ records_most → k ≡ none → s.width < 65536 → s.height < 65536 → s.x ≤ right → Marks n m t
      → MatchOption r (Closed s edge (used_of t s seen free) → ⊥) (Tallies t s seen edge (used_of t s seen free))
      → MatchOption r (ShelfNo b n i s right m) (ShelfYes b n i s right m m' t)
  along_answers None hn e hw hh hx h q = along_no hn e hx q
  along_answers (Some y) hn e hw hh hx h q = along_yes hn e hw hh h q

-- ---- what the members of a chain are

pub members_ordered : (b : List ℕ) (i : ℕ) (s : Shelf) (right : ℕ) (xs : List ℕ) → Members b i s right xs → Ordered b s.width s.x right xs
members_ordered b i s right [] p = tt
members_ordered b i s right (x ∷ xs) p = (p.0.left, p.0.right, members_ordered b i s (bucket_at b x).x xs p.1)

members_each : (b : List ℕ) (i : ℕ) (s : Shelf) (right : ℕ) (xs : List ℕ) → Members b i s right xs → (k : ℕ) → In k xs
    → Counted i s (bucket_at b k) × Serving (bucket_at b k)
members_each b i s right [] p k l = absurd (omega arith)
members_each b i s right (x ∷ xs) p k l = elim (ℕ_discrete k x) [
  | yes e ↦ rw e (p.0.counted, p.0.serving)
  | no ne ↦ members_each b i s (bucket_at b x).x xs p.1 k (omega (arith, hit_other k x ne))
]

pub members_counted : (b : List ℕ) (i : ℕ) (s : Shelf) (right : ℕ) (xs : List ℕ) → Members b i s right xs → (k : ℕ) → In k xs → Counted i s (bucket_at b k)
members_counted b i s right xs p k l = (members_each b i s right xs p k l).0

pub members_serving : (b : List ℕ) (i : ℕ) (s : Shelf) (right : ℕ) (xs : List ℕ) → Members b i s right xs → (k : ℕ) → In k xs
    → Serving (bucket_at b k)
members_serving b i s right xs p k l = (members_each b i s right xs p k l).1

pub members_of : (b : List ℕ) (i : ℕ) (s : Shelf) (right : ℕ) (xs : List ℕ) → Ordered b s.width s.x right xs
    → ((k : ℕ) → In k xs → Counted i s (bucket_at b k)) → ((k : ℕ) → In k xs → Serving (bucket_at b k)) → Members b i s right xs
members_of b i s right [] o c g = tt
members_of b i s right (x ∷ xs) o c g = (
  record { left = o.0; right = o.1; counted = c x (omega (arith, hit_same x)); serving = g x (omega (arith, hit_same x)) },
  members_of b i s (bucket_at b x).x xs o.2 (λ k l. c k (omega arith)) (λ k l. g k (omega arith)),
)

-- ---- the released chain

freed_at : (b : List ℕ) (ps : List ℕ) (k : ℕ) (xs : List ℕ) → AllFreed b (ps ++ (k ∷ xs)) → Freed (bucket_at b k)
freed_at b ps k xs p = p k (omega (arith, count_append k ps (k ∷ xs), hit_same k))

-- on the way along it
abbrev pub Loosely : List ℕ → ℕ → ℕ → List ℕ → List ℕ → Tally → ℕ → ℕ → Type 0
Loosely b n first m m' t k seen = Midway (AllFreed b) b n first m m' t seen k

module _ {b : List ℕ} {n first : ℕ} {m m' : List ℕ} {t : Tally} {k seen : ℕ} (a : Loosely b n first m m' t k seen) where
  pub loosely_more : k < n → get_or m' k 0 ≡ 0 → Freed (bucket_at b k) → Loosely b n first m (set m' k 1) t (next b k) (seen + 1)
  loosely_more l z q = midway_more a l z (λ p j c. elim (ℕ_discrete j k) [
    | yes e ↦ rw e q
    | no ne ↦ p j (omega (arith, count_append j a.ps (k ∷ []), hit_other j k ne))
  ])

  pub loosely_bad : n ≤ records_most → k < n → (Freed (bucket_at b k) → ⊥) → FreeNo b n first m
  loosely_bad hn l bad = midway_bad a hn l (λ xs p. bad (freed_at b a.ps k xs p))

  pub loosely_end : n ≤ records_most → k ≡ none → FreeYes b n first m m' t (met_to t seen)
  loosely_end hn e =
      let is : chain b first ≡ a.ps = midway_is a hn e in
      record { walked = midway_end a (met_to t seen) hn e refl a.marked.pixels; freed = rw is a.good }
