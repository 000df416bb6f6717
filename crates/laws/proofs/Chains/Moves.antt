-- Moves of buckets between chains: each keeps the chains linked and every index in them once.
-- A bucket gets loose, is put in front of a chain, and a whole chain goes in front of the released one.
use Prim.Native.Nat.{ℕ, suc, ◌+◌, ◌≤◌, ◌<◌}
use mathlib.Core.Path.{◌≡◌, refl, sym, ap, subst}
use mathlib.Core.Logic.{◌≢◌}
use mathlib.Core.List.{List, [], ◌∷◌, ◌++◌}
use native.Mathlib.Decide.{ℕ_discrete}
use native.Mathlib.Omega.{arith}
use lib.ListN.{length}
use Rattle.rules.specs.Limits.{none}
use Rattle.rules.specs.Chains.{count, sum_to, hit, Linked, last_of}
use Rattle.laws.proofs.Chains.Count.{upd, hit_same, hit_other, hit_eq, upd_same, upd_other, count_append, sum_ext, sum_zeros, sum_term, sum_change}
use Rattle.laws.proofs.Chains.Links.{linked_start, linked_frame, linked_apart, linked_past, linked_below, linked_length}

-- m chains that start at h, and the released one that starts at r, are ch and rs, and each index below n stands in them once
pub record Tied (f : ℕ → ℕ) (n m : ℕ) (h : ℕ → ℕ) (r : ℕ) (ch : ℕ → List ℕ) (rs : List ℕ) : Type 0 where
  pub shelf : (i : ℕ) → i < m → Linked f n (h i) (ch i)
  pub released : Linked f n r rs
  pub once : (k : ℕ) → k < n → sum_to m (λ i. count k (ch i)) + count k rs ≡ 1

-- as `Tied`, with one index j below n that is in no chain
pub record Loose (f : ℕ → ℕ) (n m : ℕ) (h : ℕ → ℕ) (r : ℕ) (ch : ℕ → List ℕ) (rs : List ℕ) (j : ℕ) : Type 0 where
  pub below : j < n
  pub shelf : (i : ℕ) → i < m → Linked f n (h i) (ch i)
  pub released : Linked f n r rs
  pub once : (k : ℕ) → k < n → sum_to m (λ i. count k (ch i)) + count k rs + hit k j ≡ 1

-- the released chain's head is taken off
pub loosen_head : {f : ℕ → ℕ} {n m : ℕ} {h : ℕ → ℕ} {r : ℕ} {ch : ℕ → List ℕ} {x : ℕ} {rs : List ℕ}
    → Tied f n m h r ch (x ∷ rs) → Loose f n m h (f x) ch rs x
loosen_head t = record {
  below = t.released.1;
  shelf = t.shelf;
  released = t.released.2;
  once = λ k l. omega (arith, t.once k l);
}

-- the table is one longer
pub loosen_fresh : {f : ℕ → ℕ} {n m : ℕ} {h : ℕ → ℕ} {r : ℕ} {ch : ℕ → List ℕ} {rs : List ℕ}
    → Tied f n m h r ch rs → Loose f (suc n) m h r ch rs n
loosen_fresh {f} {n} {m} {h} {r} {ch} {rs} t = record {
  below = omega arith;
  shelf = λ i l. linked_frame f f n (suc n) (h i) (ch i) (omega arith) (λ k a. refl) (t.shelf i l);
  released = linked_frame f f n (suc n) r rs (omega arith) (λ k a. refl) t.released;
  once = λ k l. elim (ℕ_discrete k n) [
    | yes e ↦ omega (
      arith,
      hit_eq k n e,
      linked_past f n r rs k t.released (omega arith),
      sum_zeros m,
      sum_ext m (λ i. count k (ch i)) (λ i. 0) (λ i a. linked_past f n (h i) (ch i) k (t.shelf i a) (omega arith)),
    )
    | no ne ↦ omega (arith, hit_other k n ne, t.once k (omega arith))
  ];
}

module _ {f : ℕ → ℕ} {n m : ℕ} {h : ℕ → ℕ} {r : ℕ} {ch : ℕ → List ℕ} {rs : List ℕ} {j : ℕ} (t : Loose f n m h r ch rs j) where
  -- it stands in no chain
  pub loose_shelf : (i : ℕ) → i < m → count j (ch i) ≡ 0
  loose_shelf i l = omega (arith, t.once j t.below, hit_same j, sum_term m i (λ i. count j (ch i)) l)

  pub loose_released : count j rs ≡ 0
  loose_released = omega (arith, t.once j t.below, hit_same j)

  -- it is written with a link to the head of chain s, and becomes that chain's head
  pub tie_head : (s : ℕ) → s < m → (g h' : ℕ → ℕ)
      → g j ≡ h s → ((k : ℕ) → k ≢ j → g k ≡ f k)
      → h' s ≡ j → ((i : ℕ) → i < m → i ≢ s → h' i ≡ h i)
      → Tied g n m h' r (upd ch s (j ∷ ch s)) rs
  tie_head s ls g h' gj go hs ho = record {
    shelf = λ i l. elim (ℕ_discrete i s) [
      | yes e ↦ subst (λ (a : ℕ). Linked g n (h' a) (upd ch s (j ∷ ch s) a)) (sym e) here
      | no ne ↦ rw (upd_other ch s (j ∷ ch s) i ne)
          (linked_start g n (h i) (h' i) (ch i) (sym (ho i l ne))
          (linked_apart f g n n (h i) j (ch i) (omega arith) go (loose_shelf i l) (t.shelf i l)))
    ];
    released = linked_apart f g n n r j rs (omega arith) go loose_released t.released;
    once = λ k l. omega (
      arith,
      t.once k l,
      ap (count k) (upd_same ch s (j ∷ ch s)),
      sum_change m s (λ i. count k (ch i)) (λ i. count k (upd ch s (j ∷ ch s) i)) ls
          (λ i a b. ap (count k) (upd_other ch s (j ∷ ch s) i b)),
    );
  }
    where
      here : Linked g n (h' s) (upd ch s (j ∷ ch s) s)
      here = rw (upd_same ch s (j ∷ ch s)) (
        hs,
        t.below,
        linked_start g n (h s) (g j) (ch s) (sym gj)
            (linked_apart f g n n (h s) j (ch s) (omega arith) go (loose_shelf s ls) (t.shelf s ls)),
      )

-- ---- a shelf more, with no bucket yet, and what holds of every chain

pub tied_count : {f : ℕ → ℕ} {n m : ℕ} {h : ℕ → ℕ} {r : ℕ} {ch : ℕ → List ℕ} {rs : List ℕ} → Tied f n m h r ch rs
    → (i : ℕ) → i < m → (k : ℕ) → k < n → count k (ch i) ≤ 1
tied_count {m = m} {ch = ch} t i l k lk = omega (arith, t.once k lk, sum_term m i (λ i. count k (ch i)) l)

pub tied_length : {f : ℕ → ℕ} {n m : ℕ} {h : ℕ → ℕ} {r : ℕ} {ch : ℕ → List ℕ} {rs : List ℕ} → Tied f n m h r ch rs
    → (i : ℕ) → i < m → length (ch i) ≤ n
tied_length {f} {n} {m} {h} {r} {ch} {rs} t i l = linked_length f n (h i) (ch i) (t.shelf i l) (tied_count t i l)

pub tied_released_length : {f : ℕ → ℕ} {n m : ℕ} {h : ℕ → ℕ} {r : ℕ} {ch : ℕ → List ℕ} {rs : List ℕ} → Tied f n m h r ch rs → length rs ≤ n
tied_released_length {f} {n} {m} {h} {r} {ch} {rs} t = linked_length f n r rs t.released (λ k l. omega (arith, t.once k l))

pub open_chain : {f : ℕ → ℕ} {n m : ℕ} {h : ℕ → ℕ} {r : ℕ} {ch : ℕ → List ℕ} {rs : List ℕ} → Tied f n m h r ch rs
    → (h' : ℕ → ℕ) → h' m ≡ none → ((i : ℕ) → i < m → h' i ≡ h i) → Tied f n (suc m) h' r (upd ch m []) rs
open_chain {f} {n} {m} {h} {r} {ch} {rs} t h' hm ho = record {
  shelf = λ i l. elim (ℕ_discrete i m) [
    | yes e ↦ subst (λ (a : ℕ). Linked f n (h' a) (upd ch m [] a)) (sym e) (rw (upd_same ch m []) hm)
    | no ne ↦ rw (upd_other ch m [] i ne) (linked_start f n (h i) (h' i) (ch i) (sym (ho i (omega arith))) (t.shelf i (omega arith)))
  ];
  released = t.released;
  once = λ k l. omega (
    arith,
    t.once k l,
    ap (count k) (upd_same ch m []),
    sum_ext m (λ i. count k (upd ch m [] i)) (λ i. count k (ch i)) (λ i a. ap (count k) (upd_other ch m [] i (omega arith))),
  );
}

-- ---- a popped shelf's chain is put in front of the released one

pub last_in : (x : ℕ) (xs : List ℕ) → 0 < count (last_of x xs) (x ∷ xs)
last_in x [] = omega (arith, hit_same x)
last_in x (y ∷ ys) = omega (arith, last_in y ys)

pub linked_splice : (f g : ℕ → ℕ) (n i x : ℕ) (xs : List ℕ) (r : ℕ) (rs : List ℕ)
    → g (last_of x xs) ≡ r → ((k : ℕ) → k ≢ last_of x xs → g k ≡ f k) → count (last_of x xs) (x ∷ xs) ≤ 1
    → Linked f n i (x ∷ xs) → Linked g n r rs → Linked g n i ((x ∷ xs) ++ rs)
linked_splice f g n i x [] r rs gl go u p q = (p.0, p.1, linked_start g n r (g x) rs (sym gl) q)
linked_splice f g n i x (y ∷ ys) r rs gl go u p q =
    let ne : x ≢ last_of y ys = λ e. let w : hit (last_of y ys) x ≡ 1 = hit_eq (last_of y ys) x (sym e) in omega (arith, last_in y ys) in (
      p.0,
      p.1,
      linked_start g n (f x) (g x) ((y ∷ ys) ++ rs) (sym (go x ne))
          (linked_splice f g n (f x) y ys r rs gl go (omega arith) p.2 q),
    )

pub splice : {f : ℕ → ℕ} {n m : ℕ} {h : ℕ → ℕ} {r : ℕ} {ch : ℕ → List ℕ} {rs : List ℕ} → Tied f n (suc m) h r ch rs
    → (x : ℕ) (xs : List ℕ) → ch m ≡ x ∷ xs → (g : ℕ → ℕ) → g (last_of x xs) ≡ r → ((k : ℕ) → k ≢ last_of x xs → g k ≡ f k)
    → Tied g n m h (h m) ch ((x ∷ xs) ++ rs)
splice {f} {n} {m} {h} {r} {ch} {rs} t x xs e g gl go =
    let p : Linked f n (h m) (x ∷ xs) = rw e at (t.shelf m (omega arith)) in
    let cm : (k : ℕ) → count k (ch m) ≡ count k (x ∷ xs) = λ k. ap (count k) e in
    let one : sum_to m (λ i. count (last_of x xs) (ch i)) + count (last_of x xs) (ch m) + count (last_of x xs) rs ≡ 1 =
    t.once (last_of x xs) (linked_below f n (h m) (x ∷ xs) (last_of x xs) p (last_in x xs)) in
    let here = cm (last_of x xs) in
    let more = last_in x xs in
    record {
      shelf = λ i l. linked_apart f g n n (h i) (last_of x xs) (ch i) (omega arith) go
          (omega (arith, sum_term m i (λ i. count (last_of x xs) (ch i)) l)) (t.shelf i (omega arith));
      released = linked_splice f g n (h m) x xs r rs gl go (omega arith) p
          (linked_apart f g n n r (last_of x xs) rs (omega arith) go (omega arith) t.released);
      once = λ k l. omega (arith, t.once k l, cm k, count_append k (x ∷ xs) rs);
    }

pub last_below : {f : ℕ → ℕ} {n m : ℕ} {h : ℕ → ℕ} {r : ℕ} {ch : ℕ → List ℕ} {rs : List ℕ} → Tied f n (suc m) h r ch rs
    → (x : ℕ) (xs : List ℕ) → ch m ≡ x ∷ xs → last_of x xs < n
last_below {f} {n} {m} {h} {r} {ch} {rs} t x xs e =
    linked_below f n (h m) (x ∷ xs) (last_of x xs) (rw e at (t.shelf m (omega arith))) (last_in x xs)

-- the last of the popped chain is in no other shelf's chain
pub last_apart : {f : ℕ → ℕ} {n m : ℕ} {h : ℕ → ℕ} {r : ℕ} {ch : ℕ → List ℕ} {rs : List ℕ} → Tied f n (suc m) h r ch rs
    → (x : ℕ) (xs : List ℕ) → ch m ≡ x ∷ xs → (i : ℕ) → i < m → count (last_of x xs) (ch i) ≡ 0
last_apart {f} {n} {m} {h} {r} {ch} {rs} t x xs e i l =
    omega (arith, t.once (last_of x xs) (last_below t x xs e), ap (count (last_of x xs)) e, last_in x xs, sum_term m i (λ i. count (last_of x xs) (ch i)) l)
