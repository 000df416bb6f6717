-- Order along a chain by x: it depends on the members' x alone, each member lies between the ends, and the widths add up to the span at most.
-- `Along` is the order of the chain of a shelf of the tables.
use Prim.Native.Nat.{ℕ, ◌+◌, ◌-◌, ◌*◌, ◌≤◌}
use mathlib.Core.Path.{◌≡◌, ap, ◌∙◌}
use mathlib.Core.List.{List, [], ◌∷◌}
use native.Mathlib.Decide.{ℕ_discrete}
use native.Mathlib.Nat.{mul-le-mul_right, one-mul, add-mul}
use native.Mathlib.Omega.{arith}
use lib.ListN.{length}
use Rattle.rules.specs.declared.Bucket.{Bucket}
use Rattle.rules.specs.Tables.{Atlas, bucket_at, shelf_at}
use Rattle.rules.specs.Chains.{In, sum_of, chain_of}
use Rattle.rules.specs.Sound.{Ordered}
use Rattle.laws.proofs.Chains.Count.{hit_same, hit_other}

-- the order of a chain depends on its members' x alone
pub ordered_frame : (b b' : List ℕ) (width left right : ℕ) (xs : List ℕ) → ((k : ℕ) → In k xs → (bucket_at b' k).x ≡ (bucket_at b k).x)
    → Ordered b width left right xs → Ordered b' width left right xs
ordered_frame b b' width left right [] e p = tt
ordered_frame b b' width left right (x ∷ xs) e p =
    let here : (bucket_at b' x).x ≡ (bucket_at b x).x = e x (omega (arith, hit_same x)) in
    let rest : Ordered b' width left (bucket_at b x).x xs = ordered_frame b b' width left (bucket_at b x).x xs (λ k c. e k (omega arith)) p.2 in
    (rw here p.0, rw here p.1, rw here rest)

pub ordered_right : (b : List ℕ) (w left right right' : ℕ) (xs : List ℕ) → right ≤ right' → Ordered b w left right xs → Ordered b w left right' xs
ordered_right b w left right right' [] l p = tt
ordered_right b w left right right' (x ∷ xs) l p = (p.0, omega (arith, p.1), p.2)

-- the chain of shelf i in order from its x on, its first one's end being at most right
abbrev pub Along : Atlas → ℕ → ℕ → Type 0
Along g i right = Ordered g.buckets (shelf_at g.shelves i).width (shelf_at g.shelves i).x right (chain_of g i)

pub along_right : (g : Atlas) (i right right' : ℕ) → right ≤ right' → Along g i right → Along g i right'
along_right g i right right' =
    ordered_right g.buckets (shelf_at g.shelves i).width (shelf_at g.shelves i).x right right' (chain_of g i)

-- ---- what it says of the members

-- each member lies between left and right
pub ordered_in : (b : List ℕ) (width left right : ℕ) (xs : List ℕ) (k : ℕ) → Ordered b width left right xs → In k xs
    → (left ≤ (bucket_at b k).x) × ((bucket_at b k).x + width ≤ right)
ordered_in b width left right [] k p l = absurd (omega arith)
ordered_in b width left right (x ∷ xs) k p l = elim (ℕ_discrete k x) [
  | yes e ↦ rw e (p.0, p.1)
  | no ne ↦
      let r = ordered_in b width left (bucket_at b x).x xs k p.2 (omega (arith, hit_other k x ne)) in
      (r.0, omega (arith, r.1, p.1))
]

-- so their widths add up to the column's at most, and what of them is used, times a height, to the column's area
pub ordered_span : (b : List ℕ) (width left right : ℕ) (xs : List ℕ) → left ≤ right → Ordered b width left right xs → length xs * width + left ≤ right
ordered_span b width left right [] h p = omega arith
ordered_span b width left right (x ∷ xs) h p =
    let ih : length xs * width + left ≤ (bucket_at b x).x = ordered_span b width left (bucket_at b x).x xs p.0 p.2 in
    let e : (1 + length xs) * width ≡ 1 * width + length xs * width = add-mul 1 (length xs) width in
    omega (arith, ih, e, one-mul width, p.1)

pub ordered_used : (b : List ℕ) (width height left right : ℕ) (xs : List ℕ) → left ≤ right → Ordered b width left right xs
    → sum_of (λ k. (width - (bucket_at b k).free) * height) xs + left * height ≤ right * height
ordered_used b width height left right [] h p = omega (arith, mul-le-mul_right height h)
ordered_used b width height left right (x ∷ xs) h p =
    let ih : sum_of (λ k. (width - (bucket_at b k).free) * height) xs + left * height ≤ (bucket_at b x).x * height =
    ordered_used b width height left (bucket_at b x).x xs p.0 p.2 in
    let used : (width - (bucket_at b x).free) * height ≤ width * height = mul-le-mul_right height (omega arith) in
    let all : ((bucket_at b x).x + width) * height ≤ right * height = mul-le-mul_right height p.1 in
    omega (arith, ih, used, all, add-mul (bucket_at b x).x width height)

-- ---- buckets laid in order

-- buckets laid left to right from x on, w wide each, and each put at the head
abbrev pub Spaced : List ℕ → ℕ → ℕ → List ℕ → Type 0
Spaced b w x [] = Unit {0}
Spaced b w x (k ∷ ks) = ((bucket_at b k).x ≡ x + length ks * w) × Spaced b w x ks

pub spaced_frame : (b b' : List ℕ) (w x : ℕ) (xs : List ℕ) → ((k : ℕ) → In k xs → bucket_at b' k ≡ bucket_at b k) → Spaced b w x xs → Spaced b' w x xs
spaced_frame b b' w x [] e p = tt
spaced_frame b b' w x (k ∷ ks) e p =
    let here : (bucket_at b' k).x ≡ (bucket_at b k).x = ap (λ (v : Bucket). v.x) (e k (omega (arith, hit_same k))) in
    (here ∙ p.0, spaced_frame b b' w x ks (λ j l. e j (omega arith)) p.1)
