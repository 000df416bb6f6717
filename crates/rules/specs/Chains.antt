-- Chains of buckets: from a first index along `next` to 65,535, as the list of the indices on the way.
use Rattle.std.specs.Prelude.{ℕ, zero, suc, ◌+◌, ◌<◌, ◌≡◌, List, [], ◌∷◌, eqb, if◌then◌else◌}
use Rattle.rules.specs.Limits.{records_most, none}
use Rattle.rules.specs.Tables.{Atlas, bucket_at, shelf_at}

-- what a walk of at most d steps from i along f meets
unfoldable pub chain_from : ℕ → (ℕ → ℕ) → ℕ → List ℕ
chain_from zero f i = []
chain_from (suc d) f i = if eqb i none then [] else i ∷ chain_from d f (f i)

-- the bucket after bucket i
unfoldable pub next : List ℕ → ℕ → ℕ
next buckets i = (bucket_at buckets i).next

-- the first bucket of shelf i
unfoldable pub first : List ℕ → ℕ → ℕ
first shelves i = (shelf_at shelves i).first

-- the chain that starts at bucket i; a ring, which no sound table has, is cut after 4,095 steps
unfoldable pub chain : List ℕ → ℕ → List ℕ
chain buckets i = chain_from records_most (next buckets) i

-- the chain of shelf i
abbrev pub chain_of : Atlas → ℕ → List ℕ
chain_of g i = chain g.buckets (first g.shelves i)

-- the released chain
abbrev pub released_of : Atlas → List ℕ
released_of g = chain g.buckets g.head.released

-- the last of x and then xs
abbrev pub last_of : ℕ → List ℕ → ℕ
last_of x [] = x
last_of x (y ∷ ys) = last_of y ys

-- 1 where k is x, and 0 where not
unfoldable pub hit : ℕ → ℕ → ℕ
hit k x = if eqb k x then 1 else 0

-- how often k stands in a list
abbrev pub count : ℕ → List ℕ → ℕ
count k [] = 0
count k (x ∷ xs) = hit k x + count k xs

-- k stands in the list
abbrev pub In : ℕ → List ℕ → Type 0
In k xs = 0 < count k xs

-- g 0 + .. + g (m - 1)
abbrev pub sum_to : ℕ → (ℕ → ℕ) → ℕ
sum_to zero g = 0
sum_to (suc m) g = sum_to m g + g m

-- the sum of g over a list
abbrev pub sum_of : (ℕ → ℕ) → List ℕ → ℕ
sum_of g [] = 0
sum_of g (x ∷ xs) = g x + sum_of g xs

-- the chain from i along f is exactly xs: it ends with 65,535 and all of it lies below n
abbrev pub Linked : (ℕ → ℕ) → ℕ → ℕ → List ℕ → Type 0
Linked f n i [] = i ≡ none
Linked f n i (x ∷ xs) = (i ≡ x) × (x < n) × Linked f n (f x) xs
