-- What a walk along a chain shows. The marks are counts: how often each index stands in the chains that were walked.
use Rattle.std.specs.Prelude.{ℕ, ◌+◌, ◌*◌, ◌≤◌, ◌<◌, ◌≡◌, List, [], ◌∷◌, get_or, length}
use Rattle.rules.specs.declared.Shelf.{Shelf}
use Rattle.rules.specs.declared.Bucket.{Bucket}
use Rattle.rules.specs.Limits.{records_most}
use Rattle.rules.specs.Tables.{bucket_at}
use Rattle.rules.specs.Chains.{next, chain, count, In, sum_of, Linked}
use Rattle.rules.specs.Return.{used_area}
use Rattle.rules.specs.Sound.{Counted}
use Rattle.asked.specs.declared.buckets.Tally.{Tally}
use Rattle.asked.specs.Buckets.{Serving, Freed, bucket_most}

-- P of each index below n
abbrev pub EachTo : ℕ → (ℕ → Type 0) → Type 0
EachTo n P = (k : ℕ) → k < n → P k

-- ---- buckets

-- a bucket of shelf i, its end at most edge
pub record Member (i : ℕ) (shelf : Shelf) (edge : ℕ) (bucket : Bucket) : Type 0 where
  pub left : shelf.x ≤ bucket.x
  pub right : bucket.x + shelf.width ≤ edge
  pub counted : Counted i shelf bucket
  pub serving : Serving bucket

-- those of a chain, each one's end at most the x of the one before it
abbrev pub Members : List ℕ → ℕ → Shelf → ℕ → List ℕ → Type 0
Members buckets i shelf right [] = Unit {0}
Members buckets i shelf right (k ∷ ks) = Member i shelf right (bucket_at buckets k) × Members buckets i shelf (bucket_at buckets k).x ks

abbrev pub AllFreed : List ℕ → List ℕ → Type 0
AllFreed buckets xs = (k : ℕ) → In k xs → Freed (bucket_at buckets k)

-- ---- marks

-- there are n marks, none above 1, and a mark 0 for each bucket that may still be met; the tally's sums are within its types
pub record Marks (n : ℕ) (marks : List ℕ) (t : Tally) : Type 0 where
  pub long : n ≤ length marks
  pub low : (k : ℕ) → k < n → get_or marks k 0 ≤ 1
  pub room : t.seen + count 0 marks ≤ records_most
  pub pixels : t.pixels ≤ t.seen * bucket_most

pub record CanWalk (buckets : List ℕ) (n : ℕ) (marks : List ℕ) (t : Tally) : Type 0 where
  pub count : n ≤ records_most
  pub lent : 7 * records_most ≤ length buckets
  pub marked : Marks n marks t

-- the chain from i is walked, and counted by the marks and the tally
pub record Walked (buckets : List ℕ) (n i : ℕ) (marks marks' : List ℕ) (t t' : Tally) : Type 0 where
  pub links : Linked (next buckets) n i (chain buckets i)
  pub counts : (k : ℕ) → k < n → get_or marks' k 0 ≡ get_or marks k 0 + count k (chain buckets i)
  pub marked : Marks n marks' t'
  pub seen : t'.seen ≡ t.seen + length (chain buckets i)

-- if it is a chain and P of it, then some index comes a second time
pub record MetTwice (P : List ℕ → Type 0) (buckets : List ℕ) (n i : ℕ) (marks : List ℕ) : Type 0 where
  pub twice : Linked (next buckets) n i (chain buckets i) → P (chain buckets i) → (k : ℕ) × (k < n) × (1 < get_or marks k 0 + count k (chain buckets i))

pub record ShelfYes (buckets : List ℕ) (n i : ℕ) (shelf : Shelf) (right : ℕ) (marks marks' : List ℕ) (t t' : Tally) : Type 0 where
  pub walked : Walked buckets n shelf.first marks marks' t t'
  pub members : Members buckets i shelf right (chain buckets shelf.first)
  pub pixels : t'.pixels ≡ t.pixels + sum_of (λ k. used_area shelf (bucket_at buckets k)) (chain buckets shelf.first)

abbrev pub ShelfNo : List ℕ → ℕ → ℕ → Shelf → ℕ → List ℕ → Type 0
ShelfNo buckets n i shelf right marks = MetTwice (Members buckets i shelf right) buckets n shelf.first marks

pub record FreeYes (buckets : List ℕ) (n i : ℕ) (marks marks' : List ℕ) (t t' : Tally) : Type 0 where
  pub walked : Walked buckets n i marks marks' t t'
  pub freed : AllFreed buckets (chain buckets i)

abbrev pub FreeNo : List ℕ → ℕ → ℕ → List ℕ → Type 0
FreeNo buckets n i marks = MetTwice (AllFreed buckets) buckets n i marks
