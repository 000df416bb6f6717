-- What the pass over the shelves shows, and what is asked before it.
use Rattle.std.specs.Prelude.{ℕ, suc, ◌≤◌, ◌<◌, ◌≡◌, List, get_or, length}
use Rattle.rules.specs.Limits.{records_most}
use Rattle.rules.specs.Tables.{Atlas, bucket_at}
use Rattle.rules.specs.Chains.{next, first, chain_of, count, In, sum_to, Linked}
use Rattle.rules.specs.Sound.{Lent, Stacked, Stocked, used_on}
use Rattle.asked.specs.Buckets.{Serving}
use Rattle.standing.specs.declared.ending.Pass.{Pass}
use Rattle.standing.specs.Header.{Headed}
use Rattle.walks.specs.Walks.{Marks, EachTo}
use Rattle.sound.specs.Rows.{RowAt}

-- what is known before the pass
pub record Given (g : Atlas) : Type 0 where
  pub lent : Lent g.shelves g.buckets
  pub headed : Headed g.head

-- and each record that the header counts can be read
pub record Readable (g : Atlas) (has_shelf has_bucket : ℕ → Type 0) : Type 0 where
  pub given : Given g
  pub shelves : EachTo g.head.shelf_count has_shelf
  pub buckets : EachTo g.head.bucket_count has_bucket

-- a mark for each of n buckets, none of them set
pub record Unmarked (n : ℕ) (marks : List ℕ) : Type 0 where
  pub long : n ≤ length marks
  pub none : (k : ℕ) → k < n → get_or marks k 0 ≡ 0
  pub room : count 0 marks ≤ records_most

-- the first t shelves are good, the marks and the tally count their chains, and `before` is the figure without the last of them
pub record Passed (g : Atlas) (t : ℕ) (marks : List ℕ) (pass : Pass) : Type 0 where
  pub stacked : (i : ℕ) → i < t → Stacked g i
  pub links : (i : ℕ) → i < t → Linked (next g.buckets) g.head.bucket_count (first g.shelves i) (chain_of g i)
  pub stocked : (i : ℕ) → i < t → Stocked g i
  pub serving : (i : ℕ) → i < t → (k : ℕ) → In k (chain_of g i) → Serving (bucket_at g.buckets k)
  pub counts : (k : ℕ) → k < g.head.bucket_count → get_or marks k 0 ≡ sum_to t (λ i. count k (chain_of g i))
  pub marked : Marks g.head.bucket_count marks pass.tally
  pub seen : pass.tally.seen ≡ sum_to t (λ i. length (chain_of g i))
  pub pixels : pass.tally.pixels ≡ sum_to t (used_on g)
  pub before : (i : ℕ) → suc i ≡ t → pass.before ≡ sum_to i (used_on g)
  pub row : RowAt g t pass.row
