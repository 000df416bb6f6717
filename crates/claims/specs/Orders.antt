-- T-02, the refusals of the calls with the list in their order: "21 list not fitting the tables, straight after 1 (not in new or in reading); 19
-- list full, in allocate after 8; 20 id not held, in return after 11". Past 1 and 21 a request or a return is refused as without the list, then 19 or 20.
use Rattle.std.specs.Prelude.{ℕ, ◌≤◌, ◌<◌, true, ◌≡◌, List, [], ◌∷◌, ℤ, length, take, Ok, Err}
use Rattle.rules.specs.declared.Allocation.{Allocation}
use Rattle.rules.specs.declared.Refusal.{Refusal}
use Rattle.rules.specs.Answers.{refused, reply_says, placing_says, sides_says, flag_says, figure_says, written_says}
use Rattle.rules.specs.Sound.{Sound, is_sound}
use Rattle.rules.specs.Calls as calls
use Rattle.rules.specs.Builds.{present}
use Rattle.rules.specs.Held.{entries, Fits, fits}
use Rattle.rules.specs.Listed.{Holding, clear, grow, allocate, deallocate, size, is_empty, allocated_space, free_space_of, write, picture}
use Rattle.rules.specs.History.{Holds}

-- every call that is lent the list says n
pub record EachSays (n : ℕ) (l : Holding) : Type 0 where
  pub clear : reply_says (clear l).answer ≡ n ∷ []
  pub grow : (w h : ℤ) → reply_says (grow w h l).answer ≡ n ∷ []
  pub allocate : (w h : ℤ) → placing_says (allocate w h l).answer ≡ n ∷ []
  pub deallocate : (id : ℕ) → reply_says (deallocate id l).answer ≡ n ∷ []
  pub size : sides_says (size l) ≡ n ∷ []
  pub is_empty : flag_says (is_empty l) ≡ n ∷ []
  pub allocated : figure_says (allocated_space l) ≡ n ∷ []
  pub free : figure_says (free_space_of l) ≡ n ∷ []
  pub write : (out : List ℕ) → written_says (write present l out).written ≡ n ∷ []
  pub picture : (out : List ℕ) → written_says (picture l out).written ≡ n ∷ []

-- `listed_clear.one`, and so of each call: 1 before 21, whatever the list
abbrev pub ListOne : Type 0
ListOne = (l : Holding) → (Sound l.state → ⊥) → EachSays 1 l

-- `listed_clear.twenty_one`, and so of each call: "straight after 1"
abbrev pub ListTwentyOne : Type 0
ListTwentyOne = (l : Holding) → is_sound l.state ≡ true → (Fits l.state l.list → ⊥) → EachSays 21 l

-- `as_before`, `listed_allocate.nineteen`: "in allocate after 8", so only where the request would be placed
abbrev pub ListNineteen : Type 0
ListNineteen = (w h : ℤ) (l : Holding) → is_sound l.state ≡ true → fits l.state l.list ≡ true
    → ((r : Refusal) → (calls.allocate w h l.state).answer ≡ Err r → placing_says (allocate w h l).answer ≡ refused r)
    × ((a : Allocation) → (calls.allocate w h l.state).answer ≡ Ok a
    → (length l.list ≤ entries l.state → placing_says (allocate w h l).answer ≡ 19 ∷ [])
    × (entries l.state < length l.list → placing_says (allocate w h l).answer ≡ placing_says (Ok a)))

-- `as_before`, `listed_deallocate.twenty` and `.done`: "in return after 11"
abbrev pub ListTwenty : Type 0
ListTwenty = (id : ℕ) (l : Holding) → is_sound l.state ≡ true → fits l.state l.list ≡ true
    → ((r : Refusal) → (calls.deallocate id l.state).answer ≡ Err r → reply_says (deallocate id l).answer ≡ refused r)
    × ((calls.deallocate id l.state).answer ≡ (Ok tt)
    → ((Holds id (take (entries l.state) l.list) → ⊥) → reply_says (deallocate id l).answer ≡ 20 ∷ [])
    × (Holds id (take (entries l.state) l.list) → reply_says (deallocate id l).answer ≡ 0 ∷ []))
