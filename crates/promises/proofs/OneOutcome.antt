-- "no second outcome meets it", of each public call and of a feed by name: two results, with the tables, the list and the buffer that they leave,
-- that both meet the equation of its contract (atlas/src, files/src, trace/src) are the same. What a call can not write is as it came in, and is not
-- named.
use Rattle.std.specs.Prelude.{Result, Ok, Err, ⊤}
use Rattle.rules.specs.declared.Refusal.{Refusal}
use Prim.Native.Nat.{ℕ}
use mathlib.Core.Path.{◌≡◌, refl, sym, ap, ◌∙◌}
use mathlib.Core.Bool.{Bool, ◌&&◌}
use mathlib.Core.List.{List}
use lib.IntN.{ℤ}
use Rattle.rules.specs.declared.Head.{Head}
use Rattle.rules.specs.declared.Allocation.{Allocation}
use Rattle.rules.specs.declared.Issued.{Issued}
use Rattle.rules.specs.declared.Pause.{Pause}
use Rattle.rules.specs.declared.Feed.{Feed}
use Rattle.rules.specs.Tables.{atlas}
use Rattle.rules.specs.Sound.{is_sound}
use Rattle.rules.specs.Calls as calls
use Rattle.rules.specs.Builds.{present}
use Rattle.rules.specs.Files as files
use Rattle.rules.specs.Files.{Saved, saved, Loaded, loaded}
use Rattle.rules.specs.Held.{fits}
use Rattle.rules.specs.Listed as listed
use Rattle.rules.specs.Left.{left_by, issued_by}
use Rattle.rules.specs.Listed.{Holding, holding, Ended, ended, beside}
use Rattle.rules.specs.Chunks as rule
use Rattle.rules.specs.Chunks.{Pushed, Ending}
use Rattle.promises.proofs.Outcomes.{one_answer}

-- the result, and the tables that it leaves
pub record SameResult {A : Type 0} (r r' : A) (s s' b b' : List ℕ) : Type 0 where
  pub result : r ≡ r'
  pub shelves : s ≡ s'
  pub buckets : b ≡ b'

-- the result, and the tables and the list that it leaves
pub record SameLeft {A : Type 0} (r r' : A) (s s' b b' : List ℕ) (x x' : List Allocation) : Type 0 where
  pub result : r ≡ r'
  pub shelves : s ≡ s'
  pub buckets : b ≡ b'
  pub list : x ≡ x'

-- what is lent, with the header
abbrev lent : Head → List ℕ → List ℕ → List Allocation → Holding
lent h s b x = holding (atlas h s b) x

-- a result again, from its answer and the header that it leaves
abbrev left_as : Result ⊤ Refusal → Head → Result Head Refusal
left_as (Ok t) head = Ok head
left_as (Err r) head = Err r

abbrev issued_as : Result Allocation Refusal → Head → Result Issued Refusal
issued_as (Ok a) head = Ok (record { head = head; allocation = a })
issued_as (Err r) head = Err r

same : {A B : Type 0} {r r' : A} {s s' b b' : List ℕ} {x x' : List Allocation} (answer : B → Head → A) {a a' : B} {h h' : Head}
    → ended a (lent h s b x) ≡ ended a' (lent h' s' b' x') → answer a h ≡ r → answer a' h' ≡ r'
    → SameLeft r r' s s' b b' x x'
same {B = B} answer e p q = record {
  result = sym p ∙ ap (λ (z : Ended B). answer z.answer z.left.state.head) e ∙ q;
  shelves = ap (λ (z : Ended B). z.left.state.shelves) e;
  buckets = ap (λ (z : Ended B). z.left.state.buckets) e;
  list = ap (λ (z : Ended B). z.left.list) e;
}

-- r and r' are results of a call to which the header went in
module _ (head : Head) (s s' b b' : List ℕ) (x x' : List Allocation) where
  one_left : (o : Ended (Result ⊤ Refusal)) (r r' : Result Head Refusal) → beside (left_by head s b r) x ≡ o → beside (left_by head s' b' r') x' ≡ o
      → SameLeft r r' s s' b b' x x'
  one_left o (Ok h) (Ok h') p q = same left_as (one_answer o _ _ p q) refl refl
  one_left o (Ok h) (Err t') p q = same left_as (one_answer o _ _ p q) refl refl
  one_left o (Err t) (Ok h') p q = same left_as (one_answer o _ _ p q) refl refl
  one_left o (Err t) (Err t') p q = same left_as (one_answer o _ _ p q) refl refl

  one_issued : (o : Ended (Result Allocation Refusal)) (r r' : Result Issued Refusal) → beside (issued_by head s b r) x ≡ o
      → beside (issued_by head s' b' r') x' ≡ o → SameLeft r r' s s' b b' x x'
  one_issued o (Ok i) (Ok i') p q = same issued_as (one_answer o _ _ p q) refl refl
  one_issued o (Ok i) (Err t') p q = same issued_as (one_answer o _ _ p q) refl refl
  one_issued o (Err t) (Ok i') p q = same issued_as (one_answer o _ _ p q) refl refl
  one_issued o (Err t) (Err t') p q = same issued_as (one_answer o _ _ p q) refl refl

one_saved : (w : Saved) (r r' : Result ℕ Refusal) (o o' : List ℕ) → saved r o ≡ w → saved r' o' ≡ w → (r ≡ r') × (o ≡ o')
one_saved w r r' o o' p q =
    let e : saved r o ≡ saved r' o' = one_answer w _ _ p q in
    (ap (λ (z : Saved). z.written) e, ap (λ (z : Saved). z.out) e)

-- s and b are the lent tables
module _ (s b : List ℕ) where
  pub new_one : (width height align_width align_height columns : ℤ) (vertical : ℕ) (r r' : Result Head Refusal)
      → r ≡ calls.new width height align_width align_height columns vertical s b
      → r' ≡ calls.new width height align_width align_height columns vertical s b → r ≡ r'
  new_one width height align_width align_height columns vertical = one_answer (calls.new width height align_width align_height columns vertical s b)

  pub is_sound_one : (head : Head) (r r' : Bool) → r ≡ is_sound (atlas head s b) → r' ≡ is_sound (atlas head s b) → r ≡ r'
  is_sound_one head = one_answer (is_sound (atlas head s b))

  -- x is the lent list
  pub fits_one : (head : Head) (x : List Allocation) (r r' : Bool) → r ≡ (is_sound (atlas head s b) && fits (atlas head s b) x)
      → r' ≡ (is_sound (atlas head s b) && fits (atlas head s b) x) → r ≡ r'
  fits_one head x = one_answer (is_sound (atlas head s b) && fits (atlas head s b) x)

  -- x is the lent list
  module _ (head : Head) (x : List Allocation) where
    -- tables and list are only read
    pub clear_one : (r r' : Result Head Refusal) → beside (left_by head s b r) x ≡ listed.clear (lent head s b x)
        → beside (left_by head s b r') x ≡ listed.clear (lent head s b x) → r ≡ r'
    clear_one r r' p q = (one_left head s s b b x x (listed.clear (lent head s b x)) r r' p q).result

    -- s', b' and s'', b'' are the tables after the call; the list is only read
    pub grow_one : (width height : ℤ) (r r' : Result Head Refusal) (s' s'' b' b'' : List ℕ)
        → beside (left_by head s' b' r) x ≡ listed.grow width height (lent head s b x)
        → beside (left_by head s'' b'' r') x ≡ listed.grow width height (lent head s b x) → SameLeft r r' s' s'' b' b'' x x
    grow_one width height r r' s' s'' b' b'' = one_left head s' s'' b' b'' x x (listed.grow width height (lent head s b x)) r r'

    -- x' and x'' are the list after the call
    pub allocate_one : (width height : ℤ) (r r' : Result Issued Refusal) (s' s'' b' b'' : List ℕ) (x' x'' : List Allocation)
        → beside (issued_by head s' b' r) x' ≡ listed.allocate width height (lent head s b x)
        → beside (issued_by head s'' b'' r') x'' ≡ listed.allocate width height (lent head s b x) → SameLeft r r' s' s'' b' b'' x' x''
    allocate_one width height r r' s' s'' b' b'' x' x'' =
        one_issued head s' s'' b' b'' x' x'' (listed.allocate width height (lent head s b x)) r r'

    -- the shelf table is only read
    pub deallocate_one : (id : ℕ) (r r' : Result Head Refusal) (b' b'' : List ℕ) (x' x'' : List Allocation)
        → beside (left_by head s b' r) x' ≡ listed.deallocate id (lent head s b x)
        → beside (left_by head s b'' r') x'' ≡ listed.deallocate id (lent head s b x) → SameLeft r r' s s b' b'' x' x''
    deallocate_one id r r' b' b'' x' x'' = one_left head s s b' b'' x' x'' (listed.deallocate id (lent head s b x)) r r'

    pub size_one : (r r' : Result (ℕ × ℕ) Refusal) → r ≡ listed.size (lent head s b x) → r' ≡ listed.size (lent head s b x) → r ≡ r'
    size_one = one_answer (listed.size (lent head s b x))

    pub is_empty_one : (r r' : Result Bool Refusal) → r ≡ listed.is_empty (lent head s b x) → r' ≡ listed.is_empty (lent head s b x) → r ≡ r'
    is_empty_one = one_answer (listed.is_empty (lent head s b x))

    pub allocated_space_one : (r r' : Result ℕ Refusal) → r ≡ listed.allocated_space (lent head s b x) → r' ≡ listed.allocated_space (lent head s b x) → r ≡ r'
    allocated_space_one = one_answer (listed.allocated_space (lent head s b x))

    pub free_space_one : (r r' : Result ℕ Refusal) → r ≡ listed.free_space_of (lent head s b x) → r' ≡ listed.free_space_of (lent head s b x) → r ≡ r'
    free_space_one = one_answer (listed.free_space_of (lent head s b x))

    -- T-01: a write's result, and the buffer
    pub write_one : (out : List ℕ) (r r' : Result ℕ Refusal) (o o' : List ℕ) → saved r o ≡ listed.write present (lent head s b x) out
        → saved r' o' ≡ listed.write present (lent head s b x) out → (r ≡ r') × (o ≡ o')
    write_one out r r' o o' = one_saved (listed.write present (lent head s b x) out) r r' o o'

    -- T-07: a picture's result, and the buffer
    pub picture_one : (out : List ℕ) (r r' : Result ℕ Refusal) (o o' : List ℕ) → saved r o ≡ listed.picture (lent head s b x) out
        → saved r' o' ≡ listed.picture (lent head s b x) out → (r ≡ r') × (o ≡ o')
    picture_one out r r' o o' = one_saved (listed.picture (lent head s b x) out) r r' o o'

  -- T-01: a read's result, and the tables
  pub read_one : (file : List ℕ) (r r' : Result Head Refusal) (s' s'' b' b'' : List ℕ) → loaded r s' b' ≡ files.read file s b
      → loaded r' s'' b'' ≡ files.read file s b → SameResult r r' s' s'' b' b''
  read_one file r r' s' s'' b' b'' p q =
      let e : loaded r s' b' ≡ loaded r' s'' b'' = one_answer _ _ _ p q in
      record {
        result = ap (λ (z : Loaded). z.made) e;
        shelves = ap (λ (z : Loaded). z.shelves) e;
        buckets = ap (λ (z : Loaded). z.buckets) e;
      }

  -- a feed's result, the buffer, the tables and the list
  pub feed_one : (x : List Allocation) (chunk out : List ℕ) (p : Pause) (r r' : Feed) (o o' s' s'' b' b'' : List ℕ) (x' x'' : List Allocation)
      → rule.pushed r.lines o r.pause s' b' x' ≡ rule.feed_into chunk out p s b x
      → rule.pushed r'.lines o' r'.pause s'' b'' x'' ≡ rule.feed_into chunk out p s b x
      → SameLeft r r' s' s'' b' b'' x' x'' × (o ≡ o')
  feed_one x chunk out p r r' o o' s' s'' b' b'' x' x'' m n =
      let e : rule.pushed r.lines o r.pause s' b' x' ≡ rule.pushed r'.lines o' r'.pause s'' b'' x'' = one_answer _ _ _ m n in
      let fed : Pushed → Feed = λ z. record { lines = z.lines; pause = z.pause } in (
        record {
          result = ap fed e;
          shelves = ap (λ (z : Pushed). z.shelves) e;
          buckets = ap (λ (z : Pushed). z.buckets) e;
          list = ap (λ (z : Pushed). z.list) e;
        },
        ap (λ (z : Pushed). z.out) e,
      )

-- the end's result, and the buffer
pub finish_one : (out : List ℕ) (p : Pause) (r r' : Result ℕ Refusal) (o o' : List ℕ) → rule.ending r o ≡ rule.finish_into out p
    → rule.ending r' o' ≡ rule.finish_into out p → (r ≡ r') × (o ≡ o')
finish_one out p r r' o o' m n =
    let e : rule.ending r o ≡ rule.ending r' o' = one_answer _ _ _ m n in
    (ap (λ (z : Ending). z.lines) e, ap (λ (z : Ending). z.out) e)
