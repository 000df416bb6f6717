-- A panel call is a call of the rules: the event read from what it told is the event of the rules' call, and the header, tables and list that it
-- leaves, read as an atlas with the list beside it, are what the rules' call leaves. An accepted read is in Files.
use Rattle.std.specs.Prelude.{Ok, Err, Result, ⊤, Bool}
use Rattle.rules.specs.declared.Refusal.{Refusal}
use Prim.Native.Nat.{ℕ, ◌≤◌}
use mathlib.Core.Bool.{true, false}
use mathlib.Core.Path.{◌≡◌, refl, sym, ◌∙◌, ap, subst}
use mathlib.Core.Logic.{◌≢◌}
use mathlib.Core.List.{List, []}
use borrow.Author.Tests.{le-leb, leb-true}
use lib.Dec.{leb}
use lib.IntN.{ℤ}
use lib.ListN.{length}
use Rattle.rules.specs.declared.Allocation.{Allocation}
use Rattle.rules.specs.declared.Head.{Head}
use Rattle.rules.specs.Tables.{atlas}
use Rattle.rules.specs.Sound.{Sound}
use Rattle.rules.specs.Calls as calls
use Rattle.rules.specs.Builds.{present}
use Rattle.rules.specs.Saving.{Saved}
use Rattle.rules.specs.Listed.{Holding, holding, Ended, ended}
use Rattle.rules.specs.Listed as listed
use Rattle.rules.specs.History.{Call, Event, StepListed as After, listed_step, after_made}
use Rattle.laws.proofs.Tests.Flags.{split}
use Rattle.promises.proofs.ListedOutcomes.{LeftAlone, clear_refused, grow_refused, allocate_refused, deallocate_refused}
use Rattle.promises.proofs.Sounds.{new_sound, listed_sound}
use Rattle.telling.specs.Header.{is_head, has_room, write_head}
use Rattle.telling.specs.Told.{Told, told, new_told, reply_told, placing_told, sides_told, flag_told, figure_told, written_told}
use Rattle.treadwharf.specs.Panel.{Back, back, lent, changing, reading, putting}
use Rattle.treadwharf.specs.Panel as panel
use Rattle.treadwharf.proofs.Refused.{read_kept}
use Rattle.boundary.specs.Calls.{PanelCall, NoRestart, answer, asks, event_of, atlas_of, reply_of, soundness, fitness, beside}
use Rattle.boundary.proofs.Heads.{head_test, read_written, is_written, sound_sixteen}
use Rattle.boundary.proofs.ReadBack.{made_of_law, reply_of_law, placing_of_law}

-- the header and the tables after a call are the atlas, with the list beside it
pub record Leaves (r : Back) (left : Holding) : Type 0 where
  pub head : is_head r.told.header ≡ true
  pub state : lent r.told.header r.shelves r.buckets r.list ≡ left

-- and the event too is that of the rules' call
pub record Stepped (c : Call) (r : Back) (after : After) : Type 0 where
  pub event : event_of c r.told ≡ after.event
  pub leaves : Leaves r after.left

-- a header is long enough
pub head_long : (x : List ℕ) → is_head x ≡ true → 12 ≤ length x
head_long x e = ((head_test x).holds e).long

module _ (x s b : List ℕ) (list : List Allocation) (e : is_head x ≡ true) where
  abbrev l : Holding
  l = lent x s b list

  -- ---- the calls that change what is lent: an accepted one writes the header, a refused one changes nothing

  written : (h : Head) (s' b' : List ℕ) (list' : List Allocation) (out : List ℕ) (n : ℕ) → Sound (atlas h s' b')
      → Leaves (back (told n (write_head h x) out) s' b' list') (holding (atlas h s' b') list')
  written h s' b' list' out n p = record {
    head = is_written h x (head_long x e) (sound_sixteen p);
    state = ap (λ (k : Head). holding (atlas k s' b') list') (read_written h x (head_long x e));
  }

  same : (l' : Holding) (out : List ℕ) (n : ℕ) → l' ≡ l → Leaves (back (told n x out) l'.state.shelves l'.state.buckets l'.list) l'
  same l' out n q = record { head = e; state = ap (λ (z : Holding). lent x z.state.shelves z.state.buckets z.list) q ∙ sym q }

  made_leaves : (w h aw ah n : ℤ) (v : ℕ) (m : Result Head Refusal) → calls.new w h aw ah n v s b ≡ m
      → Leaves (back (new_told m x) s b list) (holding (after_made m (atlas_of x s b)) list)
  made_leaves w h aw ah n v (Ok head) q = written head s b list [] 0 (new_sound present w h aw ah n v s b head q)
  made_leaves w h aw ah n v (Err r) q = record { head = e; state = refl }

  reply_leaves : (a : Result ⊤ Refusal) (l' : Holding) → LeftAlone Err l (ended a l') → Sound l'.state
      → Leaves (back (reply_told a l'.state.head x) l'.state.shelves l'.state.buckets l'.list) l'
  reply_leaves (Ok tt) l' u p = written l'.state.head l'.state.shelves l'.state.buckets l'.list [] 0 p
  reply_leaves (Err r) l' u p = same l' [] _ (u.same r refl)

  placing_leaves : (a : Result Allocation Refusal) (l' : Holding) (out : List ℕ) → LeftAlone Err l (ended a l') → Sound l'.state
      → Leaves (back (placing_told a l'.state.head x out) l'.state.shelves l'.state.buckets l'.list) l'
  placing_leaves (Ok a) l' out u p = written l'.state.head l'.state.shelves l'.state.buckets l'.list _ 0 p
  placing_leaves (Err r) l' out u p = same l' out _ (u.same r refl)

  new_stepped : (w h aw ah n : ℤ) (v : ℕ)
      → Stepped (Call.new w h aw ah n v) (back (panel.new w h aw ah n v x s b) s b list) (listed_step present (Call.new w h aw ah n v) l)
  unfolding panel.new
  new_stepped w h aw ah n v = simp (le-leb 12 (length x) (head_long x e)) (record {
    event = ap Event.made (made_of_law (calls.new w h aw ah n v s b) x (head_long x e));
    leaves = made_leaves w h aw ah n v (calls.new w h aw ah n v s b) refl;
  })

  -- call is one of the rules' that answer with a Reply
  module _ (call : Holding → Ended (Result ⊤ Refusal)) where
    changing_told : reply_of (changing call x s b list).told ≡ (call l).answer
    unfolding changing
    changing_told = simp e (reply_of_law (call l).answer (call l).left.state.head x)

    changing_leaves : LeftAlone Err l (call l) → Sound (call l).left.state → Leaves (changing call x s b list) (call l).left
    unfolding changing
    changing_leaves u p = simp e (reply_leaves (call l).answer (call l).left u p)

  allocate_stepped : (w h : ℤ) (out : List ℕ) → Sound (atlas_of x s b) → 5 ≤ length out
      → Stepped (Call.allocate w h) (panel.allocate w h x s b list out) (listed_step present (Call.allocate w h) l)
  unfolding panel.allocate has_room
  allocate_stepped w h out p k =
      let o : Ended (Result Allocation Refusal) = listed.allocate w h l in
      simp (e, le-leb 5 (length out) k) (record {
        event = ap Event.allocated (placing_of_law o.answer o.left.state.head x out k);
        leaves = placing_leaves o.answer o.left out (allocate_refused w h l) (listed_sound present p (Call.allocate w h) list);
      })

  -- an out slice too short: nothing is asked
  allocate_short : (w h : ℤ) (out : List ℕ) → leb 5 (length out) ≡ false
      → Stepped Call.read (panel.allocate w h x s b list out) (listed_step present Call.read l)
  unfolding panel.allocate has_room
  allocate_short w h out n = simp (e, n) (record { event = refl; leaves = record { head = e; state = refl } })

  -- ---- the calls that read: what is lent stays, also where the out slice is too short

  stays : (t : Told) → t.header ≡ x → Stepped Call.read (back t s b list) (listed_step present Call.read l)
  stays t q = record { event = refl; leaves = record { head = rw q e; state = rw q } }

  reading_header : {A : Type 0} (room : ℕ) (tell : A → List ℕ → List ℕ → Told) (call : Holding → A) (out : List ℕ)
      → ((a : A) → (tell a x out).header ≡ x) → (reading room tell call x s b list out).header ≡ x
  unfolding reading
  reading_header room tell call out k = split (has_room x out room) (λ q. simp q (k (call l))) (λ q. simp q)

  sides_header : (out : List ℕ) (a : Result (ℕ × ℕ) Refusal) → (sides_told a x out).header ≡ x
  sides_header out (Ok (w, h)) = refl
  sides_header out (Err r) = refl

  flag_header : (out : List ℕ) (a : Result Bool Refusal) → (flag_told a x out).header ≡ x
  flag_header out (Ok t) = refl
  flag_header out (Err r) = refl

  figure_header : (out : List ℕ) (a : Result ℕ Refusal) → (figure_told a x out).header ≡ x
  figure_header out (Ok n) = refl
  figure_header out (Err r) = refl

  written_header : (out : List ℕ) (a : Result ℕ Refusal) → (written_told a x out).header ≡ x
  written_header out (Ok n) = refl
  written_header out (Err r) = refl

  putting_header : (call : Holding → List ℕ → Saved) (text out : List ℕ) → (putting call x s b list text out).told.header ≡ x
  unfolding putting
  putting_header call text out = split (has_room x out 1) (λ q. simp q (written_header out (call l text).written)) (λ q. simp q)

  -- a refused read
  read_stepped : (file : List ℕ) → (panel.read x s b file).told.number ≢ 0
      → Stepped Call.read (beside (panel.read x s b file) list) (listed_step present Call.read l)
  read_stepped file n =
      let q = (read_kept x s b file).same n in
      record {
        event = refl;
        leaves = record {
          head = subst (λ (r : Back). is_head r.told.header ≡ true) (sym q) e;
          state = ap (λ (r : Back). lent r.told.header r.shelves r.buckets list) q;
        };
      }

  -- ---- each call

  pub stepped : Sound (atlas_of x s b) → (c : PanelCall) → NoRestart c x s b → Stepped (asks c) (answer c x s b list) (listed_step present (asks c) l)
  unfolding asks
  stepped p (PanelCall.new w h aw ah n v) k = new_stepped w h aw ah n v
  stepped p PanelCall.clear k = record {
    event = ap Event.cleared (changing_told listed.clear);
    leaves = changing_leaves listed.clear (clear_refused l) (listed_sound present p Call.clear list);
  }
  stepped p (PanelCall.grow w h) k = record {
    event = ap Event.grown (changing_told (listed.grow w h));
    leaves = changing_leaves (listed.grow w h) (grow_refused w h l) (listed_sound present p (Call.grow w h) list);
  }
  stepped p (PanelCall.allocate w h out) k = split (leb 5 (length out))
      (λ m. simp m (allocate_stepped w h out p (leb-true 5 (length out) m)))
      (λ n. simp n (allocate_short w h out n))
  stepped p (PanelCall.deallocate id) k = record {
    event = ap (Event.deallocated id) (changing_told (listed.deallocate id));
    leaves = changing_leaves (listed.deallocate id) (deallocate_refused id l) (listed_sound present p (Call.deallocate id) list);
  }
  stepped p PanelCall.is_sound k = stays (told (soundness x s b) x []) refl
  stepped p PanelCall.fits k = stays (told (fitness x s b list) x []) refl
  stepped p (PanelCall.size out) k = stays (panel.size x s b list out) (reading_header 2 sides_told listed.size out (sides_header out))
  stepped p (PanelCall.is_empty out) k = stays (panel.is_empty x s b list out) (reading_header 1 flag_told listed.is_empty out (flag_header out))
  stepped p (PanelCall.allocated_space out) k =
      stays (panel.allocated_space x s b list out) (reading_header 1 figure_told listed.allocated_space out (figure_header out))
  stepped p (PanelCall.free_space out) k =
      stays (panel.free_space x s b list out) (reading_header 1 figure_told listed.free_space_of out (figure_header out))
  stepped p (PanelCall.write file out) k = stays (panel.write present x s b list file out).told (putting_header (listed.write present) file out)
  stepped p (PanelCall.picture text out) k = stays (panel.picture x s b list text out).told (putting_header listed.picture text out)
  stepped p (PanelCall.read file) k = read_stepped file k
