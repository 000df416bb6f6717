-- What specs/Wear.antt claims, each from the theorem that it names.
use Rattle.std.specs.Prelude.{Ok, Result, ⊤}
use Rattle.rules.specs.declared.Refusal.{Refusal}
use Prim.Native.Nat.{ℕ, ◌+◌, ◌%◌, ◌<◌}
use mathlib.Core.Path.{◌≡◌, refl, sym, ap}
use mathlib.Core.Logic.{◌≢◌}
use mathlib.Core.List.{[], ◌∷◌}
use native.Mathlib.Omega.{arith}
use borrow.Author.Tests.{leb-false, eqb-false, eqb-true, not-false}
use lib.Dec.{eqb}
use Rattle.rules.specs.Ids.{id_bucket, id_generation}
use Rattle.rules.specs.Tables.{Atlas, Outcome, bucket_at}
use Rattle.rules.specs.Answers.{reply_says}
use Rattle.rules.specs.Builds.{present}
use Rattle.rules.specs.Return.{returned}
use Rattle.rules.specs.Sound.{Sound}
use Rattle.rules.specs.Calls.{deallocate}
use Rattle.laws.proofs.Sound.Test.{sound_test}
use Rattle.laws.proofs.Calls.Ways.{Returns, deallocate_ways}
use Rattle.laws.proofs.Return.Keep.{return_items, return_generation, return_refs, deallocate_facts}
use Rattle.promises.proofs.Renewed.{Renewed, emptied_renewed, unreferenced_takeable}
use Rattle.claims.specs.Wear.{named, Emptied, NotEmptied, LastTwice, UnreferencedTakes}

-- an accepted return is that of its bucket
accepted_returns : (P : Atlas → Type 0) (id : ℕ) (g : Atlas) → (Returns present id g → P (returned present (id_bucket id) g))
    → (deallocate id g).answer ≡ (Ok tt) → P (deallocate id g).state
accepted_returns P id g yes' = deallocate_ways present (λ (o : Outcome (Result ⊤ Refusal)). o.answer ≡ (Ok tt) → P o.state) id g
    (λ r e. absurd (let z : ◌≡◌ {A = ℕ} 0 1 = cc in omega arith)) (λ r e. yes' r)

module _ (id : ℕ) (g : Atlas) (r : Returns present id g) where
  sound : Sound g
  sound = (sound_test g).0 r.sound

  below : id_bucket id < g.head.bucket_count
  below = leb-false g.head.bucket_count (id_bucket id) r.known

  its_generation : (bucket_at g.buckets (id_bucket id)).generation ≡ id_generation id
  its_generation =
      let same = eqb (bucket_at g.buckets (id_bucket id)).generation (id_generation id) in
      eqb-true (bucket_at g.buckets (id_bucket id)).generation (id_generation id) (not-false same r.current)

  renewed : (named id g).refs ≡ 1 → Renewed (id_bucket id) g (returned present (id_bucket id) g)
  renewed = emptied_renewed g sound (id_bucket id) below

pub emptied : Emptied
emptied id g e one = accepted_returns (λ (g' : Atlas). ((named id g').items ≡ 0) × ((named id g').generation ≡ ((named id g).generation + 1) % 256)) id g
    (λ r. let n = renewed id g r one in (n.items, n.generation)) e

pub not_emptied : NotEmptied
not_emptied id g e ne = accepted_returns
    (λ (g' : Atlas). ((named id g').items ≡ (named id g).items) × ((named id g').generation ≡ (named id g).generation)) id g
    (λ r.
    let f = deallocate_facts id g (sound id g r) r in
    let held : (named id g).refs ≢ 0 = eqb-false (named id g).refs 0 r.held in
    let still : 0 < (bucket_at (returned present (id_bucket id) g).buckets (id_bucket id)).refs = omega (arith, return_refs f) in
    (return_items f (id_bucket id) still, return_generation f (id_bucket id) still)) e

pub last_twice : LastTwice
last_twice id g e one = accepted_returns (λ (g' : Atlas). reply_says (deallocate id g').answer ≡ 10 ∷ []) id g
    (λ r. ap reply_says ((renewed id g r one).stale id refl (sym (its_generation id g r)))) e

pub unreferenced_takes : UnreferencedTakes
unreferenced_takes g e i k l c z = unreferenced_takeable _ _ g ((sound_test g).0 e) i k l c z (omega arith) (omega arith)
