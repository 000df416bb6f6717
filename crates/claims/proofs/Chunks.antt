-- What specs/Chunks.antt claims of a replay in chunks, each from the theorem that it names.
use Prim.Native.Nat.{ℕ, ◌+◌, ◌≤◌}
use mathlib.Core.Bool.{Bool, true, false}
use mathlib.Core.Path.{◌≡◌, refl, ap, ◌∙◌}
use mathlib.Core.Logic.{inr}
use mathlib.Core.List.{[]}
use native.Mathlib.Omega.{arith}
use borrow.Author.Tests.{lt-ltb, le-ltb}
use Rattle.rules.specs.Limits.{offset_most}
use Rattle.rules.specs.Listed.{Holding}
use Rattle.rules.specs.Trace.{digits, decimal, length_of, bench, lying, record_turn, misframed}
use Rattle.rules.specs.Text.{bytes}
use Rattle.rules.specs.Chunks.{stream, Fed, fed, unfinished, feed_from, feed, finish, started, Pushed, Ending}
use Rattle.laws.proofs.Tests.Tells.{true_false}
use Rattle.laws.proofs.Trace.Came.{few_unfinished}
use Rattle.promises.proofs.Chunks.{feeds_left, started_left, held_over, cut_waits, cut_told, over_silent}
use Rattle.promises.proofs.IntoBuffer.{feed_into_law, finish_into_law}
use Rattle.claims.specs.Traces.{report}
use Rattle.claims.specs.Chunks.{HeldLess, CutAtEnd, OverStill, UpToOffset, PastOffset, BufferShort, EndShort}

pub held_less : HeldLess
held_less chunks t = (held_over _ (feeds_left chunks (started t) (started_left t))).few

pub cut_at_end : CutAtEnd
unfolding decimal digits
cut_at_end chunk t some h =
    let e : feed chunk (started t) ≡ fed [] (stream false 0 chunk t) = cut_waits chunk (started t) refl (few_unfinished 0 chunk h) in (
      ap (λ (f : Fed). f.line) e,
      ap (λ (f : Fed). finish f.after) e ∙ cut_told (stream false 0 chunk t) refl some,
    )

pub over_still : OverStill
over_still chunk s e = ((over_silent s e).still chunk, (over_silent s e).silent)

-- ---- the last offset

up_to : (offset : ℕ) (made : Bool) (l : Holding) → offset ≤ 4294967291 → made ≡ false
    → feed report (stream false offset [] (bench made l)) ≡ fed (bytes "refused 13\n") (stream false (offset + 4) [] (bench made l))
unfolding feed feed_from unfinished misframed length_of record_turn decimal digits
up_to offset true l h e = true_false e
up_to offset false l h e =
    let z : offset + 2 + 2 ≡ offset + 4 = omega arith in
    simp (le-ltb offset_most (offset + 2 + 2) (omega arith)) (ap (λ (o : ℕ). fed (bytes "refused 13\n") (stream false o [] (bench false l))) z)

pub up_to_offset : UpToOffset
up_to_offset offset t h e = up_to offset t.made (lying t) h e

pub past_offset : PastOffset
unfolding feed feed_from unfinished misframed length_of decimal digits
past_offset offset t h = simp (lt-ltb offset_most (offset + 2 + 2) (omega arith))

-- ---- a lent buffer

pub buffer_short : BufferShort
buffer_short chunk out p shelves buckets list h =
    let f = feed_into_law chunk out p shelves buckets list in
    (f.one.when (inr h), ap (λ (x : Pushed). x.out) (f.nothing (inr h)), ap (λ (x : Pushed). x.pause) (f.nothing (inr h)))

pub end_short : EndShort
end_short out p h = let f = finish_into_law out p in (f.one.when (inr h), ap (λ (x : Ending). x.out) (f.nothing (inr h)))
