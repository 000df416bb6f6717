-- What specs/Counts.antt claims of the count of buckets, each from the theorem that it names.
use mathlib.Core.Logic.{inl, inr}
use lib.IntN.{pos}
use Rattle.rules.specs.Calls.{natural}
use Rattle.promises.proofs.Counts.{count_now, count_cap, rows_divided}
use Rattle.claims.specs.Counts.{CountBetween, CountSame, CountCapped, RowDivided, FillerDivided}

pub count_between : CountBetween
count_between n = (count_now n).between

pub count_same : CountSame
count_same n build (inl l) = (count_now n).narrow l build
count_same n build (inr l) = (count_now n).wide l build

pub count_capped : CountCapped
count_capped column_width w height buckets l = let c = count_cap column_width w height buckets in (c.four l, c.left l)

pub row_divided : RowDivided
unfolding natural
row_divided w h g b = (rows_divided (pos w) (pos h) g b.0 b.1).row

pub filler_divided : FillerDivided
unfolding natural
filler_divided w h g b = (rows_divided (pos w) (pos h) g b.0 b.1).filler
