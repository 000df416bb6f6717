use Rattle.std.proofs.Common.{rules}
use mathlib.Core.Path.{refl}
use Rattle.rules.specs.Tables.{atlas}
use Rattle.rules.specs.Merging.{first_run, run_at, merge_run}
use Rattle.merge.proofs.First.{first_found}
use Rattle.merge.proofs.merge_run.Goals as goal

pub returns : goal.returns
unfolding merge_run first_run
returns c =
    let g = atlas c.args.head c.args.shelves.now c.args.buckets.now in
    first_found _ _ (first_run c.args.w c.args.h g) (run_at c.args.w c.args.h g) refl (λ k. refl)
    (λ x r q k. search rules) (λ x r k. search rules) _ _ refl _ c.find_map.ensures.runs
