use mathlib.Core.Path.{◌≡◌}
use Rattle.rules.specs.Builds.{present}
use Rattle.rules.specs.Files.{buckets_stored}
use Rattle.files.proofs.reads.store_buckets.Given as goal

abbrev pub invariant-loop-i : goal.invariant-loop-i
invariant-loop-i l = l.buckets ≡ buckets_stored present l.i l.file l.initial.buckets
