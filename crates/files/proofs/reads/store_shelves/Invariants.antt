use mathlib.Core.Path.{◌≡◌}
use Rattle.rules.specs.Files.{shelves_stored}
use Rattle.files.proofs.reads.store_shelves.Given as goal

abbrev pub invariant-loop-i : goal.invariant-loop-i
invariant-loop-i l = l.shelves ≡ shelves_stored l.i l.file l.initial.shelves
