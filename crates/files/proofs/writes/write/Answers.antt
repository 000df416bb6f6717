use mathlib.Core.Path.{◌∙◌}
use Rattle.entries.proofs.Verdicts.{judged}
use Rattle.writing.proofs.Answers.{write_is}
use Rattle.files.proofs.writes.write.Goals as goal

pub save-requires : goal.save-requires
save-requires g c = judged _ _ _ c.test-verdict.ensures

pub returns : goal.returns
returns g c =
    c.save.ensures ∙ write_is _ _ _ _ c.test-verdict.ensures
