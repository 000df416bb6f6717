use Rattle.rules.specs.Files.{file_of}
use Rattle.writing.proofs.Records.{file_put}
use Rattle.writing.proofs.put_file.Goals as goal

pub returns : goal.returns
unfolding file_of
returns c =
    file_put _ _ _ _ c.put_head.ensures c.put_rows.ensures c.put_rows-2.ensures c.put_words.ensures
