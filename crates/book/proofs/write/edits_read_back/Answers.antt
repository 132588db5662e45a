use Rattle.book.proofs.Laws.{reads_back}
use Rattle.book.proofs.write.edits_read_back.Goals as goal

pub returns : goal.returns
returns c = reads_back
