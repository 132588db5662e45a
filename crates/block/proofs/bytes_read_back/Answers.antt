use Rattle.block.specs.Laws.{bytes_read_back}
use Rattle.block.proofs.bytes_read_back.Goals as goal

pub returns : goal.returns
returns g c = bytes_read_back g.met.B.Block.laws
