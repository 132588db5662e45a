use Rattle.pmac.proofs.Sums.{drops}
use Rattle.pmac.proofs.Edits.{adds_written, puts_written}
use Rattle.pmac.proofs.edits_stand.Goals as goal

pub returns : goal.returns
returns g c = let w = g.met.B.Block.laws in record { adds = adds_written w; cuts = drops w; puts = puts_written w }
