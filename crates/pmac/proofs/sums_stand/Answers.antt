use Rattle.pmac.proofs.Gray.{offset_step}
use Rattle.pmac.proofs.Sums.{sums}
use Rattle.pmac.proofs.sums_stand.Goals as goal

pub returns : goal.returns
returns g c = record { steps = offset_step g.met.B.Block.laws; sums = sums g.met.B.Block.laws }
