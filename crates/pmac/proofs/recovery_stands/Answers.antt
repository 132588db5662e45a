use Rattle.pmac.proofs.Places.{places}
use Rattle.pmac.proofs.Recovery.{recoveries, one_block}
use Rattle.pmac.proofs.recovery_stands.Goals as goal

pub returns : goal.returns
returns g c = let w = g.met.B.Block.laws in record { recoveries = recoveries w; places = places w; one_block = one_block w }
