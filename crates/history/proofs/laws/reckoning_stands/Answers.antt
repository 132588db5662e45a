use Rattle.history.proofs.Reckoned.{totally, deterministic, balanced, fair}
use Rattle.history.proofs.laws.reckoning_stands.Goals as goal

pub returns : goal.returns
returns g c = let w = g.met.B.Block.laws in record { total = totally w; deterministic = deterministic w; balanced = balanced w; fair = fair w }
