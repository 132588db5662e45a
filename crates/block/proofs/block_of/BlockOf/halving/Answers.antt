use Rattle.std.proofs.Common.{rules}
use Rattle.block.proofs.Shifts.{halving_made}
use Rattle.block.proofs.block_of.BlockOf.halving.Goals as goal

pub returns : goal.returns
returns g c = search (rules, halving_made)
