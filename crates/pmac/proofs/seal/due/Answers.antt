use Rattle.std.proofs.Common.{arith}
use Rattle.bits.proofs.Counts.{blocks_few}
use Rattle.pmac.proofs.seal.due.Goals as goal

pub overflow_add-result : goal.overflow_add-result
overflow_add-result g c = omega (arith, blocks_few g.met.B.Block.laws c.args.bits c.requires)

pub overflow_cast-result : goal.overflow_cast-result
overflow_cast-result g c = omega (arith, blocks_few g.met.B.Block.laws c.args.bits c.requires)
