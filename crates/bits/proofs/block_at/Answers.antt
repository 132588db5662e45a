use Rattle.std.proofs.Common.{◌∙◌}
use Rattle.bits.proofs.Memory.{read_held}
use Rattle.bits.proofs.block_at.Goals as goal

pub returns : goal.returns
returns g c = c.read.ensures ∙ read_held g.B.Block.arith c.args.memory.now c.args.i c.size-size.result c.size-size.ensures
