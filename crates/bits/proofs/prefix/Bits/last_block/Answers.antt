use Rattle.std.proofs.Common.{arith}
use Rattle.bits.proofs.Memory.{ends_short, ends_whole}
use Rattle.bits.proofs.prefix.Bits.last_block.Goals as goal

pub returns-then-rest-size : goal.returns-then-rest-size
returns-then-rest-size g c =
    let at = c.last_start-start in
    ends_short g.met.B.Block.laws c.args.self.memory.now c.args.self.len (omega arith) at.result at.ensures.is at.ensures.within at.ensures.near
    c.padded_block.result (omega arith) c.padded_block.ensures

pub returns-else-rest-size : goal.returns-else-rest-size
returns-else-rest-size g c =
    let at = c.last_start-start in
    ends_whole g.met.B.Block.laws c.args.self.memory.now c.args.self.len (omega arith) at.result at.ensures.is at.ensures.within at.ensures.near
    c.size-size.result c.read.result c.size-size.ensures (omega arith) c.read.ensures
