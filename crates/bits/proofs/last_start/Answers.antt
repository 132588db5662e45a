use Rattle.std.proofs.Common.{◌≡◌, ◌-◌, ◌*◌, ap₂, arith}
use Rattle.bits.specs.Blocks.{blocks}
use Rattle.bits.proofs.Counts.{blocks_some, blocks_before, blocks_left}
use Rattle.bits.proofs.last_start.Goals as goal

pub overflow_sub-result : goal.overflow_sub-result
overflow_sub-result g c = omega (arith, blocks_some g.met.B.Block.laws c.args.bits)

pub overflow_mul-result : goal.overflow_mul-result
overflow_mul-result g c =
    let e : (c.block_count.result - 1) * c.size.result ≡ (blocks g.B.Block.arith c.args.bits - 1) * g.B.Block.arith.size = ap₂ (λ m s. (m - 1) * s) c.block_count.ensures c.size.ensures in
    omega (arith, blocks_before g.met.B.Block.laws c.args.bits)

pub returns : goal.returns
returns g c =
    let w = g.met.B.Block.laws in
    let e : (c.block_count.result - 1) * c.size.result ≡ (blocks g.B.Block.arith c.args.bits - 1) * g.B.Block.arith.size = ap₂ (λ m s. (m - 1) * s) c.block_count.ensures c.size.ensures in
    record { is = e; within = omega (arith, blocks_before w c.args.bits); near = omega (arith, blocks_left w c.args.bits) }
