use Rattle.std.proofs.Common.{◌≡◌, ◌+◌, ◌*◌, ◌/◌, ◌%◌, min, max, ap, ◌∙◌, arith}
use Rattle.bits.specs.Blocks.{blocks, ceil}
use Rattle.bits.proofs.Counts.{ceil_is, wide}
use Rattle.bits.proofs.block_count.Goals as goal

pub returns : goal.returns
unfolding blocks
returns g c =
    let A = g.B.Block.arith in
    let up : c.div_ceil.result ≡ ceil A c.args.bits =
    c.div_ceil.ensures ∙ ap (λ s. c.args.bits / (8 * s) + min 1 (c.args.bits % (8 * s))) c.size.ensures ∙ ceil_is c.args.bits (8 * A.size) (wide g.met.B.Block.laws) in
    let turned : c.max.result ≡ max 1 c.div_ceil.result = omega arith in
    turned ∙ ap (max 1) up
