use Rattle.std.proofs.Common.{arith, rules}
use Rattle.bits.proofs.Counts.{blocks_some, blocks_mono, blocks_few, blocks_within}
use Rattle.overlay.proofs.judge.blocks_between.Goals as goal

pub returns : goal.returns
returns g c =
    let w = g.met.B.Block.laws in
    let low = c.args.low in
    let high = c.args.high in
    let some = blocks_some w low in
    let rising = blocks_mono w low high (omega arith) in
    let few = blocks_few w high (omega arith) in
    let inside = blocks_within w high in
    search rules
