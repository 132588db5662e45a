use Rattle.std.proofs.Common.{take, ap, ◌∙◌, arith}
use Rattle.block.specs.Bits.{bits_of}
use Rattle.bits.proofs.Padding.{padded_read}
use Rattle.bits.proofs.prefix.Bits.padded_block.Goals as goal

pub returns : goal.returns
returns g c =
    let A = g.B.Block.arith in
    let bytes = c.padded_bytes.result in
    c.read.ensures ∙ ap (λ z. A.pack (bits_of (take z bytes))) c.size.ensures
    ∙ ap A.pack (padded_read g.met.B.Block.laws bytes c.args.self.memory.now c.args.self.len (omega arith) (omega arith) (omega arith) c.padded_bytes.ensures)
