use Rattle.std.proofs.Common.{sym, ap, ◌∙◌, arith}
use Rattle.block.specs.Blocks.{make}
use Rattle.block.proofs.Numbers.{value_bits}
use Rattle.block.proofs.width.BlockOfBlock.read.Goals as goal

pub returns : goal.returns
returns g c =
    let size = g.row.SIZE in
    c.new.ensures ∙ ap (make size) (c.number.ensures ∙ sym (value_bits size c.args.bytes.now c.requires (λ i. omega (arith, c.type_inv.bytes i))))
