use Rattle.std.proofs.Common.{◌-◌, ap, ◌∙◌, ap₂, arith}
use lib.Seq.{paste}
use Rattle.block.specs.Bits.{bits}
use Rattle.bits.proofs.Writing.{word_is, word_lt, word_bits}
use Rattle.bits.proofs.write.spliced.Goals as goal

pub returns : goal.returns
returns c =
    let t = 8 - c.args.from - c.args.count in
    let old = c.from-word.result in
    let piece = c.from.result in
    ap (bits 8) (word_is old piece c.args.from c.args.count t (omega arith) (omega arith) (omega arith))
    ∙ word_bits old piece c.args.from c.args.count t (omega arith) (omega arith) (omega arith)
    ∙ ap₂ (λ x y. paste (bits 8 x) c.args.from (bits 8 y) c.args.count) c.from-word.ensures c.from.ensures

pub overflow_cast-result-3 : goal.overflow_cast-result-3
overflow_cast-result-3 c =
    let t = 8 - c.args.from - c.args.count in
    let e = word_is c.from-word.result c.from.result c.args.from c.args.count t (omega arith) (omega arith) (omega arith) in
    let h = word_lt c.from-word.result c.from.result c.args.from c.args.count t (omega arith) (omega arith) (omega arith) in
    omega arith
