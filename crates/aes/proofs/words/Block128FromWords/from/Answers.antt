use Rattle.std.proofs.Common.{ap, ◌∙◌, arith}
use Rattle.block.specs.Blocks.{make128}
use Rattle.aes.specs.Pack.{join_number}
use Rattle.aes.proofs.words.Block128FromWords.from.Goals as goal

pub returns : goal.returns
returns c =
    c.new.ensures
    ∙ ap make128 (join_number c.args.x c.from.result c.from-2.result c.from-3.result c.from-4.result
    c.from.ensures c.from-2.ensures c.from-3.ensures c.from-4.ensures (omega arith) (omega arith) (omega arith) (omega arith))
