use Rattle.bits.specs.Memory.{content}
use Rattle.pmac.proofs.Endings.{ends_whole, ends_short}
use Rattle.pmac.proofs.seal.ending.Goals as goal

pub returns-in-Whole : goal.returns-in-Whole
returns-in-Whole g c =
    let e = ends_whole g.met.B.Block.laws c.args.l (content c.args.bits) c.in-Whole.block c.in-Whole.ensures in cc

pub returns-in-Padded : goal.returns-in-Padded
returns-in-Padded g c = ends_short g.met.B.Block.laws c.args.l (content c.args.bits) c.in-Padded.block c.in-Padded.ensures
