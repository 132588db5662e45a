use Rattle.std.proofs.Common.{arith}
use Rattle.overlay.proofs.Spans.{none_touched, some_touched}
use Rattle.overlay.proofs.judge.touched_blocks.Goals as goal

pub returns-then-count-eq0 : goal.returns-then-count-eq0
returns-then-count-eq0 g c =
    let s = none_touched g.met.B.Block.laws c.args.bits c.args.position c.args.count c.size-width.result c.requires.within c.requires.small c.size-width.ensures (omega arith) in
    record { from = s.from_is; count = s.count_is; some = s.some; rising = s.rising; few = s.few; inside = s.inside }

pub returns : goal.returns
returns g c =
    let s = some_touched g.met.B.Block.laws c.args.bits c.args.position c.args.count c.size-width.result c.requires.within c.requires.small c.size-width.ensures
    c.div_ceil-behind.result c.block_count.result c.min-to.result (omega arith) c.div_ceil-behind.ensures c.block_count.ensures c.min-to.ensures in
    record { from = s.from_is; count = s.count_is; some = s.some; rising = s.rising; few = s.few; inside = s.inside }
