use Rattle.std.proofs.Common.{◌≡◌, ◌^◌, ◌<◌}
use Rattle.pmac.specs.Pmac.{spread}
use Rattle.pmac.proofs.offset.offset.Given as goal

abbrev pub invariant-loop-g : goal.invariant-loop-g
invariant-loop-g g l =
    (l.g < 2 ^ 64) × (g.B.Block.arith.plus l.sum (spread g.B.Block.arith 64 l.g l.x) ≡ spread g.B.Block.arith 64 l.initial.g l.initial.x)

abbrev pub decreases-loop-g : goal.decreases-loop-g
decreases-loop-g g l = l.g
