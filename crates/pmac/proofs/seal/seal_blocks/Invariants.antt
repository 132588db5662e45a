use Rattle.std.proofs.Common.{◌≡◌, ◌-◌}
use Rattle.engine.specs.Meaning.{spent}
use Rattle.pmac.specs.Pmac.{over, offset}
use Rattle.pmac.specs.Stored.{stored}
use Rattle.pmac.proofs.seal.seal_blocks.Given as goal

abbrev pub invariant-loop-i : goal.invariant-loop-i
invariant-loop-i g l =
    (l.at ≡ offset g.E.Block.Block.arith l.l (l.i - 1))
    × (l.sum ≡ over g.E.Block.Block.arith (stored g.E.Block.Block.arith (g.E.Engine.means l.initial.engine).enc l.l l.memory) l.start (l.i - l.start))
    × (g.E.Engine.means l.engine ≡ spent (l.i - l.start) (g.E.Engine.means l.initial.engine))
