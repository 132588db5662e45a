use Rattle.std.proofs.Common.{◌≡◌}
use Rattle.overlay.specs.Views.{state}
use Rattle.bench.specs.Calls.{Keeps}
use Rattle.bench.proofs.calls.put_round.Given as goal

abbrev pub invariant-loop-i : goal.invariant-loop-i
invariant-loop-i g l =
    (Keeps g.E.Block.Block.arith (state g.E.Engine.means l.opened) l.memory)
    × ((g.E.Engine.means l.opened.engine).enc ≡ (g.E.Engine.means l.initial.opened.engine).enc)
