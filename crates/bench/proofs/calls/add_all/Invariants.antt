use Rattle.std.proofs.Common.{◌≡◌}
use Rattle.overlay.specs.Views.{state}
use Rattle.bench.specs.Calls.{Keeps}
use Rattle.bench.proofs.calls.add_all.Given as goal

abbrev pub invariant-loop-part : goal.invariant-loop-part
invariant-loop-part g l =
    (Keeps g.E.Block.Block.arith (state g.E.Engine.means l.opened) l.memory)
    × ((g.E.Engine.means l.opened.engine).enc ≡ (g.E.Engine.means l.initial.opened.engine).enc)
