use Rattle.std.proofs.Common.{[], ◌∙◌}
use Rattle.overlay.specs.Views.{world, seen}
use Rattle.bench.proofs.Kept.{added}
use Rattle.bench.proofs.calls.add_all.Goals as goal

pub returns-in_err-carried : goal.returns-in_err-carried
returns-in_err-carried g c =
    let w = world g.E.Engine.means c.loop-part.opened c.loop-part.memory [] in
    let a = seen c.add.result (world g.E.Engine.means c.add.new.self c.add.new.memory []) in
    let k = added g.E.Block.Block.arith w _ _ a c.add.ensures.after c.add.ensures.law c.loop-part.invariant.0 in
    record { kept = k.0; same = k.1 ∙ c.loop-part.invariant.1 }
