use Rattle.std.proofs.Common.{[], ◌∙◌}
use Rattle.overlay.specs.Views.{world, seen}
use Rattle.bench.proofs.Kept.{replaced, tagged}
use Rattle.bench.proofs.calls.put_round.Goals as goal

pub returns-in_err-carried : goal.returns-in_err-carried
returns-in_err-carried g c =
    let w = world g.E.Engine.means c.loop-i.opened c.loop-i.memory [] in
    let a = seen c.put.result (world g.E.Engine.means c.put.new.self c.put.new.memory []) in
    let k = replaced g.E.Block.Block.arith w _ _ _ a c.put.ensures.after c.put.ensures.law c.loop-i.invariant.0 in
    record { kept = k.0; same = k.1 ∙ c.loop-i.invariant.1 }

pub returns-in_err-carried-2 : goal.returns-in_err-carried-2
returns-in_err-carried-2 g c =
    let w = world g.E.Engine.means c.loop-i.opened c.loop-i.memory [] in
    let a = seen c.put.result (world g.E.Engine.means c.put.new.self c.put.new.memory []) in
    let k = replaced g.E.Block.Block.arith w _ _ _ a c.put.ensures.after c.put.ensures.law c.loop-i.invariant.0 in
    let v = world g.E.Engine.means c.put.new.self c.put.new.memory c.loop-i.tag in
    let z = seen c.tag.result (world g.E.Engine.means c.tag.new.self c.put.new.memory c.tag.new.buffer) in
    let j = tagged g.E.Block.Block.arith v z c.tag.ensures.after c.tag.ensures.law k.0 in
    record { kept = j.0; same = j.1 ∙ k.1 ∙ c.loop-i.invariant.1 }

pub loop-i-preserved : goal.loop-i-preserved
loop-i-preserved g c =
    let w = world g.E.Engine.means c.loop-i.opened c.loop-i.memory [] in
    let a = seen c.put.result (world g.E.Engine.means c.put.new.self c.put.new.memory []) in
    let k = replaced g.E.Block.Block.arith w _ _ _ a c.put.ensures.after c.put.ensures.law c.loop-i.invariant.0 in
    let v = world g.E.Engine.means c.put.new.self c.put.new.memory c.loop-i.tag in
    let z = seen c.tag.result (world g.E.Engine.means c.tag.new.self c.put.new.memory c.tag.new.buffer) in
    let j = tagged g.E.Block.Block.arith v z c.tag.ensures.after c.tag.ensures.law k.0 in
    (j.0, j.1 ∙ k.1 ∙ c.loop-i.invariant.1)
