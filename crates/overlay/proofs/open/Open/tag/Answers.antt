use Rattle.std.proofs.Common.{◌≡◌, rules}
use Rattle.overlay.specs.Calls.{tag}
use Rattle.overlay.specs.Views.{world, seen}
use Rattle.overlay.proofs.Laws.{tag_law}
use Rattle.overlay.proofs.open.Open.tag.Goals as goal

pub returns : goal.returns
returns g c =
    let v = world g.E.Engine.means c.args.self.now c.args.memory.now c.args.buffer.now in
    let a = seen c.of.result (world g.E.Engine.means c.write_tag.new.self c.args.memory.now c.write_tag.new.buffer) in
    let e : a ≡ tag g.E.Block.Block.arith v = search rules in
    record { after = e; law = tag_law g.met.E.Block.Block.laws v a e }
