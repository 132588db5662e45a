use Rattle.std.proofs.Common.{◌≡◌, [], rules}
use Rattle.overlay.specs.Calls.{cut}
use Rattle.overlay.specs.Views.{world, seen}
use Rattle.overlay.proofs.Laws.{cut_law}
use Rattle.overlay.proofs.open.Open.cut.Goals as goal

pub returns : goal.returns
returns g c =
    let v = world g.E.Engine.means c.args.self.now c.args.memory.now [] in
    let a = seen c.of.result (world g.E.Engine.means c.cut_blocks.new.self c.args.memory.now []) in
    let e : a ≡ cut g.E.Block.Block.arith v c.args.count = search rules in
    record { after = e; law = cut_law g.met.E.Block.Block.laws v _ a e }
