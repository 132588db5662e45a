use Rattle.std.proofs.Common.{◌≡◌, [], rules}
use Rattle.overlay.specs.Calls.{add}
use Rattle.overlay.specs.Views.{world, seen}
use Rattle.overlay.proofs.Laws.{add_law}
use Rattle.overlay.proofs.open.Open.add.Goals as goal

pub returns : goal.returns
returns g c =
    let v = world g.E.Engine.means c.args.self.now c.args.memory.now [] in
    let a = seen c.of.result (world g.E.Engine.means c.add_blocks.new.self c.add_blocks.new.memory []) in
    let e : a ≡ add g.E.Block.Block.arith v c.args.edit.now c.args.count = search rules in
    record { after = e; law = add_law g.met.E.Block.Block.laws v _ _ a e }
