use Rattle.std.proofs.Common.{◌≡◌, [], rules}
use Rattle.overlay.specs.Calls.{put}
use Rattle.overlay.specs.Views.{world, seen}
use Rattle.overlay.proofs.Laws.{put_law}
use Rattle.overlay.proofs.open.Open.put.Goals as goal

pub returns : goal.returns
returns g c =
    let v = world g.E.Engine.means c.args.self.now c.args.memory.now [] in
    let a = seen c.of.result (world g.E.Engine.means c.put_blocks.new.self c.put_blocks.new.memory []) in
    let e : a ≡ put g.E.Block.Block.arith v c.args.position c.args.edit.now c.args.count = search rules in
    record { after = e; law = put_law g.met.E.Block.Block.laws v _ _ _ a e }
