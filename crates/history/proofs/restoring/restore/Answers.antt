use Rattle.pmac.proofs.Recovery.{one_block}
use Rattle.history.proofs.Restored.{restores}
use Rattle.history.proofs.restoring.restore.Goals as goal

pub returns : goal.returns
returns g c =
    let w = g.met.E.Block.Block.laws in
    let e = c.write_anew.ensures in
    record {
      after = e;
      law = restores w (g.E.Engine.means c.args.engine) (g.met.E.Engine.undoes c.args.engine) c.args.memory.now c.args.bits c.args.tag.now c.args.number _ e;
      one_block = one_block w;
    }
