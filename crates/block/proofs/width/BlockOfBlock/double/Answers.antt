use Rattle.std.proofs.Common.{rules}
use Rattle.block.proofs.Shifts.{doubled_made}
use Rattle.block.proofs.width.BlockOfBlock.double.Goals as goal

pub returns : goal.returns
returns g c = doubled_made g.row.SIZE _ _ c.args.self c.reduced.result c.reduced.ensures (search rules) (search rules) (search rules)
