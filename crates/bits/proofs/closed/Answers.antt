use Rattle.std.proofs.Common.{◌-◌, arith}
use Rattle.bits.proofs.Padding.{closing}
use Rattle.bits.proofs.closed.Goals as goal

pub returns : goal.returns
returns c = closing c.args.byte c.args.k (7 - c.args.k) (omega arith)
