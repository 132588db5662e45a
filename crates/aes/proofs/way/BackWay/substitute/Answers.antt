use Rattle.std.proofs.Common.{refl, arith}
use Rattle.aes.specs.Field.{xtime, powers, inverse}
use Rattle.aes.specs.SBox.{inv_s_box, inv_affine}
use Rattle.aes.specs.Rules.{by_rule}
use Rattle.aes.proofs.way.BackWay.substitute.Goals as goal

pub returns : goal.returns
unfolding inv_s_box inv_affine inverse powers xtime
returns c = by_rule _ inv_s_box 256 0 refl c.args.x (omega arith)
