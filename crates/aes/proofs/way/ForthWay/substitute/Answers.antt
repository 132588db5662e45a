use Rattle.std.proofs.Common.{refl, arith}
use Rattle.aes.specs.Field.{xtime, powers, inverse}
use Rattle.aes.specs.SBox.{s_box, affine}
use Rattle.aes.specs.Rules.{by_rule}
use Rattle.aes.proofs.way.ForthWay.substitute.Goals as goal

pub returns : goal.returns
unfolding s_box affine inverse powers xtime
returns c = by_rule _ s_box 256 0 refl c.args.x (omega arith)
