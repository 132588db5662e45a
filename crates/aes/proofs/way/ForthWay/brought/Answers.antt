use Rattle.std.proofs.Common.{[], refl, arith}
use Rattle.aes.specs.Field.{xtime, powers, inverse}
use Rattle.aes.specs.SBox.{s_box, affine}
use Rattle.aes.specs.Ways.{forth}
use Rattle.aes.specs.Words.{brought}
use Rattle.aes.specs.Rules.{by_rule}
use Rattle.aes.proofs.way.ForthWay.brought.Goals as goal

pub returns : goal.returns
unfolding brought s_box affine inverse powers xtime
returns c = by_rule _ (brought forth) 256 [] refl c.args.x (omega arith)
