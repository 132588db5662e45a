use Rattle.std.proofs.Common.{[], refl, arith}
use Rattle.aes.specs.Field.{xtime, powers, inverse}
use Rattle.aes.specs.SBox.{inv_s_box, inv_affine}
use Rattle.aes.specs.Ways.{back}
use Rattle.aes.specs.Words.{brought}
use Rattle.aes.specs.Rules.{by_rule}
use Rattle.aes.proofs.way.BackWay.brought.Goals as goal

pub returns : goal.returns
unfolding brought inv_s_box inv_affine inverse powers xtime
returns c = by_rule _ (brought back) 256 [] refl c.args.x (omega arith)
