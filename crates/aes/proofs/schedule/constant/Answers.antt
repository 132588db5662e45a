use Rattle.std.proofs.Common.{◌-◌, refl, arith}
use Rattle.aes.specs.Field.{xtime}
use Rattle.aes.specs.State.{column}
use Rattle.aes.specs.Schedule.{power}
use Rattle.aes.specs.Words.{packed}
use Rattle.aes.specs.Rules.{by_rule}
use Rattle.aes.proofs.schedule.constant.Goals as goal

pub returns : goal.returns
unfolding power xtime
returns c = by_rule _ (λ j. packed (column (power j) 0 0 0)) 10 0 refl (c.args.i - 1) (omega arith)
