use Rattle.std.proofs.Common.{ap, ◌∙◌}
use Rattle.aes.specs.Schedule.{sub_word}
use Rattle.aes.proofs.Expansion.{taken_first}
use Rattle.aes.proofs.schedule.taken_in.Goals as goal

pub returns-then-i-nk-eq0 : goal.returns-then-i-nk-eq0
returns-then-i-nk-eq0 c =
    taken_first c.args.nk c.args.i c.args.t _ _ c.if-i-nk-eq0.true (c.sub_word.ensures ∙ ap sub_word c.rot_word.ensures) c.constant.ensures
