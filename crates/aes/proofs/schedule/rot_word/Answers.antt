use Rattle.std.proofs.Common.{arith}
use Rattle.aes.proofs.Expansion.{rot_word_lem}
use Rattle.aes.proofs.schedule.rot_word.Goals as goal

pub returns : goal.returns
returns c = rot_word_lem c.args.t _ (omega arith) c.rotate_left.ensures
