use Rattle.std.proofs.Common.{vec_len}
use Rattle.voyage.proofs.desk.Desk.settle.Given as goal

abbrev pub decreases-loop-slip : goal.decreases-loop-slip
decreases-loop-slip l = vec_len l.slips
