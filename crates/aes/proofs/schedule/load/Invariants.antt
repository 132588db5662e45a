use Rattle.std.proofs.Common.{◌≡◌, map, take}
use Rattle.aes.specs.State.{listed, word_at}
use Rattle.aes.specs.Words.{unpacked}
use Rattle.aes.proofs.schedule.load.Given as goal

abbrev pub invariant-loop-i : goal.invariant-loop-i
invariant-loop-i l = map unpacked (take l.i l.w) ≡ listed (word_at l.key) l.i 0
