use Rattle.std.proofs.Common.{◌≡◌, ◌-◌, map, take}
use Rattle.aes.specs.Schedule.{expansion}
use Rattle.aes.specs.Words.{unpacked}
use Rattle.aes.proofs.schedule.expand.Given as goal

abbrev pub invariant-loop-i : goal.invariant-loop-i
invariant-loop-i l = map unpacked (take l.i l.w) ≡ expansion l.nk (l.i - l.nk) (map unpacked (take l.nk l.initial.w))
