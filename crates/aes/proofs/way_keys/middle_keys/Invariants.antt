use Rattle.std.proofs.Common.{◌≡◌, map, length, take}
use Rattle.aes.specs.State.{listed}
use Rattle.aes.specs.Schedule.{round_key}
use Rattle.aes.specs.Words.{unpacked, state_of}
use Rattle.aes.proofs.way_keys.middle_keys.Given as goal

abbrev pub invariant-loop-i : goal.invariant-loop-i
invariant-loop-i l = (length l.key-items ≡ 9) × (map state_of (take l.i l.key-items) ≡ listed (round_key (map unpacked l.w)) l.i 1)
