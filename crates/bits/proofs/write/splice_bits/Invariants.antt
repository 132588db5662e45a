use Rattle.std.proofs.Common.{◌≡◌, ◌-◌, ◌≤◌}
use lib.Seq.{paste}
use Rattle.block.specs.Bits.{bits_of}
use Rattle.bits.proofs.write.splice_bits.Given as goal

abbrev pub invariant-loop-done : goal.invariant-loop-done
invariant-loop-done l = (l.done ≤ l.count) × (bits_of l.memory ≡ paste (bits_of l.initial.memory) l.position (bits_of l.edit) l.done)

abbrev pub decreases-loop-done : goal.decreases-loop-done
decreases-loop-done l = l.count - l.done
