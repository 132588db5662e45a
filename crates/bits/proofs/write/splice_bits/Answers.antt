use Rattle.std.proofs.Common.{◌+◌, ◌-◌, ◌%◌, ◌≤◌, arith}
use Rattle.std.proofs.lemmas.List.Edits.{paste_none}
use Rattle.block.specs.Bits.{bits_of}
use Rattle.bits.proofs.Writing.{turn}
use Rattle.bits.proofs.write.splice_bits.Goals as goal

pub loop-done-init : goal.loop-done-init
loop-done-init c = (omega arith, paste_none (bits_of c.args.memory.now) c.args.position (bits_of c.args.edit.now))

pub loop-done-preserved : goal.loop-done-preserved
loop-done-preserved c =
    let at = c.args.position + c.loop-done.done in
    let some = c.min-some.result in
    let left : some ≤ c.args.count - c.loop-done.done = omega arith in
    let room : at % 8 + some ≤ 8 = omega arith in (
      omega arith,
      turn c.args.memory.now c.loop-done.memory c.args.edit.now c.args.position c.loop-done.done some c.spliced.result c.window-piece.result
          (omega arith) (omega arith) room (omega arith) c.loop-done.invariant.1 c.spliced.ensures (c.window-piece.ensures some (omega arith) (omega arith)),
    )
