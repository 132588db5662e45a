use Rattle.std.proofs.Common.{◌+◌, ◌-◌, ◌*◌, sym, ap, ◌∙◌, arith}
use lib.Seq.{paste}
use Rattle.std.proofs.lemmas.Slice.{put_mid-paste}
use Rattle.block.specs.Arith.{to_bytes}
use Rattle.block.specs.BitsLemmas.{length_bytes_of}
use Rattle.bits.specs.Memory.{replaced}
use Rattle.bits.proofs.write.write_block.Goals as goal

pub returns : goal.returns
unfolding replaced
returns g c =
    let A = g.B.Block.arith in
    let s = c.size-size.result in
    let start = (c.args.i - 1) * s in
    let bytes = to_bytes A c.args.block in
    let long = length_bytes_of A.size (A.unpack c.args.block) in
    put_mid-paste start (start + s - start) c.args.memory.now c.write.new.bytes bytes A.size c.write.ensures (omega arith) (sym long)
    ∙ ap (λ z. paste c.args.memory.now ((c.args.i - 1) * z) bytes A.size) c.size-size.ensures
