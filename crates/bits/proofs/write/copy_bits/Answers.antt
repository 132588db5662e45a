use Rattle.std.proofs.Common.{◌≡◌, ◌+◌, ◌-◌, ◌*◌, ◌/◌, ◌%◌, take, sym, ap, ◌∙◌, arith}
use lib.Seq.{paste}
use Rattle.std.proofs.lemmas.List.{take_rest, length-take-le}
use Rattle.std.proofs.lemmas.Slice.{put_mid-paste}
use borrow.Rule.Slice.PartMut.{put_mid}
use Rattle.block.specs.Bits.{bits_of}
use Rattle.bits.proofs.Writing.{copied}
use Rattle.bits.proofs.write.copy_bits.Goals as goal

pub returns : goal.returns
returns c =
    let memory = c.args.memory.now in
    let edit = c.args.edit.now in
    let start = c.args.start in
    let k = c.args.count / 8 in
    let n : 8 * k + c.args.count % 8 ≡ c.args.count = omega arith in
    let mid = put_mid start (start + k - start) memory c.copy_from_slice.new.self in
    let is : mid ≡ paste memory start (take k edit) k =
    put_mid-paste start (start + k - start) memory c.copy_from_slice.new.self (take k edit) k c.copy_from_slice.ensures.after (omega arith) (sym (length-take-le k edit (omega arith))) in
    copied memory edit mid _ c.splice_bits.new.memory start k (c.args.count % 8) (omega arith) (omega arith) is (take_rest edit k) c.splice_bits.ensures
    ∙ ap (paste (bits_of memory) (8 * start) (bits_of edit)) n
