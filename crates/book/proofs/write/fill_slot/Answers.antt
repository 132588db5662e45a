use Rattle.std.proofs.Common.{◌+◌, ◌-◌, ◌*◌, refl, ap, ◌∙◌, arith}
use lib.Seq.{paste}
use Rattle.std.proofs.lemmas.Slice.{put_mid-paste}
use Rattle.book.specs.Writing.{half_bytes}
use Rattle.book.proofs.write.fill_slot.Goals as goal

pub returns : goal.returns
returns c =
    let book = c.args.book.now in
    let last = c.args.last in
    let bytes = c.args.bytes.now in
    let put = put_mid-paste ((last + 1) * 32) ((last + 1) * 32 + 32 - (last + 1) * 32) book c.copy_from_slice.new.self bytes 32
    c.copy_from_slice.ensures.after (omega arith) (omega arith) in
    put_mid-paste (last * 32) (last * 32 + 2 - last * 32) _ c.copy_from_slice-2.new.self (half_bytes (last + 1)) 2
    (c.copy_from_slice-2.ensures.after ∙ c.to_be_bytes.ensures) (omega arith) refl
    ∙ ap (λ b. paste b (last * 32) (half_bytes (last + 1)) 2) put
