use Rattle.std.proofs.Common.{◌≡◌, ◌+◌, false, length, Ok, rules, ap, ◌∙◌, arith}
use Rattle.book.specs.Edits.{plain, fields_bytes}
use Rattle.book.specs.Writing.{overlong, After, slot_bytes, written, putting}
use Rattle.book.specs.Writers.{linked_in}
use Rattle.book.proofs.Laid.{length_data}
use Rattle.book.proofs.Laws.{put_law}
use Rattle.book.proofs.writer.Writer.put.Goals as goal

pub to_bytes-requires : goal.to_bytes-requires
to_bytes-requires c =
    let e = plain c.args.edit in
    let short : overlong e ≡ false = search rules in
    let few = length_data e short in
    let same = ap length c.in_ok-fields.ensures.1.data' in
    omega arith

pub returns : goal.returns
returns c =
    let last = c.args.self.now.last in
    let e = plain c.args.edit in
    let f = c.in_ok-fields.fields in
    let tells = c.in_ok-fields.ensures.1 in
    let a : After = record { outcome = Ok tt; last = last + 1; book = c.fill_slot.new.book } in
    let bytes : fields_bytes f ≡ slot_bytes e = cc (tells.kind, tells.position, tells.bits, tells.data') in
    let new : c.fill_slot.new.book ≡ written c.args.book.now last e = c.fill_slot.ensures ∙ ap (linked_in c.args.book.now last) (c.to_bytes.ensures.bytes ∙ bytes) in
    let is : a ≡ putting c.args.book.now last e = search rules in
    record { after = is; law = put_law c.args.book.now last e a (omega (arith, tells.bits, c.to_bytes.ensures.bits)) (omega (arith, tells.position, c.to_bytes.ensures.position)) is }
