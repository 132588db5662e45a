use Rattle.std.proofs.Common.{◌+◌, ◌-◌, length, ◌∙◌, arith}
use Rattle.book.proofs.Laid.{laid}
use Rattle.book.proofs.fields.Fields.to_bytes.Goals as goal

pub returns-clause-bytes : goal.returns-clause-bytes
returns-clause-bytes c =
    let f = c.args.self in
    let p = c.copy_from_slice.ensures.after ∙ c.to_be_bytes.ensures in
    let q = c.copy_from_slice-2.ensures.after ∙ c.to_be_bytes-2.ensures in
    laid c.into.result f.position f.bits (12 + length f.«data».now - 12) c.copy_from_slice.new.self c.copy_from_slice-2.new.self
    c.copy_from_slice-3.new.self f.«data».now p q c.copy_from_slice-3.ensures.after (omega arith)
    ∙ (cc c.into.ensures)
