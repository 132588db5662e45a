use Rattle.std.proofs.Common.{◌/◌, [], length, get_or, refl, ap, ◌∙◌, arith}
use Rattle.book.proofs.Slots.{chunk_at}
use Rattle.book.proofs.book.Book.slot.Goals as goal

pub returns : goal.returns
returns c =
    let book = c.args.self.bytes.now in
    record {
      number = refl;
      bytes = ap (λ s. get_or s c.args.number []) c.as_chunks.ensures.front ∙ chunk_at (length book / 32) c.args.number book (omega arith);
    }
