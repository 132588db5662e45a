-- What came of a writer's calls, as plain values. Assumes nothing.
use Rattle.std.specs.Prelude.{ℕ, ◌+◌, ◌*◌, List, Ok, Err, Result}
use Rattle.std.proofs.Math.Seq.{paste}
use Rattle.book.specs.declared.fault.BookFault.{BookFault}
use Rattle.book.specs.declared.writer.Writer.{Writer}
use Rattle.book.specs.Refusals.{book_refusal}
use Rattle.book.specs.Writing.{half_bytes, After, sent}

abbrev pub after : Result (Unit {0}) BookFault → Writer → List ℕ → After
after (Ok u) w book = record { outcome = Ok tt; last = w.last; book = book }
after (Err fault) w book = sent book w.last (book_refusal fault)

abbrev pub begun : Result Writer BookFault → List ℕ → After
begun (Ok w) book = record { outcome = Ok tt; last = w.last; book = book }
begun (Err fault) book = sent book 0 (book_refusal fault)

-- bytes in the slot behind the last one taken, and the link to it from there
abbrev pub linked_in : List ℕ → ℕ → List ℕ → List ℕ
linked_in book last bytes = paste (paste book ((last + 1) * 32) bytes 32) (last * 32) (half_bytes (last + 1)) 2
