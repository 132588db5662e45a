use Rattle.std.proofs.Common.{◌≡◌}
use Rattle.book.specs.Reading.{behind}
use Rattle.book.proofs.Chains.{verdict}
use Rattle.book.proofs.reading.read.Given as goal

-- the records that are still to be looked at say whether any is refused
abbrev pub invariant-loop-slot : goal.invariant-loop-slot
invariant-loop-slot l =
    record {
      same_book : l.slot-iterator.book.bytes.now ≡ l.book;
      same : verdict (behind l.book l.slot-iterator.slot) ≡ verdict (behind l.book 0);
    }
