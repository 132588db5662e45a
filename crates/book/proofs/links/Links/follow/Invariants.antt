use Rattle.std.proofs.Common.{◌≡◌, ◌-◌, ◌<◌, ◌≤◌}
use Rattle.book.specs.Slots.{slots}
use Rattle.book.specs.Reading.{follow, onwards}
use Rattle.book.proofs.Chains.{verdict}
use Rattle.book.proofs.links.Links.follow.Given as goal

-- what is behind the slot says whether the chain is refused, as many links as are left may be followed
abbrev pub invariant-loop-next : goal.invariant-loop-next
invariant-loop-next l =
    let book = l.book.bytes.now in
    record {
      same : verdict (follow book (l.passed.end - l.passed.start) l.slot) ≡ verdict (onwards book 0);
      inside : l.slot < slots book;
      left : l.passed.start ≤ l.passed.end;
    }

abbrev pub decreases-loop-next : goal.decreases-loop-next
decreases-loop-next l = l.passed.end - l.passed.start
