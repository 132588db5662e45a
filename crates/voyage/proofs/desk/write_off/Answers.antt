use Rattle.std.proofs.Common.{arith}
use Rattle.overlay.specs.Views.{booked}
use Rattle.voyage.proofs.Emptied.{emptied}
use Rattle.voyage.proofs.desk.write_off.Goals as goal

pub returns : goal.returns
returns c =
    let same = c.shows-lost.ensures in
    let fits = c.shows-lost.type_inv in
    emptied c.new-spare.result.accounts c.args.slip.now.count (booked c.book.result c.book.new.self.accounts c.book.new.slip.count)
    c.new-spare.ensures (omega arith) c.book.ensures.after
