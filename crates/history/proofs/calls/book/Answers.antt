use Rattle.std.proofs.Common.{[], set, refl, ap, ◌∙◌, arith, rules}
use Rattle.overlay.specs.Views.{booked}
use Rattle.history.specs.Desk.{Entered}
use Rattle.history.specs.Reckoning.{says}
use Rattle.history.specs.Views.{shown}
use Rattle.history.proofs.Slips.{entered_at, not_there}
use Rattle.history.proofs.calls.book.Goals as goal

pub returns-then-slip-len : goal.returns-then-slip-len
returns-then-slip-len c =
    let v = c.args.slips.now in
    let known = v.ok.0 in
    record { after = not_there c.args.ledger.now.accounts v.items c.args.slip c.args.account (omega arith); count = refl; room = refl }

pub returns : goal.returns
returns c =
    let v = c.args.slips.now in
    let known = v.ok.0 in
    let s = c.book-booked.new.slip in
    let b = booked c.book-booked.result c.book-booked.new.self.accounts s.count in
    let made : Entered = record { answer = says b.outcome []; accounts = b.accounts; slips = shown (set v.items c.args.slip s) } in
    let e =
    ap (λ x. record { answer = x; accounts = b.accounts; slips = made.slips }) c.said_of.ensures
    ∙ entered_at c.args.ledger.now.accounts v.items c.args.slip c.args.account c.index_mut.result.now b s (omega arith) (search rules) c.book-booked.ensures.after refl in
    record { after = e; count = refl; room = refl }
