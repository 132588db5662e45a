use Rattle.std.proofs.Common.{sym, rules}
use Rattle.std.proofs.iter.Next.{firm}
use Rattle.book.proofs.Walks.{look_on}
use Rattle.book.proofs.links.LinksIterator.next.Goals as goal

pub invariant_of-self : goal.invariant_of-self
invariant_of-self c =
    let before = c.args.self.now in
    let look = look_on before.book.bytes.now before.slot c.in_ok-next.next before.ends (sym c.in_ok-next.ensures) in
    record { inside = look.inside; ends = look.sound }

pub returns-clause-goes : goal.returns-clause-goes
returns-clause-goes c =
    let before = c.args.self.now in
    let look = look_on before.book.bytes.now before.slot c.in_ok-next.next before.ends (sym c.in_ok-next.ensures) in
    firm (tt, tt, look.fewer) (λ h. search rules)
