use Rattle.std.proofs.Common.{Option, sym, subst, rules}
use Rattle.std.proofs.iter.Next.{firm}
use Rattle.book.specs.declared.«record».Record.{Record}
use Rattle.book.specs.Reading.{behind}
use Rattle.book.specs.Views.{listed, Gave}
use Rattle.book.proofs.Walks.{still_sound, walked, shorter}
use Rattle.book.proofs.records.RecordsIterator.next.Goals as goal

pub invariant_of-self : goal.invariant_of-self
invariant_of-self c =
    let before = c.args.self.now in
    record { sound = still_sound before.links c.next.result c.next.new.self c.next.ensures.steps before.sound }

-- a step of the links, and the record of the slot that it led to
step : (c : goal.After-ok) → Gave (listed (behind c.args.self.now.links.book.bytes.now c.args.self.now.links.slot)) c.ok.result (listed (behind c.next.new.self.book.bytes.now c.next.new.self.slot))
step c =
    let before = c.args.self.now in
    let after = c.next.new.self in
    let P : Option Record → Type 0 = λ r. Gave (listed (behind before.links.book.bytes.now before.links.slot)) r (listed (behind after.book.bytes.now after.slot)) in
    subst P (sym c.ok.ensures.value) (walked before.links after c.in_ok-next.field-0 c.in_ok-next.ensures.steps before.sound c.record.result c.record.ensures)

pub returns-clause-steps : goal.returns-clause-steps
returns-clause-steps c = step c

pub returns-clause-goes : goal.returns-clause-goes
returns-clause-goes c = firm (shorter _ _ c.ok.result (step c)) (λ h. search rules)
