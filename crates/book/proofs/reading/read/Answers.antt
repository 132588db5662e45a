use Rattle.std.proofs.Common.{◌≡◌, true, Ok, Err, sym, ap, ◌∙◌, rules}
use Rattle.book.specs.Refusals.{book_refusal}
use Rattle.book.specs.Slots.{is_book}
use Rattle.book.specs.Reading.{behind, reading}
use Rattle.book.specs.Views.{slot_entry, looked, Starts}
use Rattle.book.proofs.Chains.{verdict, verdict_err}
use Rattle.book.proofs.Walks.{passed, refused}
use Rattle.book.proofs.Whole.{reading_is, bounds}
use Rattle.book.proofs.reading.read.Goals as goal

pub loop-slot-preserved : goal.loop-slot-preserved
loop-slot-preserved c =
    let before = c.loop-slot.slot-iterator in
    let after = c.next.new.self in
    let led = c.in-Some.ensures.steps in
    let was = c.loop-slot.invariant in
    let right : looked (Ok c.in_ok-record.field-0) ≡ slot_entry c.in-Some.slot = search rules in
    record {
      same_book = led.1 ∙ was.same_book;
      same =
          ap (λ b. verdict (behind b after.slot)) (sym was.same_book)
          ∙ passed before after c.in-Some.slot led c.in_ok-record.field-0 right
          ∙ ap (λ b. verdict (behind b before.slot)) was.same_book
          ∙ was.same;
    }

pub returns-in_err-record-clause-seen : goal.returns-in_err-record-clause-seen
returns-in_err-record-clause-seen c =
    let book = c.args.book.now in
    let before = c.loop-slot.slot-iterator in
    let was = c.loop-slot.invariant in
    let fault = c.in_err-record.field-0.0 in
    let sized : is_book book ≡ true = ap is_book (sym c.in_ok-new.ensures) ∙ c.in_ok-new.field-0.sized in
    let is : looked (Err fault) ≡ slot_entry c.in-Some.slot = search rules in
    let wrong = refused before c.next.new.self c.in-Some.slot c.in-Some.ensures.steps fault is in
    let all : Err (book_refusal fault) ≡ reading book =
    sym (reading_is book sized
    ∙ verdict_err (behind book 0) (book_refusal fault) (sym was.same ∙ ap (λ b. verdict (behind b before.slot)) (sym was.same_book) ∙ wrong)) in
    search rules

-- how many records there are, and where
pub returns-clause-inside : goal.returns-clause-inside
returns-clause-inside c =
    let was = c.loop-slot.invariant in
    let start : Starts c.args.book.now c.in_ok-links.links = search rules in
    (bounds c.args.book.now c.in_ok-links.links c.loop-slot.slot-iterator start was.same_book was.same c.in-None.ensures.steps.0).0

pub returns-clause-few : goal.returns-clause-few
returns-clause-few c =
    let was = c.loop-slot.invariant in
    let start : Starts c.args.book.now c.in_ok-links.links = search rules in
    (bounds c.args.book.now c.in_ok-links.links c.loop-slot.slot-iterator start was.same_book was.same c.in-None.ensures.steps.0).1
