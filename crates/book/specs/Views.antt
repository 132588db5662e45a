-- Values of the code as plain values. Assumes nothing.
use Rattle.std.specs.Prelude.{◌≡◌, ℕ, List, [], ◌∷◌, Some, None, Ok, Err, Option, Result}
use Rattle.engine.specs.Refusals.{Refusal}
use Rattle.book.specs.declared.fault.BookFault.{BookFault}
use Rattle.book.specs.declared.«record».Record.{Record}
use Rattle.book.specs.declared.slot.Slot.{Slot}
use Rattle.book.specs.declared.links.Links.{Links}
use Rattle.book.specs.declared.records.Records.{Records}
use Rattle.book.specs.Refusals.{book_refusal}
use Rattle.book.specs.Slots.{kind, position, bits, data_of}
use Rattle.book.specs.Reading.{Entry, entry_of, onwards, behind}
use Rattle.book.specs.Edits.{plain}
use Rattle.book.specs.Tests.{IsSlot, follower}

-- a record with its data as bytes
abbrev pub entry : Record → Entry
entry r = record { slot = r.slot; edit = plain r.edit }

-- the record that a slot's bytes say
abbrev pub slot_entry : Slot → Result Entry Refusal
slot_entry s =
    let b = s.bytes.now in entry_of s.number (kind b 0) (position b 0) (bits b 0) (data_of b 0 (bits b 0))

-- a record that a slot holds, or why it is refused
abbrev pub looked : Result Record BookFault → Result Entry Refusal
looked (Ok r) = Ok (entry r)
looked (Err fault) = Err (book_refusal fault)

-- the slots of a chain, if it ends
abbrev pub slots_in : Result (List ℕ) Refusal → List ℕ
slots_in (Ok chain) = chain
slots_in (Err refusal) = []

-- all the links of a book, from slot 0 on
abbrev pub Starts : List ℕ → Links → Type 0
Starts book links = (links.book.bytes.now ≡ book) × (links.slot ≡ 0)

-- a chain that was followed to its end, or why it is refused
abbrev pub Begun : List ℕ → Result Links BookFault → Type 0
Begun book (Ok links) = Starts book links
Begun book (Err fault) = onwards book 0 ≡ Err (book_refusal fault)

-- one step along a chain: none where it ends, and else the slot that the link leads to
abbrev pub Led : Links → Option Slot → Links → Type 0
Led before None after =
    (follower before.book.bytes.now before.slot ≡ None) × (after.book.bytes.now ≡ before.book.bytes.now) × (after.slot ≡ before.slot)
Led before (Some slot) after =
    (follower before.book.bytes.now before.slot ≡ Some after.slot) × (after.book.bytes.now ≡ before.book.bytes.now)
    × IsSlot before.book.bytes.now after.slot slot

-- the records that a reading gives, if any
abbrev pub listed : Result (List Entry) Refusal → List Entry
listed (Ok entries) = entries
listed (Err refusal) = []

-- the records that are still to come
abbrev pub remaining : Records → List Entry
remaining r = listed (behind r.links.book.bytes.now r.links.slot)

-- one step of a walk: none where no record is to come, and else the first of them
abbrev pub Gave : List Entry → Option Record → List Entry → Type 0
Gave before None after = (before ≡ []) × (after ≡ [])
Gave before (Some r) after = before ≡ entry r ∷ after

-- what came of reading a book
abbrev pub seen : Result Records BookFault → Result (List Entry) Refusal
seen (Ok records) = Ok (remaining records)
seen (Err fault) = Err (book_refusal fault)
